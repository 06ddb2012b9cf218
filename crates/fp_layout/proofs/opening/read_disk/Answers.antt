use Rattle.std.proofs.Common.{Err, ◌+◌, ◌∙◌, ℕ, List, length, ap, subst}
use Rattle.std.proofs.lemmas.Result.{err_from_is_err_and}
use Rattle.fp_disk.specs.Outcomes.{IsOutcome, PendingState}
use Rattle.fp_journal.specs.Reading.{ReadsChain, Refuses}
use Rattle.fp_layout.specs.Opening.{FoundDisk}
use Rattle.fp_layout.proofs.Found.{chain_end, disk_found, text_range}
use Rattle.fp_layout.proofs.Opens.{chain_err, opens_more, reads_ok, refuses_as}
use Rattle.fp_layout.proofs.Refusals.{front_refuses, chain_refuses}
use Rattle.fp_layout.proofs.opening.read_disk.Goals as goal

pub returns-in_err-slot-clause-fault : goal.returns-in_err-slot-clause-fault
returns-in_err-slot-clause-fault g c = λ h.
    let p = err_from_is_err_and c.from_residual.result c.from_residual.ensures.1 in
    let S = g.R.SlotReader in let R = g.R.Reader in
    rw (p.1, p.2) (front_refuses S.begins S.rejects R.takes R.refuses (g.D.Disk.bytes c.args.disk.now)
    c.args.reader.now c.in_err-slot.field-0.0 (c.in_err-slot.ensures.fault h))

pub returns-in_err-gate-clause-fault : goal.returns-in_err-gate-clause-fault
returns-in_err-gate-clause-fault g c = λ h.
    let p = err_from_is_err_and c.from_residual-in_err-gate.result c.from_residual-in_err-gate.ensures.1 in
    let D = g.D.Disk in let S = g.R.SlotReader in let R = g.R.Reader in let b = D.bytes c.args.disk.now in
    let front = c.in_ok-slot.field-0 in let slot = front.slot in
    let middle = c.read_front.new.reader in let d1 = c.read_front.new.disk in let f = c.in_err-gate.field-0.0 in
    let there : Refuses R.takes R.refuses slot.most front.at slot.stop (D.bytes d1) middle f =
    c.in_err-gate.ensures.fault (c.read_front.ensures.kept.word.honest.0 h) in
    let refused : Refuses R.takes R.refuses slot.most front.at slot.stop b middle f =
    subst (λ (x : List ℕ). Refuses R.takes R.refuses slot.most front.at slot.stop x middle f)
    (c.read_front.ensures.kept.same h) there in
    rw (p.1, p.2) (chain_refuses S.begins S.rejects R.takes R.refuses b c.args.reader.now slot front.at middle f
    (c.in_ok-slot.ensures.found h).front refused)

pub returns-in_err-slot-clause-kept : goal.returns-in_err-slot-clause-kept
returns-in_err-slot-clause-kept g c = let p = err_from_is_err_and c.from_residual.result c.from_residual.ensures.1 in
    rw (p.1, p.2) (refuses_as c.in_err-slot.ensures.kept)

pub returns-in_err-gate-clause-kept : goal.returns-in_err-gate-clause-kept
returns-in_err-gate-clause-kept g c =
    let p = err_from_is_err_and c.from_residual-in_err-gate.result c.from_residual-in_err-gate.ensures.1 in let w = c.in_err-gate.ensures in
    rw (p.1, p.2) (opens_more (λ h o out. subst (λ (u : PendingState). IsOutcome u o)
    (c.read_front.ensures.unsynced h) out) _ c.in_ok-slot.ensures.kept
    (chain_err c.in_err-gate.field-0.0 c.read_chain.ensures.kept (λ e. w.cause (ap Err e)) (λ e. w.memory (ap Err e))))

pub returns-clause-found : goal.returns-clause-found
returns-clause-found g c = λ h.
    let D = g.D.Disk in let S = g.R.SlotReader in let R = g.R.Reader in let b = D.bytes c.args.disk.now in
    let p = c.in_ok-slot.field-0 in let slot = p.slot in
    let middle = c.read_front.new.reader in let after = c.read_chain.new.reader in let d1 = c.read_front.new.disk in
    let h1 = c.read_front.ensures.kept.word.honest.0 h in let new = c.read_chain.new.text in
    let gate = c.in_ok-gate.gate in
    let at = c.in_ok-slot.ensures.found h in let place = c.in_ok-slot.ensures.read.place in
    let chain : ReadsChain (D.honest d1) R.takes slot.most p.at slot.stop b middle after p.text new gate =
    subst (λ (x : List ℕ). ReadsChain (D.honest d1) R.takes slot.most p.at slot.stop x middle after p.text new
    gate) (c.read_front.ensures.kept.same h) c.in_ok-gate.ensures.found in
    subst (λ (t : List ℕ). FoundDisk S.begins R.takes b c.args.reader.now after slot t)
    (text_range (D.honest d1) S.begins R.takes b c.args.reader.now middle after slot p.at p.text new gate h1 at.front at.text place chain)
    (disk_found (D.honest d1) S.begins R.takes b c.args.reader.now middle after slot p.at p.text new gate h1 at.front at.text place chain)

pub returns-clause-gate : goal.returns-clause-gate
returns-clause-gate g c = λ h.
    let D = g.D.Disk in let S = g.R.SlotReader in let R = g.R.Reader in let b = D.bytes c.args.disk.now in
    let p = c.in_ok-slot.field-0 in let slot = p.slot in
    let middle = c.read_front.new.reader in let after = c.read_chain.new.reader in let d1 = c.read_front.new.disk in
    let h1 = c.read_front.ensures.kept.word.honest.0 h in let new = c.read_chain.new.text in
    let gate = c.in_ok-gate.gate in
    let at = c.in_ok-slot.ensures.found h in let place = c.in_ok-slot.ensures.read.place in
    let chain : ReadsChain (D.honest d1) R.takes slot.most p.at slot.stop b middle after p.text new gate =
    subst (λ (x : List ℕ). ReadsChain (D.honest d1) R.takes slot.most p.at slot.stop x middle after p.text new
    gate) (c.read_front.ensures.kept.same h) c.in_ok-gate.ensures.found in
    chain_end (D.honest d1) S.begins R.takes b c.args.reader.now middle after slot p.at p.text new gate h1 at.front at.text place chain
    ∙ ap (λ (t : List ℕ). slot.start + length t)
    (text_range (D.honest d1) S.begins R.takes b c.args.reader.now middle after slot p.at p.text new gate h1
    at.front at.text place chain)

pub returns-clause-kept : goal.returns-clause-kept
returns-clause-kept g c = opens_more
    (λ h o out. subst (λ (u : PendingState). IsOutcome u o) (c.read_front.ensures.unsynced h) out) _
    c.in_ok-slot.ensures.kept (reads_ok c.read_chain.ensures.kept c.in_ok-gate.ensures.no_failure)

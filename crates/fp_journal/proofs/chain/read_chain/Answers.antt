use Rattle.std.proofs.Common.{rules, ◌≡◌, ◌∙◌, ◌+◌, ◌<◌, ◌≤◌, ◌^◌, ◌∷◌, ◌++◌, ℕ, List, length, min, sym, ap, subst, arith, Vec, Global}
use Rattle.std.specs.Prelude.{slice_index}
use Rattle.std.proofs.lemmas.Result.{err_from_is_err_and}
use Rattle.fp_gate.specs.declared.gate.TheConstants.{OPEN}
use Rattle.fp_journal.specs.Chain.{with_length}
use Rattle.fp_journal.specs.Holds.{Holds}
use Rattle.fp_journal.specs.Reading.{BreaksBefore, TellsDamage}
use Rattle.fp_journal.specs.Windows.{StandsIn}
use Rattle.fp_journal.proofs.Links.{IsReadTo, to_none, to_more, to_all, to_broken, to_refused, at_some, at_none}
use Rattle.fp_journal.proofs.OnlyReading.{only_none, only_then}
use Rattle.fp_journal.proofs.chain.read_chain.Goals as goal

pub loop-window-init : goal.loop-window-init
loop-window-init g c =
    let D = g.D.Disk in let bytes = D.bytes c.args.disk.now in let s = c.args.slot in let there = c.requires.there in (
      to_none (D.honest c.args.disk.now) g.R.Reader.takes s.most c.args.at s.stop bytes c.args.reader.now
          c.args.text.now (λ h. let long = c.requires.long h in omega (arith, there, long)),
      only_none D g.met.D.Disk.only_now c.args.disk.now,
      search rules,
      search rules,
      λ h. let long = c.requires.long h in let at : c.new-window.result.at ≡ c.args.at = search rules in
          let none : length c.new-window.result.bytes.items ≡ 0 = search rules in
          record { long = omega (arith, there, long, at, none); same = λ k lt. absurd (omega (arith, lt, none)) },
    )

pub returns-in_err-body-clause-kept : goal.returns-in_err-body-clause-kept
returns-in_err-body-clause-kept g c =
    only_then g.D.Disk c.args.disk.now c.loop-window.disk c.next_body.new.disk c.loop-window.invariant.1
    c.next_body.ensures.kept

pub returns-in-Err-BadBody-clause-kept : goal.returns-in-Err-BadBody-clause-kept
returns-in-Err-BadBody-clause-kept g c =
    only_then g.D.Disk c.args.disk.now c.loop-window.disk c.next_body.new.disk c.loop-window.invariant.1
    c.next_body.ensures.kept

pub returns-in-Err-Memory-clause-kept : goal.returns-in-Err-Memory-clause-kept
returns-in-Err-Memory-clause-kept g c =
    only_then g.D.Disk c.args.disk.now c.loop-window.disk c.next_body.new.disk c.loop-window.invariant.1
    c.next_body.ensures.kept

pub returns-clause-kept : goal.returns-clause-kept
returns-clause-kept g c = only_then g.D.Disk c.args.disk.now c.loop-window.disk c.next_body.new.disk
    c.loop-window.invariant.1 c.next_body.ensures.kept

pub returns-in_err-body-clause-fault : goal.returns-in_err-body-clause-fault
returns-in_err-body-clause-fault g c = λ h.
    let p = err_from_is_err_and c.from_residual.result c.from_residual.ensures.1 in
    let D = g.D.Disk in let R = g.R.Reader in let bytes = D.bytes c.args.disk.now in let s = c.args.slot in
    let i = c.loop-window.invariant in let small : s.most < 2 ^ 32 = c.next_body.ensures.small in
    let fault = c.in_err-body.field-0.0 in let limit = c.min-limit.result in
    let limit_is : limit ≡ min s.stop (length bytes) = c.min-limit.ensures ∙ ap (λ (n : ℕ). min s.stop n) (c.requires.long h) in
    let there : TellsDamage (BreaksBefore s.most limit (D.bytes c.loop-window.disk) c.loop-window.place) fault =
    c.in_err-body.ensures.fault (i.1.word.honest.0 h) in
    let broken : TellsDamage (BreaksBefore s.most limit bytes c.loop-window.place) fault =
    subst (λ (b : List ℕ). TellsDamage (BreaksBefore s.most limit b c.loop-window.place) fault) (i.1.same h).0
    there in
    rw (p.1, p.2) (to_broken (D.honest c.args.disk.now) R.takes s.most c.args.at s.stop bytes small c.args.reader.now
    c.args.text.now R.refuses c.loop-window.place limit c.loop-window.reader c.loop-window.text fault h i.0
    limit_is broken)

pub returns-in-Err-BadBody-clause-fault : goal.returns-in-Err-BadBody-clause-fault
returns-in-Err-BadBody-clause-fault g c = λ h.
    let D = g.D.Disk in let R = g.R.Reader in let bytes = D.bytes c.args.disk.now in let s = c.args.slot in
    let i = c.loop-window.invariant in let small : s.most < 2 ^ 32 = c.next_body.ensures.small in
    let b = c.deref.result.now in let place = c.loop-window.place in let items : b ≡ c.in-Some.body.items = c.deref.ensures.value in
    let found : (length c.in-Some.body.items ≤ s.most) × (place + 5 + length c.in-Some.body.items ≤ c.min-limit.result) = search rules in
    let len : length b ≡ length c.in-Some.body.items = ap length items in let short = found.0 in
    let within = found.1 in let limit = c.min-limit.ensures in
    let there : Holds (D.bytes c.loop-window.disk) place (OPEN ∷ with_length c.in-Some.body.items) =
    (at_some (slice_index (D.bytes c.loop-window.disk) c.loop-window.place ≡ OPEN → ⊥)
    (λ (v : Vec ℕ Global). Holds (D.bytes c.loop-window.disk) c.loop-window.place (OPEN ∷ with_length v.items) ×
    StandsIn c.next_body.new.window (D.bytes c.loop-window.disk)) c.in_ok-body.field-0 c.in-Some.body
    c.in-Some.is (c.in_ok-body.ensures.stands (i.1.word.honest.0 h))).0 in
    let holds : Holds bytes place (OPEN ∷ with_length b) =
    subst (λ (t : List ℕ). Holds bytes place (OPEN ∷ with_length t)) (sym items)
    (subst (λ (x : List ℕ). Holds x place (OPEN ∷ with_length c.in-Some.body.items)) (i.1.same h).0 there) in
    to_refused (D.honest c.args.disk.now) R.takes s.most c.args.at s.stop bytes small c.args.reader.now
    c.args.text.now R.refuses place c.in-Err-BadBody.offset c.loop-window.reader c.loop-window.text b h i.0
    (omega (arith, len, short)) (omega (arith, len, within, limit)) holds (search rules) _
    (ap (λ (n : ℕ). place + 5 + n) c.in-Err-BadBody.offset-is)

pub loop-window-preserved : goal.loop-window-preserved
loop-window-preserved g c =
    let D = g.D.Disk in let R = g.R.Reader in let bytes = D.bytes c.args.disk.now in let s = c.args.slot in
    let i = c.loop-window.invariant in let small : s.most < 2 ^ 32 = c.next_body.ensures.small in
    let b = c.in-Some.body.items in let place = c.loop-window.place in
    let found : (length b ≤ s.most) × (place + 5 + length b ≤ c.min-limit.result) = search rules in
    let within = found.1 in let limit = c.min-limit.ensures in
    let takes : R.takes c.loop-window.reader b c.take.new.self =
    subst (λ (t : List ℕ). R.takes c.loop-window.reader t c.take.new.self) c.deref.ensures.value
    c.in-Ok.ensures.taken in
    let grown : c.push_body.new.self ≡ c.loop-window.text ++ OPEN ∷ with_length b =
    subst (λ (t : List ℕ). c.push_body.new.self ≡ c.loop-window.text ++ OPEN ∷ with_length t)
    c.deref-in-Ok.ensures.value c.push_body.ensures in
    let more : IsReadTo (D.honest c.args.disk.now) R.takes s.most c.args.at s.stop bytes c.args.reader.now
    c.take.new.self c.args.text.now c.push_body.new.self (place + 5 + length b) =
    to_more (D.honest c.args.disk.now) R.takes s.most c.args.at s.stop bytes small c.args.reader.now c.args.text.now
    place c.loop-window.reader c.take.new.self c.loop-window.text c.push_body.new.self b i.0 takes found.0
    (omega (arith, within, limit))
    (λ h. subst (λ (x : List ℕ). Holds x place (OPEN ∷ with_length b)) (i.1.same h).0
    (at_some (slice_index (D.bytes c.loop-window.disk) c.loop-window.place ≡ OPEN → ⊥)
    (λ (v : Vec ℕ Global). Holds (D.bytes c.loop-window.disk) c.loop-window.place (OPEN ∷ with_length v.items) ×
    StandsIn c.next_body.new.window (D.bytes c.loop-window.disk)) c.in_ok-body.field-0 c.in-Some.body
    c.in-Some.is (c.in_ok-body.ensures.stands (i.1.word.honest.0 h))).0) grown in
    let len : length b ≡ c.len.result = search rules in (
      subst (λ (n : ℕ). IsReadTo (D.honest c.args.disk.now) R.takes s.most c.args.at s.stop bytes c.args.reader.now
          c.take.new.self c.args.text.now c.push_body.new.self (place + 5 + n)) len more,
      only_then D c.args.disk.now c.loop-window.disk c.next_body.new.disk i.1 c.next_body.ensures.kept,
      c.in_ok-body.ensures.no_failure ∙ i.2,
      search rules,
      λ h. subst (λ (x : List ℕ). StandsIn c.next_body.new.window x) (i.1.same h).0
          (at_some (slice_index (D.bytes c.loop-window.disk) c.loop-window.place ≡ OPEN → ⊥)
          (λ (v : Vec ℕ Global). Holds (D.bytes c.loop-window.disk) c.loop-window.place (OPEN ∷ with_length v.items)
          × StandsIn c.next_body.new.window (D.bytes c.loop-window.disk)) c.in_ok-body.field-0 c.in-Some.body
          c.in-Some.is (c.in_ok-body.ensures.stands (i.1.word.honest.0 h))).1,
    )

pub returns-clause-found : goal.returns-clause-found
returns-clause-found g c =
    let D = g.D.Disk in let R = g.R.Reader in let bytes = D.bytes c.args.disk.now in let s = c.args.slot in
    let i = c.loop-window.invariant in let small : s.most < 2 ^ 32 = c.next_body.ensures.small in
    let place = c.loop-window.place in let less : place < c.min-limit.result = search rules in let limit = c.min-limit.ensures in
    to_all (D.honest c.args.disk.now) R.takes s.most c.args.at s.stop bytes small c.args.reader.now c.args.text.now
    place c.loop-window.reader c.loop-window.text i.0 (omega (arith, less, limit))
    (λ h. let long = c.requires.long h in omega (arith, less, limit, long))
    (λ h. subst (λ (x : List ℕ). slice_index x place ≡ OPEN → ⊥) (i.1.same h).0
    (at_none (slice_index (D.bytes c.loop-window.disk) c.loop-window.place ≡ OPEN → ⊥)
    (λ (v : Vec ℕ Global). Holds (D.bytes c.loop-window.disk) c.loop-window.place (OPEN ∷ with_length v.items) ×
    StandsIn c.next_body.new.window (D.bytes c.loop-window.disk)) c.in_ok-body.field-0 (search rules)
    (c.in_ok-body.ensures.stands (i.1.word.honest.0 h))))

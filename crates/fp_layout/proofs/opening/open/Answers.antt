use Rattle.std.proofs.Common.{rules, ◌≡◌, ◌+◌, ◌∙◌, ℕ, List, [], ◌∷◌, length, ap, sym, subst}
use Rattle.fp_disk.specs.Outcomes.{all_synced}
use Rattle.fp_journal.specs.Chain.{spell}
use Rattle.fp_journal.specs.Holds.{Holds}
use Rattle.fp_journal.specs.Reading.{ReadsChain, Refuses}
use Rattle.fp_journal.specs.declared.slot.Slot.{Slot}
use Rattle.fp_layout.specs.Faults.{fault_of_chain}
use Rattle.fp_layout.specs.Layout.{HasSlots}
use Rattle.fp_layout.specs.Opening.{FoundDisk, ReadsSlot}
use Rattle.fp_layout.proofs.Both.{beside, both_wide, front_of_chain, other_beaten}
use Rattle.fp_layout.proofs.Found.{disk_found}
use Rattle.fp_layout.proofs.Making.{idle_lives}
use Rattle.fp_layout.proofs.Opens.{chain_err, opens_more, reads_ok, refuses_as}
use Rattle.fp_layout.proofs.Refusals.{front_refuses, chain_refuses}
use Rattle.fp_layout.proofs.Settled.{settled_outcome}
use Rattle.fp_layout.proofs.opening.open.Goals as goal

pub returns-in-Err-clause-fault : goal.returns-in-Err-clause-fault
returns-in-Err-clause-fault g c = λ h.
    let S = g.R.SlotReader in let R = g.R.Reader in
    front_refuses S.begins S.rejects R.takes R.refuses (g.D.Disk.bytes c.args.disk) c.args.reader.now c.in-Err.fault
    (c.in-Err.ensures.fault h)

pub returns-in-Err-clause-kept : goal.returns-in-Err-clause-kept
returns-in-Err-clause-kept g c = refuses_as c.in-Err.ensures.kept

pub returns-in-Ok-resume : goal.returns-in-Ok-resume
returns-in-Ok-resume g c =
    let D = g.D.Disk in let m = g.met.D.Disk in let S = g.R.SlotReader in let R = g.R.Reader in
    let d0 = c.args.disk in let d1 = c.sync_front.new.disk in let b = D.bytes d0 in let p = c.in-Ok.front in
    let j = c.in-Ok-resume.journal in let before = c.args.reader.now in let middle = c.sync_front.new.reader in
    let after = c.resume.new.reader in let same = c.new.ensures.same in
    let x = c.sync_front.ensures.kept in let y = c.in-Ok.ensures in let z = c.in-Ok-resume.ensures in
    let end = p.slot.start + length j.front in
    rw (same.0, same.1, same.2, same.3, same.4) (record {
      begins = (z.begins.1, z.begins.2, same.5);
      found = λ h. let chain : ReadsChain (D.honest d1) R.takes p.slot.most p.at p.slot.stop b middle after p.text
          j.front end = subst (λ (t : List ℕ). ReadsChain (D.honest d1) R.takes p.slot.most p.at p.slot.stop t middle
          after p.text j.front end) (x.same h) z.found in
          subst (λ (s : Slot). FoundDisk S.begins R.takes b before after s j.front) (sym z.begins.0)
          (disk_found (D.honest d1) S.begins R.takes b before middle after p.slot p.at p.text j.front end
          (x.word.honest.0 h) (y.found h).front (y.found h).text y.read.place chain);
      slots = λ h. subst (λ (s : Slot). HasSlots b s p.other p.version p.generation) (sym z.begins.0) (y.found h).slots;
      other_gate = λ h. (y.found h).gate;
      read = subst (λ (s : Slot). ReadsSlot S.begins R.takes before after s p.other p.version p.generation j.front) (sym z.begins.0)
          (record {
            middle = middle;
            head = p.text;
            bodies = z.found.bodies;
            begun = y.read.read;
            reads =
                z.found.reads;
            short = z.found.short;
            text_is = z.found.text;
          });
      fault = λ h. tt;
      all_synced = λ h. (z.kept.same (x.word.honest.0 h)).1 ∙ y.all_synced h;
      kept = opens_more (λ h o out. settled_outcome (D.unsynced d0) (D.unsynced d1) b o (y.all_synced h)
          (m.present d0 h) out) _ y.kept (reads_ok z.kept z.no_failure);
    })

pub returns-in-Err-resume : goal.returns-in-Err-resume
returns-in-Err-resume g c =
    let D = g.D.Disk in let S = g.R.SlotReader in let R = g.R.Reader in let d0 = c.args.disk in
    let d1 = c.sync_front.new.disk in let b = D.bytes d0 in let slot = c.in-Ok.front.slot in
    let x = c.sync_front.ensures.kept in let y = c.in-Ok.ensures in let z = c.in-Err-resume.ensures in
    let at = c.in-Ok.front.at in let middle = c.sync_front.new.reader in let f = c.in-Err-resume.fault in
    let is : c.into.result ≡ fault_of_chain f = search rules in
    rw is (record {
      begins = tt;
      found = λ h. tt;
      slots = λ h. tt;
      other_gate = λ h. tt;
      read = tt;
      fault = λ h. chain_refuses S.begins S.rejects R.takes R.refuses b c.args.reader.now slot at middle f
          (y.found h).front (subst (λ (t : List ℕ). Refuses R.takes R.refuses slot.most at slot.stop t middle f)
          (x.same h) (z.fault (x.word.honest.0 h)));
      all_synced = λ h. tt;
      kept = opens_more (λ h o out. settled_outcome (D.unsynced d0) (D.unsynced d1) b o (y.all_synced h)
          (g.met.D.Disk.present d0 h) out) _ y.kept (chain_err f z.kept z.cause z.memory);
    })

pub new-requires-clause-beaten : goal.new-requires-clause-beaten
new-requires-clause-beaten g c = λ h.
    let D = g.D.Disk in let kept = c.in-Ok-resume.ensures.kept in let h1 = kept.word.honest.1 h in
    let h0 = c.sync_front.ensures.kept.word.honest.1 h1 in
    let b = D.bytes c.args.disk in let p = c.in-Ok.front in let found = c.in-Ok.ensures.found h0 in
    other_beaten b p.slot.start p.other.start p.generation found.slots.active.rules found.slots.generation_is
    (D.unsynced c.in-Ok-resume.journal.disk) ((kept.same h1).1 ∙ c.in-Ok.ensures.all_synced h0) p.is_open
    found.gate

pub new-requires-clause-apart : goal.new-requires-clause-apart
new-requires-clause-apart g c = let r = c.in-Ok.ensures.read.read in let s = c.in-Ok-resume.journal.slot in
    beside r.size s c.in-Ok.front.other r.side (c.in-Ok-resume.ensures.begins.0 ∙ r.slot_is) r.other_is

pub new-requires-clause-wide : goal.new-requires-clause-wide
new-requires-clause-wide g c = let r = c.in-Ok.ensures.read.read in let s = c.in-Ok-resume.journal.slot in
    both_wide r.size s c.in-Ok.front.other r.side (c.in-Ok-resume.ensures.begins.0 ∙ r.slot_is) r.other_is r.allowed

pub new-requires-clause-front : goal.new-requires-clause-front
new-requires-clause-front g c =
    let r = c.in-Ok.ensures.read.read in let chain = c.in-Ok-resume.ensures.found in let p = c.in-Ok.front in
    front_of_chain p.version p.generation r.base r.image p.text (spell chain.bodies) c.in-Ok-resume.journal.front r.text_is chain.text

pub new-requires-clause-live : goal.new-requires-clause-live
new-requires-clause-live g c = idle_lives c.in-Ok-resume.journal.phase c.in-Ok-resume.ensures.begins.2

pub resume-requires-clause-long : goal.resume-requires-clause-long
resume-requires-clause-long g c = λ h.
    let h0 = c.sync_front.ensures.kept.word.honest.1 h in
    (c.in-Ok.ensures.found h0).long ∙ ap (λ (b : List ℕ). length b) (sym (c.sync_front.ensures.kept.same h0))

pub resume-requires-clause-stands : goal.resume-requires-clause-stands
resume-requires-clause-stands g c = λ h.
    let h0 = c.sync_front.ensures.kept.word.honest.1 h in let p = c.in-Ok.front in
    subst (λ (b : List ℕ). Holds b p.slot.start p.text) (sym (c.sync_front.ensures.kept.same h0)) (c.in-Ok.ensures.found h0).text

pub resume-requires-clause-synced : goal.resume-requires-clause-synced
resume-requires-clause-synced g c = λ h.
    let h0 = c.sync_front.ensures.kept.word.honest.1 h in
    c.in-Ok.ensures.all_synced h0 ∙ ap (λ (b : List ℕ). all_synced b) (sym (c.sync_front.ensures.kept.same h0))

use Rattle.std.proofs.Common.{◌≡◌, ◌+◌, ◌-◌, ℕ, List, subst, arith}
use Rattle.std.specs.Prelude.{slice_index, slice_range}
use Rattle.std.proofs.lemmas.Result.{err_from_is_err_and}
use Rattle.fp_gate.specs.declared.gate.TheConstants.{OPEN}
use Rattle.fp_journal.specs.Holds.{Holds}
use Rattle.fp_journal.specs.Reading.{SpellsLink}
use Rattle.fp_journal.proofs.Holds.{holds_part}
use Rattle.fp_journal.proofs.Links.{part_from, part_reached, body_fits, link_shut, link_stands, link_tells, at_none, at_some}
use Rattle.fp_journal.proofs.OnlyReading.{only_none, only_then}
use Rattle.fp_journal.proofs.chain.next_body.Goals as goal

pub returns-in_err-reach-2-clause-kept : goal.returns-in_err-reach-2-clause-kept
returns-in_err-reach-2-clause-kept g c =
    only_then g.D.Disk c.args.disk.now c.reach.new.disk c.reach-2.new.disk c.reach.ensures.kept c.reach-2.ensures.kept

pub returns-in_err-body-clause-kept : goal.returns-in_err-body-clause-kept
returns-in_err-body-clause-kept g c =
    only_then g.D.Disk c.args.disk.now c.reach.new.disk c.reach-2.new.disk c.reach.ensures.kept c.reach-2.ensures.kept

pub returns-clause-kept : goal.returns-clause-kept
returns-clause-kept g c = only_then g.D.Disk c.args.disk.now c.reach.new.disk c.reach-2.new.disk c.reach.ensures.kept c.reach-2.ensures.kept

pub returns-clause-stands : goal.returns-clause-stands
returns-clause-stands g c = λ h.
    let D = g.D.Disk in let bytes = D.bytes c.args.disk.now in let at = c.args.at in
    let w = c.reach.new.self in let v = c.reach-2.new.self in
    let there : Holds bytes w.at w.bytes.items = c.in_ok-reach.ensures.stands h in
    let back : Holds (D.bytes c.reach.new.disk) v.at v.bytes.items =
    c.in_ok-reach-2.ensures.stands (c.reach.ensures.kept.word.honest.0 h) in
    let still : Holds bytes v.at v.bytes.items = subst (λ (b : List ℕ). Holds b v.at v.bytes.items) (c.reach.ensures.kept.same h).0 back in
    let place = c.in_ok-reach.ensures.place.0 in
    let front = part_from bytes w.at at w.bytes.items c.from.result.now there place.from place.to c.from.ensures in
    let spelled : SpellsLink c.from.result.now (c.args.limit - at) c.args.most c.in-Some.len =
    at_some (slice_index c.from.result.now 0 ≡ OPEN → ⊥)
    (λ (n : ℕ). SpellsLink c.from.result.now (c.args.limit - c.args.at) c.args.most n) c.in_ok-len.field-0
    c.in-Some.len c.in-Some.is c.in_ok-len.ensures.found in
    let low = c.in_ok-reach-2.ensures.place.0.from in let high = c.in_ok-reach-2.ensures.place.1.to in
    let copied : c.in_ok-body.body.items ≡ slice_range v.bytes.items (at + 5 - v.at) (at + 5 - v.at + c.in-Some.len)
    = c.in_ok-body.ensures in
    let part = holds_part bytes v.at (at + 5 - v.at) c.in-Some.len v.bytes.items c.in_ok-body.body.items still
    (omega (arith, low, high)) copied in
    let here : v.at + (at + 5 - v.at) ≡ at + 5 = omega (arith, low) in
    let body : Holds bytes (at + 5) c.in_ok-body.body.items = subst (λ (k : ℕ). Holds bytes k c.in_ok-body.body.items) here part.0 in (
      link_stands bytes at (c.args.limit - at) c.args.most c.in-Some.len c.from.result.now c.in_ok-body.body.items
          front.0 spelled body part.1,
      still,
    )

pub returns-then-at-limit-clause-kept : goal.returns-then-at-limit-clause-kept
returns-then-at-limit-clause-kept g c = only_none g.D.Disk g.met.D.Disk.only_now c.args.disk.now

pub body_length-requires-clause-there : goal.body_length-requires-clause-there
body_length-requires-clause-there g c =
    let w = c.reach.new.self in let place = c.in_ok-reach.ensures.place in
    part_reached w.at c.args.at c.args.limit c.min.result w.bytes.items c.from.result.now place.0.from place.0.to
    place.1.to c.min.ensures c.if-at-limit.false c.from.ensures

pub returns-in_err-len-clause-fault : goal.returns-in_err-len-clause-fault
returns-in_err-len-clause-fault g c = λ h.
    let p = err_from_is_err_and c.from_residual-in_err-len.result c.from_residual-in_err-len.ensures.1 in
    let bytes = g.D.Disk.bytes c.args.disk.now in let w = c.reach.new.self in let place = c.in_ok-reach.ensures.place in
    let front = part_from bytes w.at c.args.at w.bytes.items c.from.result.now (c.in_ok-reach.ensures.stands h)
    place.0.from place.0.to c.from.ensures in
    let there = part_reached w.at c.args.at c.args.limit c.min.result w.bytes.items c.from.result.now place.0.from
    place.0.to place.1.to c.min.ensures c.if-at-limit.false c.from.ensures in
    rw (p.1, p.2) (link_tells c.args.most c.args.limit bytes c.args.at c.from.result.now c.in_err-len.field-0.0
    front.0 c.if-at-limit.false there.1 c.in_err-len.ensures.fault)

pub returns-in_default-clause-stands : goal.returns-in_default-clause-stands
returns-in_default-clause-stands g c = λ h.
    let bytes = g.D.Disk.bytes c.args.disk.now in let w = c.reach.new.self in
    let place = c.in_ok-reach.ensures.place in let left = c.args.limit - c.args.at in
    let front = part_from bytes w.at c.args.at w.bytes.items c.from.result.now (c.in_ok-reach.ensures.stands h)
    place.0.from place.0.to c.from.ensures in
    let there = part_reached w.at c.args.at c.args.limit c.min.result w.bytes.items c.from.result.now place.0.from
    place.0.to place.1.to c.min.ensures c.if-at-limit.false c.from.ensures in
    let shut = at_none (slice_index c.from.result.now 0 ≡ OPEN → ⊥)
    (λ (n : ℕ). SpellsLink c.from.result.now left c.args.most n) c.in_ok-len.field-0 c.in_default.is
    c.in_ok-len.ensures.found in
    link_shut bytes c.args.at left c.from.result.now front.0 there.0 there.1 shut

pub returns-clause-found : goal.returns-clause-found
returns-clause-found g c =
    let v = c.reach-2.new.self in let place = c.in_ok-reach-2.ensures.place in let left = c.args.limit - c.args.at in
    let spelled = at_some (slice_index c.from.result.now 0 ≡ OPEN → ⊥)
    (λ (n : ℕ). SpellsLink c.from.result.now left c.args.most n) c.in_ok-len.field-0 c.in-Some.len c.in-Some.is
    c.in_ok-len.ensures.found in
    let fits = body_fits v.at c.args.at c.args.limit c.args.most c.in-Some.len v.bytes.items c.in_ok-body.body.items
    place.0.from place.1.to spelled.short spelled.within c.in_ok-body.ensures in
    (fits.0, fits.1, record { from = fits.2; to = fits.3 })

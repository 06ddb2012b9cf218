use Rattle.std.proofs.Common.{rules, ◌∙◌, sym, subst}
use Rattle.std.proofs.lemmas.Result.{err_from_is_err_and}
use Rattle.std.specs.Prelude.{slice_range}
use Rattle.fp_edit.specs.Flags.{State}
use Rattle.fp_layout.specs.Opening.{FoundDisk}
use Rattle.fp_layout.proofs.Opens.{opens_as, refuses_as}
use Rattle.fp_recovery.specs.Recovered.{StandsAt}
use Rattle.fp_recovery.specs.Refusals.{BeginsWith, RefusesBytes, TakesBody}
use Rattle.fp_recovery.proofs.Kept.{found_at, found_stands}
use Rattle.fp_recovery.proofs.One.{stands_one}
use Rattle.fp_recovery.proofs.OneFault.{standing_has_no_fault}
use Rattle.fp_recovery.proofs.Recovered.{told_one}
use Rattle.fp_recovery.proofs.Refused.{only_wanting, unless_wanting}
use Rattle.fp_recovery.proofs.recovering.recover.Goals as goal

pub returns-in_err-place-clause-found : goal.returns-in_err-place-clause-found
returns-in_err-place-clause-found g c =
    let p = err_from_is_err_and c.from_residual.result c.from_residual.ensures.1 in
    let b = g.D.Disk.bytes c.args.disk.now in let fault = c.in_err-place.field-0.0 in
    rw (p.1, p.2) (λ h s stands.
    let mine : RefusesBytes b fault = search (rules, c.in_err-place.ensures.fault h) in
    only_wanting b s fault stands (unless_wanting b fault mine))

pub returns-in_err-place-clause-told : goal.returns-in_err-place-clause-told
returns-in_err-place-clause-told g c =
    let p = err_from_is_err_and c.from_residual.result c.from_residual.ensures.1 in
    let b = g.D.Disk.bytes c.args.disk.now in let fault = c.in_err-place.field-0.0 in
    rw (p.1, p.2) (λ h f of its.
    let mine : RefusesBytes b fault = search (rules, c.in_err-place.ensures.fault h) in
    told_one b fault f mine of its)

pub returns-clause-stands : goal.returns-clause-stands
returns-clause-stands g c = λ h.
    let b = g.D.Disk.bytes c.args.disk.now in let place = c.in_ok-place.place in
    let front = slice_range b place.slot.start place.gate in let before = c.new-restoring.result in
    let after = c.read_disk.new.reader in
    let found : FoundDisk BeginsWith TakesBody b before after place.slot front = c.in_ok-place.ensures.found h in
    let at = found_at b before after place.slot front found in
    let here : StandsAt b after.set place = record {
      stands = found_stands b before after place.slot front found;
      slot_is = at.0;
      gate_is = c.in_ok-place.ensures.gate h ∙ at.1;
    } in
    subst (λ (s : State). StandsAt b s place) (sym c.into_set.ensures) here

pub returns-clause-found : goal.returns-clause-found
returns-clause-found g c = λ h s stands. stands_one (g.D.Disk.bytes c.args.disk.now) c.into_set.result s
    (returns-clause-stands g c h).stands stands

pub returns-clause-told : goal.returns-clause-told
returns-clause-told g c = λ h f of its. standing_has_no_fault (g.D.Disk.bytes c.args.disk.now) f c.into_set.result of
    its (returns-clause-stands g c h).stands

pub returns-in_err-place-clause-kept : goal.returns-in_err-place-clause-kept
returns-in_err-place-clause-kept g c = let p =
    err_from_is_err_and c.from_residual.result c.from_residual.ensures.1 in
    rw (p.1, p.2) (refuses_as c.in_err-place.ensures.kept)

pub returns-clause-kept : goal.returns-clause-kept
returns-clause-kept g c = opens_as c.in_ok-place.ensures.kept

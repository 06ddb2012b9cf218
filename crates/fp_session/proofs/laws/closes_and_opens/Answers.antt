use Rattle.std.proofs.Common.{◌≡◌, ◌⊎◌, sym, subst}
use Rattle.fp_edit.specs.Flags.{State}
use Rattle.fp_layout.specs.declared.fault.OpenFault.{OpenFault}
use Rattle.fp_layout.specs.declared.fault.OpenFault.TheVariants.{Device, Memory}
use Rattle.fp_recovery.specs.Refusals.{IsUnlessWanting}
use Rattle.fp_recovery.specs.Stands.{StandsFor}
use Rattle.fp_recovery.proofs.Cases.{err_more, ok_more}
use Rattle.fp_recovery.proofs.Refused.{only_wanting}
use Rattle.fp_session.specs.Session.{flags_of, SessionState}
use Rattle.fp_session.proofs.laws.closes_and_opens.Goals as goal

pub returns-clause-same : goal.returns-clause-same
returns-clause-same g c = λ h.
    let D = g.D.Disk in let d = c.into_disk.result in let flags = flags_of c.args.session in
    let h1 = subst (λ (x : g.row.D.Denot). D.honest x) (sym c.into_disk.ensures.disk) h in
    let there = c.into_disk.ensures.keeps h1 (D.bytes d) (g.met.D.Disk.present d h1) in
    let stands : StandsFor (D.bytes d) flags = subst (λ (s : State). StandsFor (D.bytes d) s) (c.requires.kept there.0 there.1) there.2 in
    ok_more c.open.result (λ (s : SessionState g.row.D.Denot). (other : State) → StandsFor (D.bytes d) other →
    other ≡ flags_of s) (λ (s : SessionState g.row.D.Denot). flags_of s ≡ flags)
    (λ s only. sym (only flags stands)) (c.open.ensures.only h1)

pub returns-clause-refused : goal.returns-clause-refused
returns-clause-refused g c = λ h.
    let D = g.D.Disk in let d = c.into_disk.result in let flags = flags_of c.args.session in
    let h1 = subst (λ (x : g.row.D.Denot). D.honest x) (sym c.into_disk.ensures.disk) h in
    let there = c.into_disk.ensures.keeps h1 (D.bytes d) (g.met.D.Disk.present d h1) in
    let stands : StandsFor (D.bytes d) flags = subst (λ (s : State). StandsFor (D.bytes d) s) (c.requires.kept there.0 there.1) there.2 in
    err_more c.open.result (λ (e : OpenFault × g.row.D.Denot). IsUnlessWanting (D.bytes d) e.0)
    (λ (e : OpenFault × g.row.D.Denot). (e.0 ≡ Device) ⊎ (e.0 ≡ Memory))
    (λ e r. only_wanting (D.bytes d) flags e.0 stands r) (c.open.ensures.refused h1)

use Rattle.std.proofs.Common.{◌⊎◌, ◌<◌, ◌≤◌, subst}
use Rattle.fp_disk.specs.Outcomes.{Elapses, IsOutcome, with_write}
use Rattle.fp_gate.specs.Gates.{Gated}
use Rattle.fp_gate.proofs.Opening as opening
use Rattle.fp_gate.proofs.gate.Gate+Closed.open.Goals as goal

pub returns-in_err-write_at-clause-each : goal.returns-in_err-write_at-clause-each
returns-in_err-write_at-clause-each g c = let D = g.D.Disk in let m = g.met.D.Disk in
    let old = c.args.disk.now.disk in let new = c.write_at.new.self.disk in
    let Time : Gated → Type 0 = λ k. Elapses (D.moment old) (D.moment new) (D.crash_states_since old)
    (D.crash_states_since new) (IsOutcome (with_write (D.unsynced old) k.at 1)) in
    λ h. opening.each D.honest D.bytes D.unsynced D.moment D.crash_states_since m.present m.only_now old new
    c.args.self h (c.requires.shut h) (subst Time c.self.view_is (c.write_at.ensures.time h))

pub returns-in_err-write_at-clause-guards : goal.returns-in_err-write_at-clause-guards
returns-in_err-write_at-clause-guards g c = let D = g.D.Disk in let m = g.met.D.Disk in
    let old = c.args.disk.now.disk in let new = c.write_at.new.self.disk in
    let Time : Gated → Type 0 = λ k. Elapses (D.moment old) (D.moment new) (D.crash_states_since old)
    (D.crash_states_since new) (IsOutcome (with_write (D.unsynced old) k.at 1)) in
    let Apart : Gated → Type 0 = λ k. (k.at < k.from) ⊎ (k.to ≤ k.at) in
    λ h. opening.guards D.honest D.bytes D.unsynced D.moment D.crash_states_since m.present m.only_now old new
    c.args.self h (c.requires.shut h) (subst Time c.self.view_is (c.write_at.ensures.time h))
    (subst Apart c.self.view_is c.self.invariant) (c.requires.firm h)

pub returns-clause-each : goal.returns-clause-each
returns-clause-each g c = let D = g.D.Disk in let m = g.met.D.Disk in let old = c.args.disk.now.disk in
    let new = c.write_at.new.self.disk in
    let Time : Gated → Type 0 = λ k. Elapses (D.moment old) (D.moment new) (D.crash_states_since old)
    (D.crash_states_since new) (IsOutcome (with_write (D.unsynced old) k.at 1)) in
    λ h. opening.each D.honest D.bytes D.unsynced D.moment D.crash_states_since m.present m.only_now old new
    c.args.self h (c.requires.shut h) (subst Time c.self.view_is (c.write_at.ensures.time h))

pub returns-clause-guards : goal.returns-clause-guards
returns-clause-guards g c = let D = g.D.Disk in let m = g.met.D.Disk in let old = c.args.disk.now.disk in
    let new = c.write_at.new.self.disk in
    let Time : Gated → Type 0 = λ k. Elapses (D.moment old) (D.moment new) (D.crash_states_since old)
    (D.crash_states_since new) (IsOutcome (with_write (D.unsynced old) k.at 1)) in
    let Apart : Gated → Type 0 = λ k. (k.at < k.from) ⊎ (k.to ≤ k.at) in
    λ h. opening.guards D.honest D.bytes D.unsynced D.moment D.crash_states_since m.present m.only_now old new
    c.args.self h (c.requires.shut h) (subst Time c.self.view_is (c.write_at.ensures.time h))
    (subst Apart c.self.view_is c.self.invariant) (c.requires.firm h)

use Rattle.std.proofs.Common.{◌≡◌, IfSome, IfOk, IfErr, Bool, Result, ◌+◌, refl, subst, arith}
use Rattle.std.proofs.lemmas.Option.{IfSome_then}
use Rattle.std.proofs.lemmas.Result.{err_from_is_err_and}
use Rattle.fp_edit.specs.Flags.{State}
use Rattle.fp_session.specs.Asks.{asked_by_input}
use Rattle.fp_session.specs.Run.{IsAfterPrefix, IsRunWritten, IsToldBy}
use Rattle.fp_session.specs.StoreRun.{StoreRun}
use Rattle.fp_session.specs.Streams as plane
use Rattle.fp_session.specs.declared.fault.ApplyFault.{ApplyFault}
use Rattle.fp_commands.proofs.Blamed.{blames-alone}
use Rattle.fp_commands.proofs.Courses.{set-course, set_store}
use Rattle.fp_commands.proofs.program.apply.Goals as goal

pub returns : goal.returns
returns g c =
    let told = c.in_ok-_told._told in
    let now = c.apply_lines-flags.result.0 in
    let left = g.R.Read.remaining c.args.r.now.inner in
    let old = g.W.Write.contents c.args.w.now.inner in
    let new = g.W.Write.contents c.apply_lines-flags.new.w.inner in
    let before = c.args.r.now.failures + c.args.w.now.failures in
    let after = c.apply_lines-flags.new.r.failures + c.apply_lines-flags.new.w.failures in
    let run : IfSome left (λ input. IsRunWritten c.new.result (asked_by_input input) told old new now) =
    subst (λ o. IfOk o (λ b. IfSome left
    (λ input. IsRunWritten c.new.result (asked_by_input input) b old new now))) c.in_ok-_told.was
    c.apply_lines-flags.ensures.runs.run in
    let same = subst (λ (o : Result Bool ApplyFault). plane.Blames before after o) c.in_ok-_told.was c.apply_lines-flags.ensures.device in
    record {
      applies = IfSome_then left run
          (λ input r. (
            told,
            now,
            subst (λ s. IsRunWritten s (asked_by_input input) told old new now) c.new.ensures
                r,
          ));
      no_failure = omega (arith, same);
    }

pub returns-in_err-_told-clause-applies : goal.returns-in_err-_told-clause-applies
returns-in_err-_told-clause-applies g c =
    let p = err_from_is_err_and c.from_residual.result c.from_residual.ensures.1 in
    let ended = c.in_err-_told.field-0.0 in
    let l = c.apply_lines-flags in
    let first = c.new.result in
    let now = l.result.0 in
    let left = g.R.Read.remaining c.args.r.now.inner in
    let old = g.W.Write.contents c.args.w.now.inner in
    let new = g.W.Write.contents l.new.w.inner in
    let before = c.args.r.now.failures + c.args.w.now.failures in
    let after = l.new.r.failures + l.new.w.failures in
    let Outcome : Type 0 = Result Bool ApplyFault in
    let LedTo : State → Type 0 = λ flags. IfSome left (λ input. IsAfterPrefix first (asked_by_input input) flags) in
    let Told : ApplyFault → State → Type 0 =
    λ f flags. IfSome left (λ input. IsToldBy first (asked_by_input input) 1 f old new now flags) in
    let course = subst (λ (o : Outcome). StoreRun set_store LedTo first now o) c.in_err-_told.was l.ensures.runs.course in
    let device = subst (λ (o : Outcome). plane.Blames before after o) c.in_err-_told.was l.ensures.device in
    let told = subst (λ (o : Outcome). IfErr o
    (λ f. l.new.w.failures ≡ c.args.w.now.failures → (flags : State) → flags ≡ now → Told f flags))
    c.in_err-_told.was l.ensures.runs.told in
    rw (p.1, p.2) (
      set-course Bool LedTo first now ended course,
      blames-alone Bool (Unit {0}) before after ended device,
      λ same. IfSome_then left (told same now refl)
          (λ input t. (
            ended,
            now,
            refl,
            subst (λ (s : State). IsToldBy s (asked_by_input input) 1 ended old new now now) c.new.ensures t,
          )),
    )

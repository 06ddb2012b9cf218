use Rattle.std.proofs.Common.{refl, ◌∙◌, inl, inr, ⊎_elim, arith}
use Rattle.std.proofs.lemmas.Result.{err_from_is_err_and}
use Rattle.fp_committer.specs.WorksLaws.{breaks_on, no_works, works_on}
use Rattle.fp_session.proofs.Commits.{lacks_on, nothing_left, stays_itself, stays_then}
use Rattle.fp_session.proofs.commit.commit_all.Goals as goal

pub loop-desk-init : goal.loop-desk-init
loop-desk-init g c =
    let a = c.args.desk.now in let b = c.args.store.now in record {
      stays = stays_itself a b c.requires.one g.D.Disk g.met.D.Disk.only_now c.rest.ensures.exit;
      rest = c.requires.rest;
      well = record { well = c.requires.rest.1; no_failure = refl; works = no_works g.D.Disk b.store };
    }

pub loop-desk-preserved : goal.loop-desk-preserved
loop-desk-preserved g c =
    let D = g.D.Disk in let inv = c.loop-desk.invariant in let well = c.in_ok-commit.ensures.well in
    let a = c.args.desk.now in let b = c.args.store.now in let x = c.loop-desk.desk in let y = c.loop-desk.store in
    let z = c.commit.new.desk in let w = c.commit.new.store in record {
      stays = stays_then D a b x y z w inv.stays c.commit.ensures.stays;
      rest = c.in_ok-commit.ensures.rest;
      well = record {
        well = well.well;
        no_failure = well.no_failure ∙ inv.well.no_failure;
        works = works_on D b.store y.store w.store inv.well.works well.works;
      };
    }

pub returns-in_err-commit-clause-stays : goal.returns-in_err-commit-clause-stays
returns-in_err-commit-clause-stays g c =
    stays_then g.D.Disk c.args.desk.now c.args.store.now c.loop-desk.desk c.loop-desk.store c.commit.new.desk c.commit.new.store
    c.loop-desk.invariant.stays c.commit.ensures.stays

pub returns-in_err-commit-clause-cause : goal.returns-in_err-commit-clause-cause
returns-in_err-commit-clause-cause g c =
    let p = err_from_is_err_and c.from_residual.result c.from_residual.ensures.1 in
    let d = c.args.desk.now.desk in let e = c.loop-desk.desk.desk in let now = c.commit.new.store.store.disk in
    let inv = c.loop-desk.invariant in let same = inv.well.no_failure in let l = inv.stays in
    rw (p.1, p.2) (λ is. ⊎_elim (λ lacks. inl (lacks_on g.D.Disk now d e l.log.0 l.log.1 l.settled lacks))
    (λ more. inr (omega (arith, more, same))) (c.in_err-commit.ensures.cause is))

pub returns-in_err-commit-clause-memory : goal.returns-in_err-commit-clause-memory
returns-in_err-commit-clause-memory g c =
    let p = err_from_is_err_and c.from_residual.result c.from_residual.ensures.1 in
    rw (p.1, p.2) (λ is. c.in_err-commit.ensures.memory is ∙ c.loop-desk.invariant.well.no_failure)

pub returns-in_err-commit-clause-called : goal.returns-in_err-commit-clause-called
returns-in_err-commit-clause-called g c =
    let p = err_from_is_err_and c.from_residual.result c.from_residual.ensures.1 in
    rw (p.1) (breaks_on g.D.Disk c.args.store.now.store c.loop-desk.store.store c.commit.new.store.store
    c.loop-desk.invariant.well.works c.in_err-commit.ensures.called)

pub returns-clause-none : goal.returns-clause-none
returns-clause-none g c =
    let says = rw (c.desk.ensures) at c.is_waiting.ensures in
    nothing_left c.loop-desk.desk.desk.waiting c.is_waiting.result says c.loop-desk-test.false

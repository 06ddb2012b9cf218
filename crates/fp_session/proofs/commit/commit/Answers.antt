use Rattle.std.proofs.Common.{ap}
use Rattle.std.proofs.lemmas.Result.{err_from_is_err_and}
use Rattle.fp_committer.specs.Committer.{HaveDrawn, HaveSettled}
use Rattle.fp_committer.specs.StoreHalf.{StoreHalfState}
use Rattle.fp_committer.specs.WorksLaws.{no_works, works_break}
use Rattle.fp_session.proofs.Commits.{sealed_breaks, sealed_fails, sealed_stays, sealed_wants, sealed_well, settled_stays, stays_itself}
use Rattle.fp_session.proofs.commit.commit.Goals as goal

-- ---- nothing was drawn
pub returns-in_default-clause-stays : goal.returns-in_default-clause-stays
returns-in_default-clause-stays g c =
    let u = c.in_default.ensures.unchanged in
    rw (u.0, u.1) (stays_itself c.args.desk.now c.args.store.now c.requires.one g.D.Disk g.met.D.Disk.only_now c.rest.ensures.exit)

pub returns-in_default-clause-called : goal.returns-in_default-clause-called
returns-in_default-clause-called g c =
    let s = c.args.store.now.store in rw (c.in_default.ensures.unchanged.1) (works_break g.D.Disk s s (no_works g.D.Disk s))

pub returns-in_default-clause-memory : goal.returns-in_default-clause-memory
returns-in_default-clause-memory g c = λ is.
    ap (λ (b : StoreHalfState g.row.D.Denot). g.D.Disk.faults b.store.disk) c.in_default.ensures.unchanged.1

-- ---- it wasn't sealed
pub returns-in_err-seal-clause-stays : goal.returns-in_err-seal-clause-stays
returns-in_err-seal-clause-stays g c =
    let a = c.args.desk.now in let b = c.args.store.now in let x = c.draw.new.self in let y = c.draw.new.store in
    let h : HaveDrawn a x b y c.in-Some.field-0 = rw c.in-Some.is at c.in-Ok.ensures.drawn in
    sealed_stays g.D.Disk g.met.D.Disk.only_now a b c.requires.one c.rest.ensures.exit x y h c.draw.ensures.halves
    c.rest-2.ensures.exit c.seal.new.self c.seal.ensures.kept

pub returns-in_err-seal-clause-cause : goal.returns-in_err-seal-clause-cause
returns-in_err-seal-clause-cause g c =
    let p = err_from_is_err_and c.from_residual.result c.from_residual.ensures.1 in
    let a = c.args.desk.now in let b = c.args.store.now in let x = c.draw.new.self in let y = c.draw.new.store in
    let h : HaveDrawn a x b y c.in-Some.field-0 = rw c.in-Some.is at c.in-Ok.ensures.drawn in
    rw (p.1, p.2) (sealed_fails g.D.Disk g.met.D.Disk.only_now a b c.requires.one c.rest.ensures.exit x y h c.draw.ensures.halves
    c.rest-2.ensures.exit c.seal.new.self c.seal.ensures.kept c.in_err-seal.field-0.0 c.in_err-seal.ensures.cause)

pub returns-in_err-seal-clause-memory : goal.returns-in_err-seal-clause-memory
returns-in_err-seal-clause-memory g c =
    let p = err_from_is_err_and c.from_residual.result c.from_residual.ensures.1 in
    let a = c.args.desk.now in let b = c.args.store.now in let x = c.draw.new.self in let y = c.draw.new.store in
    let h : HaveDrawn a x b y c.in-Some.field-0 = rw c.in-Some.is at c.in-Ok.ensures.drawn in
    rw (p.1, p.2) (sealed_wants g.D.Disk g.met.D.Disk.only_now a b c.requires.one c.rest.ensures.exit x y h c.draw.ensures.halves
    c.rest-2.ensures.exit c.seal.new.self c.seal.ensures.kept c.in_err-seal.field-0.0 c.in_err-seal.ensures.cause)

-- ---- it was sealed, and isn't settled
pub returns-in_default-settle-clause-stays : goal.returns-in_default-settle-clause-stays
returns-in_default-settle-clause-stays g c =
    let u = c.in_default-settle.ensures.unchanged in
    let a = c.args.desk.now in let b = c.args.store.now in let x = c.draw.new.self in let y = c.draw.new.store in
    let h : HaveDrawn a x b y c.in-Some.field-0 = rw c.in-Some.is at c.in-Ok.ensures.drawn in
    rw (u.0, u.1) (sealed_stays g.D.Disk g.met.D.Disk.only_now a b c.requires.one c.rest.ensures.exit x y h c.draw.ensures.halves
    c.rest-2.ensures.exit c.seal.new.self c.seal.ensures.kept)

pub returns-in_default-settle-clause-called : goal.returns-in_default-settle-clause-called
returns-in_default-settle-clause-called g c =
    let u = c.in_default-settle.ensures.unchanged in
    let a = c.args.desk.now in let b = c.args.store.now in let x = c.draw.new.self in let y = c.draw.new.store in
    let h : HaveDrawn a x b y c.in-Some.field-0 = rw c.in-Some.is at c.in-Ok.ensures.drawn in
    rw (u.1) (sealed_breaks g.D.Disk g.met.D.Disk.only_now a b c.requires.one c.rest.ensures.exit x y h c.draw.ensures.halves
    c.rest-2.ensures.exit c.seal.new.self c.seal.ensures.kept c.in_ok-seal.ensures.well)

pub returns-in_default-settle-clause-memory : goal.returns-in_default-settle-clause-memory
returns-in_default-settle-clause-memory g c =
    let u = c.in_default-settle.ensures.unchanged in
    let a = c.args.desk.now in let b = c.args.store.now in let x = c.draw.new.self in let y = c.draw.new.store in
    let h : HaveDrawn a x b y c.in-Some.field-0 = rw c.in-Some.is at c.in-Ok.ensures.drawn in
    rw (u.1) (λ is. sealed_well g.D.Disk g.met.D.Disk.only_now a b c.requires.one c.rest.ensures.exit x y h c.draw.ensures.halves
    c.rest-2.ensures.exit c.seal.new.self c.seal.ensures.kept c.in_ok-seal.ensures.well)

-- ---- it is settled
pub returns-clause-stays : goal.returns-clause-stays
returns-clause-stays g c =
    let a = c.args.desk.now in let b = c.args.store.now in let x = c.draw.new.self in let y = c.draw.new.store in
    let n = c.seal.new.self in let z = c.settle.new.self in let w = c.settle.new.store in
    let h : HaveDrawn a x b y c.in-Some.field-0 = rw c.in-Some.is at c.in-Ok.ensures.drawn in
    let s : HaveSettled x z n w c.in-Some-settled.field-0 = rw c.in-Some-settled.is at c.in-Ok-settle.ensures.settled in
    settled_stays g.D.Disk g.met.D.Disk.only_now a b c.requires.one c.rest.ensures.exit x y h c.draw.ensures.halves
    c.rest-2.ensures.exit n c.seal.ensures.kept z w s c.settle.ensures.halves c.rest-3.ensures.exit

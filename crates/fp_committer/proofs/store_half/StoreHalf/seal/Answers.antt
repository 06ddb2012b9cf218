use Rattle.fp_committer.proofs.Courses as courses
use Rattle.fp_committer.proofs.store_half.StoreHalf.seal.Goals as goal

pub returns-in_err-write-clause-kept : goal.returns-in_err-write-clause-kept
returns-in_err-write-clause-kept g c =
    courses.calls_then g.D.Disk c.args.self.now c.make_room.new.self c.write.new.self c.make_room.ensures.kept c.write.ensures.kept

pub returns-clause-kept : goal.returns-clause-kept
returns-clause-kept g c =
    let D = g.D.Disk in let m = c.make_room.new.self in let n = c.write.new.self in
    courses.calls_then D c.args.self.now n c.make_sure.new.self
    (courses.calls_then D c.args.self.now m n c.make_room.ensures.kept c.write.ensures.kept)
    c.make_sure.ensures.kept

pub returns-clause-alone : goal.returns-clause-alone
returns-clause-alone g c = λ can.
    let D = g.D.Disk in let m = c.make_room.new.self in let n = c.write.new.self in let d = c.make_sure.new.self in
    courses.alone_by D c.args.self.now m n d c.in_ok-make_room.ensures.well c.in_ok-make_room.ensures.room.early
    (c.make_room.ensures.none can) c.in_ok-write.ensures.staged c.make_sure.result c.make_sure.ensures.sealed

pub returns-clause-well : goal.returns-clause-well
returns-clause-well g c =
    let D = g.D.Disk in let m = c.make_room.new.self in let n = c.write.new.self in let d = c.make_sure.new.self in
    let wrote = c.in_ok-write.ensures.staged in
    courses.whole_by D c.args.self.now m n d c.in_ok-make_room.ensures.well c.in_ok-make_room.ensures.room.early
    wrote c.make_sure.result c.make_sure.ensures.sealed

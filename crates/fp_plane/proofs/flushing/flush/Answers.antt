use Rattle.fp_committer.specs.CourseLaws.{course_then}
use Rattle.fp_committer.proofs.Courses.{course_lists}
use Rattle.fp_plane.proofs.HalfLemmas.{ours_on}
use Rattle.fp_plane.proofs.flushing.flush.Goals as goal

pub settle-waiting-requires-clause-ours : goal.settle-waiting-requires-clause-ours
settle-waiting-requires-clause-ours g c = let k = g.K.Naming in
    ours_on g.D.Disk k.store k.desk_lists k.store_lists c.args.half.now c.seal.new.half c.seal.ensures.course
    c.requires.ours

pub returns-clause-course : goal.returns-clause-course
returns-clause-course g c =
    let D = g.D.Disk in let a = c.args.half.now in let b = c.seal.new.half in let d = c.settle-waiting.new.half in
    course_then D a b d c.seal.ensures.course (course_lists D b d c.settle-waiting.ensures.settled)

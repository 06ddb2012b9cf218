use Rattle.fp_committer.specs.CourseLaws.{course_then}
use Rattle.fp_committer.proofs.Courses.{course_lists}
use Rattle.fp_plane.proofs.flushing.submit_and_flush.Goals as goal

pub returns-in-Ok-clause-course : goal.returns-in-Ok-clause-course
returns-in-Ok-clause-course g c =
    let D = g.D.Disk in let a = c.args.half.now in let d = c.submit_and_draw-submitted.new.half in
    let drew = c.submit_and_draw-submitted.ensures.drawn c.if-not-drawn.false in
    course_then D a d c.flush.new.half (course_lists D a d drew.1) c.flush.ensures.course

pub returns-in-Err-clause-course : goal.returns-in-Err-clause-course
returns-in-Err-clause-course g c =
    let D = g.D.Disk in let a = c.args.half.now in let d = c.submit_and_draw-submitted.new.half in
    let drew = c.submit_and_draw-submitted.ensures.drawn c.if-not-drawn.false in
    course_then D a d c.flush.new.half (course_lists D a d drew.1) c.flush.ensures.course

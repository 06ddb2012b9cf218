use Rattle.std.proofs.Common.{◌∙◌}
use Rattle.fp_committer.specs.CourseLaws.{course_then}
use Rattle.fp_committer.proofs.Courses.{course_calls}
use Rattle.fp_plane.proofs.HalfLemmas.{wants}
use Rattle.fp_plane.proofs.flushing.seal.Goals as goal

pub returns-in-Ok-clause-course : goal.returns-in-Ok-clause-course
returns-in-Ok-clause-course g c =
    course_then g.D.Disk c.args.half.now c.loop.half c.seal.new.self c.loop.invariant.course
    (course_calls g.D.Disk c.loop.half c.seal.new.self c.seal.ensures.kept)

pub loop-preserved : goal.loop-preserved
loop-preserved g c =
    let D = g.D.Disk in let inv = c.loop.invariant in let m = c.in-Err-Memory in
    let w = wants D c.loop.half c.seal.new.self m.field-0 m.field-0-is m.ensures.cause in record {
      course = course_then D c.args.half.now c.loop.half c.seal.new.self inv.course
          (course_calls D c.loop.half c.seal.new.self c.seal.ensures.kept);
      drawn = m.ensures.later m.field-0-is;
      well = w.0;
      no_failure = w.1 ∙ inv.no_failure;
    }

pub returns-in-Err-StoreFailed-clause-course : goal.returns-in-Err-StoreFailed-clause-course
returns-in-Err-StoreFailed-clause-course g c =
    course_then g.D.Disk c.args.half.now c.loop.half c.seal.new.self c.loop.invariant.course
    (course_calls g.D.Disk c.loop.half c.seal.new.self c.seal.ensures.kept)

use Rattle.std.proofs.Common.{inl, inr}
use Rattle.fp_committer.proofs.Courses.{course_calls}
use Rattle.fp_plane.proofs.flushing.compact_on.Goals as goal

pub returns-in-Ok-clause-course : goal.returns-in-Ok-clause-course
returns-in-Ok-clause-course g c = course_calls g.D.Disk c.args.half.now c.go_on.new.self c.go_on.ensures.kept

pub returns-in-Err-Memory-clause-course : goal.returns-in-Err-Memory-clause-course
returns-in-Err-Memory-clause-course g c = course_calls g.D.Disk c.args.half.now c.go_on.new.self c.go_on.ensures.kept

pub returns-in-Err-StoreFailed-clause-course : goal.returns-in-Err-StoreFailed-clause-course
returns-in-Err-StoreFailed-clause-course g c = course_calls g.D.Disk c.args.half.now c.go_on.new.self c.go_on.ensures.kept

pub returns-in-Ok-clause-step : goal.returns-in-Ok-clause-step
returns-in-Ok-clause-step g c = record {
  runs = λ runs. c.in-Ok.ensures.taken (inl runs);
  due = λ due. inl (c.in-Ok.ensures.taken due);
  none = c.in-Ok.ensures.none;
}

pub returns-in-Err-Memory-clause-step : goal.returns-in-Err-Memory-clause-step
returns-in-Err-Memory-clause-step g c =
    let wants = c.in-Err-Memory.ensures.memory c.in-Err-Memory.field-0-is in record {
      runs = λ runs. absurd (runs wants.0);
      due = λ due. inr wants.1;
      none = λ none. wants.1;
    }

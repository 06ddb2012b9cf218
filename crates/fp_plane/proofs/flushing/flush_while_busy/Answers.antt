use Rattle.std.proofs.Common.{◌≡◌, true, [], ap, refl, rules, ◌∙◌}
use Rattle.fp_committer.specs.CourseLaws.{course_then}
use Rattle.fp_committer.proofs.Courses.{course_lists}
use Rattle.fp_group_commit.specs.Store.{StoreState}
use Rattle.fp_plane.proofs.HalfLemmas.{ours_on}
use Rattle.fp_plane.proofs.Steps.{pays_again}
use Rattle.fp_plane.proofs.flushing.flush_while_busy.Goals as goal

pub loop-init : goal.loop-init
loop-init g c =
    let D = g.D.Disk in let k = g.K.Naming in let a = c.args.half.now in let t = c.take_step in record {
      course = t.ensures.course;
      steps = record {
        paid = t.new.half;
        first = record { step = c.in_ok-take_step.ensures.step; no_step = t.ensures.no_step };
        turns = [];
        each = refl;
      };
      ours = ours_on D k.store k.desk_lists k.store_lists a t.new.half t.ensures.course c.requires.ours;
      rest = c.in_ok-take_step.ensures.rest;
      no_failure = c.in_ok-take_step.ensures.no_failure;
      paid = search rules;
    }

pub loop-preserved : goal.loop-preserved
loop-preserved g c =
    let D = g.D.Disk in let k = g.K.Naming in let inv = c.loop.invariant in
    let drew = c.in-Ok.ensures.drawn in let step = c.take_step-in-loop in let stepped = c.in_ok-take_step-2 in
    let h = c.loop.half in let d = c.draw.new.half in let n = c.flush.new.half in let m = step.new.half in
    let sealed = course_then D h d n (course_lists D h d drew.1) c.flush.ensures.course in
    let on = course_then D h n m sealed step.ensures.course in
    let owed : c.draw.new.owes_step ≡ true = search rules in
    let no_failure = ap (λ (s : StoreState g.row.D.Denot). D.faults s.disk) drew.1.store in record {
      course = course_then D c.args.half.now h m inv.course on;
      steps = pays_again D c.args.owes_step.now c.args.half.now h n m inv.steps sealed (stepped.ensures.step owed);
      ours = ours_on D k.store k.desk_lists k.store_lists h m on inv.ours;
      rest = stepped.ensures.rest;
      no_failure = stepped.ensures.no_failure ∙ c.in_ok-flush.ensures.no_failure ∙ no_failure ∙ inv.no_failure;
      paid = search rules;
    }

pub returns-in_err-flush-clause-course : goal.returns-in_err-flush-clause-course
returns-in_err-flush-clause-course g c =
    let D = g.D.Disk in let h = c.loop.half in let d = c.draw.new.half in let n = c.flush.new.half in
    let drew = c.in-Ok.ensures.drawn in
    course_then D c.args.half.now h n c.loop.invariant.course (course_then D h d n (course_lists D h d drew.1) c.flush.ensures.course)

pub returns-in_err-take_step-2-clause-course : goal.returns-in_err-take_step-2-clause-course
returns-in_err-take_step-2-clause-course g c =
    let D = g.D.Disk in let h = c.loop.half in let d = c.draw.new.half in let n = c.flush.new.half in
    let m = c.take_step-in-loop.new.half in let drew = c.in-Ok.ensures.drawn in
    let sealed = course_then D h d n (course_lists D h d drew.1) c.flush.ensures.course in
    course_then D c.args.half.now h m c.loop.invariant.course (course_then D h n m sealed c.take_step-in-loop.ensures.course)

pub returns-then-is_alone-clause-course : goal.returns-then-is_alone-clause-course
returns-then-is_alone-clause-course g c =
    let D = g.D.Disk in let h = c.loop.half in let d = c.draw.new.half in let n = c.flush.new.half in
    let m = c.take_step-in-loop.new.half in let drew = c.in-Ok.ensures.drawn in
    let sealed = course_then D h d n (course_lists D h d drew.1) c.flush.ensures.course in
    course_then D c.args.half.now h m c.loop.invariant.course (course_then D h n m sealed c.take_step-in-loop.ensures.course)

pub returns-then-is_alone-clause-steps : goal.returns-then-is_alone-clause-steps
returns-then-is_alone-clause-steps g c =
    let D = g.D.Disk in let h = c.loop.half in let d = c.draw.new.half in let n = c.flush.new.half in
    let m = c.take_step-in-loop.new.half in let drew = c.in-Ok.ensures.drawn in
    let sealed = course_then D h d n (course_lists D h d drew.1) c.flush.ensures.course in
    let owed : c.draw.new.owes_step ≡ true = search rules in
    pays_again D c.args.owes_step.now c.args.half.now h n m c.loop.invariant.steps sealed (c.in_ok-take_step-2.ensures.step owed)

use Rattle.std.proofs.Common.{[]}
use Rattle.fp_world.proofs.Courses as courses
use Rattle.fp_world.proofs.world.World.run.Goals as goal

pub returns-in_err-answers-clause-any_moment : goal.returns-in_err-answers-clause-any_moment
returns-in_err-answers-clause-any_moment g c =
    courses.course_leaves g.D.Disk g.met.D.Disk.only_now c.args.self.now c.follow.new.self [] []
    (rw (← c.self.view_is) c.rest.ensures.exit) c.in_err-answers.ensures.err

pub returns-in_err-answers-clause-exit : goal.returns-in_err-answers-clause-exit
returns-in_err-answers-clause-exit g c =
    courses.course_exit g.D.Disk c.args.self.now c.follow.new.self [] [] (rw (← c.self.view_is) c.rest.ensures.exit)
    c.in_err-answers.ensures.err

pub returns-clause-run : goal.returns-clause-run
returns-clause-run g c = courses.course_runs g.D.Disk c.args.self.now c.follow.new.self c.args.events.now
    c.in_ok-answers.answers.items c.in_ok-answers.ensures.course

pub returns-clause-log : goal.returns-clause-log
returns-clause-log g c = (courses.course_log g.D.Disk c.args.self.now c.follow.new.self c.args.events.now
    c.in_ok-answers.answers.items c.in_ok-answers.ensures.course).0

pub returns-clause-told : goal.returns-clause-told
returns-clause-told g c = courses.course_told g.D.Disk c.args.self.now c.follow.new.self c.args.events.now
    c.in_ok-answers.answers.items c.in_ok-answers.ensures.course

pub returns-clause-any_moment : goal.returns-clause-any_moment
returns-clause-any_moment g c =
    courses.course_leaves g.D.Disk g.met.D.Disk.only_now c.args.self.now c.follow.new.self c.args.events.now
    c.in_ok-answers.answers.items (rw (← c.self.view_is) c.rest.ensures.exit) c.in_ok-answers.ensures.course

pub returns-clause-exit : goal.returns-clause-exit
returns-clause-exit g c =
    courses.course_exit g.D.Disk c.args.self.now c.follow.new.self c.args.events.now c.in_ok-answers.answers.items
    (rw (← c.self.view_is) c.rest.ensures.exit) c.in_ok-answers.ensures.course

pub returns-clause-honest : goal.returns-clause-honest
returns-clause-honest g c = courses.course_honest g.D.Disk c.args.self.now c.follow.new.self c.args.events.now
    c.in_ok-answers.answers.items c.in_ok-answers.ensures.course

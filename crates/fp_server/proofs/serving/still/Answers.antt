use Rattle.std.proofs.Common.{refl}
use Rattle.fp_committer.specs.CourseLaws.{course_still}
use Rattle.fp_committer.proofs.Courses.{course_keeps}
use Rattle.fp_server.proofs.serving.still.Goals as goal

pub returns : goal.returns
returns g c =
    let D = g.D.Disk in let h = c.args.half.now in record {
      course = course_still D h;
      any_moment = course_keeps D g.met.D.Disk.only_now h h c.rest.ensures.exit (course_still D h);
      rest = c.requires;
      no_failure = refl;
      cause = tt;
    }

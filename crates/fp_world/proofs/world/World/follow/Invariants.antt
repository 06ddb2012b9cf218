use Rattle.std.proofs.Common.{◌≡◌, ◌≤◌, length, take, vec_len, vec_capacity}
use Rattle.fp_world.specs.World.{Course}
use Rattle.fp_world.proofs.world.World.follow.Given as goal

abbrev pub invariant-loop-event : goal.invariant-loop-event
invariant-loop-event g l = record {
  course : Course g.D.Disk l.fn.self (take l.event-index l.events) l.answers.items l.self;
  count : vec_len l.answers ≡ l.event-index;
  room : length l.events ≤ vec_capacity l.answers;
}

use Rattle.std.proofs.Common.{◌≡◌, ◌≤◌, None, length, map, take, vec_len, vec_capacity}
use Rattle.fp_publish.specs.Seats.{had_by}
use Rattle.fp_world.proofs.views.seated.Given as goal

abbrev pub invariant-loop-hello : goal.invariant-loop-hello
invariant-loop-hello l = record {
  taken : l.seats.taken ≡ l.hello-index;
  last : l.seats.last ≡ None;
  had : map had_by l.places.items ≡ take l.hello-index l.hellos;
  count : vec_len l.places ≡ l.hello-index;
  room : length l.hellos ≤ vec_capacity l.places;
}

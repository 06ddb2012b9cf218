use Rattle.std.proofs.Common.{◌≡◌, ◌≤◌, length, vec_len, vec_capacity}
use Rattle.std.specs.List.{All}
use Rattle.fp_world.specs.Views.{IsResting}
use Rattle.fp_world.proofs.views.evaluators.Given as goal

abbrev pub invariant-loop : goal.invariant-loop
invariant-loop l = record {
  same : l.board ≡ l.fn.board;
  count : length l.readers.items ≡ l.counter;
  len : vec_len l.readers ≡ l.counter;
  rest : All (IsResting l.fn.board.store) l.readers.items;
  room : l.count ≤ vec_capacity l.readers;
}

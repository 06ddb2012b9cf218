use Rattle.std.proofs.Common.{◌≡◌, ◌≤◌, drop, is_some, true}
use Rattle.fp_machine.specs.Split.{share_at, total_after}
use Rattle.fp_machine.specs.Table.{pairs_view}
use Rattle.fp_machine.proofs.table.share_at.Given as goal

-- what is left decides, and is pairs alone
abbrev pub invariant-loop-share : goal.invariant-loop-share
invariant-loop-share l = record {
  within : l.sum ≤ l.place;
  left : share_at l.place l.sum (pairs_view (drop l.share-index l.shares)) ≡ share_at l.place 0 (pairs_view l.shares);
  are_pairs : is_some (total_after l.sum (pairs_view (drop l.share-index l.shares))) ≡ true;
}

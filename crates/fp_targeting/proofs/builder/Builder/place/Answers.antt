use Rattle.std.proofs.Common.{◌≡◌, ◌<◌, ◌^◌, length, refl, subst, arith}
use Rattle.fp_base.specs.TreeView.{tree_view}
use Rattle.fp_operators.specs.FromJson.{data_of}
use Rattle.fp_targeting.specs.Emits.{Stands}
use Rattle.fp_targeting.proofs.Leaves.{datum-pushed, pooled-placed, stands-placed}
use Rattle.fp_targeting.proofs.builder.Builder.place.Goals as goal

pub returns-in-Some : goal.returns-in-Some
returns-in-Some c =
    let d = data_of (tree_view c.args.json.now) in
    stands-placed {a = c.args.self.now.code}
    (subst (λ ds. Stands c.in-Some.there d ds) c.as_slice.ensures.value c.in-Some.ensures) c.as_place.ensures

pub returns : goal.returns
returns c =
    let d = data_of (tree_view c.args.json.now) in
    let pool = c.args.self.now.code.pool in
    let long : c.len.result ≡ length pool.items = grind (arith, pool.ok, c.len.ensures) in
    pooled-placed
    (record {
      steps = refl;
      pool =
          datum-pushed pool.items c.push.new.self.items c.in_ok-from_tree.field-0 d c.in_ok-push.ensures.items
          c.in_ok-from_tree.ensures;
      room = refl;
    })
    (subst (λ n. n < 2 ^ 16 → c.as_place-place.result ≡ n) long c.as_place-place.ensures)

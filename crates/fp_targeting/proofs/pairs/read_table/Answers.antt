use Rattle.std.proofs.Common.{◌≡◌, ◌+◌, ◌++◌, ◌∷◌, [], None, Some, drop, map, option_map, unwrap_or, sym, ap, ◌∙◌, arith}
use Rattle.std.proofs.lemmas.List.{map-append}
use Rattle.fp_base.proofs.Turns.{drop-here}
use Rattle.fp_base.specs.TreeView.{tree_view, tree_items}
use Rattle.fp_operators.specs.declared.datum.Datum.TheVariants as Datum
use Rattle.fp_targeting.specs.Compile.{rules_from, rule_of}
use Rattle.fp_machine.specs.Split.{within_limit}
use Rattle.fp_targeting.specs.Pairs.{pair_written, pair_view}
use Rattle.fp_machine.specs.Table.{share_rule}
use Rattle.fp_machine.specs.declared.table.Share.{Share}
use Rattle.fp_targeting.proofs.Tables.{total_left, behind, is-pair, no-pair, left-none, left-past, kept, same}
use Rattle.fp_targeting.proofs.Tables.{weight-turn, known-turn, read-turn, share_rule-Text}
use Rattle.fp_targeting.proofs.pairs.read_table.Goals as goal

pub returns-in_default-clause-none : goal.returns-in_default-clause-none
returns-in_default-clause-none c = λ none rs e.
    let xs = c.args.pairs.now in
    let i = c.loop-json.json-index in
    let x = c.json-item.result in
    let here = drop-here xs i x (omega arith) c.json-item.is in
    let no : pair_written (tree_view x) ≡ None = sym c.pair_in.ensures ∙ ap (option_map pair_view) c.in_default.is in
    sym (ap (total_left 0) e) ∙ sym c.loop-json.invariant.weight
    ∙ ap (λ ys. total_left c.loop-json.total (rules_from (tree_items ys))) here
    ∙ left-none c.loop-json.total (rule_of (tree_view x)) (rules_from (tree_items (drop (i + 1) xs))) (no-pair (tree_view x) no)

pub returns-in_default-added-clause-none : goal.returns-in_default-added-clause-none
returns-in_default-added-clause-none c = λ none rs e.
    let xs = c.args.pairs.now in
    let i = c.loop-json.json-index in
    let x = c.json-item.result in
    let sum = c.loop-json.total in
    let p = pair_view c.in-Some.pair in
    let here = drop-here xs i x (omega arith) c.json-item.is in
    let pair = is-pair (tree_view x) p (sym c.pair_in.ensures ∙ ap (option_map pair_view) c.in-Some.is) in
    let past : within_limit (Some (sum + unwrap_or p.1 1)) ≡ None =
    ap (λ w. within_limit (Some (sum + w))) (sym c.unwrap_or.ensures) ∙ sym c.added.ensures ∙
    c.in_default-added.is in
    sym (ap (total_left 0) e) ∙ sym c.loop-json.invariant.weight
    ∙ weight-turn sum xs i x p here pair
    ∙ left-past (sum + unwrap_or p.1 1) (rules_from (tree_items (drop (i + 1) xs))) past

pub loop-json-preserved : goal.loop-json-preserved
loop-json-preserved c =
    let xs = c.args.pairs.now in
    let i = c.loop-json.json-index in
    let x = c.json-item.result in
    let sum = c.loop-json.total in
    let p = pair_view c.in-Some.pair in
    let done = map share_rule c.loop-json.shares.items in
    let left = rules_from (tree_items (drop (i + 1) xs)) in
    let name = c.in_ok-from_str.field-0 in
    let s : Share = record { name = Datum.Text name; weight = c.in-Some.pair.weight } in
    let here = drop-here xs i x (omega arith) c.json-item.is in
    let pair = is-pair (tree_view x) p (sym c.pair_in.ensures ∙ ap (option_map pair_view) c.in-Some.is) in
    let more : Some c.in-Some-added.more ≡ within_limit (Some (sum + unwrap_or p.1 1)) =
    sym c.in-Some-added.is ∙ c.added.ensures ∙ ap (λ w. within_limit (Some (sum + w))) c.unwrap_or.ensures in record {
      known = known-turn xs i x p here pair ∙ c.loop-json.invariant.known;
      read = ap (λ ys. behind ys left) {y = done ++ share_rule s ∷ []}
          (ap (map share_rule) c.in_ok-push.ensures.items ∙ map-append share_rule c.loop-json.shares.items (s ∷ []))
          ∙ ap (λ r. behind (done ++ r ∷ []) left) (share_rule-Text name p.0 p.1 c.in_ok-from_str.ensures)
          ∙ read-turn done xs i x p here pair
          ∙ c.loop-json.invariant.read;
      within = kept (sum + unwrap_or p.1 1) c.in-Some-added.more more;
      weight = ap (λ n. total_left n left) (same (sum + unwrap_or p.1 1) c.in-Some-added.more more)
          ∙ sym (weight-turn sum xs i x p here pair)
          ∙ c.loop-json.invariant.weight;
    }

use Rattle.std.proofs.Common.{◌≡◌, ◌+◌, [], ◌∷◌, ◌++◌, drop, map, take, take_all, Ok, sym, ap, ◌∙◌, subst, arith}
use Rattle.std.proofs.lemmas.List.{map-append}
use Rattle.std.specs.Map.{keys_of}
use Rattle.fp_base.specs.Answer.{Gives}
use Rattle.fp_base.specs.Ordered.{MembersAreOrdered}
use Rattle.fp_base.specs.TreeView.{Entry, tree_view, tree_members}
use Rattle.fp_base.proofs.Turns.{drop-here, take-here}
use Rattle.fp_definition.specs.Key.{key_bytes}
use Rattle.fp_imports.specs.Document.{flag_of, flags_of}
use Rattle.fp_imports.specs.Faults.{Tells, seen_flag}
use Rattle.fp_imports.proofs.Flags.{after_flags, after_flags-one, flags-ok, keys-one, flag-named, ascending_keys}
use Rattle.fp_imports.proofs.Walks.{names, names-one}
use Rattle.fp_imports.proofs.document.flags_of.Goals as goal

pub loop-flag-preserved : goal.loop-flag-preserved
loop-flag-preserved c =
    let evaluators = tree_members c.args.evaluators.now in
    let l = c.loop-flag in
    let xs = c.args.flags.now in
    let i = l.flag-index in
    let e : Entry = c.flag-item.result in
    let done = take i xs in
    let left = drop (i + 1) xs in
    let k = e.0.now in
    let d = tree_view e.1 in
    let f = seen_flag c.in-Ok.made in
    let others = flags_of evaluators (tree_members left) in
    let here : drop i xs ≡ e ∷ left = drop-here xs i e (omega arith) c.flag-item.is in
    let so_far : take (i + 1) xs ≡ done ++ e ∷ [] = take-here xs i e (omega arith) c.flag-item.is in
    let one : flag_of evaluators k d ≡ Ok f =
    subst (λ r. Gives seen_flag Tells r (flag_of evaluators k d)) c.in-Ok.is c.flag_named.ensures in
    let items = c.in_ok-push-in-Ok.ensures.items in (
      ap (λ fs. map key_bytes (keys_of fs)) items ∙ keys-one l.found.items c.in-Ok.made
          ∙ ap (λ ns. ns ++ f.0 ∷ []) l.invariant.0 ∙
          ap (λ n. names (tree_members done) ++ n ∷ []) (flag-named evaluators k d f one) ∙
          sym (names-one done e) ∙ ap (λ es. names (tree_members es)) (sym so_far),
      (subst (λ es. MembersAreOrdered (tree_members es)) here l.invariant.1).1,
      ap (λ fs. after_flags fs others) (ap (map seen_flag) items ∙ map-append seen_flag l.found.items (c.in-Ok.made ∷ []))
          ∙ after_flags-one (map seen_flag l.found.items) f others
          ∙ ap (after_flags (map seen_flag l.found.items))
          (sym (ap (λ es. flags_of evaluators (tree_members es)) here ∙
          flags-ok evaluators k d (tree_members left) f one))
          ∙ l.invariant.2,
    )

pub returns-clause-ascending : goal.returns-clause-ascending
returns-clause-ascending c =
    let l = c.loop-flag in
    let xs = c.args.flags.now in
    ascending_keys (keys_of l.found.items) (tree_members xs)
    (l.invariant.0 ∙ ap (λ es. names (tree_members es)) (take_all l.flag-index xs (omega arith))) c.requires.flags.0

use Rattle.std.proofs.Common.{◌+◌, ◌∷◌, ◌++◌, [], drop, option_map, sym, ap, subst, ◌∙◌, true, arith}
use Rattle.std.proofs.lemmas.Bool.{and_parts}
use Rattle.std.proofs.lemmas.List.{drop_all}
use Rattle.json.specs.Print.{quoted}
use Rattle.serde_json.specs.Data.{member, no_members}
use Rattle.serde_json.specs.Written.{comma_if, compact_text, members_text}
use Rattle.fp_base.specs.Printed.{AreMembersPrinted}
use Rattle.fp_base.specs.TreeView.{Entry, tree_view, tree_members}
use Rattle.fp_base.specs.Whole.{is_whole, members_whole}
use Rattle.fp_base.proofs.Printed.{behind_name, brace_before, member_printed, no_members_printed}
use Rattle.fp_base.proofs.Turns.{drop-here}
use Rattle.fp_definition.specs.Spelled.{AreNoted}
use Rattle.fp_definition.proofs.Spelled.{noted_more}
use Rattle.fp_definition.proofs.spelling.put_members.Goals as goal

pub loop-member-preserved : goal.loop-member-preserved
loop-member-preserved c =
    let xs = c.args.members.now in
    let i = c.loop-member.member-index in
    let m : Entry = c.member-item.result in
    let l = c.loop-member in
    let all = tree_members xs in
    let rest = tree_members (drop (i + 1) xs) in
    let here = ap tree_members (drop-here xs i m (omega arith) c.member-item.is) in
    let name = comma_if l.later ++ (quoted m.0.now ++ 58 ∷ []) in
    let old = l.spelled in let vs = option_map (λ v. v.items) old.variants in (
      (and_parts (is_whole (tree_view m.1)) (members_whole rest) (ap members_whole (sym here) ∙ l.invariant.0)).1,
      behind_name old.text.items _ _ (comma_if l.later) (quoted m.0.now) (compact_text (tree_view m.1))
          (members_text true rest) c.in_ok-put_name.ensures.text c.in_ok-put_member.ensures.text
          ∙ ap (λ ds. old.text.items ++ members_text l.later ds) (sym here) ∙ l.invariant.1,
      λ h. l.invariant.2 (subst (AreMembersPrinted l.later) (sym here)
          (member_printed l.later m.0.now (tree_view m.1) rest c.in_ok-put_name.ensures.utf8
          c.in_ok-put_member.ensures.printed h)),
      λ h. c.in_ok-put_member.ensures.noted rest all
          (subst (λ ys. AreNoted ys vs old.places (member m.0.now (tree_view m.1) rest) all) (sym c.in_ok-put_name.ensures.text)
          (noted_more old.text.items name vs old.places (member m.0.now (tree_view m.1) rest) all
          (subst (λ ms. AreNoted old.text.items vs old.places ms all) here (l.invariant.3 h)))),
    )

pub returns-clause-printed : goal.returns-clause-printed
returns-clause-printed c =
    let l = c.loop-member in
    let none = drop_all l.member-index c.args.members.now (omega arith) in
    let all = l.invariant.2 (subst (λ xs. AreMembersPrinted l.later (tree_members xs)) (sym none) (no_members_printed l.later)) in
    (brace_before _ all.0, all.1)

pub returns-clause-noted : goal.returns-clause-noted
returns-clause-noted c = λ h.
    let l = c.loop-member in let all = tree_members c.args.members.now in
    let none = ap tree_members (drop_all l.member-index c.args.members.now (omega arith)) in
    let old = c.args.spelled.now in
    let begun = subst (λ ys. AreNoted ys (option_map (λ v. v.items) old.variants) old.places all all) (sym c.in_ok-push.ensures.items)
    (noted_more old.text.items (123 ∷ []) (option_map (λ v. v.items) old.variants) old.places all all h) in
    subst (λ ys. AreNoted ys (option_map (λ v. v.items) l.spelled.variants) l.spelled.places no_members all)
    (sym c.in_ok-push-2.ensures.items)
    (noted_more l.spelled.text.items (125 ∷ []) (option_map (λ v. v.items) l.spelled.variants) l.spelled.places no_members all
    (subst (λ ms. AreNoted l.spelled.text.items (option_map (λ v. v.items) l.spelled.variants) l.spelled.places ms
    all) none (l.invariant.3 begun)))

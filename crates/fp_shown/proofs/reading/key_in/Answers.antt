use Rattle.std.proofs.Common.{sym, ap, ◌∙◌, true≢false}
use Rattle.std.specs.Option.{option_copied, option_map}
use Rattle.std.specs.Prelude.{is_some}
use Rattle.std.proofs.lemmas.Bool.{false≢true}
use Rattle.fp_base.specs.TreeView.{tree_view}
use Rattle.fp_definition.specs.Key.{is_key}
use Rattle.fp_shown.proofs.Ends.{same_some}
use Rattle.fp_shown.proofs.Names.{not_none, text_read, too_long}
use Rattle.fp_shown.proofs.reading.key_in.Goals as goal

pub returns-then-name-gt-LONGEST_NAME-clause-refused :
    goal.returns-then-name-gt-LONGEST_NAME-clause-refused
returns-then-name-gt-LONGEST_NAME-clause-refused c = λ _ key is utf8 named.
    too_long c.args.name.now key c.if-name-gt-LONGEST_NAME.true is named

pub returns-in_default-clause-refused : goal.returns-in_default-clause-refused
returns-in_default-clause-refused c = λ _ key is utf8 named.
    not_none _ c.args.name.now key c.in_ok-tree.ensures.value
    (ap (option_map tree_view) c.in_default.is) utf8 named

pub returns-in_default-text_of-clause-refused : goal.returns-in_default-text_of-clause-refused
returns-in_default-text_of-clause-refused c = λ _ key is utf8 named.
    let read = sym (ap (option_map tree_view) c.in-Some.is) ∙ c.in_ok-tree.ensures.value in
    let told = text_read
    (tree_view c.in-Some.tree) _ c.args.name.now key read c.text_of.ensures utf8 named in
    absurd (false≢true (ap is_some (sym (ap option_copied c.in_default-text_of.is) ∙ told)))

pub returns-clause-refused : goal.returns-clause-refused
returns-clause-refused c = λ none key is utf8 named.
    let read = sym (ap (option_map tree_view) c.in-Some.is) ∙ c.in_ok-tree.ensures.value in
    let told = text_read
    (tree_view c.in-Some.tree) _ c.args.name.now key read c.text_of.ensures utf8 named in
    let same = same_some c.in-Some-text_of.text.now key (sym (ap option_copied c.in-Some-text_of.is)
    ∙ told) in
    absurd (true≢false (sym is ∙ ap is_key (sym same) ∙ c.key_of.ensures.refused none))

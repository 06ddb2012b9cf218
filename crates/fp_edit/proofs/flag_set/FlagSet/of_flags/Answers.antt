use Rattle.std.proofs.Common.{◌+◌, ℕ, List, rules, true≢false, sym, ap, subst, ◌∙◌}
use Rattle.std.specs.BTreeMap.{IsFromIterResult}
use Rattle.std.specs.FinMap as fin
use Rattle.fp_definition.specs.Key.{flag_cmp}
use Rattle.fp_definition.specs.declared.key.FlagKey.{FlagKey}
use Rattle.fp_documents.specs.Entries.{entries_of, flags_of}
use Rattle.fp_documents.specs.declared.flags.Flag.{Flag}
use Rattle.fp_documents.specs.declared.flags.TheConstants.{IMAGE_HEAD}
use Rattle.fp_edit.specs.Flags.{State, IsTallied, total_cost}
use Rattle.fp_edit.proofs.AtOnce.{kept-all, made_of, shown_by}
use Rattle.fp_edit.proofs.flag_set.FlagSet.of_flags.Goals as goal

pub invariant_of-result : goal.invariant_of-result
invariant_of-result c =
    let xs = c.args.flags.items in
    let n = c.in_ok-flags.flags in
    let made : IsFromIterResult flag_cmp xs n = search rules in
    let size = c.size_of_flags-size.ensures
    ∙ ap (λ (es : List (FlagKey × Flag)). IMAGE_HEAD + total_cost (entries_of es)) c.deref.ensures.value in (
      made.1,
      subst (IsTallied (flags_of n.entries) c.args.revision c.args.limit) (sym size)
          (kept-all (flags_of n.entries) c.args.revision c.args.limit xs
          (shown_by xs n made c.requires.ascending) c.requires.numbered c.requires.changed c.requires.few c.requires.room),
      λ on. absurd (true≢false (sym on)),
    )

pub returns-clause-made : goal.returns-clause-made
returns-clause-made c =
    let made : IsFromIterResult flag_cmp c.args.flags.items c.in_ok-flags.flags = search rules in
    ap (λ (es : List (List ℕ × Flag)). let s : State = record {
      flags = fin.from_entries es;
      revision = c.args.revision;
      limit = c.args.limit;
    } in s) (made_of c.args.flags.items c.in_ok-flags.flags made c.requires.ascending)

pub returns-clause-entries : goal.returns-clause-entries
returns-clause-entries c =
    let made : IsFromIterResult flag_cmp c.args.flags.items c.in_ok-flags.flags = search rules in
    shown_by c.args.flags.items c.in_ok-flags.flags made c.requires.ascending

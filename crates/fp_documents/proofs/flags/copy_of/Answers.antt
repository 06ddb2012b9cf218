use Rattle.std.proofs.Common.{◌≡◌, T, ◌++◌, sym, ap, subst, ◌∙◌, rules}
use Rattle.std.proofs.lemmas.List.{append-nil}
use Rattle.std.specs.BTreeMap.{IsFromIterResult}
use Rattle.std.specs.FinMap as fin
use Rattle.std.specs.FinMap.Entries.{is_sorted}
use Rattle.fp_base.specs.Bytes.{bytes_cmp}
use Rattle.fp_definition.specs.Key.{flag_cmp, key_bytes}
use Rattle.fp_documents.specs.Entries.{entries_of}
use Rattle.fp_documents.proofs.Maps.{Entry, copied_more, entries-collected, is_sorted-mapped}
use Rattle.fp_documents.proofs.flags.copy_of.Goals as goal

pub loop-key-preserved : goal.loop-key-preserved
loop-key-preserved c =
    let k = key_bytes c.in-Some.key.now in
    let f = c.in-Some.flag.now in
    let changed = f.changed in
    let e : Entry = (c.in_ok-try_copy-2.field-0, record { definition = c.in_ok-try_copy.field-0; changed = changed }) in
    let rest = entries_of c.next.new.self in
    let left = ap (λ es. entries_of c.loop-key.pairs.items ++ entries_of es) (sym c.in-Some.ensures.steps) ∙ c.loop-key.invariant in
    ap (λ es. entries_of es ++ rest) c.in_ok-push.ensures.items
    ∙ copied_more c.loop-key.pairs.items e k f rest (entries_of c.args.flags.now.entries) c.in_ok-try_copy-2.ensures
    (ap (λ d. record { definition = d; changed = changed }) c.in_ok-try_copy.ensures) left

pub returns-clause-copied : goal.returns-clause-copied
returns-clause-copied c =
    let xs = c.loop-key.pairs.items in
    let all = c.args.flags.now.entries in
    let n = c.in_ok-collect.field-0 in
    let made : IsFromIterResult flag_cmp xs n = search rules in
    let same : entries_of xs ≡ entries_of all =
    sym (append-nil (entries_of xs)) ∙ ap (λ es. entries_of xs ++ entries_of es) (sym c.in-None.ensures.steps.0) ∙ c.loop-key.invariant in
    ap fin.from_entries (entries-collected xs n made
    (subst (λ es. T (is_sorted bytes_cmp es)) (sym same) (is_sorted-mapped all c.iter-key-items.ensures.ordered))
    ∙ same)

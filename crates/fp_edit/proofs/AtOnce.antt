-- A set that is made at once, of flags in order.
use Rattle.std.proofs.Common.{◌≡◌, T, ◌&&◌, ℕ, ◌+◌, ◌<◌, ◌≤◌, List, [], ◌∷◌, length, Less, Bool, true, false, is_eq, Some}
use Rattle.std.proofs.Common.{is_some, sym, ap, subst, ◌∙◌, true≢false, arith}
use Rattle.std.specs.List.{AllByRecursion}
use Rattle.std.specs.List.Sorted.{IsStrictlySortedBy}
use Rattle.std.specs.BTreeMap.{BTreeMap, IsFromIterResult}
use Rattle.std.specs.Map.{keys_of}
use Rattle.std.specs.Ordering.{is_lt}
use Rattle.std.proofs.lemmas.List.{length-map}
use Rattle.std.specs.FinMap as fin
use Rattle.std.specs.FinMap.Entries.{find, below_all, is_sorted}
use Rattle.fp_base.specs.Bytes.{bytes_cmp}
use Rattle.fp_definition.specs.Key.{flag_cmp}
use Rattle.fp_definition.specs.declared.key.FlagKey.{FlagKey}
use Rattle.fp_documents.specs.Entries.{entry_of, entries_of, flags_of}
use Rattle.fp_documents.proofs.Maps.{Entry, entries-collected, entries-flags_of}
use Rattle.fp_edit.specs.Flags.{Flags, IsChangedBy, IsTallied, total_cost}
use Rattle.fp_edit.specs.declared.edit.TheConstants.{REVISIONS_END}
use Rattle.fp_edit.specs.declared.flag_set.TheConstants.{MOST_FLAGS}
use Rattle.fp_documents.specs.declared.flags.Flag.{Flag}
use Rattle.fp_documents.specs.declared.flags.TheConstants.{IMAGE_HEAD}
use Rattle.fp_edit.proofs.Changed.{after_insert}

both : (a b : Bool) → T a → T b → T (a && b)
both true b p q = q
both false b p q = p

below : (x : List ℕ) (es : List (List ℕ × Flag)) → AllByRecursion (λ y. bytes_cmp x y ≡ Less) (keys_of es) →
    T (below_all bytes_cmp x es)
below x [] h = tt
below x (e ∷ es) h = both _ _ (subst (λ o. T (is_lt o)) (sym h.0) tt) (below x es h.1)

pub sorted_image : (es : List (List ℕ × Flag)) → IsStrictlySortedBy bytes_cmp (keys_of es) → T (is_sorted bytes_cmp es)
unfolding IsStrictlySortedBy
sorted_image [] h = tt
sorted_image (e ∷ es) h = both _ _ (below e.0 es h.0) (sorted_image es h.1)

-- a map that is made of flags in order has them
pub made_of : (xs : List Entry) (n : BTreeMap FlagKey Flag) → IsFromIterResult flag_cmp xs n →
    IsStrictlySortedBy bytes_cmp (keys_of (entries_of xs)) → entries_of n.entries ≡ entries_of xs
made_of xs n made ascending = entries-collected xs n made (sorted_image (entries_of xs) ascending)

pub shown_by : (xs : List Entry) (n : BTreeMap FlagKey Flag) → IsFromIterResult flag_cmp xs n →
    IsStrictlySortedBy bytes_cmp (keys_of (entries_of xs)) → fin.entries (flags_of n.entries) ≡ entries_of xs
shown_by xs n made ascending = entries-flags_of n.entries made.1 ∙ made_of xs n made ascending

-- what is found among flags is one of them
changed-found : (r : ℕ) (k : List ℕ) (f : Flag) (es : List (List ℕ × Flag)) → AllByRecursion (λ e. IsChangedBy r e.1) es →
    find bytes_cmp k es ≡ Some f → IsChangedBy r f
changed-found r k f [] h is = absurd (true≢false (sym (ap is_some is)))
changed-found r k f (e ∷ es) h is =
    after_insert (is_eq (bytes_cmp k e.0)) (find bytes_cmp k es) r e.1 f (changed-found r k f es h.1) h.0 is

pub kept-all : (m : Flags) (revision limit : ℕ) (xs : List Entry) → fin.entries m ≡ entries_of xs →
    revision < REVISIONS_END → AllByRecursion (λ e. IsChangedBy revision e.1) (entries_of xs) →
    length xs ≤ MOST_FLAGS → IMAGE_HEAD + total_cost (entries_of xs) ≤ limit
    → IsTallied m revision limit (IMAGE_HEAD + total_cost (entries_of xs))
kept-all m revision limit xs is some changed few room = record {
  size = ap (λ es. IMAGE_HEAD + total_cost es) (sym is);
  few = let count = fin.len-entries m ∙ ap length is ∙ length-map xs entry_of in omega (arith, count, few);
  numbered = some;
  within = λ _. room;
  changed = λ k f e. changed-found revision k f (entries_of xs) changed
      (ap (find bytes_cmp k) (sym is) ∙ sym (fin.get-entries m k) ∙ e);
}

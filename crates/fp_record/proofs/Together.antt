-- What changes owe that are made together.
use Rattle.std.proofs.Common.{◌≡◌, ℕ, ◌+◌, Bool, true, false, cond, not, leb, ◌||◌, List, [], ◌∷◌, ◌++◌, length, map}
use Rattle.std.proofs.Common.{Option, Some, None, refl, sym, ap, ◌∙◌, arith, inl, inr}
use Rattle.std.specs.Prelude.{bytes_eq, is_none}
use Rattle.std.specs.List.{AllByRecursion}
use Rattle.std.proofs.lemmas.Bool.{and_parts, cases_lt, le-leb, lt-leb, or_from, or_parts}
use Rattle.std.proofs.lemmas.Cmp.{nat_list_eq_equiv}
use Rattle.std.proofs.lemmas.List.Recursion.{or_push}
use Rattle.fp_edit.specs.Changes.{are_distinct, is_among, is_count, set_fault, set_len}
use Rattle.fp_edit.specs.Parts.{Part, part_key}
use Rattle.fp_edit.specs.declared.changes.SetFault.{SetFault}
use Rattle.fp_edit.specs.declared.changes.SetFault.TheVariants.{BadCount, RepeatedKey, TooLong}
use Rattle.fp_edit.specs.declared.changes.TheConstants.{LONGEST_EDIT}
use Rattle.fp_record.proofs.Texts.{first_met}

-- ---- keys

-- none of these keys is there before
abbrev pub AreNew : List (List ℕ) → List (List ℕ) → Type 0
AreNew before keys = AllByRecursion (λ k. is_among k before ≡ false) keys

-- with one more in front of them
pub among_more : (k : List ℕ) (before : List (List ℕ)) (key : List ℕ) →
    is_among k (before ++ key ∷ []) ≡ (is_among k before || bytes_eq k key)
among_more k before key = or_push (is_among k) (bytes_eq k) refl (λ l ls. refl) before key

pub all_new : (keys : List (List ℕ)) → AreNew [] keys
all_new [] = tt
all_new (k ∷ keys) = (refl, all_new keys)

pub new_behind : (before : List (List ℕ)) (key : List ℕ) (keys : List (List ℕ)) → AreNew (before ++ key ∷ []) keys →
    AreNew before keys × (is_among key keys ≡ false)
new_behind before key [] h = (tt, refl)
new_behind before key (k ∷ keys) h =
    let here = or_parts (is_among k before) (bytes_eq k key) (sym (among_more k before key) ∙ h.0) in
    let rest = new_behind before key keys h.1 in
    ((here.0, rest.0), or_from (bytes_eq key k) (is_among key keys) (nat_list_eq_equiv.symm key k ∙ here.1) rest.1)

pub new_with : (before : List (List ℕ)) (key : List ℕ) (keys : List (List ℕ)) → AreNew before keys →
    is_among key keys ≡ false → AreNew (before ++ key ∷ []) keys
new_with before key [] h e = tt
new_with before key (k ∷ keys) h e =
    let here = or_parts (bytes_eq key k) (is_among key keys) e in (
      among_more k before key ∙ or_from (is_among k before) (bytes_eq k key) h.0
          (nat_list_eq_equiv.symm k key ∙ here.0),
      new_with before key keys h.1 here.1,
    )

pub distinct_with : (key : List ℕ) (keys : List (List ℕ)) → is_among key keys ≡ false → are_distinct keys ≡ true →
    are_distinct (key ∷ keys) ≡ true
distinct_with key keys new distinct = rw (new, distinct) refl

pub distinct_parts : (key : List ℕ) (keys : List (List ℕ)) → are_distinct (key ∷ keys) ≡ true →
    (is_among key keys ≡ false) × (are_distinct keys ≡ true)
distinct_parts key keys e = let both = and_parts (not (is_among key keys)) (are_distinct keys) e in
    (by_not (is_among key keys) both.0, both.1)
  where
    by_not : (b : Bool) → not b ≡ true → b ≡ false
    by_not true h = absurd cc
    by_not false h = refl

-- ---- sets

-- all tests were met
pub record Together (parts : List Part) : Type 0 where
  pub count : is_count (length parts) ≡ true
  pub distinct : are_distinct (map part_key parts) ≡ true
  pub short : leb (set_len parts) LONGEST_EDIT ≡ true

pub together : (parts : List Part) → set_fault parts ≡ None → Together parts
together parts e =
    let short : List (Bool × SetFault) = (leb (set_len parts) LONGEST_EDIT, TooLong) ∷ [] in
    let distinct : List (Bool × SetFault) = (are_distinct (map part_key parts), RepeatedKey) ∷ short in
    let counted = first_met (is_count (length parts), BadCount) distinct (ap is_none e) in
    let different = first_met (are_distinct (map part_key parts), RepeatedKey) short counted.1 in
    record { count = counted.0; distinct = different.0; short = (first_met (leb (set_len parts) LONGEST_EDIT, TooLong) [] different.1).0 }

-- with that number and those keys, the length alone can be wrong
short_is : (parts : List Part) → is_count (length parts) ≡ true → are_distinct (map part_key parts) ≡ true →
    is_none (set_fault parts) ≡ leb (set_len parts) LONGEST_EDIT
short_is parts count distinct = rw (count, distinct) (by_length (leb (set_len parts) LONGEST_EDIT))
  where
    by_length : (b : Bool) → is_none (cond b None (Some TooLong)) ≡ b
    by_length true = refl
    by_length false = refl

-- a set that read so many bytes is short where it owes nothing more
pub read_short : (kind end : ℕ) (parts : List Part) → end ≡ kind + set_len parts → is_count (length parts) ≡ true →
    are_distinct (map part_key parts) ≡ true → leb end (kind + LONGEST_EDIT) ≡ is_none (set_fault parts)
read_short kind end parts long count distinct = by_length ∙ sym (short_is parts count distinct)
  where
    by_length : leb end (kind + LONGEST_EDIT) ≡ leb (set_len parts) LONGEST_EDIT
    by_length = elim (cases_lt LONGEST_EDIT (set_len parts)) [
      | inl lt ↦ lt-leb end (kind + LONGEST_EDIT) (omega (arith, long, lt)) ∙ sym (lt-leb (set_len parts) LONGEST_EDIT lt)
      | inr le ↦ le-leb end (kind + LONGEST_EDIT) (omega (arith, long, le)) ∙ sym (le-leb (set_len parts) LONGEST_EDIT le)
    ]

pub nothing : {A : Type 0} (o : Option A) → is_none o ≡ true → o ≡ None
nothing None e = refl
nothing (Some x) e = absurd cc

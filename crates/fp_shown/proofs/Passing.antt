-- The steps of a reading: its beginning, one flag more, and its end.
use Rattle.std.proofs.Common.{◌≡◌, ◌≢◌, ◌≤◌, ◌+◌, T, ℕ, List, [], ◌∷◌, ◌++◌, length, map, Bool}
use Rattle.std.proofs.Common.{true, false, Option, Some, None, refl, sym, ap, subst, ◌∙◌}
use Rattle.std.proofs.Common.{append_assoc, append-nil, arith, true≢false}
use Rattle.std.specs.Prelude.{All, MatchOption, bytes_eq}
use Rattle.std.specs.FinMap as fin
use Rattle.std.specs.FinMap.Entries.{is_sorted}
use Rattle.std.proofs.lemmas.List.{length-append, nil_from_length}
use Rattle.std.proofs.lemmas.List.Elements.{All-head, All-tail}
use Rattle.std.proofs.lemmas.Slice.Eq.{bytes_eq-Decides}
use Rattle.json.specs.Print.{quoted}
use Rattle.serde_json.specs.Data.{Data, string}
use Rattle.serde_json.specs.Find.{as_str}
use Rattle.serde_json.specs.Written.{comma_if}
use Rattle.fp_base.specs.Bytes.{bytes_cmp}
use Rattle.fp_base.specs.Json.{json_of}
use Rattle.fp_definition.specs.Valid.{is_definition_text}
use Rattle.fp_documents.specs.Outline.{rest_text}
use Rattle.fp_documents.specs.declared.flags.Flag.{Flag}
use Rattle.fp_edit.specs.Flags.{Flags, State}
use Rattle.fp_shown.specs.Reading.{IsMember, PutsFlag, SpellsFlag, told, told_of}
use Rattle.fp_shown.specs.Sets.{IsFlag, IsLawful}
use Rattle.fp_shown.specs.declared.members.Member.{Member}
use Rattle.fp_shown.proofs.Ends.{same_some}
use Rattle.fp_shown.proofs.Names.{quoted-reads}
use Rattle.fp_shown.proofs.Standing.{Entry, Standing, not_end, sorted-front, text-first, told-more}

abbrev pub End : List ℕ
End = 125 ∷ 125 ∷ []

-- whether a text is the end
pub is_end : (rest : List ℕ) (b : Bool) → b ≡ bytes_eq rest End → b ≡ true → rest ≡ End
is_end rest b is end = (bytes_eq-Decides rest End).0 (sym is ∙ end)

pub is_more : (rest : List ℕ) (b : Bool) → b ≡ bytes_eq rest End → b ≡ false → rest ≢ End
is_more rest b is more end =
    absurd (true≢false (sym ((bytes_eq-Decides rest End).1 end) ∙ sym is ∙ more))

-- ---- the beginning

abbrev no_flags : Flags
no_flags = fin.empty

entries-none : fin.entries no_flags ≡ []
entries-none =
    nil_from_length (fin.entries no_flags)
    (sym (fin.len-entries no_flags) ∙ fin.len-empty bytes_cmp Flag)

pub begins : (s : State) (flags : Flags) (text : List ℕ) → flags ≡ fin.empty
    → text ≡ rest_text false (fin.entries s.flags) → Standing s flags false text 0
begins s flags text empty is = record {
  front = [];
  left = fin.entries s.flags;
  whole = refl;
  count = refl;
  text = is;
  told = ap told empty ∙ ap (map told_of) entries-none;
}

-- ---- the end

ended_with : (s : State) (flags : Flags) (later : Bool) (rest : List ℕ) (front left : List Entry)
    → fin.entries s.flags ≡ front ++ left
    → rest ≡ rest_text later left → told flags ≡ map told_of front → rest ≡ End
    → told flags ≡ told s.flags
ended_with s flags later rest front [] whole is same end = same
    ∙ ap (map told_of) (sym (whole ∙ append-nil front))
ended_with s flags later rest front (e ∷ es) whole is same end =
    absurd (not_end later e es rest is end)

pub ended : (s : State) (flags : Flags) (later : Bool) (rest : List ℕ) (n : ℕ)
    → Standing s flags later rest n → rest ≡ End → told flags ≡ told s.flags
ended s flags later rest n h end =
    ended_with s flags later rest h.front h.left h.whole h.text h.told end

-- ---- a flag more

-- the next flag, and the text that it begins
pub record HasNext (s : State) (front : List Entry) (later : Bool) (rest : List ℕ) : Type 0 where
  pub flag : Entry
  pub others : List Entry
  pub whole : fin.entries s.flags ≡ front ++ flag ∷ others
  pub lawful : IsFlag s.revision flag
  pub text : rest ≡ comma_if later ++
      (quoted flag.0 ++ 58 ∷ (flag.1.definition ++ rest_text true others))

All-right : (P : Entry → Type 0) (front es : List Entry) → All P (front ++ es) → All P es
All-right P [] es h = h
All-right P (f ∷ front) es h = All-right P front es (All-tail P f (front ++ es) h)

next_of : (s : State) (later : Bool) (rest : List ℕ) (front left : List Entry) → IsLawful s
    → fin.entries s.flags ≡ front ++ left → rest ≡ rest_text later left → rest ≢ End
    → HasNext s front later rest
next_of s later rest front [] lawful whole is more = absurd (more is)
next_of s later rest front (e ∷ es) lawful whole is more =
    let P : Entry → Type 0 = IsFlag s.revision in
    let one = All-head P e es (All-right P front (e ∷ es) (subst (All P) whole lawful.flags)) in
    record {
      flag = e;
      others = es;
      whole = whole;
      lawful = one;
      text = is ∙ text-first later e es one.definition;
    }

pub has_next : (s : State) (flags : Flags) (later : Bool) (rest : List ℕ) (n : ℕ) → IsLawful s
    → (h : Standing s flags later rest n) → rest ≢ End → HasNext s h.front later rest
has_next s flags later rest n lawful h more =
    next_of s later rest h.front h.left lawful h.whole h.text more

-- no set has as many
pub too_many : (s : State) (flags : Flags) (later : Bool) (rest : List ℕ) (n : ℕ) → IsLawful s
    → Standing s flags later rest n → rest ≢ End → 4096 ≤ n → ⊥
too_many s flags later rest n lawful h more many =
    let next = has_next s flags later rest n lawful h more in
    let all = ap length next.whole ∙ length-append h.front (next.flag ∷ next.others) in
    let counted = fin.len-entries s.flags in
    let few = lawful.few in
    let front = h.count in absurd (omega (arith, all, counted, few, front, many))

-- it is found as a member, whose texts are a flag's
pub spells : (s : State) (front : List Entry) (later : Bool) (rest : List ℕ) (m : Member)
    → (next : HasNext s front later rest)
    → IsMember (quoted next.flag.0) next.flag.1.definition (rest_text true next.others) m
    → SpellsFlag m.name.now m.value.now next.flag.0
spells s front later rest m next is = record {
  long = next.lawful.long;
  utf8 = next.lawful.utf8;
  named = is.named;
  definition = ap is_definition_text is.valued ∙ next.lawful.definition;
}

pub some_revision : (s : State) (front : List Entry) (later : Bool) (rest : List ℕ) (revision : ℕ)
    → HasNext s front later rest → s.revision ≡ revision → 1 ≤ revision
some_revision s front later rest revision next at =
    let from = next.lawful.changed.0 in
    let to = next.lawful.changed.1 in omega (arith, from, to, at)

-- the key that was put is its key
pub same_key : (name key other : List ℕ) → json_of name ≡ Some (string other)
    → json_of name ≡ Some (string key) → other ≡ key
same_key name key other a b = same_some other key (ap (λ o. text_in o) (sym a ∙ b))
  where
    text_in : Option Data → Option (List ℕ)
    text_in None = None
    text_in (Some d) = as_str d

pub one_more : (s old new : State) (later : Bool) (rest : List ℕ) (n : ℕ) (m : Member)
    → (h : Standing s old.flags later rest n) → (next : HasNext s h.front later rest)
    → IsMember (quoted next.flag.0) next.flag.1.definition (rest_text true next.others) m
    → PutsFlag old m.name.now m.value.now new → Standing s new.flags true m.rest.now (n + 1)
one_more s old new later rest n m h next is puts =
    let flag : Flag = record { definition = m.value.now; changed = old.revision } in
    let e = next.flag in
    let read = ap json_of is.named ∙ quoted-reads e.0 next.lawful.utf8 in
    let key : puts.key ≡ e.0 = same_key m.name.now e.0 puts.key puts.named read in
    let whole = next.whole ∙ sym (append_assoc h.front (e ∷ []) next.others) in
    let sorted : T (is_sorted bytes_cmp ((h.front ++ e ∷ []) ++ next.others)) =
    subst (λ es. T (is_sorted bytes_cmp es)) whole (fin.entries_sorted s.flags) in
    let more = told-more old.flags h.front e flag h.told is.valued
    (sorted-front (h.front ++ e ∷ []) next.others sorted) in
    let counted = length-append h.front (e ∷ []) in
    let before = h.count in
    record {
      front = h.front ++ e ∷ [];
      left = next.others;
      whole = whole;
      count = omega (arith, counted, before);
      text = is.behind;
      told = ap (λ (t : State). told t.flags) puts.put
          ∙ ap (λ k. told (fin.insert old.flags k flag)) key ∙ more;
    }

-- what is found where a member stands
pub is_found : (o : Option Member) (m : Member) (name value rest : List ℕ) → o ≡ Some m
    → MatchOption o ⊥ (IsMember name value rest) → IsMember name value rest m
is_found o m name value rest is h = subst (λ o. MatchOption o ⊥ (IsMember name value rest)) is h

pub not_found : (o : Option Member) (name value rest : List ℕ) → o ≡ None
    → MatchOption o ⊥ (IsMember name value rest) → ⊥
not_found o name value rest is h = subst (λ o. MatchOption o ⊥ (IsMember name value rest)) is h

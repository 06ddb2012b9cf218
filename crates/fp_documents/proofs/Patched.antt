-- The document of flags, made of that of others: what is left to write while its parts are walked over.
use Rattle.std.proofs.Common.{◌≡◌, ℕ, ◌+◌, ◌-◌, ◌≤◌, ◌<◌, Bool, true, false, true≢false, List, [], ◌∷◌, ◌++◌, length}
use Rattle.std.proofs.Common.{take, drop, set, get_or, codes, length-append, append_assoc, Option, Some, unwrap_or, suc}
use Rattle.std.proofs.Common.{refl, sym, ap, subst, ◌∙◌, arith}
use Rattle.std.specs.Prelude.{if◌then◌else◌, nat_lt}
use Rattle.std.specs.List.{slice_range, splice}
use Rattle.std.proofs.lemmas.Bool.{le-ltb, ltb-false, lt-ltb}
use Rattle.std.proofs.lemmas.Bool.Decides.{Decides-eqb}
use Rattle.std.proofs.lemmas.List.{append-nil, nil_from_length, take_at, drop_at, take_more, drop_more, drop-drop, length-drop}
use Rattle.std.proofs.lemmas.Slice.Eq.{starts_is}
use Rattle.fp_base.proofs.Turns.{set-here}
use Rattle.serde_json.specs.Written.{comma_if, compact_text, members_text}
use Rattle.json.specs.Print.{escape, quoted}
use Rattle.json.specs.Text.{content, plain}
use Rattle.json.proofs.Printed.Strings.{content-escape}
use Rattle.fp_documents.specs.Document.{data_of, members_of}
use Rattle.fp_documents.specs.Outline.{part, part_lengths, head, is_part_of, rest_text, whole_text, changed_after}
use Rattle.fp_documents.specs.Outline.{KeepsKeys, SameButChanged, HasAsMany, Outlines}
use Rattle.fp_documents.specs.declared.document.Document.{Document}
use Rattle.fp_documents.specs.declared.flags.Flag.{Flag}

abbrev Entry : Type 0
Entry = List ℕ × Flag

joined : (a q c m : List ℕ) → a ++ (q ++ 58 ∷ (c ++ m)) ≡ (a ++ (q ++ 58 ∷ c)) ++ m
joined a q c m = sym (append_assoc a (q ++ 58 ∷ c) m ∙ ap (λ l. a ++ l) (append_assoc q (58 ∷ c) m))

-- the text of flags begins with the first one's part
pub first_member : (later : Bool) (e : Entry) (es : List Entry) →
    members_text later (members_of (e ∷ es)) ≡ part later e ++ members_text true (members_of es)
first_member later e es = joined (comma_if later) (quoted e.0) (compact_text (data_of e.1.definition)) (members_text true (members_of es))

first_part : (later : Bool) (e : Entry) (es : List Entry) → rest_text later (e ∷ es) ≡ part later e ++ rest_text true es
first_part later e es = ap (λ l. l ++ 125 ∷ []) (first_member later e es) ∙
    append_assoc (part later e) (members_text true (members_of es)) (125 ∷ [])

pub length-part_lengths : (later : Bool) (es : List Entry) → length (part_lengths later es) ≡ length es
length-part_lengths later [] = refl
length-part_lengths later (e ∷ es) = ap suc (length-part_lengths true es)

-- what stands at a place, and how far it goes
past : (text : List ℕ) (at : ℕ) (xs ys : List ℕ) → drop at text ≡ xs ++ ys → drop (at + length xs) text ≡ ys
past text at xs ys h = sym (drop-drop (length xs) at text) ∙ ap (drop (length xs)) h ∙ drop_at xs ys (length xs) refl

inside : (text : List ℕ) (at : ℕ) (xs ys : List ℕ) → drop at text ≡ xs ++ ys → at ≤ length text → at + length xs ≤ length text
inside text at xs ys h within =
    let some : length text - at ≡ length xs + length ys = sym (length-drop at text) ∙ ap length h ∙ length-append xs ys in omega arith

-- ---- whose part it is

abbrev key_in : Bool → List ℕ → Option (List ℕ)
key_in true text = content plain (drop 2 text)
key_in false text = content plain (drop 1 text)

read_quoted : (k rest : List ℕ) → content plain ((((escape k ++ 34 ∷ []) ++ 58 ∷ []) ++ rest)) ≡ Some k
read_quoted k rest = ap (content plain)
    (append_assoc (escape k ++ 34 ∷ []) (58 ∷ []) rest ∙ append_assoc (escape k) (34 ∷ []) (58 ∷ rest)) ∙
    content-escape k (58 ∷ rest)

-- what a part begins with has one key
read_head : (later : Bool) (k rest : List ℕ) → key_in later (head later k ++ rest) ≡ Some k
read_head true k rest = read_quoted k rest
read_head false k rest = read_quoted k rest

part_is : (later : Bool) (e : Entry) → part later e ≡ head later e.0 ++ compact_text (data_of e.1.definition)
part_is later e =
    let c = compact_text (data_of e.1.definition) in
    sym (append_assoc (comma_if later) (quoted e.0 ++ 58 ∷ []) c ∙ ap (λ l. comma_if later ++ l) (append_assoc (quoted e.0) (58 ∷ []) c))

same_key : (later : Bool) (e : Entry) (k : List ℕ) → is_part_of later k (part later e) ≡ true → e.0 ≡ k
same_key later e k is =
    let rest = drop (length (head later k)) (part later e) in
    let whole : part later e ≡ head later k ++ rest =
    (starts_is Decides-eqb (part later e) (head later k) (is_part_of later k (part later e)) refl).0 is in
    let one : Some e.0 ≡ Some k = sym (read_head later e.0 _) ∙ ap (key_in later) (sym (part_is later e) ∙ whole) ∙
    read_head later k rest in
    ap (λ o. unwrap_or o k) one

own_key : (later : Bool) (e : Entry) (k : List ℕ) → e.0 ≡ k → is_part_of later k (part later e) ≡ true
own_key later e k key =
    (starts_is Decides-eqb (part later e) (head later k) (is_part_of later k (part later e)) refl).1 _
    (part_is later e ∙ ap (λ q. head later q ++ compact_text (data_of e.1.definition)) key)

-- ---- those that were changed, among those that were there

abbrev pub mixed : ℕ → List Entry → List Entry → List Entry
mixed since [] fs = []
mixed since (e ∷ es) [] = []
mixed since (e ∷ es) (f ∷ fs) = (if nat_lt since f.1.changed then f else e) ∷ mixed since es fs

mixed-early : (since : ℕ) (e f : Entry) (es fs : List Entry) → f.1.changed ≤ since → mixed since (e ∷ es) (f ∷ fs) ≡ e ∷ mixed since es fs
mixed-early since e f es fs early = ap (λ b. (if b then f else e) ∷ mixed since es fs) (le-ltb since f.1.changed early)

mixed-late : (since : ℕ) (e f : Entry) (es fs : List Entry) → since < f.1.changed → mixed since (e ∷ es) (f ∷ fs) ≡ f ∷ mixed since es fs
mixed-late since e f es fs late = ap (λ b. (if b then f else e) ∷ mixed since es fs) (lt-ltb since f.1.changed late)

-- where the others are the same, these are all
mixed-same : (since : ℕ) (es fs : List Entry) → SameButChanged since es fs → mixed since es fs ≡ fs
mixed-same since [] [] same = refl
mixed-same since [] (f ∷ fs) same = absurd same
mixed-same since (e ∷ es) [] same = refl
mixed-same since (e ∷ es) (f ∷ fs) same =
    elim (nat_lt since f.1.changed) as (λ b. nat_lt since f.1.changed ≡ b → (if b then f else e) ∷ mixed since es fs ≡ f ∷ fs) [
      | true ↦ λ _. ap (λ l. f ∷ l) (mixed-same since es fs same.2)
      | false ↦ λ is. let here : e ≡ f = same.1 (ltb-false since f.1.changed is) in
          let rest = mixed-same since es fs same.2 in cc (here, rest)
    ] refl

mixed-kept : (since : ℕ) (es fs : List Entry) → HasAsMany since es fs → KeepsKeys since es fs → mixed since es fs ≡ fs
mixed-kept since es fs like keys = mixed-same since es fs (like.1 keys)

early : (since : ℕ) (f : Entry) (fs : List Entry) → changed_after since (f ∷ fs) ≡ 0 → f.1.changed ≤ since
early since f fs none =
    elim (nat_lt since f.1.changed) as
    (λ b. nat_lt since f.1.changed ≡ b → (if b then 1 else 0) + changed_after since fs ≡ 0 → f.1.changed ≤ since) [
      | true ↦ λ is. λ n. absurd (omega (arith, n))
      | false ↦ λ is. λ n. ltb-false since f.1.changed is
    ] refl none

-- where none was changed
mixed-none : (since : ℕ) (es fs : List Entry) → length fs ≡ length es → changed_after since fs ≡ 0 →
    (mixed since es fs ≡ es) × KeepsKeys since es fs
mixed-none since [] [] long none = (refl, tt)
mixed-none since [] (f ∷ fs) long none = absurd (omega (arith, long))
mixed-none since (e ∷ es) [] long none = absurd (omega (arith, long))
mixed-none since (e ∷ es) (f ∷ fs) long none =
    let here = early since f fs none in
    let rest = mixed-none since es fs (omega (arith, long)) (omega (arith, none)) in
    (mixed-early since e f es fs here ∙ ap (λ l. e ∷ l) rest.0, ((λ late. absurd (omega (arith, late, here))), rest.1))

-- ---- a walk

-- flags of which these are left are written, those that were changed in place of those that were
-- there; of the earlier text, of whose flags these are left, what
-- stands in front of `from` is taken over, and in front of `at` are the parts of the flags that
-- were written, and each of the changed ones has its key
pub record Underway (since : ℕ) (text left : List ℕ) (from at : ℕ) (later : Bool) (out lengths : List ℕ)
    (news es all : List Entry) : Type 0 where
  pub olds : List Entry
  pub gap : List ℕ
  pub long : length news ≡ length olds
  pub here : drop at text ≡ rest_text later olds
  pub between : drop from text ≡ gap ++ drop at text
  pub reach : from + length gap ≡ at
  pub within : at ≤ length text
  pub left_is : left ≡ part_lengths later olds
  pub told : out ++ (gap ++ rest_text later (mixed since olds news)) ≡ whole_text (mixed since es all)
  pub measured : lengths ++ part_lengths later (mixed since olds news) ≡ part_lengths false (mixed since es all)
  pub kept : KeepsKeys since olds news → KeepsKeys since es all
  pub still : KeepsKeys since es all → KeepsKeys since olds news

-- nothing is written yet
pub begun : (d : Document) (es news : List Entry) → Outlines d es → HasAsMany d.revision es news
    → Underway d.revision d.text.items d.lengths.items 0 10 false [] [] news es news
begun d es news o like =
    let start : List ℕ = codes "{\"flags\":{" in
    let at : drop 10 d.text.items ≡ rest_text false es = ap (drop 10) o.text ∙ drop_at start (rest_text false es) 10 refl in record {
      olds = es;
      gap = start;
      long = like.0;
      here = at;
      between = o.text ∙ ap (λ l. start ++ l) (sym at);
      reach = refl;
      within = rw o.text (let all = length-append start (rest_text false es) in omega arith);
      left_is = o.lengths;
      told = refl;
      measured = refl;
      kept = λ k. k;
      still = λ k. k;
    }

-- the first flag of those that are left, where the old part at its place is so long
record First (text : List ℕ) (n : ℕ) (left : List ℕ) (at : ℕ) (later : Bool) (fs before : List Entry) : Type 0 where
  old : Entry
  olds : List Entry
  is : before ≡ old ∷ olds
  long : length fs ≡ length olds
  here : drop at text ≡ part later old ++ rest_text true olds
  len : n ≡ length (part later old)
  rest : left ≡ part_lengths true olds
  next : drop (at + n) text ≡ rest_text true olds
  within : at + n ≤ length text

first_of : (text : List ℕ) (n : ℕ) (left : List ℕ) (at : ℕ) (later : Bool) (f : Entry) (fs olds : List Entry) →
    length (f ∷ fs) ≡ length olds
    → drop at text ≡ rest_text later olds → at ≤ length text → n ∷ left ≡ part_lengths later olds → First text n left at later fs olds
first_of text n left at later f fs [] long here within left_is = absurd (omega (arith, long))
first_of text n left at later f fs (e ∷ es) long here within left_is =
    let whole = here ∙ first_part later e es in
    let len : n ≡ length (part later e) = cc left_is in record {
      old = e;
      olds = es;
      is = refl;
      long = omega (arith, long);
      here = whole;
      len = len;
      rest = cc left_is;
      next = ap (λ k. drop (at + k) text) len ∙ past text at (part later e) (rest_text true es) whole;
      within = rw len (inside text at (part later e) (rest_text true es) whole within);
    }

module _ {since : ℕ} {text left : List ℕ} {from at : ℕ} {later : Bool} {out lengths : List ℕ} {news es all : List Entry} where
  -- the same, where it is known what is left
  pub stepped : Underway since text left from at later out lengths news es all →
      {n : ℕ} {rest : List ℕ} {f : Entry} {fs : List Entry} → left ≡ n ∷ rest → news ≡ f ∷ fs
      → Underway since text (n ∷ rest) from at later out lengths (f ∷ fs) es all
  stepped u {f = f} {fs = fs} p q =
      subst (λ l. Underway since text l from at later out lengths (f ∷ fs) es all) p
      (subst (λ l. Underway since text left from at later out lengths l es all) q u)

  -- what lies between the two places
  pub gap_is : (u : Underway since text left from at later out lengths news es all) → take (at - from) (drop from text) ≡ u.gap
  gap_is u =
      let reach = u.reach in
      let n : at - from ≡ length u.gap = omega arith in
      ap (λ k. take k (drop from text)) n ∙ ap (take (length u.gap)) u.between ∙ take_at u.gap (drop at text) (length u.gap) refl

  -- what is left wasn't changed
  pub ended : HasAsMany since es all → Underway since text left from at later out lengths news es all → changed_after since news ≡ 0
      → (out ++ drop from text ≡ whole_text all) × (lengths ++ left ≡ part_lengths false all)
  ended like u none =
      let rest = mixed-none since u.olds news u.long none in
      let same = mixed-kept since es all like (u.kept rest.1) in (
        ap (λ l. out ++ l) (u.between ∙ ap (λ l. u.gap ++ l) (u.here ∙ ap (rest_text later) (sym rest.0))) ∙ u.told ∙ ap whole_text same,
        ap (λ l. lengths ++ l) (u.left_is ∙ ap (part_lengths later) (sym rest.0)) ∙ u.measured ∙ ap (part_lengths false) same,
      )

module _ {since : ℕ} {text left : List ℕ} {from at : ℕ} {later : Bool} {out lengths : List ℕ} {es all : List Entry} where
  -- where none is left
  pub finished : HasAsMany since es all → Underway since text left from at later out lengths [] es all →
      (out ++ drop from text ≡ whole_text all) × (lengths ≡ part_lengths false all)
  finished like u =
      let end = ended like u refl in
      let long = u.long in
      let len = ap length u.left_is ∙ length-part_lengths later u.olds in
      let none : left ≡ [] = nil_from_length left (omega (arith, long, len)) in
      (end.0, sym (append-nil lengths) ∙ ap (λ l. lengths ++ l) (sym none) ∙ end.1)

module _ {since : ℕ} {text left : List ℕ} {from at : ℕ} {later : Bool} {out lengths : List ℕ} {f : Entry} {fs es all : List Entry} where
  -- where a flag is left, so is a length
  pub some_left : Underway since text left from at later out lengths (f ∷ fs) es all → length left ≡ 0 → ⊥
  some_left u none =
      let long = u.long in
      let len = ap length u.left_is ∙ length-part_lengths later u.olds in omega (arith, none, long, len)

module _ {since : ℕ} {text left : List ℕ} {n from at : ℕ} {later : Bool} {out lengths : List ℕ} {f : Entry}
    {fs es all : List Entry} (u : Underway since text (n ∷ left) from at later out lengths (f ∷ fs) es all) where
  x : First text n left at later fs u.olds
  x = first_of text n left at later f fs u.olds u.long u.here u.within u.left_is

  -- the flag's old part ends within the earlier text
  pub ends_within : at + n ≤ length text
  ends_within = x.within

  old_part : slice_range text at (at + n) ≡ part later x.old
  old_part = ap (λ k. take k (drop at text)) (omega arith) ∙ ap (take n) x.here ∙
      take_at (part later x.old) (rest_text true x.olds) n (sym x.len)

  still_here : KeepsKeys since es all → KeepsKeys since (x.old ∷ x.olds) (f ∷ fs)
  still_here k = subst (λ l. KeepsKeys since l (f ∷ fs)) x.is (u.still k)

  -- a flag that wasn't changed is left where it is
  pub left_there : f.1.changed ≤ since → Underway since text left from (at + n) true out (lengths ++ n ∷ []) fs es all
  left_there unchanged =
      let e = x.old in
      let some = mixed since x.olds fs in
      let mix : mixed since u.olds (f ∷ fs) ≡ e ∷ some = ap (λ l. mixed since l (f ∷ fs)) x.is ∙
      mixed-early since e f x.olds fs unchanged in
      let reach = u.reach in record {
        olds = x.olds;
        gap = u.gap ++ part later e;
        long = x.long;
        here = x.next;
        between = u.between ∙ ap (λ l. u.gap ++ l) (x.here ∙ ap (λ l. part later e ++ l) (sym x.next)) ∙
            sym (append_assoc u.gap (part later e) (drop (at + n) text));
        reach = let all = length-append u.gap (part later e) in let len = x.len in omega arith;
        within = x.within;
        left_is = x.rest;
        told =
            ap (λ l. out ++ l) (append_assoc u.gap (part later e) (rest_text true some) ∙
            ap (λ l. u.gap ++ l) (sym (ap (rest_text later) mix ∙ first_part later e some)))
            ∙ u.told;
        measured = append_assoc lengths (n ∷ []) (part_lengths true some) ∙
            ap (λ k. lengths ++ k ∷ part_lengths true some) x.len ∙
            ap (λ l. lengths ++ part_lengths later l) (sym mix) ∙ u.measured;
        kept = λ k. u.kept (subst (λ l. KeepsKeys since l (f ∷ fs)) (sym x.is) ((λ late. absurd (omega (arith, late, unchanged))), k));
        still = λ k. (still_here k).1;
      }

  module _ (late : since < f.1.changed) where
    -- one that was changed is written anew, behind what lies in front of it, where its old part is of its key
    pub put_anew : is_part_of later f.0 (slice_range text at (at + n)) ≡ true → (written lens : List ℕ) →
        written ≡ (out ++ u.gap) ++ part later f
        → lens ≡ lengths ++ length (part later f) ∷ [] → Underway since text left (at + n) (at + n) true written lens fs es all
    put_anew own written lens is lens_are =
        let some = mixed since x.olds fs in
        let mix : mixed since u.olds (f ∷ fs) ≡ f ∷ some = ap (λ l. mixed since l (f ∷ fs)) x.is ∙
        mixed-late since x.old f x.olds fs late in
        let key : x.old.0 ≡ f.0 = same_key later x.old f.0 (subst (λ l. is_part_of later f.0 l ≡ true) old_part own) in record {
          olds = x.olds;
          gap = [];
          long = x.long;
          here = x.next;
          between = refl;
          reach = omega arith;
          within = x.within;
          left_is = x.rest;
          told =
              ap (λ l. l ++ rest_text true some) is
              ∙ append_assoc (out ++ u.gap) (part later f) (rest_text true some)
              ∙ ap (λ l. (out ++ u.gap) ++ l) (sym (ap (rest_text later) mix ∙ first_part later f some))
              ∙ append_assoc out u.gap (rest_text later (mixed since u.olds (f ∷ fs)))
              ∙ u.told;
          measured =
              ap (λ l. l ++ part_lengths true some) lens_are
              ∙ append_assoc lengths (length (part later f) ∷ []) (part_lengths true some)
              ∙ ap (λ l. lengths ++ part_lengths later l) (sym mix)
              ∙ u.measured;
          kept = λ k. u.kept (subst (λ l. KeepsKeys since l (f ∷ fs)) (sym x.is) ((λ _. key), k));
          still = λ k. (still_here k).1;
        }

    -- where it isn't, the flag is a new one
    pub is_new : is_part_of later f.0 (slice_range text at (at + n)) ≡ false → KeepsKeys since es all → ⊥
    is_new other k =
        let own = own_key later x.old f.0 ((still_here k).0 late) in
        true≢false (sym own ∙ sym (ap (is_part_of later f.0) old_part) ∙ other)

-- ---- in its own place

-- where it was changed, and one at most was, the others weren't
pub others : (since : ℕ) (f : Entry) (fs : List Entry) → changed_after since (f ∷ fs) ≤ 1 → since < f.1.changed → changed_after since fs ≡ 0
others since f fs one late =
    let is : nat_lt since f.1.changed ≡ true = lt-ltb since f.1.changed late in
    let all : 1 + changed_after since fs ≤ 1 = subst (λ b. (if b then 1 else 0) + changed_after since fs ≤ 1) is one in omega (arith, all)

-- nothing is written, and so many flags have their parts already
pub record Standing (since : ℕ) (text lengths : List ℕ) (at index : ℕ) (later : Bool) (news es all : List Entry) : Type 0 where
  pub underway : Underway since text (drop index lengths) 0 at later [] (take index lengths) news es all

module _ {since : ℕ} {text lengths : List ℕ} {at index : ℕ} {later : Bool} {news es all : List Entry}
    (u : Standing since text lengths at index later news es all) (f : Entry) (fs : List Entry) (is : news ≡ f ∷ fs)
  where
    pub counted : index < length lengths
    counted =
        let some = some_left (subst (λ l. Underway since text (drop index lengths) 0 at later [] (take index lengths) l
        es all) is u.underway) in
        let all = length-drop index lengths in omega (arith, some, all)

    -- the first of those that are left, at whose place the old part is so long
    module _ (n d : ℕ) (len : n ≡ get_or lengths index d) where
      pub goes_on : Underway since text (n ∷ drop (index + 1) lengths) 0 at later [] (take index lengths) (f ∷ fs) es all
      goes_on = stepped u.underway (drop_more lengths index d counted ∙ ap (λ k. k ∷ drop (index + 1) lengths) (sym len)) is

      -- one that wasn't changed has its part already
      pub stands : f.1.changed ≤ since → Standing since text lengths (at + n) (index + 1) true fs es all
      stands unchanged = record {
        underway =
            subst (λ l. Underway since text (drop (index + 1) lengths) 0 (at + n) true [] l fs es all)
            (ap (λ k. take index lengths ++ k ∷ []) len ∙ sym (take_more lengths index d counted))
            (left_there goes_on unchanged);
      }

      -- one that was changed gets it, where the old part is of its key and the others weren't changed
      pub replaced : HasAsMany since es all → since < f.1.changed → changed_after since fs ≡ 0 →
          is_part_of later f.0 (slice_range text at (at + n)) ≡ true
          → (splice text at (at + n) (part later f) ≡ whole_text all) × (set lengths index (length (part later f)) ≡ part_lengths false all)
      replaced like late none own =
          let end = ended like (put_anew goes_on late own _ _ refl refl) none in
          let reach = goes_on.reach in
          let front : take at text ≡ goes_on.gap = ap (take at) goes_on.between ∙ take_at goes_on.gap (drop at text) at (omega arith) in (
            ap (λ l. l ++ (part later f ++ drop (at + n) text)) front ∙
                sym (append_assoc goes_on.gap (part later f) (drop (at + n) text)) ∙ end.0,
            set-here lengths index (length (part later f)) counted ∙
                sym (append_assoc (take index lengths) (length (part later f) ∷ []) (drop (index + 1) lengths)) ∙ end.1,
          )

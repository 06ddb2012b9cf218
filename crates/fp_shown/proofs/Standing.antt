-- Flags of a document, put into a set one after another.
use Rattle.std.proofs.Common.{◌≡◌, ◌≢◌, ◌&&◌, T, ℕ, List, [], ◌∷◌, ◌++◌, length, map, Bool, true}
use Rattle.std.proofs.Common.{false, refl, sym, ap, subst, ◌∙◌, append_assoc, arith, Less, Greater}
use Rattle.std.proofs.Common.{get_or}
use Rattle.std.specs.Ordering.{ordering_reverse, is_lt}
use Rattle.std.specs.FinMap as fin
use Rattle.std.specs.FinMap.Entries.{by_order, put, below_all, is_sorted}
use Rattle.std.proofs.lemmas.Cmp.{nat_list_cmp_total}
use Rattle.std.proofs.lemmas.List.{map-append}
use Rattle.json.specs.Print.{quoted}
use Rattle.serde_json.specs.Written.{comma_if, compact_text, members_text}
use Rattle.fp_base.specs.Bytes.{bytes_cmp}
use Rattle.fp_definition.specs.Valid.{is_definition_text}
use Rattle.fp_documents.specs.Document.{data_of, members_of}
use Rattle.fp_documents.specs.Outline.{rest_text}
use Rattle.fp_documents.specs.declared.flags.Flag.{Flag}
use Rattle.fp_documents.proofs.Sizes.{first, second, less}
use Rattle.fp_documents.proofs.Texts.{canonical_again}
use Rattle.fp_edit.specs.Flags.{Flags, State}
use Rattle.fp_shown.specs.Reading.{told, told_of}

abbrev pub Entry : Type 0
Entry = List ℕ × Flag

-- ---- the text of flags, a flag at a time

pub text-first : (later : Bool) (e : Entry) (es : List Entry)
    → is_definition_text e.1.definition ≡ true
    → rest_text later (e ∷ es) ≡ comma_if later ++
    (quoted e.0 ++ 58 ∷ (e.1.definition ++ rest_text true es))
text-first later e es canonical =
    let text = compact_text (data_of e.1.definition) in
    let more = members_text true (members_of es) in
    append_assoc (comma_if later) (quoted e.0 ++ 58 ∷ (text ++ more)) (125 ∷ [])
    ∙ ap (λ s. comma_if later ++ s) (append_assoc (quoted e.0) (58 ∷ (text ++ more)) (125 ∷ []))
    ∙ ap (λ s. comma_if later ++ (quoted e.0 ++ 58 ∷ s)) (append_assoc text more (125 ∷ []))
    ∙ ap (λ t. comma_if later ++ (quoted e.0 ++ 58 ∷ (t ++ rest_text true es)))
    (canonical_again e.1.definition canonical)

-- the end begins as no flag does
pub not_end : (later : Bool) (e : Entry) (es : List Entry) (text : List ℕ)
    → text ≡ rest_text later (e ∷ es) → text ≢ 125 ∷ 125 ∷ []
not_end true e es text is end =
    let same = ap (λ t. get_or t 0 0) (sym is ∙ end) in absurd (omega (arith, same))
not_end false e es text is end =
    let same = ap (λ t. get_or t 0 0) (sym is ∙ end) in absurd (omega (arith, same))

-- ---- in order

below-told : (k : List ℕ) (es : List Entry)
    → below_all bytes_cmp k (map told_of es) ≡ below_all bytes_cmp k es
below-told k [] = refl
below-told k (e ∷ es) = ap (λ b. is_lt (bytes_cmp k e.0) && b) (below-told k es)

sorted-told : (es : List Entry) → is_sorted bytes_cmp (map told_of es) ≡ is_sorted bytes_cmp es
sorted-told [] = refl
sorted-told (e ∷ es) = ap (λ b. b && is_sorted bytes_cmp (map told_of es)) (below-told e.0 es)
    ∙ ap (λ b. below_all bytes_cmp e.0 es && b) (sorted-told es)

both : (a b : Bool) → T a → T b → T (a && b)
both true b p q = q
both false b p q = p

below-front : (k : List ℕ) (es fs : List Entry) → T (below_all bytes_cmp k (es ++ fs))
    → T (below_all bytes_cmp k es)
below-front k [] fs h = tt
below-front k (e ∷ es) fs h =
    both _ _ (first _ _ h) (below-front k es fs (second (is_lt (bytes_cmp k e.0)) _ h))

pub sorted-front : (es fs : List Entry) → T (is_sorted bytes_cmp (es ++ fs))
    → T (is_sorted bytes_cmp es)
sorted-front [] fs h = tt
sorted-front (e ∷ es) fs h =
    both _ _ (below-front e.0 es fs (first _ _ h))
    (sorted-front es fs (second (below_all bytes_cmp e.0 (es ++ fs)) _ h))

below-last : (k : List ℕ) (es : List Entry) (f : Entry) → T (below_all bytes_cmp k (es ++ f ∷ []))
    → bytes_cmp k f.0 ≡ Less
below-last k [] f h = less _ (first _ _ h)
below-last k (e ∷ es) f h = below-last k es f (second (is_lt (bytes_cmp k e.0)) _ h)

put-last : (es : List Entry) (k : List ℕ) (f : Flag) → T (is_sorted bytes_cmp (es ++ (k, f) ∷ []))
    → put bytes_cmp k f es ≡ es ++ (k, f) ∷ []
put-last [] k f h = refl
put-last (e ∷ es) k f h =
    let above : bytes_cmp k e.0 ≡ Greater = nat_list_cmp_total.antisymm k e.0
    ∙ ap ordering_reverse (below-last e.0 es (k, f) (first _ _ h)) in
    ap (λ o. by_order o ((k, f) ∷ e ∷ es) ((e.0, f) ∷ es) (e ∷ put bytes_cmp k f es)) above
    ∙ ap (λ r. e ∷ r) (put-last es k f (second (below_all bytes_cmp e.0 (es ++ (k, f) ∷ [])) _ h))

-- what is told of flags in which one more is put behind all others
pub told-more : (flags : Flags) (front : List Entry) (e : Entry) (f : Flag)
    → told flags ≡ map told_of front → f.definition ≡ e.1.definition
    → T (is_sorted bytes_cmp (front ++ e ∷ []))
    → told (fin.insert flags e.0 f) ≡ map told_of (front ++ e ∷ [])
told-more flags front e f same is sorted =
    let now = fin.entries flags in
    let last : told_of (e.0, f) ≡ told_of e = ap (λ t. (e.0, t)) is in
    let alike : map told_of (now ++ (e.0, f) ∷ []) ≡ map told_of (front ++ e ∷ []) =
    map-append told_of now ((e.0, f) ∷ []) ∙ ap (λ ts. ts ++ told_of (e.0, f) ∷ []) same
    ∙ ap (λ t. map told_of front ++ t ∷ []) last ∙ sym (map-append told_of front (e ∷ [])) in
    let ordered = sym (sorted-told (front ++ e ∷ [])) ∙ ap (λ ts. is_sorted bytes_cmp ts) (sym alike)
    ∙ sorted-told (now ++ (e.0, f) ∷ []) in
    let put = put-last now e.0 f (subst T ordered sorted) in
    ap (map told_of) (fin.entries-insert nat_list_cmp_total flags e.0 f ∙ put) ∙ alike

-- ---- what was put so far

-- the first of a set's flags were put, and the text of the others is left
pub record Standing (s : State) (flags : Flags) (later : Bool) (rest : List ℕ) (n : ℕ)
    : Type 0 where
  pub front : List Entry
  pub left : List Entry
  pub whole : fin.entries s.flags ≡ front ++ left
  pub count : length front ≡ n
  pub text : rest ≡ rest_text later left
  pub told : told flags ≡ map told_of front

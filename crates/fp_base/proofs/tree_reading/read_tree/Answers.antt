use Rattle.std.proofs.Common.{◌≡◌, List, [], ◌∷◌, Option, None, Some, true, false, sym, ap, ◌∙◌}
use Rattle.std.specs.Prelude.{is_some, MatchOption}
use Rattle.json.specs.Json as json
use Rattle.json.specs.Lex.{tokens}
use Rattle.json.specs.Token.{Token}
use Rattle.serde_json.specs.Read.{of_json, converted}
use Rattle.fp_base.specs.TreeView.{tree_view}
use Rattle.fp_base.proofs.Parsed.{text-with_more, whole-text}
use Rattle.fp_base.proofs.Reading.{json_of_read, json_of_refused}
use Rattle.fp_base.proofs.tree_reading.read_tree.Goals as goal

none-left : {A : Type 0} (o : Option A) (old : List Token) (P : Type 0) (Q : A → Type 0) → is_some o ≡ false →
    (P → old ≡ []) → MatchOption o P Q → old ≡ []
none-left None old P Q e over h = over h
none-left (Some a) old P Q e over h = absurd (cc)

some-left : {A : Type 0} (o : Option A) (old new : List Token) (token_of : A → Token) (P : Type 0) →
    is_some o ≡ true → MatchOption o P (λ t. old ≡ token_of t ∷ new) → (t : Token) × (old ≡ t ∷ new)
some-left None old new token_of P e h = absurd (cc)
some-left (Some a) old new token_of P e h = (token_of a, h)

pub returns-then-is_some-clause-value : goal.returns-then-is_some-clause-value
returns-then-is_some-clause-value c =
    let bytes = c.args.bytes.now in
    let begun = c.in_ok-reader.ensures.ok ∙ ap tokens c.in-Some.ensures.0 in
    let left = some-left c.next.result c.read.new.reader c.next.new.self _ _
    (sym c.is_some.ensures ∙ c.if-is_some.true) c.next.ensures.value in
    let parsed = ap (λ ts. converted of_json (json.value 127 ts)) (sym begun) ∙ c.in-Ok.ensures.ok in
    sym (json_of_refused bytes (λ utf8. text-with_more (json.value 127 (tokens bytes)) (tree_view c.in-Ok.tree)
    left.0 c.read.new.reader c.next.new.self parsed left.1))

pub returns-in-Ok-clause-value : goal.returns-in-Ok-clause-value
returns-in-Ok-clause-value c =
    let bytes = c.args.bytes.now in
    let begun = c.in_ok-reader.ensures.ok ∙ ap tokens c.in-Some.ensures.0 in
    let over : c.read.new.reader ≡ [] =
    none-left c.next.result c.read.new.reader _ _ (sym c.is_some.ensures ∙ c.if-is_some.false) (λ h. h.0)
    c.next.ensures.value in
    let parsed = ap (λ ts. converted of_json (json.value 127 ts)) (sym begun) ∙ c.in-Ok.ensures.ok in
    sym (json_of_read bytes (tree_view c.in-Ok.tree) c.in-Some.ensures.1
    (whole-text (json.value 127 (tokens bytes)) (tree_view c.in-Ok.tree) c.read.new.reader parsed over))

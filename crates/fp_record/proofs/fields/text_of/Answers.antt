use Rattle.std.proofs.Common.{◌≡◌, ℕ, List, Result, Ok, Err, sym, ◌∙◌}
use Rattle.std.specs.Prelude.{MatchResult, is_ok}
use Rattle.std.specs.Str.{IsUtf8, is_utf8}
use Rattle.std.proofs.lemmas.Bool.{false_from_ne_true}
use Rattle.std.proofs.lemmas.Str.{IsUtf8-from_is_utf8, is_utf8-from_IsUtf8}
use Rattle.fp_record.proofs.fields.text_of.Goals as goal

-- an answer that is Ok exactly at text
is_ok-utf8 : {X E : Type 0} (bytes : List ℕ) (P : X → Type 0) (Q : E → Type 0) (r : Result X E) →
    MatchResult r (λ x. P x × IsUtf8 bytes) (λ e. ¬ (IsUtf8 bytes) × Q e) → is_ok r ≡ is_utf8 bytes
is_ok-utf8 bytes P Q (Ok x) h = sym (is_utf8-from_IsUtf8 bytes h.1)
is_ok-utf8 bytes P Q (Err e) h = sym (false_from_ne_true (is_utf8 bytes) (λ is. h.0 (IsUtf8-from_is_utf8 bytes is)))

pub returns-clause-utf8 : goal.returns-clause-utf8
returns-clause-utf8 c = c.ok.ensures.variant ∙ is_ok-utf8 c.args.bytes.now _ _ c.from_utf8.result c.from_utf8.ensures.cases

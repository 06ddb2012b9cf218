-- The first line of an input, as it comes in.
use Rattle.std.proofs.Common.{◌≡◌, ◌+◌, ℕ, List, [], ◌∷◌, ◌++◌, take, drop, Bool, true, false, Option, Some, refl, sym}
use Rattle.std.proofs.Common.{ap, subst, ◌∙◌, append_assoc, append-nil}
use Rattle.std.specs.Prelude.{IfSome}
use Rattle.std.specs.Io.KnownBytes.{Consumes, IsAtEnd}
use Rattle.fp_base.proofs.Known.{Consumes-some, IfSome-each}
use Rattle.fp_session.specs.Asks.{asked_by_input}
use Rattle.fp_session.specs.Lines.{line_up_to_limit, lines}
use Rattle.fp_session.specs.Requests.{first_line, first_of, is_left, is_http_line}
use Rattle.fp_session.specs.Sources.{AskLines}
use Rattle.fp_session.specs.declared.request.RequestLine.{RequestLine}
use Rattle.fp_session.proofs.LineLemmas.{IsCutAt, lines-append}
use Rattle.fp_session.proofs.Readings.{lines-ended, lines-read, lines_at}

-- what came of the first line so far, and what of it is known
pub record IsUnderWay (first now : Option (List ℕ)) (line : List ℕ) (request : RequestLine) : Type 0 where
  pub came : List ℕ
  pub one : lines came ≡ came ∷ []
  pub held : line ≡ line_up_to_limit came
  pub state : (rest : List ℕ) → is_left request rest ≡ is_http_line (came ++ rest)
  pub read : (input : List ℕ) → first ≡ Some input → (rest : List ℕ) × (now ≡ Some rest) × (input ≡ came ++ rest)

module _ (first now then : Option (List ℕ)) (line : List ℕ) (request : RequestLine)
    (u : IsUnderWay first now line request) (bytes : List ℕ) (read : Consumes now then bytes) where
  -- the input, as far as it is read now
  reads : (input : List ℕ) → first ≡ Some input → (rest : List ℕ) × (then ≡ Some rest) × (input ≡ (u.came ++ bytes) ++ rest)
  reads input is =
      let before = u.read input is in let step = Consumes-some now then before.0 bytes before.1 read in
      (step.0, step.1, before.2 ∙ ap (λ (l : List ℕ). u.came ++ l) step.2 ∙ sym (append_assoc u.came bytes step.0))

  asked : (input : List ℕ) → first ≡ Some input → AskLines (lines_at false line []) now (asked_by_input input)
  asked input is =
      let before = u.read input is in record {
        line = u.came;
        one = u.one;
        held = u.held;
        left = (before.0, before.1, ap asked_by_input (before.2 ∙ ap (λ (l : List ℕ). l ++ before.0) (sym (append-nil u.came))));
      }

  -- bytes without a newline lengthen it
  pub first-more : (k : List ℕ) (more : RequestLine) → lines bytes ≡ bytes ∷ [] →
      ((l : List ℕ) → line ≡ line_up_to_limit l → k ≡ line_up_to_limit (l ++ bytes)) →
      ((rest : List ℕ) → is_left more rest ≡ is_left request (bytes ++ rest))
      → IsUnderWay first then k more
  first-more k more one grown goes = record {
    came = u.came ++ bytes;
    one = lines-append u.came bytes bytes [] u.one one;
    held = grown u.came u.held;
    state = λ rest. goes rest ∙ u.state (bytes ++ rest) ∙ ap is_http_line (sym (append_assoc u.came bytes rest));
    read = reads;
  }

  -- a newline ends it
  module _ (at : ℕ) (cut : IsCutAt bytes at) where
    pub first-asks : IfSome first (λ input. AskLines (lines_at false line bytes) then (asked_by_input input))
    first-asks = IfSome-each first (λ input. AskLines (lines_at false line bytes) then (asked_by_input input))
        (λ input is. lines-read now then bytes read line (asked_by_input input) (asked input is))

    ended : List ℕ
    ended = u.came ++ take at bytes

    pub first-told : (final : RequestLine) (is : Bool) →
        ((rest : List ℕ) → is_left final rest ≡ is_left request (take at bytes ++ rest)) → is ≡ is_left final [] →
        IfSome first (λ input. is ≡ is_http_line (first_line input))
    first-told final is goes told = IfSome-each first (λ input. is ≡ is_http_line (first_line input)) (λ input known.
        let r = reads input known in let tail = drop (at + 1) bytes ++ r.0 in
        let one : lines (u.came ++ take at bytes) ≡ (u.came ++ take at bytes) ∷ [] =
        lines-append u.came (take at bytes) (take at bytes) [] u.one cut.one in
        let parts : input ≡ (u.came ++ take at bytes) ++ 10 ∷ tail =
        r.2 ∙ ap (λ (l : List ℕ). (u.came ++ l) ++ r.0) (sym cut.parts) ∙
        append_assoc u.came (take at bytes ++ 10 ∷ drop (at + 1) bytes) r.0
        ∙ ap (λ (l : List ℕ). u.came ++ l) (append_assoc (take at bytes) (10 ∷ drop (at + 1) bytes) r.0) ∙
        sym (append_assoc u.came (take at bytes) (10 ∷ tail)) in
        let all : lines input ≡ ((u.came ++ take at bytes) ++ []) ∷ lines tail = ap lines parts ∙
        lines-append (u.came ++ take at bytes) (10 ∷ tail) [] (lines tail) one refl in
        told ∙ goes [] ∙ u.state (take at bytes ++ []) ∙
        ap is_http_line (sym (append_assoc u.came (take at bytes) []) ∙ sym (ap first_of all)))

  -- or the end does
  module _ (none : bytes ≡ []) (end : IsAtEnd then) where
    pub last-asks : IfSome first (λ input. AskLines (lines_at true line bytes) then (asked_by_input input))
    last-asks = IfSome-each first (λ input. AskLines (lines_at true line bytes) then (asked_by_input input))
        (λ input is. lines-ended now then bytes read line (asked_by_input input) (asked input is) none end)

    pub last-told : (is : Bool) → is ≡ is_left request [] → IfSome first (λ input. is ≡ is_http_line (first_line input))
    last-told is told = IfSome-each first (λ input. is ≡ is_http_line (first_line input)) (λ input known.
        let r = reads input known in let over : r.0 ≡ [] = subst IsAtEnd r.1 end in
        let whole : input ≡ u.came =
        r.2 ∙ ap (λ (l : List ℕ). (u.came ++ bytes) ++ l) over ∙ append-nil (u.came ++ bytes) ∙
        ap (λ (l : List ℕ). u.came ++ l) none ∙ append-nil u.came in
        told ∙ u.state [] ∙ ap is_http_line (append-nil u.came ∙ sym (ap first_of (ap lines whole ∙ u.one))))

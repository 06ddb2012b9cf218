-- Lines that come in, and what they ask.
use Rattle.std.proofs.Common.{◌≡◌, ◌≤◌, ◌<◌, ◌+◌, ℕ, List, [], ◌∷◌, ◌++◌, length, take, drop, Bool, not, true, false}
use Rattle.std.proofs.Common.{Option, Some, None, Result, Ok, Err, IfOk, MatchOption, refl, sym, ap, subst, ◌∙◌}
use Rattle.std.proofs.Common.{append_assoc, append-nil, arith}
use Rattle.std.proofs.lemmas.List.{nil_from_length}
use Rattle.std.specs.Io.KnownBytes.{Consumes, IsAtEnd}
use Rattle.fp_base.proofs.Known.{Consumes-some}
use Rattle.fp_edit.specs.Line.{line_of}
use Rattle.fp_edit.specs.declared.edit.Edit.{Edit}
use Rattle.fp_edit.specs.declared.line.LineFault.{LineFault}
use Rattle.fp_session.specs.Asks.{Ask, asked_by_input, asked_by_lines}
use Rattle.fp_session.specs.Lines.{is_blank, line_up_to_limit, lines}
use Rattle.fp_session.specs.Progress.{AsksFor}
use Rattle.fp_session.specs.Sources.{AskLines, AsksNext, IsLeftToAsk, LinesState, bytes_at_hand}
use Rattle.fp_session.proofs.LineLemmas.{IsCutAt, asked-append, asked-blank, asked-line, cut-same, lines-append}

abbrev pub lines_at : Bool → List ℕ → List ℕ → LinesState
lines_at ended line left = record { line = line; left = left; ended = ended }

-- a line that ends asks what it says, before what stands behind it
asked-newline : (line rest : List ℕ) → lines line ≡ line ∷ [] →
    asked_by_input (line ++ 10 ∷ rest) ≡ asked_by_lines (line ∷ []) ++ asked_by_input rest
asked-newline line rest one =
    let all : lines (line ++ 10 ∷ rest) ≡ line ∷ lines rest =
    lines-append line (10 ∷ rest) [] (lines rest) one refl ∙
    ap (λ (l : List ℕ). l ∷ lines rest) (append-nil line) in
    ap asked_by_lines all ∙ asked-append (line ∷ []) (lines rest)

-- nothing came in yet
pub lines-start : (reads : Option (List ℕ)) (input : List ℕ) → reads ≡ Some input →
    AskLines (lines_at false [] []) reads (asked_by_input input)
lines-start reads input is = record { line = []; one = refl; held = refl; left = (input, is, refl) }

module _ (reads : Option (List ℕ)) where
  -- another text asks the same
  left-same : (ended : Bool) (text other : List ℕ) (all : List Ask) →
      ((input : List ℕ) → asked_by_input (text ++ input) ≡ asked_by_input (other ++ input)) →
      IsLeftToAsk ended reads text all → IsLeftToAsk ended reads other all
  left-same true text other all same is = is ∙ ap asked_by_input (sym (append-nil text)) ∙ same [] ∙ ap asked_by_input (append-nil other)
  left-same false text other all same h = (h.0, h.1, h.2 ∙ same h.0)

  -- or the same but for the first
  left-one : (ended : Bool) (text other : List ℕ) (x : Ask) (all : List Ask) →
      ((input : List ℕ) → asked_by_input (text ++ input) ≡ x ∷ asked_by_input (other ++ input)) →
      IsLeftToAsk ended reads text all
      → (rest : List Ask) × (x ∷ rest ≡ all) × IsLeftToAsk ended reads other rest
  left-one true text other x all one is = (
    asked_by_input other,
    ap (λ (l : List ℕ). x ∷ asked_by_input l) (sym (append-nil other)) ∙ sym (one []) ∙
        ap asked_by_input (append-nil text) ∙ sym is,
    refl,
  )
  left-one false text other x all one h = (asked_by_input (other ++ h.0), sym (one h.0) ∙ sym h.2, (h.0, h.1, refl))

  module _ (ended : Bool) (line left : List ℕ) (all : List Ask) (a : AskLines (lines_at ended line left) reads all) where
    -- bytes without a newline lengthen the line
    pub lines-more : (k : List ℕ) → lines left ≡ left ∷ [] → k ≡ line_up_to_limit (a.line ++ left) →
        AskLines (lines_at ended k []) reads all
    lines-more k one held = record {
      line = a.line ++ left;
      one = lines-append a.line left left [] a.one one;
      held = held;
      left = subst (λ (l : List ℕ). IsLeftToAsk ended reads l all) (sym (append-nil (a.line ++ left))) a.left;
    }

    -- a newline ends it
    module _ (at : ℕ) (cut : IsCutAt left at) where
      abbrev pub ended_line : List ℕ
      ended_line = a.line ++ take at left

      whole : lines ended_line ≡ ended_line ∷ []
      whole = lines-append a.line (take at left) (take at left) [] a.one cut.one

      splits : (input : List ℕ) → asked_by_input ((a.line ++ left) ++ input) ≡ asked_by_lines (ended_line ∷ []) ++
          asked_by_input (drop (at + 1) left ++ input)
      splits input =
          let parts : (a.line ++ left) ++ input ≡ ended_line ++ 10 ∷ (drop (at + 1) left ++ input) =
          ap (λ (l : List ℕ). (a.line ++ l) ++ input) (sym cut.parts) ∙ append_assoc a.line (take at left ++ 10 ∷ drop (at + 1) left) input
          ∙ ap (λ (l : List ℕ). a.line ++ l) (append_assoc (take at left) (10 ∷ drop (at + 1) left) input) ∙
          sym (append_assoc a.line (take at left) (10 ∷ (drop (at + 1) left ++ input))) in
          ap asked_by_input parts ∙ asked-newline ended_line (drop (at + 1) left ++ input) whole

      -- a blank one asks nothing
      pub lines-blank : (k : List ℕ) → k ≡ [] → is_blank ended_line ≡ true → AskLines (lines_at ended k (drop (at + 1) left)) reads all
      lines-blank k none blank = record {
        line = [];
        one = refl;
        held = none;
        left = left-same ended (a.line ++ left) (drop (at + 1) left) all
            (λ input. splits input ∙ ap (λ (xs : List Ask). xs ++ asked_by_input (drop (at + 1) left ++ input))
            (asked-blank ended_line blank)) a.left;
      }

      -- another what it says
      pub lines-one : (k : List ℕ) → k ≡ [] → is_blank ended_line ≡ false → (rest : List Ask) ×
          (line_of ended_line ∷ rest ≡ all) × AskLines (lines_at ended k (drop (at + 1) left)) reads rest
      lines-one k none other =
          let first = left-one ended (a.line ++ left) (drop (at + 1) left) (line_of ended_line) all
          (λ input. splits input ∙ ap (λ (xs : List Ask). xs ++ asked_by_input (drop (at + 1) left ++ input))
          (asked-line ended_line other)) a.left in
          (first.0, first.1, record { line = []; one = refl; held = none; left = first.2 })

  -- ---- at the end of the input the last line has no newline
  module _ (line : List ℕ) (all : List Ask) (a : AskLines (lines_at true line []) reads all) where
    last : all ≡ asked_by_lines (a.line ∷ [])
    last = a.left ∙ ap asked_by_input (append-nil a.line) ∙ ap asked_by_lines a.one

    pub last-blank : (k : List ℕ) → k ≡ [] → is_blank line ≡ true → AskLines (lines_at true k []) reads all
    last-blank k none blank = record {
      line = [];
      one = refl;
      held = none;
      left = last ∙ asked-blank a.line (sym (cut-same a.line).0 ∙ ap is_blank (sym a.held) ∙ blank);
    }

    pub last-one : (k : List ℕ) → k ≡ [] → is_blank line ≡ false → (rest : List Ask) × (line_of line ∷ rest ≡ all) ×
        AskLines (lines_at true k []) reads rest
    last-one k none other = (
      [],
      ap (λ (x : Ask). x ∷ []) (ap line_of a.held ∙ (cut-same a.line).1) ∙
          sym (asked-line a.line (sym (cut-same a.line).0 ∙ ap is_blank (sym a.held) ∙ other)) ∙ sym last,
      record { line = []; one = refl; held = none; left = refl },
    )

-- ---- more came in, which is known to be what was still to be read
module _ (reads now_reads : Option (List ℕ)) (bytes : List ℕ) (read : Consumes reads now_reads bytes) (line : List ℕ)
    (all : List Ask) (a : AskLines (lines_at false line []) reads all) where
  more : (rest : List ℕ) × (now_reads ≡ Some rest) × (all ≡ asked_by_input ((a.line ++ bytes) ++ rest))
  more =
      let step = Consumes-some reads now_reads a.left.0 bytes a.left.1 read in (
        step.0,
        step.1,
        a.left.2 ∙ ap (λ (l : List ℕ). asked_by_input (l ++ a.left.0)) (append-nil a.line) ∙
            ap (λ (l : List ℕ). asked_by_input (a.line ++ l)) step.2 ∙
            ap asked_by_input (sym (append_assoc a.line bytes step.0)),
      )

  pub lines-read : AskLines (lines_at false line bytes) now_reads all
  lines-read = record { line = a.line; one = a.one; held = a.held; left = more }

  -- and this is the end
  pub lines-ended : bytes ≡ [] → IsAtEnd now_reads → AskLines (lines_at true line bytes) now_reads all
  lines-ended none end =
      let m = more in let over : m.0 ≡ [] = subst IsAtEnd m.1 end in
      record {
        line = a.line;
        one = a.one;
        held = a.held;
        left = m.2 ∙ ap (λ (l : List ℕ). asked_by_input ((a.line ++ bytes) ++ l)) over ∙ ap asked_by_input (append-nil (a.line ++ bytes));
      }

-- what one read gave
pub lines-filled : (reads now_reads : Option (List ℕ)) (ended : Bool) (line left bytes : List ℕ) (some : Bool) →
    ended ≡ false → length left ≤ 0 → Consumes reads now_reads bytes →
    (some ≡ false → (bytes ≡ []) × IsAtEnd now_reads)
    → (all : List Ask) → AskLines (lines_at ended line left) reads all → AskLines (lines_at (not some) line bytes) now_reads all
lines-filled reads now_reads ended line left bytes some going none read end all a = filled some end
  where
    empty : AskLines (lines_at false line []) reads all
    empty = subst (λ (l : List ℕ). AskLines (lines_at false line l) reads all)
        (nil_from_length left (omega (arith, none)))
        (subst (λ (b : Bool). AskLines (lines_at b line left) reads all) going a)

    filled : (some : Bool) → (some ≡ false → (bytes ≡ []) × IsAtEnd now_reads) → AskLines (lines_at (not some) line bytes) now_reads all
    filled true end = lines-read reads now_reads bytes read line all empty
    filled false end = let e = end refl in lines-ended reads now_reads bytes read line all empty e.0 e.1

-- ---- as any stream is read

-- the same over what a stream gives
abbrev pub asks_over : {S : Type 0} → (S → Option (List ℕ)) → LinesState → S → List Ask → Type 0
asks_over reads l s all = AskLines l (reads s) all

-- where lines still come in, a read line is as it is over what is read
pub next-going : {S F : Type 0} (reads : S → Option (List ℕ)) (ended : Bool) (line left line' left' : List ℕ)
    (l : LinesState) (r : Result (Option (Result Edit LineFault)) F) → ended ≡ false → lines_at ended line left ≡ l
    → IfOk r (AsksNext AskLines (lines_at false line left) (lines_at false line' left')) →
    IfOk r (AsksNext (asks_over reads) l (lines_at ended line' left'))
next-going {F = F} reads ended line left line' left' l r going is h =
    subst (λ (o : LinesState). IfOk r (AsksNext (asks_over reads) o (lines_at ended line' left'))) is
    (subst (λ (b : Bool). IfOk r (AsksNext (asks_over reads) (lines_at b line left) (lines_at b line' left')))
    (sym going) (each r h))
  where
    one : (o : Option (Result Edit LineFault)) →
        AsksNext AskLines (lines_at false line left) (lines_at false line' left') o →
        AsksNext (asks_over reads) (lines_at false line left) (lines_at false line' left') o
    one None h = λ s all a. h (reads s) all a
    one (Some edit) h = (h.0, h.1, λ s all a. h.2 (reads s) all a)

    each : (r : Result (Option (Result Edit LineFault)) F) →
        IfOk r (AsksNext AskLines (lines_at false line left) (lines_at false line' left')) →
        IfOk r (AsksNext (asks_over reads) (lines_at false line left) (lines_at false line' left'))
    each (Ok o) h = one o h
    each (Err e) h = tt

module _ (ended : Bool) (line left k : List ℕ) (l : LinesState) (ends : ended ≡ true) (none : left ≡ [])
    (empty : k ≡ []) (is : lines_at ended line left ≡ l) where
  -- where they ended, the last one is left
  pub next-last : {S : Type 0} (reads : S → Option (List ℕ)) (next : Option (Result Edit LineFault)) (x : Ask) →
      x ≡ line_of line → MatchOption next (is_blank line ≡ true) (λ edit. (is_blank line ≡ false) × AsksFor edit x) →
      AsksNext (asks_over reads) l (lines_at ended k left) next
  next-last reads next x same h =
      subst (λ (o : LinesState). AsksNext (asks_over reads) o (lines_at ended k left) next) is
      (subst (λ (bs : List ℕ). AsksNext (asks_over reads) (lines_at ended line bs) (lines_at ended k bs) next)
      (sym none) (subst (λ (b : Bool). AsksNext (asks_over reads) (lines_at b line []) (lines_at b k []) next)
      (sym ends) (last next h)))
    where
      last : (next : Option (Result Edit LineFault)) →
          MatchOption next (is_blank line ≡ true) (λ edit. (is_blank line ≡ false) × AsksFor edit x) →
          AsksNext (asks_over reads) (lines_at true line []) (lines_at true k []) next
      last None blank = λ s all a. last-blank (reads s) line all a k empty blank
      last (Some edit) h = (
        x,
        h.1,
        λ s all a. let one = last-one (reads s) line all a k empty h.0 in
            (one.0, ap (λ (y : Ask). y ∷ one.0) same ∙ one.1, one.2),
      )

  pub fewer-last : (next : Option (Result Edit LineFault)) (x : Ask) →
      MatchOption next (is_blank line ≡ true) (λ edit. (is_blank line ≡ false) × AsksFor edit x) →
      MatchOption next (bytes_at_hand (lines_at ended k left) ≡ 0)
      (λ _. bytes_at_hand (lines_at ended k left) < bytes_at_hand l)
  fewer-last next x h =
      subst (λ (o : LinesState). MatchOption next (bytes_at_hand (lines_at ended k left) ≡ 0)
      (λ _. bytes_at_hand (lines_at ended k left) < bytes_at_hand o)) is
      (subst (λ (bs : List ℕ). MatchOption next (bytes_at_hand (lines_at ended k bs) ≡ 0)
      (λ _. bytes_at_hand (lines_at ended k bs) < bytes_at_hand (lines_at ended line bs))) (sym none)
      (subst (λ (b : Bool). MatchOption next (bytes_at_hand (lines_at b k []) ≡ 0)
      (λ _. bytes_at_hand (lines_at b k []) < bytes_at_hand (lines_at b line []))) (sym ends) (last next h)))
    where
      some : (bs : List ℕ) → is_blank bs ≡ false → 0 < length bs
      some [] other = absurd cc
      some (b ∷ bs) other = omega arith

      last : (next : Option (Result Edit LineFault)) →
          MatchOption next (is_blank line ≡ true) (λ edit. (is_blank line ≡ false) × AsksFor edit x) →
          MatchOption next (length {A = ℕ} [] + length k ≡ 0)
          (λ _. length {A = ℕ} [] + length k < length {A = ℕ} [] + length line)
      last None blank = let zero = ap length empty in omega (arith, zero)
      last (Some edit) h = let zero = ap length empty in let more = some line h.0 in omega (arith, zero, more)

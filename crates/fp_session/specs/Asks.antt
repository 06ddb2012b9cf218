-- What is asked of flags, one thing after another: edits, and lines that are none.
use Rattle.std.specs.Prelude.{ℕ, List, map, Result, Ok}
use Rattle.fp_definition.specs.Key.{key_bytes}
use Rattle.fp_definition.specs.declared.key.FlagKey.{FlagKey}
use Rattle.fp_edit.specs.Parts.{put, free}
use Rattle.fp_edit.specs.Edits.{Proposal, single}
use Rattle.fp_edit.specs.Line.{line_of, Fault}
use Rattle.fp_session.specs.Lines.{lines, lines_with_reply}

abbrev pub Ask : Type 0
Ask = Result Proposal Fault

-- what an input asks: each of its lines that isn't blank
abbrev pub asked_by_lines : List (List ℕ) → List Ask
asked_by_lines ls = map line_of (lines_with_reply ls)

abbrev pub asked_by_input : List ℕ → List Ask
asked_by_input input = asked_by_lines (lines input)

-- a flag that is imported: the bytes of its key, and its definition's canonical text
abbrev pub flag_bytes : FlagKey × List ℕ → List ℕ × List ℕ
flag_bytes f = (key_bytes f.0, f.1)

-- it is put, whatever stands at its key
abbrev pub put_of : List ℕ × List ℕ → Proposal
put_of f = single (free (put f.0 f.1))

abbrev pub asked_by_flags : List (List ℕ × List ℕ) → List Ask
asked_by_flags flags = map (λ f. Ok (put_of f)) flags

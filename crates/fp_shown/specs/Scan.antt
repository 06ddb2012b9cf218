-- One pass over a value, byte by byte: whether it is in a text, and how deep.
use Rattle.std.specs.Prelude.{ℕ, ◌+◌, ◌-◌, ◌==◌, ◌||◌, ◌&&◌, Bool, true, false, if◌then◌else◌}
use Rattle.fp_shown.specs.declared.members.Place.{Place}
use Rattle.fp_shown.specs.declared.members.Place.TheVariants.{Between, Quoted, Escaped}
use Rattle.fp_shown.specs.declared.members.Scan.{Scan}

abbrev pub opens : ℕ → Bool
opens b = (b == 123) || (b == 91)

abbrev pub closes : ℕ → Bool
closes b = (b == 125) || (b == 93)

-- behind a byte that stands in no text
abbrev pub after_between : ℕ → ℕ → Scan
after_between depth b = if b == 34 then record { depth = depth; place = Quoted }
    else (if opens b then record { depth = depth + 1; place = Between }
    else (if closes b then record { depth = depth - 1; place = Between }
    else record { depth = depth; place = Between }))

-- behind one in a text: a backslash takes the byte behind it along
abbrev pub after_quoted : ℕ → Place
after_quoted b = if b == 34 then Between else (if b == 92 then Escaped else Quoted)

abbrev pub after : Place → ℕ → ℕ → Scan
after Between depth b = after_between depth b
after Quoted depth b = record { depth = depth; place = after_quoted b }
after Escaped depth b = record { depth = depth; place = Quoted }

abbrev pub is_between : Place → Bool
is_between Between = true
is_between Quoted = false
is_between Escaped = false

-- a value ends where it is in no text, and all that it opened is closed
abbrev pub is_done : Scan → Bool
is_done s = is_between s.place && (s.depth == 0)

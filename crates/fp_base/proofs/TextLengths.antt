-- How short a canonical text can be.
use Rattle.std.proofs.Common.{◌≡◌, ℕ, ◌+◌, ◌≤◌, ◌<◌, sym, ap, ◌∙◌, List, [], ◌∷◌, ◌++◌, length, Bool, true, false}
use Rattle.std.proofs.Common.{arith, rules, length-append}
use Rattle.json.specs.Print.{escape, escape_byte, quoted}
use Rattle.serde_json.specs.Data.{Data, depth, null, boolean, number, string, array, object, Items, no_items, item}
use Rattle.serde_json.specs.Data.{Members, no_members, member}
use Rattle.serde_json.specs.Written.{compact_text, items_text, members_text, comma_if}
use Rattle.std.specs.Prelude.{nat_le, is_some}
use Rattle.fp_base.specs.Count.{spend}
use Rattle.fp_base.specs.Plain.{plain_left}
use Rattle.fp_base.specs.Weight.{weight, items_weight, members_weight}
use Rattle.fp_base.specs.Whole.{is_whole}

some_bytes : (b : ℕ) → 0 < length (escape_byte b)
unfolding escape_byte
some_bytes b = search rules

pub length-escape : (s : List ℕ) → length s ≤ length (escape s)
length-escape [] = omega arith
length-escape (b ∷ s) =
    let rest = length-escape s in
    let here = some_bytes b in
    let both = length-append (escape_byte b) (escape s) in omega arith

length-quoted : (s : List ℕ) → length s + 2 ≤ length (quoted s)
length-quoted s = let inside = length-escape s in let both = length-append (escape s) (34 ∷ []) in omega arith

mutual
  pub weight-text : (d : Data) → weight d ≤ length (compact_text d)
  weight-text null = omega arith
  weight-text (boolean b) = omega arith
  weight-text (number n) = omega arith
  weight-text (string s) = let all = length-quoted s in omega arith
  weight-text (array ds) = let all = items-text-first ds in omega arith
  weight-text (object ms) = let all = members-text false ms in omega arith

  items-text-first : (ds : Items) → items_weight ds ≤ length (items_text false ds)
  items-text-first no_items = omega arith
  items-text-first (item d ds) =
      let here = weight-text d in
      let rest = items-text-later ds in
      let both = length-append (compact_text d) (items_text true ds) in omega arith

  items-text-later : (ds : Items) → 1 + items_weight ds ≤ length (items_text true ds)
  items-text-later no_items = omega arith
  items-text-later (item d ds) =
      let here = weight-text d in
      let rest = items-text-later ds in
      let both = length-append (compact_text d) (items_text true ds) in omega arith

  members-text : (later : Bool) (ms : Members) → members_weight ms ≤ length (members_text later ms)
  members-text later no_members = omega arith
  members-text later (member k d ms) =
      let name = length-quoted k in
      let here = weight-text d in
      let rest = members-text true ms in
      let all = length-append (comma_if later) (quoted k ++ 58 ∷ (compact_text d ++ members_text true ms)) in
      let front = length-append (quoted k) (58 ∷ (compact_text d ++ members_text true ms)) in
      let both = length-append (compact_text d) (members_text true ms) in omega arith

no_room : (limit w n : ℕ) → w ≤ n → is_some (spend limit w) ≡ false → nat_le n limit ≡ false
no_room limit w n more h = grind arith

-- where a limit doesn't cover the weight, the text is longer
pub too_heavy : (d : Data) (limit : ℕ) → is_some (spend limit (weight d)) ≡ false → nat_le (length (compact_text d)) limit ≡ false
too_heavy d limit h = no_room limit (weight d) (length (compact_text d)) (weight-text d) h

weighed : (limit bytes : ℕ) (d : Data) → is_whole d ≡ true → depth d ≤ limit → plain_left limit bytes d ≡ spend bytes (weight d)
weighed limit bytes d whole flat = grind arith

-- where whole data that nest within the limit aren't plain, the text is longer
pub not_plain : (d : Data) (limit bytes : ℕ) → is_some (plain_left limit bytes d) ≡ false → is_whole d ≡ true → depth d ≤ limit
    → nat_le (length (compact_text d)) bytes ≡ false
not_plain d limit bytes h whole flat = too_heavy d bytes (ap is_some (sym (weighed limit bytes d whole flat)) ∙ h)

-- A flag more in a set: there is room for it, and how much it takes.
use Rattle.std.proofs.Common.{◌≡◌, ◌≤◌, ◌<◌, ◌+◌, ℕ, List, length, true, ap, ◌∙◌, arith}
use Rattle.std.specs.Prelude.{nat_le}
use Rattle.std.specs.FinMap as fin
use Rattle.std.proofs.lemmas.Bool.{and_from, and_parts, le-leb, leb-true}
use Rattle.fp_base.specs.Bytes.{bytes_cmp}
use Rattle.fp_definition.specs.Key.{is_key}
use Rattle.fp_definition.specs.Numbers.{LONGEST_KEY}
use Rattle.fp_definition.specs.Valid.{is_definition_text}
use Rattle.fp_documents.specs.declared.flags.Flag.{Flag}
use Rattle.fp_documents.proofs.Sizes.{count-insert, size-empty, size-insert}
use Rattle.fp_edit.specs.Admits.{is_within}
use Rattle.fp_edit.specs.Flags.{Flags, State, size}
use Rattle.fp_edit.specs.Numbers.{MOST_FLAGS}
use Rattle.fp_shown.specs.Reading.{LONGEST_FLAG, PutsFlag}
use Rattle.fp_shown.proofs.Definitions.{object_text}

pub key_short : (k : List ℕ) → is_key k ≡ true → length k ≤ LONGEST_KEY
key_short k is =
    leb-true (length k) LONGEST_KEY
    (and_parts (nat_le 1 (length k)) (nat_le (length k) LONGEST_KEY) is).1

-- a flag counts as one at most, and takes no more than the longest
record IsLittle (flags : Flags) (more : Flags) : Type 0 where
  pub count : fin.len more ≤ fin.len flags + 1
  pub size : size more ≤ size flags + LONGEST_FLAG

little : (flags : Flags) (k : List ℕ) (f : Flag) → is_key k ≡ true
    → is_definition_text f.definition ≡ true → IsLittle flags (fin.insert flags k f)
little flags k f key text =
    let counted = count-insert flags k f in
    let sized = size-insert flags k f in
    let short = key_short k key in
    let few = (object_text f.definition text).short in
    record { count = omega (arith, counted); size = omega (arith, sized, short, few) }

pub has_room : (flags : Flags) (k : List ℕ) (f : Flag) (limit : ℕ) → fin.len flags < MOST_FLAGS
    → size flags + LONGEST_FLAG ≤ limit → is_key k ≡ true → is_definition_text f.definition ≡ true
    → is_within (fin.insert flags k f) limit ≡ true
has_room flags k f limit few room key text =
    let grown = little flags k f key text in
    let count = grown.count in
    let sized = grown.size in
    let more = fin.insert flags k f in
    let fits : fin.len more ≤ MOST_FLAGS = omega (arith, count, few) in
    let small : size more ≤ limit = omega (arith, sized, room) in
    and_from _ _ (le-leb (fin.len more) MOST_FLAGS fits) (le-leb (size more) limit small)

-- what putting a flag leaves of the rest
pub record IsGrown (old new : State) : Type 0 where
  pub count : fin.len new.flags ≤ fin.len old.flags + 1
  pub size : size new.flags ≤ size old.flags + LONGEST_FLAG
  pub revision : new.revision ≡ old.revision
  pub limit : new.limit ≡ old.limit

pub grown : (old new : State) (name value : List ℕ) → PutsFlag old name value new → IsGrown old new
grown old new name value p =
    let f : Flag = record { definition = value; changed = old.revision } in
    let more = little old.flags p.key f p.long p.definition in
    let flags = ap (λ (s : State). s.flags) p.put in
    let counted = more.count in
    let sized = more.size in
    let count = ap (λ (m : Flags). fin.len m) flags in
    let all = ap (λ (m : Flags). size m) flags in
    record {
      count = omega (arith, counted, count);
      size = omega (arith, sized, all);
      revision = ap (λ (s : State). s.revision) p.put;
      limit = ap (λ (s : State). s.limit) p.put;
    }

-- no flags are none, and take what an image has beside them
pub empty_count : (flags : Flags) → flags ≡ fin.empty → fin.len flags ≡ 0
empty_count flags none = ap (λ (m : Flags). fin.len m) none ∙ fin.len-empty bytes_cmp Flag

pub empty_size : (flags : Flags) → flags ≡ fin.empty → size flags ≡ 4
empty_size flags none = ap (λ (m : Flags). size m) none ∙ size-empty

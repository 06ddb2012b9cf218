-- Batches: what is read is spelled so, and what is spelled so is read.
use Rattle.std.proofs.Common.{◌≡◌, ℕ, ◌+◌, ◌^◌, ◌<◌, ◌≤◌, true, false, cond, ◌&&◌, eqb, leb, List, [], ◌∷◌, ◌++◌}
use Rattle.std.proofs.Common.{length, map, None, Result, Ok, Err, refl, sym, ap, subst, ◌∙◌, append_assoc, arith, inl}
use Rattle.std.proofs.Common.{inr}
use Rattle.std.specs.Prelude.{is_none}
use Rattle.std.specs.Int.{w8, w16, w64, to_be_bytes}
use Rattle.std.specs.List.{flat_map, AllByRecursion}
use Rattle.std.proofs.lemmas.Bool.{eqb-true, leb-true, le-leb}
use Rattle.std.proofs.lemmas.List.{append-nil}
use Rattle.fp_edit.specs.Changes.{are_distinct, is_among, is_count, set_fault}
use Rattle.fp_edit.specs.Edits.{Change, one, set}
use Rattle.fp_edit.specs.Parts.{Part, put, delete, part_key}
use Rattle.fp_record.specs.Group.{Group}
use Rattle.fp_base.specs.Steps.{◌>>=◌}
use Rattle.fp_record.specs.Fields.{number_at, key_at, definition_at}
use Rattle.fp_record.specs.WellFormed.{IsKey, IsPart, IsChange, IsBatch}
use Rattle.fp_record.specs.Reading.{new_key_at, put_at, delete_at, part_at, many_from, next_part, part_count, set_at}
use Rattle.fp_record.specs.Reading.{change_at, changes_at, can_count, count_at, batch_at, batch_in}
use Rattle.fp_record.specs.Encoding.{encoding_of_key, encoding_of_definition, encoding_of_part, encoding_of_change, encoding_of_batch}
use Rattle.fp_record.proofs.Keyed.{key_takes, key_again, definition_takes, definition_again}
use Rattle.fp_record.proofs.Lengths.{length-set}
use Rattle.fp_record.proofs.Many.{Leads, many_take, many_again}
use Rattle.fp_record.proofs.Together.{AreNew, all_new, new_behind, new_with, distinct_with, distinct_parts, together, read_short, nothing}
use Rattle.fp_record.proofs.Whole.{whole_ok, whole_again, Takes-all, one_reading}
use Rattle.fp_record.proofs.Places.{IsBytes, bind_ok, passed, met, both_true, ok_is, chosen, From, From-start, From-to}
use Rattle.fp_record.proofs.Places.{Takes, Takes-then, Takes-long, wide8, wide16, wide64, number_takes, number_ends}
use Rattle.fp_record.proofs.Places.{number_again}
use Rattle.fp_edit.specs.declared.edit.TheConstants.{REVISIONS_END}
use Rattle.fp_edit.specs.declared.changes.TheConstants.{MOST_CHANGES, LONGEST_EDIT}
use Rattle.fp_record.specs.declared.batch.TheConstants.{MOST_EDITS, PUT_KIND, DELETE_KIND, SET_KIND}

-- ---- a part of a set, or a change to one flag

new_key_takes : (before : List (List ℕ)) (bytes : List ℕ) (at : ℕ) (x : List ℕ × ℕ) → IsBytes bytes →
    new_key_at before bytes at ≡ Ok x → Takes bytes at (encoding_of_key x.0) x.1 × IsKey x.0 ×
    (is_among x.0 before ≡ false)
unfolding new_key_at
new_key_takes before bytes at x fits e =
    let a = bind_ok (key_at bytes at) (λ key. cond (is_among key.0 before) (Err (at + 2)) (Ok key)) x e in
    let p = passed (is_among a.0.0 before) (at + 2) (Ok a.0) x a.2 in
    let key = key_takes bytes at a.0 fits a.1 in
    subst (λ (y : List ℕ × ℕ). Takes bytes at (encoding_of_key y.0) y.1 × IsKey y.0 × (is_among y.0 before ≡ false))
    (ok_is a.0 x p.1) (key.0, key.1, p.0)

new_key_again : (before : List (List ℕ)) (bytes : List ℕ) (at : ℕ) (key rest : List ℕ) → IsKey key →
    is_among key before ≡ false → From bytes at (encoding_of_key key ++ rest) → (next : ℕ) ×
    (new_key_at before bytes at ≡ Ok (key, next)) × From bytes next rest
unfolding new_key_at
new_key_again before bytes at key rest is new h =
    let k = key_again bytes at key rest is h in
    (k.0, rw (k.1, new) (refl {a = Ok (key, k.0)}), k.2)

-- what a part owes behind these keys
abbrev IsNew : List (List ℕ) → Part → Type 0
IsNew before part = IsPart part × (is_among (part_key part) before ≡ false)

-- what stands behind a part's kind
record HasKind (before : List (List ℕ)) (kind : ℕ) (bytes : List ℕ) (at : ℕ) (x : Part × ℕ) : Type 0 where
  text : List ℕ
  spelled : encoding_of_part x.0 ≡ kind ∷ text
  taken : Takes bytes at text x.1
  lawful : IsNew before x.0

put_takes : (before : List (List ℕ)) (bytes : List ℕ) (at : ℕ) (x : Part × ℕ) → IsBytes bytes →
    put_at before bytes at ≡ Ok x → HasKind before PUT_KIND bytes at x
unfolding put_at encoding_of_part
put_takes before bytes at x fits e =
    let a = bind_ok (new_key_at before bytes at) (λ key. definition_at bytes key.1 >>= λ text. Ok (put key.0 text.0, text.1)) x e in
    let b = bind_ok (definition_at bytes a.0.1) (λ text. Ok (put a.0.0 text.0, text.1)) x a.2 in
    let first = new_key_takes before bytes at a.0 fits a.1 in
    let second = definition_takes bytes a.0.1 b.0 fits b.1 in
    let made : Part × ℕ = (put a.0.0 b.0.0, b.0.1) in
    subst (HasKind before PUT_KIND bytes at) (ok_is made x b.2) (record {
      text = encoding_of_key a.0.0 ++ encoding_of_definition b.0.0;
      spelled = refl;
      taken = Takes-then bytes at (encoding_of_key a.0.0) a.0.1 (encoding_of_definition b.0.0) b.0.1 first.0 second.0;
      lawful = ((first.1, second.1), first.2);
    })

delete_takes : (before : List (List ℕ)) (bytes : List ℕ) (at : ℕ) (x : Part × ℕ) → IsBytes bytes →
    delete_at before bytes at ≡ Ok x → HasKind before DELETE_KIND bytes at x
unfolding delete_at encoding_of_part
delete_takes before bytes at x fits e =
    let a = bind_ok (new_key_at before bytes at) (λ key. Ok (delete key.0, key.1)) x e in
    let first = new_key_takes before bytes at a.0 fits a.1 in
    let made : Part × ℕ = (delete a.0.0, a.0.1) in
    subst (HasKind before DELETE_KIND bytes at) (ok_is made x a.2)
    (record { text = encoding_of_key a.0.0; spelled = refl; taken = first.0; lawful = (first.1, first.2) })

-- the kind that was read is this one
kind_takes : (bytes : List ℕ) (at kind : ℕ) (x : ℕ × ℕ) → IsBytes bytes → number_at w8 bytes at ≡ Ok x →
    eqb x.0 kind ≡ true → to_be_bytes w8 kind ≡ kind ∷ [] → Takes bytes at (kind ∷ []) x.1
kind_takes bytes at kind x fits e is byte =
    let first = number_takes w8 256 wide8 bytes at x fits e in
    subst (λ (t : List ℕ). Takes bytes at t x.1) (ap (to_be_bytes w8) (eqb-true x.0 kind is) ∙ byte) first.0

with_kind : (before : List (List ℕ)) (kind : ℕ) (bytes : List ℕ) (at next : ℕ) (x : Part × ℕ) →
    Takes bytes at (kind ∷ []) next → HasKind before kind bytes next x → Takes bytes at (encoding_of_part x.0) x.1 ×
    IsNew before x.0
with_kind before kind bytes at next x first h =
    let both = Takes-then bytes at (kind ∷ []) next h.text x.1 first h.taken in
    (subst (λ (t : List ℕ). Takes bytes at t x.1) (sym h.spelled) both, h.lawful)

part_takes : (before : List (List ℕ)) (bytes : List ℕ) (at : ℕ) (x : Part × ℕ) → IsBytes bytes →
    part_at before bytes at ≡ Ok x → Takes bytes at (encoding_of_part x.0) x.1 × IsNew before x.0
unfolding part_at
part_takes before bytes at x fits e =
    let a = bind_ok (number_at w8 bytes at)
    (λ kind. cond (eqb kind.0 PUT_KIND) (put_at before bytes kind.1)
    (cond (eqb kind.0 DELETE_KIND) (delete_at before bytes kind.1) (Err at))) x e in
    let kind = a.0 in
    elim (chosen (eqb kind.0 PUT_KIND) (put_at before bytes kind.1)
    (cond (eqb kind.0 DELETE_KIND) (delete_at before bytes kind.1) (Err at)) (Ok x) a.2) [
      | inl is ↦ with_kind before PUT_KIND bytes at kind.1 x (kind_takes bytes at PUT_KIND kind fits a.1 is.0 refl)
          (put_takes before bytes kind.1 x fits is.1)
      | inr rest ↦ let is = met (eqb kind.0 DELETE_KIND) at (delete_at before bytes kind.1) x rest.1 in
          with_kind before DELETE_KIND bytes at kind.1 x (kind_takes bytes at DELETE_KIND kind fits a.1 is.0 refl)
          (delete_takes before bytes kind.1 x fits is.1)
    ]

-- behind the kind of a change
kind_again : (kind : ℕ) (bytes : List ℕ) (at : ℕ) (text rest : List ℕ) → to_be_bytes w8 kind ≡ kind ∷ [] →
    kind < 256 → From bytes at ((kind ∷ text) ++ rest) → (next : ℕ) × (number_at w8 bytes at ≡ Ok (kind, next)) ×
    From bytes next (text ++ rest)
kind_again kind bytes at text rest byte small h =
    number_again w8 256 wide8 bytes at kind (text ++ rest) small
    (subst (λ (t : List ℕ). From bytes at (t ++ (text ++ rest))) (sym byte) h)

-- what was read is no set
abbrev IsSingle : List ℕ → ℕ → Type 0
IsSingle bytes at = (kind : ℕ × ℕ) × (number_at w8 bytes at ≡ Ok kind) × (eqb kind.0 SET_KIND ≡ false)

part_again : (before : List (List ℕ)) (bytes : List ℕ) (at : ℕ) (part : Part) (rest : List ℕ) → IsNew before part →
    From bytes at (encoding_of_part part ++ rest) → (next : ℕ) × (part_at before bytes at ≡ Ok (part, next)) ×
    From bytes next rest × IsSingle bytes at
unfolding part_at put_at delete_at encoding_of_part
part_again before bytes at (put key text) rest is h =
    let kind = kind_again PUT_KIND bytes at (encoding_of_key key ++ encoding_of_definition text) rest refl (omega arith) h in
    let first = new_key_again before bytes kind.0 key (encoding_of_definition text ++ rest) is.0.0 is.1
    (subst (λ (t : List ℕ). From bytes kind.0 t)
    (append_assoc (encoding_of_key key) (encoding_of_definition text) rest) kind.2) in
    let second = definition_again bytes first.0 text rest is.0.1 first.2 in
    (second.0, rw (kind.1, first.1, second.1) (refl {a = Ok (put key text, second.0)}), second.2, ((PUT_KIND, kind.0), kind.1, refl))
part_again before bytes at (delete key) rest is h =
    let kind = kind_again DELETE_KIND bytes at (encoding_of_key key) rest refl (omega arith) h in
    let first = new_key_again before bytes kind.0 key rest is.0 is.1 kind.2 in
    (first.0, rw (kind.1, first.1) (refl {a = Ok (delete key, first.0)}), first.2, ((DELETE_KIND, kind.0), kind.1, refl))

-- ---- the parts of a set

abbrev keys : List Part → List (List ℕ)
keys parts = map part_key parts

-- a part leads from the keys before to those with its own
abbrev IsNext : List (List ℕ) × ℕ → Part → List (List ℕ) × ℕ → Type 0
IsNext from part to = IsNew from.0 part × (to.0 ≡ from.0 ++ part_key part ∷ [])

next_takes : (bytes : List ℕ) (from : List (List ℕ) × ℕ) (x : Part × (List (List ℕ) × ℕ)) → IsBytes bytes →
    next_part bytes from ≡ Ok x → Takes bytes from.1 (encoding_of_part x.0) x.1.1 × IsNext from x.0 x.1
unfolding next_part
next_takes bytes from x fits e =
    let a = bind_ok (part_at from.0 bytes from.1) (λ part. Ok (part.0, (from.0 ++ part_key part.0 ∷ [], part.1))) x e in
    let part = part_takes from.0 bytes from.1 a.0 fits a.1 in
    let made : Part × (List (List ℕ) × ℕ) = (a.0.0, (from.0 ++ part_key a.0.0 ∷ [], a.0.1)) in
    subst (λ (y : Part × (List (List ℕ) × ℕ)). Takes bytes from.1 (encoding_of_part y.0) y.1.1 × IsNext from y.0 y.1)
    {x = made} {y = x} (ok_is made x a.2) (part.0, (part.1, refl))

-- what parts owe behind these keys, beside their number and their length
record AreParts (before : List (List ℕ)) (parts : List Part) : Type 0 where
  lawful : AllByRecursion IsPart parts
  new : AreNew before (keys parts)
  distinct : are_distinct (keys parts) ≡ true

all_parts : (from : List (List ℕ) × ℕ) (parts : List Part) (to : List (List ℕ) × ℕ) → Leads IsNext from parts to → AreParts from.0 parts
all_parts from [] to h = record { lawful = tt; new = tt; distinct = refl }
all_parts from (part ∷ parts) to h =
    let step = h.1 in
    let rest = all_parts h.0 parts to h.2 in
    let others = new_behind from.0 (part_key part) (keys parts)
    (subst (λ (before : List (List ℕ)). AreNew before (keys parts)) step.1 rest.new) in
    record {
      lawful = (step.0.0, rest.lawful);
      new = (step.0.1, others.0);
      distinct =
          distinct_with (part_key part) (keys parts) others.1 rest.distinct;
    }

parts_take : (bytes : List ℕ) (n at : ℕ) (x : List Part × (List (List ℕ) × ℕ)) → IsBytes bytes → at ≤ length bytes →
    many_from (next_part bytes) n ([], at) ≡ Ok x → Takes bytes at (flat_map encoding_of_part x.0) x.1.1 ×
    (length x.0 ≡ n) × AreParts [] x.0
parts_take bytes n at x fits within e =
    let all = many_take bytes (next_part bytes) (λ from. from.1) encoding_of_part IsNext
    (λ from y h. next_takes bytes from y fits h) n ([], at) x within e in
    (all.0, all.1, all_parts ([], at) x.0 x.1 all.2)

next_again : (bytes : List ℕ) (from : List (List ℕ) × ℕ) (part : Part) (parts : List Part) (rest : List ℕ) →
    AreParts from.0 (part ∷ parts) → From bytes from.1 (encoding_of_part part ++ rest) → (to : List (List ℕ) × ℕ) ×
    (next_part bytes from ≡ Ok (part, to)) × From bytes to.1 rest × AreParts to.0 parts
unfolding next_part
next_again bytes from part parts rest are h =
    let one = part_again from.0 bytes from.1 part rest (are.lawful.0, are.new.0) h in
    let different = distinct_parts (part_key part) (keys parts) are.distinct in
    let to : List (List ℕ) × ℕ = (from.0 ++ part_key part ∷ [], one.0) in (
      to,
      rw one.1 (refl {a = Ok (part, to)}),
      one.2,
      record {
        lawful = are.lawful.1;
        new =
            new_with from.0 (part_key part) (keys parts) are.new.1 different.0;
        distinct = different.1;
      },
    )

parts_again : (bytes : List ℕ) (at : ℕ) (parts : List Part) (rest : List ℕ) → AllByRecursion IsPart parts →
    are_distinct (keys parts) ≡ true → From bytes at (flat_map encoding_of_part parts ++ rest)
    → (to : List (List ℕ) × ℕ) × (many_from (next_part bytes) (length parts) ([], at) ≡ Ok (parts, to)) × From bytes to.1 rest
parts_again bytes at parts rest is distinct h =
    many_again bytes (next_part bytes) (λ from. from.1) encoding_of_part (λ from all. AreParts from.0 all)
    (next_again bytes) parts ([], at) rest
    (record { lawful = is; new = all_new (keys parts); distinct = distinct }) h

-- ---- sets

part_count_takes : (bytes : List ℕ) (at : ℕ) (x : ℕ × ℕ) → IsBytes bytes → part_count bytes at ≡ Ok x →
    Takes bytes at (to_be_bytes w16 x.0) x.1 × (is_count x.0 ≡ true)
unfolding part_count
part_count_takes bytes at x fits e =
    let a = bind_ok (number_at w16 bytes at) (λ count. cond (is_count count.0) (Ok count) (Err at)) x e in
    let m = met (is_count a.0.0) at (Ok a.0) x a.2 in
    let number = number_takes w16 (2 ^ 16) wide16 bytes at a.0 fits a.1 in
    subst (λ (y : ℕ × ℕ). Takes bytes at (to_be_bytes w16 y.0) y.1 × (is_count y.0 ≡ true)) (ok_is a.0 x m.1) (number.0, m.0)

part_count_again : (bytes : List ℕ) (at count : ℕ) (rest : List ℕ) → is_count count ≡ true →
    From bytes at (to_be_bytes w16 count ++ rest) → (next : ℕ) × (part_count bytes at ≡ Ok (count, next)) ×
    From bytes next rest
unfolding part_count
part_count_again bytes at count rest is h =
    let few : count ≤ MOST_CHANGES = leb-true count MOST_CHANGES (both_true (leb 1 count) (leb count MOST_CHANGES) is).1 in
    let n = number_again w16 (2 ^ 16) wide16 bytes at count rest (omega (arith, few)) h in
    (n.0, rw (n.1, is) (refl {a = Ok (count, n.0)}), n.2)

-- what was read of a set's parts, up to this end; its kind stands here
record AreRead (bytes : List ℕ) (kind at : ℕ) (parts : List Part) (end : ℕ) : Type 0 where
  taken : Takes bytes at (to_be_bytes w16 (length parts) ++ flat_map encoding_of_part parts) end
  lawful : AllByRecursion IsPart parts
  short : leb end (kind + LONGEST_EDIT) ≡ is_none (set_fault parts)

-- from the count of a set on, up to an end that its length tells
set_short : (kind at end : ℕ) (parts : List Part) → at ≡ kind + 1 →
    end ≡ at + length (to_be_bytes w16 (length parts) ++ flat_map encoding_of_part parts) →
    is_count (length parts) ≡ true → are_distinct (keys parts) ≡ true
    → leb end (kind + LONGEST_EDIT) ≡ is_none (set_fault parts)
unfolding encoding_of_change
set_short kind at end parts behind long count distinct =
    read_short kind end parts (omega (arith, behind, long, length-set parts)) count distinct

set_reads : (bytes : List ℕ) (kind at : ℕ) (count : ℕ × ℕ) (x : List Part × (List (List ℕ) × ℕ)) → IsBytes bytes →
    at ≡ kind + 1 → at ≤ length bytes → part_count bytes at ≡ Ok count →
    many_from (next_part bytes) count.0 ([], count.1) ≡ Ok x → AreRead bytes kind at x.0 x.1.1
set_reads bytes kind at count x fits behind within e h =
    let one = part_count_takes bytes at count fits e in
    let two = parts_take bytes count.0 count.1 x fits one.0.within h in
    let counted : Takes bytes at (to_be_bytes w16 (length x.0)) count.1 =
    subst (λ (n : ℕ). Takes bytes at (to_be_bytes w16 n) count.1) (sym {a = length x.0} {b = count.0} two.1)
    one.0 in
    let all = Takes-then bytes at (to_be_bytes w16 (length x.0)) count.1 (flat_map encoding_of_part x.0) x.1.1 counted two.0 in
    let is : is_count (length x.0) ≡ true = ap is_count two.1 ∙ one.1 in
    record {
      taken = all;
      lawful = two.2.lawful;
      short =
          set_short kind at x.1.1 x.0 behind
          (Takes-long bytes at (to_be_bytes w16 (length x.0) ++ flat_map encoding_of_part x.0) x.1.1 within all) is
          two.2.distinct;
    }

-- a set's parts were read, and their length tells that they lack nothing
module _ (bytes : List ℕ) (kind at : ℕ) (count : ℕ × ℕ) (x : List Part × (List (List ℕ) × ℕ)) (fits : IsBytes bytes)
    (behind : at ≡ kind + 1) (within : at ≤ length bytes)
    (e : part_count bytes at ≡ Ok count) (h : many_from (next_part bytes) count.0 ([], count.1) ≡ Ok x) where
  pub set_lawful : x.1.1 ≤ kind + LONGEST_EDIT → set_fault x.0 ≡ None
  set_lawful short = nothing (set_fault x.0)
      (sym (set_reads bytes kind at count x fits behind within e h).short ∙ le-leb x.1.1 (kind + LONGEST_EDIT) short)

set_takes : (bytes : List ℕ) (kind at : ℕ) (x : Change × ℕ) → IsBytes bytes → at ≡ kind + 1 → at ≤ length bytes →
    Takes bytes kind (SET_KIND ∷ []) at → set_at bytes kind at ≡ Ok x →
    Takes bytes kind (encoding_of_change x.0) x.1 × IsChange x.0
unfolding set_at encoding_of_change
set_takes bytes kind at x fits behind within first e =
    let a = bind_ok (part_count bytes at)
    (λ count. many_from (next_part bytes) count.0 ([], count.1) >>= λ parts. cond
    (leb parts.1.1 (kind + LONGEST_EDIT)) (Ok (set parts.0, parts.1.1)) (Err kind)) x e in
    let count = a.0 in
    let b = bind_ok (many_from (next_part bytes) count.0 ([], count.1))
    (λ parts. cond (leb parts.1.1 (kind + LONGEST_EDIT)) (Ok (set parts.0, parts.1.1)) (Err kind)) x a.2 in
    let parts = b.0.0 in
    let made : Change × ℕ = (set parts, b.0.1.1) in
    let m = met (leb b.0.1.1 (kind + LONGEST_EDIT)) kind (Ok made) x b.2 in
    let read = set_reads bytes kind at count b.0 fits behind within a.1 b.1 in
    let none : set_fault parts ≡ None = nothing (set_fault parts) (sym read.short ∙ m.0) in
    subst (λ (y : Change × ℕ). Takes bytes kind (encoding_of_change y.0) y.1 × IsChange y.0) {x = made} {y = x} (ok_is made x m.1) (
      Takes-then bytes kind (SET_KIND ∷ []) at (to_be_bytes w16 (length parts) ++ flat_map encoding_of_part parts)
          b.0.1.1 first read.taken,
      (read.lawful, none),
    )

set_again : (bytes : List ℕ) (kind at : ℕ) (parts : List Part) (rest : List ℕ) → at ≡ kind + 1 →
    IsChange (set parts) → From bytes
    at ((to_be_bytes w16 (length parts) ++ flat_map encoding_of_part parts) ++ rest) → (next : ℕ) ×
    (set_at bytes kind at ≡ Ok (set parts, next)) × From bytes next rest
unfolding set_at
set_again bytes kind at parts rest behind is h =
    let owed = together parts is.1 in
    let spelled = flat_map encoding_of_part parts in
    let one = part_count_again bytes at (length parts) (spelled ++ rest) owed.count
    (subst (λ (t : List ℕ). From bytes at t) (append_assoc (to_be_bytes w16 (length parts)) spelled rest) h) in
    let two = parts_again bytes one.0 parts rest is.0 owed.distinct one.2 in
    let end = two.0.1 in
    let long : end ≡ at + length (to_be_bytes w16 (length parts) ++ spelled) =
    From-to bytes at (to_be_bytes w16 (length parts) ++ spelled) rest end h two.2 in
    let short : leb end (kind + LONGEST_EDIT) ≡ true = set_short kind at end parts behind long owed.count owed.distinct ∙ ap is_none is.1 in
    (end, rw (one.1, two.1, short) (refl {a = Ok (set parts, end)}), two.2)

-- ---- a change

change_takes : (bytes : List ℕ) (at : ℕ) (x : Change × ℕ) → IsBytes bytes → change_at bytes at ≡ Ok x →
    Takes bytes at (encoding_of_change x.0) x.1 × IsChange x.0
unfolding change_at encoding_of_change
change_takes bytes at x fits e =
    let single : Result (Change × ℕ) ℕ = part_at [] bytes at >>= λ part. Ok (one part.0, part.1) in
    let a = bind_ok (number_at w8 bytes at) (λ kind. cond (eqb kind.0 SET_KIND) (set_at bytes at kind.1) single) x e in
    let kind = a.0 in
    elim (chosen (eqb kind.0 SET_KIND) (set_at bytes at kind.1) single (Ok x) a.2) [
      | inl is ↦ let ends = number_ends w8 bytes at kind a.1 in
          set_takes bytes at kind.1 x fits ends.0 ends.1 (kind_takes bytes at SET_KIND kind fits a.1 is.0 refl) is.1
      | inr is ↦ let b = bind_ok (part_at [] bytes at) (λ part. Ok (one part.0, part.1)) x is.1 in
          let part = part_takes [] bytes at b.0 fits b.1 in
          let made : Change × ℕ = (one b.0.0, b.0.1) in
          subst (λ (y : Change × ℕ). Takes bytes at (encoding_of_change y.0) y.1 × IsChange y.0) {x = made} {y = x}
          (ok_is made x b.2) (part.0, part.1.0)
    ]

change_again : (bytes : List ℕ) (at : ℕ) (change : Change) (rest : List ℕ) → IsChange change →
    From bytes at (encoding_of_change change ++ rest) → (next : ℕ) × (change_at bytes at ≡ Ok (change, next)) ×
    From bytes next rest
unfolding change_at encoding_of_change
change_again bytes at (one part) rest is h =
    let found = part_again [] bytes at part rest (is, refl) h in
    let kind = found.3 in
    (found.0, rw (kind.1, kind.2, found.1) (refl {a = Ok (one part, found.0)}), found.2)
change_again bytes at (set parts) rest is h =
    let kind = kind_again SET_KIND bytes at (to_be_bytes w16 (length parts) ++ flat_map encoding_of_part parts) rest refl (omega arith) h in
    let ends = number_ends w8 bytes at (SET_KIND, kind.0) kind.1 in
    let found = set_again bytes at kind.0 parts rest ends.0 is kind.2 in
    (found.0, rw (kind.1, found.1) (refl {a = Ok (set parts, found.0)}), found.2)

-- ---- changes

all_lawful : (at : ℕ) (changes : List Change) (end : ℕ) → Leads (λ s change t. IsChange change) at changes end →
    AllByRecursion IsChange changes
all_lawful at [] end h = tt
all_lawful at (change ∷ changes) end h = (h.1, all_lawful h.0 changes end h.2)

changes_take : (bytes : List ℕ) (n at : ℕ) (x : List Change × ℕ) → IsBytes bytes → at ≤ length bytes →
    changes_at n bytes at ≡ Ok x → Takes bytes at (flat_map encoding_of_change x.0) x.1 × (length x.0 ≡ n) ×
    AllByRecursion IsChange x.0
changes_take bytes n at x fits within e =
    let all = many_take bytes (change_at bytes) (λ s. s) encoding_of_change (λ s change t. IsChange change)
    (λ s y h. change_takes bytes s y fits h) n at x within e in
    (all.0, all.1, all_lawful at x.0 x.1 all.2)

changes_again : (bytes : List ℕ) (at : ℕ) (changes : List Change) (rest : List ℕ) → AllByRecursion IsChange changes →
    From bytes at (flat_map encoding_of_change changes ++ rest) → (next : ℕ) ×
    (changes_at (length changes) bytes at ≡ Ok (changes, next)) × From bytes next rest
changes_again bytes at changes rest is h =
    many_again bytes (change_at bytes) (λ s. s) encoding_of_change (λ s all. AllByRecursion IsChange all)
    (λ s change all more can from. let one = change_again bytes s change more can.0 from in
    (one.0, one.1, one.2, can.1)) changes at rest is h

-- ---- batches

can_count_all : (first count : ℕ) → can_count first count ≡ true → (0 < count) × (count ≤ MOST_EDITS) × (first + count ≤ REVISIONS_END)
can_count_all first count e =
    let a = both_true (leb 1 count && leb count MOST_EDITS) (leb (first + count) REVISIONS_END) e in
    let b = both_true (leb 1 count) (leb count MOST_EDITS) a.0 in
    (leb-true 1 count b.0, leb-true count MOST_EDITS b.1, leb-true (first + count) REVISIONS_END a.1)

can_count_back : (first count : ℕ) → 0 < count → count ≤ MOST_EDITS → first + count ≤ REVISIONS_END → can_count first count ≡ true
can_count_back first count some few revisions =
    rw (le-leb 1 count some, le-leb count MOST_EDITS few, le-leb (first + count) REVISIONS_END revisions) refl

count_takes : (first : ℕ) (bytes : List ℕ) (at : ℕ) (x : ℕ × ℕ) → IsBytes bytes → count_at first bytes at ≡ Ok x →
    Takes bytes at (to_be_bytes w16 x.0) x.1 × (0 < x.0) × (x.0 ≤ MOST_EDITS) × (first + x.0 ≤ REVISIONS_END)
unfolding count_at
count_takes first bytes at x fits e =
    let a = bind_ok (number_at w16 bytes at) (λ count. cond (can_count first count.0) (Ok count) (Err at)) x e in
    let m = met (can_count first a.0.0) at (Ok a.0) x a.2 in
    let number = number_takes w16 (2 ^ 16) wide16 bytes at a.0 fits a.1 in
    subst (λ (y : ℕ × ℕ). Takes bytes at (to_be_bytes w16 y.0) y.1 × (0 < y.0) × (y.0 ≤ MOST_EDITS) ×
    (first + y.0 ≤ REVISIONS_END)) (ok_is a.0 x m.1) (let can = can_count_all first a.0.0 m.0 in
    (number.0, can.0, can.1, can.2))

count_again : (first : ℕ) (bytes : List ℕ) (at count : ℕ) (rest : List ℕ) → 0 < count → count ≤ MOST_EDITS →
    first + count ≤ REVISIONS_END → From bytes at (to_be_bytes w16 count ++ rest) → (next : ℕ) ×
    (count_at first bytes at ≡ Ok (count, next)) × From bytes next rest
unfolding count_at
count_again first bytes at count rest some few revisions h =
    let n = number_again w16 (2 ^ 16) wide16 bytes at count rest (omega (arith, few)) h in
    (n.0, rw (n.1, can_count_back first count some few revisions) (refl {a = Ok (count, n.0)}), n.2)

pub batch_takes : (bytes : List ℕ) (x : Group × ℕ) → IsBytes bytes → batch_at bytes ≡ Ok x →
    Takes bytes 0 (encoding_of_batch x.0) x.1 × IsBatch x.0
unfolding batch_at encoding_of_batch
batch_takes bytes x fits e =
    let a = bind_ok (number_at w64 bytes 0)
    (λ first. count_at first.0 bytes first.1 >>= λ count. changes_at count.0 bytes count.1 >>= λ changes. Ok
    (record { first = first.0; changes = changes.0 }, changes.1)) x e in
    let first = a.0 in
    let b = bind_ok (count_at first.0 bytes first.1)
    (λ count. changes_at count.0 bytes count.1 >>= λ changes. Ok
    (record { first = first.0; changes = changes.0 }, changes.1)) x a.2 in
    let count = b.0 in
    let c = bind_ok (changes_at count.0 bytes count.1) (λ changes. Ok (record { first = first.0; changes = changes.0 }, changes.1)) x b.2 in
    let changes = c.0 in
    let one = number_takes w64 (2 ^ 64) wide64 bytes 0 first fits a.1 in
    let two = count_takes first.0 bytes first.1 count fits b.1 in
    let three = changes_take bytes count.0 count.1 changes fits two.0.within c.1 in
    let counted : Takes bytes first.1 (to_be_bytes w16 (length changes.0)) count.1 =
    subst (λ (n : ℕ). Takes bytes first.1 (to_be_bytes w16 n) count.1)
    (sym {a = length changes.0} {b = count.0} three.1) two.0 in
    let behind = Takes-then bytes first.1 (to_be_bytes w16 (length changes.0)) count.1
    (flat_map encoding_of_change changes.0) changes.1 counted three.0 in
    let all = Takes-then bytes 0 (to_be_bytes w64 first.0) first.1
    (to_be_bytes w16 (length changes.0) ++ flat_map encoding_of_change changes.0) changes.1 one.0 behind in
    let made : Group × ℕ = (record { first = first.0; changes = changes.0 }, changes.1) in
    subst (λ (y : Group × ℕ). Takes bytes 0
    (to_be_bytes w64 y.0.first ++ (to_be_bytes w16 (length y.0.changes) ++ flat_map encoding_of_change
    y.0.changes)) y.1 × IsBatch y.0) {x = made} {y = x} (ok_is made x c.2) (
      all,
      record {
        some = omega (arith, three.1, two.1);
        few = omega (arith, three.1, two.2);
        revisions =
            omega (arith, three.1, two.3);
        changes = three.2;
      },
    )

pub batch_again : (bytes : List ℕ) (group : Group) (rest : List ℕ) → IsBatch group →
    bytes ≡ encoding_of_batch group ++ rest → (next : ℕ) × (batch_at bytes ≡ Ok (group, next)) × From bytes next rest
unfolding batch_at encoding_of_batch
batch_again bytes group rest is e =
    let some = is.some in
    let few = is.few in
    let revisions = is.revisions in
    let count = length group.changes in
    let changes = flat_map encoding_of_change group.changes in
    let start : From bytes 0 (to_be_bytes w64 group.first ++ (to_be_bytes w16 count ++ (changes ++ rest))) =
    subst (λ (t : List ℕ). From bytes 0 t)
    (e ∙ append_assoc (to_be_bytes w64 group.first) (to_be_bytes w16 count ++ changes) rest ∙
    ap (λ (t : List ℕ). to_be_bytes w64 group.first ++ t) (append_assoc (to_be_bytes w16 count) changes rest))
    (From-start bytes) in
    let one = number_again w64 (2 ^ 64) wide64 bytes 0 group.first (to_be_bytes w16 count ++ (changes ++ rest)) (omega arith) start in
    let two = count_again group.first bytes one.0 count (changes ++ rest) some few revisions one.2 in
    let three = changes_again bytes two.0 group.changes rest is.changes two.2 in
    (three.0, rw (one.1, two.1, three.1) (refl {a = Ok (group, three.0)}), three.2)

-- ---- the whole input

pub batch_spelled : (bytes : List ℕ) (group : Group) → IsBytes bytes → batch_in bytes ≡ Ok group → IsBatch group ×
    (bytes ≡ encoding_of_batch group)
unfolding batch_in
batch_spelled bytes group fits e =
    let w = whole_ok bytes (batch_at bytes) group e in
    let t = batch_takes bytes (group, length bytes) fits w in
    (t.1, Takes-all bytes (encoding_of_batch group) t.0)

pub batch_found : (bytes : List ℕ) (group : Group) → IsBatch group → bytes ≡ encoding_of_batch group → batch_in bytes ≡ Ok group
unfolding batch_in
batch_found bytes group is e =
    let w = batch_again bytes group [] is (e ∙ sym (append-nil (encoding_of_batch group))) in
    whole_again bytes (batch_at bytes) group w.0 w.1 w.2

-- no spelling begins another
pub batch_alone : (v w : Group) (x y : List ℕ) → IsBatch v → IsBatch w →
    encoding_of_batch v ++ x ≡ encoding_of_batch w ++ y → (v ≡ w) × (x ≡ y)
batch_alone v w x y is_v is_w e =
    let bytes = encoding_of_batch v ++ x in
    let a = batch_again bytes v x is_v refl in
    let b = batch_again bytes w y is_w e in
    one_reading bytes (batch_at bytes) v w a.0 b.0 x y a.1 b.1 a.2 b.2

-- What is read forward is what stands there, and what stands there is read so.
use Rattle.std.proofs.Common.{◌≡◌, ◌<◌, ◌≤◌, ◌+◌, ◌-◌, ◌&&◌, ℕ, zero, suc, Bool, true, false, cond, eqb, leb, ltb, List}
use Rattle.std.proofs.Common.{[], ◌∷◌, length, Option, Some, None, Result, Ok, Err, refl, sym, ap, subst, ◌∙◌, arith}
use Rattle.std.specs.Int.{w64}
use Rattle.std.specs.List.{AllByRecursion}
use Rattle.std.specs.FinMap as fin
use Rattle.std.proofs.lemmas.Bool.{eqb-true, eq-eqb, ne_eqb, leb-true, le-leb, ltb-true, lt-ltb}
use Rattle.fp_base.specs.Steps.{◌>>=◌}
use Rattle.fp_edit.specs.Admits.{refusal, next}
use Rattle.fp_edit.specs.Edits.{Change}
use Rattle.fp_edit.specs.Flags.{State, IsChangedBy, total_cost}
use Rattle.fp_edit.specs.declared.edit.TheConstants.{REVISIONS_END}
use Rattle.fp_documents.specs.declared.flags.Flag.{Flag}
use Rattle.fp_documents.specs.declared.flags.TheConstants.{IMAGE_HEAD}
use Rattle.fp_edit.proofs.Followed.{change-unconditional}
use Rattle.fp_journal.specs.Reading.{IsWrong}
use Rattle.fp_record.specs.Encoding.{encoding_of_image}
use Rattle.fp_record.specs.Fields.{number_at}
use Rattle.fp_record.specs.Group.{Group}
use Rattle.fp_record.specs.Reading.{many_from, change_at, changes_at, count_at, batch_at, batch_in, image_at, image_in, whole}
use Rattle.fp_record.specs.declared.fault.RecordFault.{RecordFault}
use Rattle.fp_record.specs.declared.fault.RecordFault.TheVariants as fault
use Rattle.fp_record.specs.WellFormed.{IsFlag, IsImage}
use Rattle.fp_record.proofs.Batches.{batch_spelled, batch_found}
use Rattle.fp_record.proofs.Images.{AreUpTo, image_spelled, image_found}
use Rattle.fp_record.proofs.Inside.{Inside, inside_then, inside_if, change_inside, count_inside, first_inside}
use Rattle.fp_record.proofs.Inside.{whole_inside, image_in_inside}
use Rattle.fp_record.proofs.Lengths.{length-encoding_of_image}
use Rattle.fp_record.proofs.Loop.{Fails}
use Rattle.fp_record.proofs.Many.{many_next}
use Rattle.fp_record.proofs.Places.{IsBytes, bind_ok, both_true, met, ok_is}
use Rattle.fp_record.proofs.Whole.{whole_ok}
use Rattle.fp_recovery.specs.Reading.{image_under, kind_at, onto, edit_onto, edits_onto, front_behind, batch_onto}
use Rattle.fp_recovery.specs.Refusals.{body_fault}
use Rattle.fp_edit.specs.Following.{unconditional}
use Rattle.fp_edit.specs.declared.edit.EditFault.{EditFault}
use Rattle.fp_recovery.specs.Stands.{IsAllowed, IsImageAt, IsImageOf, Leads, TakesBatch}
use Rattle.fp_recovery.proofs.Faults.{wrong_within}
use Rattle.fp_recovery.proofs.Allowed.{allowed_kind, kind_allows, kind_inside}
use Rattle.fp_recovery.proofs.Reach.{change_reach}
use Rattle.fp_recovery.proofs.Restored.{image_of, image_within}

-- all is read up to the end
whole_at : {A : Type 0} (bytes : List ℕ) (read : Result (A × ℕ) ℕ) (v : A) → read ≡ Ok (v, length bytes) → whole bytes read ≡ Ok v
whole_at bytes read v e = rw (e, eq-eqb (length bytes) (length bytes) refl) (refl {a = Ok v})

-- ---- edits
-- what it takes, a set accepts
taken : (from : State × ℕ) (found : Change × ℕ) (o : Option EditFault) (after : State × ℕ) →
    onto from found o ≡ Ok after → (o ≡ None) × (after ≡ (next from.0 found.0, found.1))
taken from found None after e = (refl, sym (ok_is (next from.0 found.0, found.1) after e))
taken from found (Some fault) after e = absurd cc

edit_made : (version : ℕ) (bytes : List ℕ) (from : State × ℕ) (x : Change × ℕ) → change_at bytes from.1 ≡ Ok x →
    IsAllowed version x.0 → refusal from.0 (unconditional x.0) ≡ None →
    edit_onto version bytes from ≡ Ok (next from.0 x.0, x.1)
unfolding edit_onto
edit_made version bytes from x e allowed none =
    let kind = allowed_kind version bytes from.1 x e allowed in
    rw (kind.1, e, none) (refl {a = Ok (next from.0 x.0, x.1)})

edits_next : (version : ℕ) (bytes : List ℕ) (n : ℕ) (from after to : State × ℕ) →
    edit_onto version bytes from ≡ Ok after → edits_onto version bytes n after ≡ Ok to →
    edits_onto version bytes (suc n) from ≡ Ok to
unfolding edits_onto
edits_next version bytes n from after to e h = rw (e, h) (refl {a = Ok to})

-- changes that were read, each of which has its place in such a slot, lead to this set
record AreMade (version : ℕ) (bytes : List ℕ) (n : ℕ) (from to : State × ℕ) : Type 0 where
  changes : List Change
  read : changes_at n bytes from.1 ≡ Ok (changes, to.1)
  allowed : AllByRecursion (IsAllowed version) changes
  leads : Leads from.0 changes to.0

edits_lead : (version : ℕ) (bytes : List ℕ) (n : ℕ) (from to : State × ℕ) → edits_onto version bytes n from ≡ Ok to →
    AreMade version bytes n from to
unfolding edits_onto edit_onto many_from
edits_lead version bytes zero from to e =
    let is : from ≡ to = ok_is from to e in
    let Read : ℕ → Type 0 = λ k. changes_at zero bytes from.1 ≡ Ok ([], k) in
    record {
      changes = [];
      read = subst Read (ap (λ (z : State × ℕ). z.1) is) refl;
      allowed = tt;
      leads =
          ap (λ (z : State × ℕ). z.0) (sym is);
    }
edits_lead version bytes (suc n) from to e =
    let a = bind_ok (edit_onto version bytes from) (λ after. edits_onto version bytes n after) to e in
    let after = a.0 in
    let k = bind_ok (kind_at version bytes from.1)
    (λ kind. change_at bytes from.1 >>= λ found. onto from found (refusal from.0 (unconditional found.0))) after
    a.1 in
    let b = bind_ok (change_at bytes from.1) (λ found. onto from found (refusal from.0 (unconditional found.0))) after k.2 in
    let found = b.0 in
    let t = taken from found (refusal from.0 (unconditional found.0)) after b.2 in
    let rest = edits_lead version bytes n after to a.2 in
    let others : changes_at n bytes found.1 ≡ Ok (rest.changes, to.1) =
    subst (λ (k : ℕ). changes_at n bytes k ≡ Ok (rest.changes, to.1)) (ap (λ (z : State × ℕ). z.1) t.1) rest.read
    in
    let left : List Change × ℕ = (rest.changes, to.1) in record {
      changes = found.0 ∷ rest.changes;
      read = many_next (change_at bytes) n from.1 found left b.1 others;
      allowed = (kind_allows version bytes from.1 k.0 found k.1 b.1, rest.allowed);
      leads = (after.0, (t.0, ap (λ (z : State × ℕ). z.0) t.1 ∙ ap (next from.0) (sym (change-unconditional found.0))), rest.leads);
    }

edits_back : (version : ℕ) (bytes : List ℕ) (n : ℕ) (from : State × ℕ) (x : List Change × ℕ) (t : State) →
    changes_at n bytes from.1 ≡ Ok x → AllByRecursion (IsAllowed version) x.0 → Leads from.0 x.0 t →
    edits_onto version bytes n from ≡ Ok (t, x.1)
unfolding edits_onto edit_onto many_from
edits_back version bytes zero from x t e allowed led =
    let start : List Change × ℕ = ([], from.1) in
    let Done : List Change × ℕ → Type 0 = λ y. Leads from.0 y.0 t → edits_onto version bytes zero from ≡ Ok (t, y.1) in
    let Same : State → Type 0 = λ s. edits_onto version bytes zero from ≡ Ok (s, from.1) in
    subst Done (ok_is start x e) (λ same. subst Same (sym same) refl) led
edits_back version bytes (suc n) from x t e allowed led =
    let a = bind_ok (change_at bytes from.1)
    (λ one. many_from (change_at bytes) n one.1 >>= λ others. Ok (one.0 ∷ others.0, others.1)) x e in
    let one = a.0 in
    let b = bind_ok (many_from (change_at bytes) n one.1) (λ others. Ok (one.0 ∷ others.0, others.1)) x a.2 in
    let others = b.0 in
    let made : List Change × ℕ = (one.0 ∷ others.0, others.1) in
    let Done : List Change × ℕ → Type 0 = λ y. AllByRecursion (IsAllowed version) y.0 → Leads from.0 y.0 t →
    edits_onto version bytes (suc n) from ≡ Ok (t, y.1) in
    subst Done (ok_is made x b.2)
    (λ all l. let after : State × ℕ = (next from.0 one.0, one.1) in
    let rest : Leads after.0 others.0 t =
    subst (λ (s : State). Leads s others.0 t) (l.1.1 ∙ ap (next from.0) (change-unconditional one.0)) l.2 in
    let none : refusal from.0 (unconditional one.0) ≡ None = l.1.0 in
    let to : State × ℕ = (t, others.1) in
    edits_next version bytes n from after to (edit_made version bytes from one a.1 all.0 none)
    (edits_back version bytes n after others t b.1 all.1 rest))
    allowed led

-- as a loop does
pub onto_more : (version : ℕ) (bytes : List ℕ) (count i : ℕ) (from after : State × ℕ) (total : Result (State × ℕ) ℕ)
    → i < count → edit_onto version bytes from ≡ Ok after → edits_onto version bytes (count - i) from ≡ total →
    edits_onto version bytes (count - (i + 1)) after ≡ total
unfolding edits_onto
onto_more version bytes count i from after total lt h so_far =
    let k : count - i ≡ suc (count - (i + 1)) = omega (arith, lt) in
    let one : edits_onto version bytes (count - i) from ≡ edits_onto version bytes (count - (i + 1)) after = rw (k, h) refl in
    sym one ∙ so_far

pub onto_fails : (e : RecordFault) (version : ℕ) (bytes : List ℕ) (count i : ℕ) (from : State × ℕ)
    (total : Result (State × ℕ) ℕ) → i < count → Fails e (edit_onto version bytes from) →
    edits_onto version bytes (count - i) from ≡ total → Fails e total
unfolding edits_onto
onto_fails fault.Memory version bytes count i from total lt h so_far = tt
onto_fails (fault.BadRecord at) version bytes count i from total lt h so_far =
    let k : count - i ≡ suc (count - (i + 1)) = omega (arith, lt) in
    let one : edits_onto version bytes (count - i) from ≡ Err at = rw (k, h) refl in
    sym so_far ∙ one

pub onto_done : (version : ℕ) (bytes : List ℕ) (count i : ℕ) (from : State × ℕ) (total : Result (State × ℕ) ℕ) →
    count ≤ i → edits_onto version bytes (count - i) from ≡ total → total ≡ Ok from
unfolding edits_onto
onto_done version bytes count i from total le so_far =
    let k : count - i ≡ 0 = omega (arith, le) in
    let one : edits_onto version bytes (count - i) from ≡ Ok from = rw k refl in
    sym so_far ∙ one

-- ---- batches
batch_made : (bytes : List ℕ) (first count : ℕ × ℕ) (changes : List Change × ℕ) → number_at w64 bytes 0 ≡ Ok first →
    count_at first.0 bytes first.1 ≡ Ok count → changes_at count.0 bytes count.1 ≡ Ok changes
    → batch_at bytes ≡ Ok (record { first = first.0; changes = changes.0 }, changes.1)
unfolding batch_at
batch_made bytes first count changes a b c = let group : Group = record { first = first.0; changes = changes.0 } in
    rw (a, b, c) (refl {a = Ok (group, changes.1)})

front_made : (revision : ℕ) (bytes : List ℕ) (first count : ℕ × ℕ) → number_at w64 bytes 0 ≡ Ok first →
    eqb first.0 (revision + 1) ≡ true → count_at first.0 bytes first.1 ≡ Ok count →
    front_behind revision bytes ≡ Ok count
unfolding front_behind
front_made revision bytes first count a same b = rw (a, same) b

front_then : (version : ℕ) (s : State) (bytes : List ℕ) (front : ℕ × ℕ) (to : State × ℕ) →
    front_behind s.revision bytes ≡ Ok front → edits_onto version bytes front.0 (s, front.1) ≡ Ok to →
    (front_behind s.revision bytes >>= λ x. edits_onto version bytes x.0 (s, x.1)) ≡ Ok to
front_then version s bytes front to a b = rw a b

pub batch_is : (version : ℕ) (s t : State) (bytes : List ℕ) → IsBytes bytes → batch_onto version s bytes ≡ Ok t →
    TakesBatch version s bytes t
unfolding batch_onto front_behind batch_in batch_at
batch_is version s t bytes fits e =
    let w = whole_ok bytes (front_behind s.revision bytes >>= λ front. edits_onto version bytes front.0 (s, front.1)) t e in
    let end : State × ℕ = (t, length bytes) in
    let a = bind_ok (front_behind s.revision bytes) (λ front. edits_onto version bytes front.0 (s, front.1)) end w in
    let b = bind_ok (number_at w64 bytes 0)
    (λ first. cond (eqb first.0 (s.revision + 1)) (count_at first.0 bytes first.1) (Err 0)) a.0 a.1 in
    let first = b.0 in
    let m = met (eqb first.0 (s.revision + 1)) 0 (count_at first.0 bytes first.1) a.0 b.2 in
    let start : State × ℕ = (s, a.0.1) in
    let l = edits_lead version bytes a.0.0 start end a.2 in
    let group : Group = record { first = first.0; changes = l.changes } in
    let changes : List Change × ℕ = (l.changes, length bytes) in
    let read : batch_at bytes ≡ Ok (group, length bytes) = batch_made bytes first a.0 changes b.1 m.1 l.read in
    let spelled = batch_spelled bytes group fits (whole_at bytes (batch_at bytes) group read) in
    record {
      group = group;
      lawful = spelled.0;
      allowed = l.allowed;
      spelled = spelled.1;
      follows =
          eqb-true first.0 (s.revision + 1) m.0;
      leads = l.leads;
    }

pub batch_back : (version : ℕ) (s t : State) (bytes : List ℕ) → TakesBatch version s bytes t → batch_onto version s bytes ≡ Ok t
unfolding batch_onto front_behind batch_in batch_at
batch_back version s t bytes h =
    let group = h.group in
    let end : Group × ℕ = (group, length bytes) in
    let w = whole_ok bytes (batch_at bytes) group (batch_found bytes group h.lawful h.spelled) in
    let a = bind_ok (number_at w64 bytes 0)
    (λ first. count_at first.0 bytes first.1 >>= λ count. changes_at count.0 bytes count.1 >>= λ changes. Ok
    (record { first = first.0; changes = changes.0 }, changes.1)) end w in
    let first = a.0 in
    let b = bind_ok (count_at first.0 bytes first.1)
    (λ count. changes_at count.0 bytes count.1 >>= λ changes. Ok
    (record { first = first.0; changes = changes.0 }, changes.1)) end a.2 in
    let count = b.0 in
    let c = bind_ok (changes_at count.0 bytes count.1)
    (λ changes. Ok (record { first = first.0; changes = changes.0 }, changes.1)) end b.2 in
    let changes = c.0 in
    let made : Group × ℕ = (record { first = first.0; changes = changes.0 }, changes.1) in
    let is : made ≡ end = ok_is made end c.2 in
    let follows : first.0 ≡ s.revision + 1 = ap (λ (x : Group × ℕ). x.0.first) is ∙ h.follows in
    let same : changes.0 ≡ group.changes = ap (λ (x : Group × ℕ). x.0.changes) is in
    let allowed : AllByRecursion (IsAllowed version) changes.0 =
    subst (λ (cs : List Change). AllByRecursion (IsAllowed version) cs) (sym same) h.allowed in
    let led : Leads s changes.0 t = subst (λ (cs : List Change). Leads s cs t) (sym same) h.leads in
    let start : State × ℕ = (s, count.1) in
    let edits : edits_onto version bytes count.0 start ≡ Ok (t, length bytes) =
    subst (λ (k : ℕ). edits_onto version bytes count.0 start ≡ Ok (t, k)) (ap (λ (x : Group × ℕ). x.1) is)
    (edits_back version bytes count.0 start changes t c.1 allowed led) in
    let to : State × ℕ = (t, length bytes) in
    let behind : eqb first.0 (s.revision + 1) ≡ true = eq-eqb first.0 (s.revision + 1) follows in
    whole_at bytes (front_behind s.revision bytes >>= λ front. edits_onto version bytes front.0 (s, front.1)) t
    (front_then version s bytes count to (front_made s.revision bytes first count a.1 behind b.1) edits)

pub batch_read : (version : ℕ) (s t : State) (bytes : List ℕ) (front : ℕ × ℕ) (end : ℕ) →
    front_behind s.revision bytes ≡ Ok front → edits_onto version bytes front.0 (s, front.1) ≡ Ok (t, end) →
    end ≡ length bytes → batch_onto version s bytes ≡ Ok t
unfolding batch_onto
batch_read version s t bytes front end a b is =
    let to : State × ℕ = (t, length bytes) in
    whole_at bytes (front_behind s.revision bytes >>= λ x. edits_onto version bytes x.0 (s, x.1)) t
    (front_then version s bytes front to a (subst (λ (n : ℕ). edits_onto version bytes front.0 (s, front.1) ≡ Ok (t, n)) is b))

-- ---- images
-- what is read of an image of this revision under this limit
pub record IsRead (base limit : ℕ) (bytes : List ℕ) (image : List (List ℕ × Flag)) : Type 0 where
  pub numbered : base < REVISIONS_END
  pub short : length bytes ≤ limit
  pub lawful : IsImage image
  pub changed : AreUpTo base image
  pub spelled : bytes ≡ encoding_of_image image

pub image_is : (base limit : ℕ) (bytes : List ℕ) (image : List (List ℕ × Flag)) → IsBytes bytes →
    image_under base limit bytes ≡ Ok image → IsRead base limit bytes image
unfolding image_under
image_is base limit bytes image fits e =
    let m = met (ltb base REVISIONS_END && leb (length bytes) limit) 0 (image_in base bytes) image e in
    let both = both_true (ltb base REVISIONS_END) (leb (length bytes) limit) m.0 in
    let spelled = image_spelled base bytes image fits m.1 in
    record {
      numbered = ltb-true base REVISIONS_END both.0;
      short = leb-true (length bytes) limit both.1;
      lawful =
          spelled.0;
      changed = spelled.1;
      spelled = spelled.2;
    }

-- the flags can stand in a set
pub marks_read : (base : ℕ) (image : List (List ℕ × Flag)) → AllByRecursion IsFlag image → AreUpTo base image →
    AllByRecursion (λ e. IsChangedBy base e.1) image
marks_read base [] lawful old = tt
marks_read base (e ∷ es) lawful old = ((lawful.0.some, old.0), marks_read base es lawful.1 old.1)

pub room_read : (base limit : ℕ) (bytes : List ℕ) (image : List (List ℕ × Flag)) → IsRead base limit bytes image →
    IMAGE_HEAD + total_cost image ≤ limit
room_read base limit bytes image r = let len = ap length r.spelled ∙ length-encoding_of_image image in
    let short = r.short in omega (arith, len, short)

pub image_back : (base limit : ℕ) (bytes : List ℕ) (s : State) → IsImageOf base limit bytes s →
    image_under base limit bytes ≡ Ok (fin.entries s.flags)
unfolding image_under
image_back base limit bytes s h =
    let numbered : ltb base REVISIONS_END ≡ true = lt-ltb base REVISIONS_END h.here.numbered in
    let short : leb (length bytes) limit ≡ true = le-leb (length bytes) limit (image_within base limit bytes s h) in
    rw (numbered, short) (image_found base bytes (fin.entries s.flags) h.lawful h.here.changed h.spelled)

-- as it is read
module _ (base limit : ℕ) (bytes : List ℕ) (numbered : base < REVISIONS_END) (short : length bytes ≤ limit) where
  under : image_under base limit bytes ≡ image_in base bytes
  unfolding image_under
  under = rw (lt-ltb base REVISIONS_END numbered, le-leb (length bytes) limit short) refl

  pub image_fails : (e : RecordFault) → Fails e (image_at base bytes) → Fails e (image_under base limit bytes)
  unfolding image_in
  image_fails fault.Memory h = tt
  image_fails (fault.BadRecord at) h = under ∙ rw h refl

  pub image_left : (image : List (List ℕ × Flag)) (end : ℕ) → image_at base bytes ≡ Ok (image, end) →
      end < length bytes → image_under base limit bytes ≡ Err end
  unfolding image_in
  image_left image end h lt = let other : eqb end (length bytes) ≡ false =
      ne_eqb end (length bytes) (λ is. omega (arith, is, lt)) in under ∙ rw (h, other) refl

  pub image_read : (image : List (List ℕ × Flag)) (end : ℕ) → image_at base bytes ≡ Ok (image, end) →
      end ≡ length bytes → image_under base limit bytes ≡ Ok image
  unfolding image_in
  image_read image end h is = under ∙
      whole_at bytes (image_at base bytes) image (subst (λ (n : ℕ). image_at base bytes ≡ Ok (image, n)) is h)

pub image_stands : (base limit : ℕ) (bytes : List ℕ) (s : State) → IsBytes bytes →
    image_under base limit bytes ≡ Ok (fin.entries s.flags) → s.revision ≡ base → s.limit ≡ limit →
    IsImageOf base limit bytes s
image_stands base limit bytes s fits read revision limit_is =
    let r = image_is base limit bytes (fin.entries s.flags) fits read in
    let here : IsImageAt base limit (fin.entries s.flags) =
    record { numbered = r.numbered; changed = r.changed; within = room_read base limit bytes (fin.entries s.flags) r } in
    image_of base limit bytes (fin.entries s.flags) s r.lawful r.spelled here refl revision limit_is

-- ---- places
module _ (bytes : List ℕ) where
  onto_inside : (from : State × ℕ) (found : Change × ℕ) → change_at bytes from.1 ≡ Ok found →
      found.1 ≤ length bytes → Inside (length bytes) (λ (x : State × ℕ). x.1)
      (onto from found (refusal from.0 (unconditional found.0)))
  onto_inside from found e le = by_answer (refusal from.0 (unconditional found.0)) refl
    where
      by_answer : (o : Option EditFault) → refusal from.0 (unconditional found.0) ≡ o →
          Inside (length bytes) (λ (x : State × ℕ). x.1) (onto from found o)
      by_answer None is = le
      by_answer (Some fault) is = let within =
          wrong_within from.0 found.0 from.1 found.1 fault is (change_reach bytes from.1 found e) in
          omega (arith, within, le)

  edit_inside : (version : ℕ) (from : State × ℕ) → from.1 ≤ length bytes →
      Inside (length bytes) (λ (x : State × ℕ). x.1) (edit_onto version bytes from)
  unfolding edit_onto
  edit_inside version from le = let n = length bytes in let end : State × ℕ → ℕ = λ x. x.1 in
      inside_then n (λ (kind : ℕ). from.1) end (kind_at version bytes from.1)
      (λ kind. change_at bytes from.1 >>= λ found. onto from found (refusal from.0 (unconditional found.0)))
      (kind_inside n version bytes from.1 le)
      (λ kind is k. inside_then n (λ (x : Change × ℕ). x.1) end (change_at bytes from.1)
      (λ found. onto from found (refusal from.0 (unconditional found.0))) (change_inside bytes from.1 le)
      (λ found is f. onto_inside from found is f))

  edits_inside : (version n : ℕ) (from : State × ℕ) → from.1 ≤ length bytes →
      Inside (length bytes) (λ (x : State × ℕ). x.1) (edits_onto version bytes n from)
  unfolding edits_onto
  edits_inside version zero from le = le
  edits_inside version (suc n) from le = let end : State × ℕ → ℕ = λ x. x.1 in
      inside_then (length bytes) end end (edit_onto version bytes from) (λ after. edits_onto version bytes n after)
      (edit_inside version from le) (λ after is a. edits_inside version n after a)

  front_inside : (revision : ℕ) → Inside (length bytes) (λ (x : ℕ × ℕ). x.1) (front_behind revision bytes)
  unfolding front_behind
  front_inside revision = let n = length bytes in let end : ℕ × ℕ → ℕ = λ x. x.1 in
      inside_then n end end (number_at w64 bytes 0)
      (λ first. cond (eqb first.0 (revision + 1)) (count_at first.0 bytes first.1) (Err 0)) (first_inside bytes)
      (λ first is f. inside_if n end (eqb first.0 (revision + 1)) (count_at first.0 bytes first.1) 0
      (count_inside bytes first.0 first.1 f) (omega arith))

pub batch_within : (version : ℕ) (s : State) (bytes : List ℕ) (at : ℕ) → batch_onto version s bytes ≡ Err at → at ≤ length bytes
unfolding batch_onto
batch_within version s bytes at e =
    whole_inside bytes (front_behind s.revision bytes >>= λ front. edits_onto version bytes front.0 (s, front.1)) at
    (inside_then (length bytes) (λ (x : ℕ × ℕ). x.1) (λ (x : State × ℕ). x.1) (front_behind s.revision bytes)
    (λ front. edits_onto version bytes front.0 (s, front.1)) (front_inside bytes s.revision)
    (λ front is f. edits_inside bytes version front.0 (s, front.1) f))
    e

pub image_within_bytes : (base limit : ℕ) (bytes : List ℕ) (at : ℕ) → image_under base limit bytes ≡ Err at → at ≤ length bytes
unfolding image_under
image_within_bytes base limit bytes at e = by_test (ltb base REVISIONS_END && leb (length bytes) limit) e
  where
    by_test : (b : Bool) → cond b (image_in base bytes) (Err 0) ≡ Err at → at ≤ length bytes
    by_test true e = image_in_inside base bytes at e
    by_test false e = let is : 0 ≡ at = cc in omega (arith, is)

-- ---- a fault of a record, as one of its body
pub wrong_batch : (version : ℕ) (s : State) (bytes : List ℕ) (e : RecordFault) →
    Fails e (batch_onto version s bytes) →
    IsWrong (length bytes) (λ (at : ℕ). batch_onto version s bytes ≡ Err at) (body_fault e)
wrong_batch version s bytes fault.Memory h = tt
wrong_batch version s bytes (fault.BadRecord at) h = (batch_within version s bytes at h, h)

pub wrong_image : (base limit : ℕ) (bytes : List ℕ) (e : RecordFault) → Fails e (image_under base limit bytes) →
    IsWrong (length bytes) (λ (at : ℕ). image_under base limit bytes ≡ Err at) (body_fault e)
wrong_image base limit bytes fault.Memory h = tt
wrong_image base limit bytes (fault.BadRecord at) h = (image_within_bytes base limit bytes at h, h)

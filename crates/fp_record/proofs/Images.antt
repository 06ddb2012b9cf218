-- Images: what is read is spelled so, and what is spelled so is read.
use Rattle.std.proofs.Common.{◌≡◌, ℕ, ◌+◌, ◌^◌, ◌<◌, ◌≤◌, true, cond, leb, ◌&&◌, List, [], ◌∷◌, ◌++◌, length, map, Ok}
use Rattle.std.proofs.Common.{Err, refl, sym, ap, subst, ◌∙◌, append_assoc, arith}
use Rattle.std.specs.Int.{w32, w64, to_be_bytes}
use Rattle.std.specs.List.{flat_map, AllByRecursion}
use Rattle.std.specs.List.Sorted.{IsStrictlySortedBy}
use Rattle.std.specs.Ordering.{is_lt}
use Rattle.std.specs.declared.cmp.Ordering.{Ordering}
use Rattle.std.specs.declared.cmp.Ordering.TheVariants.{Less, Equal, Greater}
use Rattle.std.proofs.lemmas.Bool.{leb-true, le-leb}
use Rattle.std.proofs.lemmas.Cmp.{nat_list_cmp_total}
use Rattle.std.proofs.lemmas.List.{append-nil}
use Rattle.fp_base.specs.Bytes.{bytes_cmp}
use Rattle.fp_definition.specs.Key.{is_key}
use Rattle.fp_documents.specs.declared.flags.Flag.{Flag}
use Rattle.fp_base.specs.Steps.{◌>>=◌}
use Rattle.fp_record.specs.Fields.{number_at, key_at, definition_at}
use Rattle.fp_record.specs.WellFormed.{IsKey, IsFlag, IsImage, IsOrdered}
use Rattle.fp_record.specs.Reading.{key_above_at, changed_at, flag_at, many_from, flags_at, flag_count, image_at, image_in, any_revision}
use Rattle.fp_record.specs.Encoding.{encoding_of_key, encoding_of_definition, encoding_of_flag, encoding_of_image}
use Rattle.fp_record.proofs.Keyed.{key_takes, key_again, definition_takes, definition_again}
use Rattle.fp_record.proofs.Many.{Leads, many_take, many_again}
use Rattle.fp_record.proofs.Places.{IsBytes, bind_ok, both_true, met, ok_is, From, From-start, Takes, Takes-then}
use Rattle.fp_record.proofs.Places.{wide32, wide64, number_takes, number_again}
use Rattle.fp_record.proofs.Whole.{whole_ok, whole_again, Takes-all, one_reading}
use Rattle.fp_edit.specs.declared.flag_set.TheConstants.{MOST_FLAGS}

abbrev Keyed : Type 0
Keyed = List ℕ × Flag

abbrev keys : List Keyed → List (List ℕ)
keys flags = map (λ f. f.0) flags

-- ---- a flag's fields

is_less : (o : Ordering) → is_lt o ≡ true → o ≡ Less
is_less Less e = refl
is_less Equal e = absurd cc
is_less Greater e = absurd cc

key_above_takes : (before bytes : List ℕ) (at : ℕ) (x : List ℕ × ℕ) → IsBytes bytes →
    key_above_at before bytes at ≡ Ok x → Takes bytes at (encoding_of_key x.0) x.1 × IsKey x.0 ×
    (bytes_cmp before x.0 ≡ Less)
unfolding key_above_at
key_above_takes before bytes at x fits e =
    let a = bind_ok (key_at bytes at) (λ key. cond (is_lt (bytes_cmp before key.0)) (Ok key) (Err (at + 2))) x e in
    let m = met (is_lt (bytes_cmp before a.0.0)) (at + 2) (Ok a.0) x a.2 in
    let key = key_takes bytes at a.0 fits a.1 in
    subst (λ (y : List ℕ × ℕ). Takes bytes at (encoding_of_key y.0) y.1 × IsKey y.0 × (bytes_cmp before y.0 ≡ Less))
    (ok_is a.0 x m.1) (key.0, key.1, is_less (bytes_cmp before a.0.0) m.0)

key_above_again : (before bytes : List ℕ) (at : ℕ) (key rest : List ℕ) → IsKey key → bytes_cmp before key ≡ Less →
    From bytes at (encoding_of_key key ++ rest) → (next : ℕ) × (key_above_at before bytes at ≡ Ok (key, next)) ×
    From bytes next rest
unfolding key_above_at
key_above_again before bytes at key rest is less h =
    let k = key_again bytes at key rest is h in
    (k.0, rw (k.1, less) (refl {a = Ok (key, k.0)}), k.2)

changed_takes : (newest : ℕ) (bytes : List ℕ) (at : ℕ) (x : ℕ × ℕ) → IsBytes bytes →
    changed_at newest bytes at ≡ Ok x → Takes bytes at (to_be_bytes w64 x.0) x.1 × (0 < x.0) × (x.0 < 2 ^ 64) ×
    (x.0 ≤ newest)
unfolding changed_at
changed_takes newest bytes at x fits e =
    let a = bind_ok (number_at w64 bytes at) (λ changed. cond (leb 1 changed.0 && leb changed.0 newest) (Ok changed) (Err at)) x e in
    let m = met (leb 1 a.0.0 && leb a.0.0 newest) at (Ok a.0) x a.2 in
    let both = both_true (leb 1 a.0.0) (leb a.0.0 newest) m.0 in
    let number = number_takes w64 (2 ^ 64) wide64 bytes at a.0 fits a.1 in
    let some : 0 < a.0.0 = leb-true 1 a.0.0 both.0 in
    let old : a.0.0 ≤ newest = leb-true a.0.0 newest both.1 in
    subst (λ (y : ℕ × ℕ). Takes bytes at (to_be_bytes w64 y.0) y.1 × (0 < y.0) × (y.0 < 2 ^ 64) × (y.0 ≤ newest))
    (ok_is a.0 x m.1) (number.0, some, number.1, old)

changed_again : (newest : ℕ) (bytes : List ℕ) (at changed : ℕ) (rest : List ℕ) → 0 < changed → changed < 2 ^ 64 →
    changed ≤ newest → From bytes at (to_be_bytes w64 changed ++ rest) → (next : ℕ) ×
    (changed_at newest bytes at ≡ Ok (changed, next)) × From bytes next rest
unfolding changed_at
changed_again newest bytes at changed rest some lt old h =
    let n = number_again w64 (2 ^ 64) wide64 bytes at changed rest lt h in
    (n.0, rw (n.1, le-leb 1 changed some, le-leb changed newest old) (refl {a = Ok (changed, n.0)}), n.2)

-- ---- a flag

-- a flag leads from the key before to its own
abbrev IsNext : ℕ → List ℕ × ℕ → Keyed → List ℕ × ℕ → Type 0
IsNext newest from flag to = (IsFlag flag × (flag.1.changed ≤ newest)) × (bytes_cmp from.0 flag.0 ≡ Less) × (to.0 ≡ flag.0)

flag_takes : (newest : ℕ) (bytes : List ℕ) (from : List ℕ × ℕ) (x : Keyed × (List ℕ × ℕ)) → IsBytes bytes →
    flag_at newest bytes from ≡ Ok x → Takes bytes from.1 (encoding_of_flag x.0) x.1.1 × IsNext newest from x.0 x.1
unfolding flag_at encoding_of_flag
flag_takes newest bytes from x fits e =
    let a = bind_ok (key_above_at from.0 bytes from.1)
    (λ key. changed_at newest bytes key.1 >>= λ changed. definition_at bytes changed.1 >>= λ text. Ok
    ((key.0, record { definition = text.0; changed = changed.0 }), (key.0, text.1))) x e in
    let key = a.0 in
    let b = bind_ok (changed_at newest bytes key.1)
    (λ changed. definition_at bytes changed.1 >>= λ text. Ok
    ((key.0, record { definition = text.0; changed = changed.0 }), (key.0, text.1))) x a.2 in
    let changed = b.0 in
    let c = bind_ok (definition_at bytes changed.1)
    (λ text. Ok ((key.0, record { definition = text.0; changed = changed.0 }), (key.0, text.1))) x b.2 in
    let text = c.0 in
    let one = key_above_takes from.0 bytes from.1 key fits a.1 in
    let two = changed_takes newest bytes key.1 changed fits b.1 in
    let three = definition_takes bytes changed.1 text fits c.1 in
    let behind = Takes-then bytes key.1 (to_be_bytes w64 changed.0) changed.1 (encoding_of_definition text.0) text.1 two.0 three.0 in
    let all = Takes-then bytes from.1 (encoding_of_key key.0) key.1
    (to_be_bytes w64 changed.0 ++ encoding_of_definition text.0) text.1 one.0 behind in
    let flag : Keyed = (key.0, record { definition = text.0; changed = changed.0 }) in
    let made : Keyed × (List ℕ × ℕ) = (flag, (key.0, text.1)) in
    let lawful : IsFlag flag = record { key = one.1; some = two.1; changed = two.2; text = three.1 } in
    subst (λ (y : Keyed × (List ℕ × ℕ)). Takes bytes from.1
    (encoding_of_key y.0.0 ++ (to_be_bytes w64 y.0.1.changed ++ encoding_of_definition y.0.1.definition)) y.1.1 ×
    ((IsFlag y.0 × (y.0.1.changed ≤ newest)) × (bytes_cmp from.0 y.0.0 ≡ Less) × (y.1.0 ≡ y.0.0)))
    {x = made} {y = x} (ok_is made x c.2) (all, ((lawful, two.3), one.2, refl))

flag_again : (newest : ℕ) (bytes before : List ℕ) (at : ℕ) (flag : Keyed) (rest : List ℕ) → IsFlag flag →
    flag.1.changed ≤ newest → bytes_cmp before flag.0 ≡ Less → From bytes at (encoding_of_flag flag ++ rest) →
    (next : ℕ) × (flag_at newest bytes (before, at) ≡ Ok (flag, (flag.0, next))) × From bytes next rest
unfolding flag_at encoding_of_flag
flag_again newest bytes before at flag rest is old less h =
    let key = encoding_of_key flag.0 in
    let changed = to_be_bytes w64 flag.1.changed in
    let text = encoding_of_definition flag.1.definition in
    let regrouped : (key ++ (changed ++ text)) ++ rest ≡ key ++ (changed ++ (text ++ rest)) =
    append_assoc key (changed ++ text) rest ∙ ap (λ (t : List ℕ). key ++ t) (append_assoc changed text rest) in
    let one = key_above_again before bytes at flag.0 (changed ++ (text ++ rest)) is.key less
    (subst (λ (t : List ℕ). From bytes at t) regrouped h) in
    let two = changed_again newest bytes one.0 flag.1.changed (text ++ rest) is.some is.changed old one.2 in
    let three = definition_again bytes two.0 flag.1.definition rest is.text two.2 in
    (three.0, rw (one.1, two.1, three.1) (refl {a = Ok (flag, (flag.0, three.0))}), three.2)

-- ---- flags

above_all : (a b : List ℕ) (ks : List (List ℕ)) → bytes_cmp a b ≡ Less →
    AllByRecursion (λ k. bytes_cmp b k ≡ Less) ks → AllByRecursion (λ k. bytes_cmp a k ≡ Less) ks
above_all a b [] less h = tt
above_all a b (k ∷ ks) less h = (nat_list_cmp_total.trans a b k less h.0, above_all a b ks less h.1)

-- flags that were changed at this revision or before
abbrev pub AreUpTo : ℕ → List Keyed → Type 0
AreUpTo newest flags = AllByRecursion (λ f. f.1.changed ≤ newest) flags

all_flags : (newest : ℕ) (from : List ℕ × ℕ) (flags : List Keyed) (to : List ℕ × ℕ) → Leads (IsNext newest) from flags to
    → (AllByRecursion IsFlag flags × AreUpTo newest flags) ×
    AllByRecursion (λ k. bytes_cmp from.0 k ≡ Less) (keys flags) × IsStrictlySortedBy bytes_cmp (keys flags)
unfolding IsStrictlySortedBy
all_flags newest from [] to h = ((tt, tt), tt, tt)
all_flags newest from (flag ∷ flags) to h =
    let step = h.1 in
    let rest = all_flags newest h.0 flags to h.2 in
    let below : AllByRecursion (λ k. bytes_cmp flag.0 k ≡ Less) (keys flags) =
    subst (λ (t : List ℕ). AllByRecursion (λ k. bytes_cmp t k ≡ Less) (keys flags)) step.2 rest.1 in
    (((step.0.0, rest.0.0), (step.0.1, rest.0.1)), (step.1, above_all from.0 flag.0 (keys flags) step.1 below), (below, rest.2))

-- what was read of that many flags
pub record AreFlags (newest n : ℕ) (found : List Keyed) : Type 0 where
  pub count : length found ≡ n
  pub flags : AllByRecursion IsFlag found
  pub changed : AreUpTo newest found
  pub ascending : IsStrictlySortedBy bytes_cmp (keys found)

many_flags : (newest : ℕ) (bytes : List ℕ) (n at : ℕ) (x : List Keyed × (List ℕ × ℕ)) → IsBytes bytes →
    at ≤ length bytes → many_from (flag_at newest bytes) n ([], at) ≡ Ok x
    → Takes bytes at (flat_map encoding_of_flag x.0) x.1.1 × AreFlags newest n x.0
many_flags newest bytes n at x fits within e =
    let all = many_take bytes (flag_at newest bytes) (λ from. from.1) encoding_of_flag (IsNext newest)
    (λ from y h. flag_takes newest bytes from y fits h) n ([], at) x within e in
    let lawful = all_flags newest ([], at) x.0 x.1 all.2 in
    (all.0, record { count = all.1; flags = lawful.0.0; changed = lawful.0.1; ascending = lawful.2 })

flags_take : (newest : ℕ) (bytes : List ℕ) (n at : ℕ) (x : List Keyed × ℕ) → IsBytes bytes → at ≤ length bytes →
    flags_at newest n bytes at ≡ Ok x → Takes bytes at (flat_map encoding_of_flag x.0) x.1 × AreFlags newest n x.0
unfolding flags_at
flags_take newest bytes n at x fits within e =
    let a = bind_ok (many_from (flag_at newest bytes) n ([], at)) (λ flags. Ok (flags.0, flags.1.1)) x e in
    let made : List Keyed × ℕ = (a.0.0, a.0.1.1) in
    subst (λ (y : List Keyed × ℕ). Takes bytes at (flat_map encoding_of_flag y.0) y.1 × AreFlags newest n y.0)
    {x = made} {y = x} (ok_is made x a.2) (many_flags newest bytes n at a.0 fits within a.1)

abbrev CanFollow : ℕ → List ℕ × ℕ → List Keyed → Type 0
CanFollow newest from flags = (AllByRecursion IsFlag flags × AreUpTo newest flags) ×
    AllByRecursion (λ k. bytes_cmp from.0 k ≡ Less) (keys flags) × IsStrictlySortedBy bytes_cmp (keys flags)

-- a key has bytes, so it is above that of none
above_none : (key : List ℕ) → is_key key ≡ true → bytes_cmp [] key ≡ Less
above_none [] e = absurd cc
above_none (b ∷ key) e = refl

all_above_none : (flags : List Keyed) → AllByRecursion IsFlag flags → AllByRecursion (λ k. bytes_cmp [] k ≡ Less) (keys flags)
all_above_none [] h = tt
all_above_none (flag ∷ flags) h = (above_none flag.0 h.0.key.long, all_above_none flags h.1)

flags_again : (newest : ℕ) (bytes : List ℕ) (at : ℕ) (flags : List Keyed) (rest : List ℕ) →
    AllByRecursion IsFlag flags → AreUpTo newest flags → IsStrictlySortedBy bytes_cmp (keys flags)
    → From bytes at (flat_map encoding_of_flag flags ++ rest) → (next : ℕ) ×
    (flags_at newest (length flags) bytes at ≡ Ok (flags, next)) × From bytes next rest
unfolding flags_at IsStrictlySortedBy
flags_again newest bytes at flags rest is old ascending h =
    let all = many_again bytes (flag_at newest bytes) (λ from. from.1) encoding_of_flag (CanFollow newest)
    (λ from flag more behind can stands. let one =
    flag_again newest bytes from.0 from.1 flag behind can.0.0.0 can.0.1.0 can.1.0 stands in
    ((flag.0, one.0), one.1, one.2, ((can.0.0.1, can.0.1.1), can.2.0, can.2.1)))
    flags ([], at) rest ((is, old), all_above_none flags is, ascending) h in
    (all.0.1, rw all.1 (refl {a = Ok (flags, all.0.1)}), all.2)

-- ---- images

flag_count_takes : (bytes : List ℕ) (x : ℕ × ℕ) → IsBytes bytes → flag_count bytes ≡ Ok x →
    Takes bytes 0 (to_be_bytes w32 x.0) x.1 × (x.0 ≤ MOST_FLAGS)
unfolding flag_count
flag_count_takes bytes x fits e =
    let a = bind_ok (number_at w32 bytes 0) (λ count. cond (leb count.0 MOST_FLAGS) (Ok count) (Err 0)) x e in
    let m = met (leb a.0.0 MOST_FLAGS) 0 (Ok a.0) x a.2 in
    let number = number_takes w32 (2 ^ 32) wide32 bytes 0 a.0 fits a.1 in
    subst (λ (y : ℕ × ℕ). Takes bytes 0 (to_be_bytes w32 y.0) y.1 × (y.0 ≤ MOST_FLAGS)) (ok_is a.0 x m.1)
    (number.0, leb-true a.0.0 MOST_FLAGS m.0)

count_again : (bytes : List ℕ) (count : ℕ) (rest : List ℕ) → count ≤ MOST_FLAGS →
    From bytes 0 (to_be_bytes w32 count ++ rest) → (next : ℕ) × (flag_count bytes ≡ Ok (count, next)) ×
    From bytes next rest
unfolding flag_count
count_again bytes count rest few h =
    let n = number_again w32 (2 ^ 32) wide32 bytes 0 count rest (omega (arith, few)) h in
    (n.0, rw (n.1, le-leb count MOST_FLAGS few) (refl {a = Ok (count, n.0)}), n.2)

pub image_takes : (newest : ℕ) (bytes : List ℕ) (x : List Keyed × ℕ) → IsBytes bytes → image_at newest bytes ≡ Ok x →
    Takes bytes 0 (encoding_of_image x.0) x.1 × IsImage x.0 × AreUpTo newest x.0
unfolding image_at encoding_of_image
image_takes newest bytes x fits e =
    let a = bind_ok (flag_count bytes) (λ count. flags_at newest count.0 bytes count.1) x e in
    let count = a.0 in
    let one = flag_count_takes bytes count fits a.1 in
    let two = flags_take newest bytes count.0 count.1 x fits one.0.within a.2 in
    let are = two.1 in
    let n = are.count in
    let few = one.1 in
    let counted : Takes bytes 0 (to_be_bytes w32 (length x.0)) count.1 =
    subst (λ (n : ℕ). Takes bytes 0 (to_be_bytes w32 n) count.1) (sym {a = length x.0} {b = count.0} n) one.0 in (
      Takes-then bytes 0 (to_be_bytes w32 (length x.0)) count.1 (flat_map encoding_of_flag x.0) x.1 counted two.0,
      record { few = omega (arith, n, few); ascending = are.ascending; flags = are.flags },
      are.changed,
    )

pub image_again : (newest : ℕ) (bytes : List ℕ) (image : List Keyed) (rest : List ℕ) → IsImage image →
    AreUpTo newest image → bytes ≡ encoding_of_image image ++ rest → (next : ℕ) ×
    (image_at newest bytes ≡ Ok (image, next)) × From bytes next rest
unfolding image_at encoding_of_image
image_again newest bytes image rest is old e =
    let start : From bytes 0 (to_be_bytes w32 (length image) ++ (flat_map encoding_of_flag image ++ rest)) =
    subst (λ (t : List ℕ). From bytes 0 t)
    (e ∙ append_assoc (to_be_bytes w32 (length image)) (flat_map encoding_of_flag image) rest) (From-start bytes)
    in
    let one = count_again bytes (length image) (flat_map encoding_of_flag image ++ rest) is.few start in
    let two = flags_again newest bytes one.0 image rest is.flags old is.ascending one.2 in
    (two.0, rw (one.1, two.1) (refl {a = Ok (image, two.0)}), two.2)

pub image_spelled : (newest : ℕ) (bytes : List ℕ) (image : List Keyed) → IsBytes bytes →
    image_in newest bytes ≡ Ok image → IsImage image × AreUpTo newest image × (bytes ≡ encoding_of_image image)
unfolding image_in
image_spelled newest bytes image fits e =
    let w = whole_ok bytes (image_at newest bytes) image e in
    let t = image_takes newest bytes (image, length bytes) fits w in
    (t.1, t.2, Takes-all bytes (encoding_of_image image) t.0)

pub image_found : (newest : ℕ) (bytes : List ℕ) (image : List Keyed) → IsImage image → AreUpTo newest image →
    bytes ≡ encoding_of_image image → image_in newest bytes ≡ Ok image
unfolding image_in
image_found newest bytes image is old e =
    let w = image_again newest bytes image [] is old (e ∙ sym (append-nil (encoding_of_image image))) in
    whole_again bytes (image_at newest bytes) image w.0 w.1 w.2

-- no revision is above the greatest number
pub all_up_to : (flags : List Keyed) → AllByRecursion IsFlag flags → AreUpTo any_revision flags
all_up_to [] h = tt
all_up_to (flag ∷ flags) h = let small = h.0.changed in (omega (arith, small), all_up_to flags h.1)

-- no spelling begins another
pub image_alone : (v w : List Keyed) (x y : List ℕ) → IsImage v → IsImage w →
    encoding_of_image v ++ x ≡ encoding_of_image w ++ y → (v ≡ w) × (x ≡ y)
image_alone v w x y is_v is_w e =
    let bytes = encoding_of_image v ++ x in
    let a = image_again any_revision bytes v x is_v (all_up_to v is_v.flags) refl in
    let b = image_again any_revision bytes w y is_w (all_up_to w is_w.flags) e in
    one_reading bytes (image_at any_revision bytes) v w a.0 b.0 x y a.1 b.1 a.2 b.2

-- what an image owes by itself, of one that was read
ordered_flags : (flags : List Keyed) → AllByRecursion IsFlag flags → AllByRecursion (λ f. 0 < f.1.changed) flags
ordered_flags [] h = tt
ordered_flags (flag ∷ flags) h = (h.0.some, ordered_flags flags h.1)

pub read_in_order : (newest : ℕ) (bytes : List ℕ) (x : List Keyed × ℕ) → IsBytes bytes → image_at newest bytes ≡ Ok x
    → IsOrdered x.0
read_in_order newest bytes x fits e =
    let is = (image_takes newest bytes x fits e).1 in
    record { few = is.few; ascending = is.ascending; changed = ordered_flags x.0 is.flags }

-- What stands from an offset on, read forward and found again.
use Rattle.std.proofs.Common.{◌≡◌, ℕ, ◌+◌, ◌-◌, ◌^◌, ◌<◌, ◌≤◌, Bool, true, false, cond, ltb, List, [], ◌∷◌, ◌++◌}
use Rattle.std.proofs.Common.{length, get_or, take, drop, Result, Ok, Err, refl, sym, ap, subst, ◌∙◌, append_assoc}
use Rattle.std.proofs.Common.{arith, inl, inr, ◌⊎◌}
use Rattle.std.specs.Prelude.{slice_range}
use Rattle.std.specs.Int.{Width, w8, w16, w32, w64, byte_len, from_be_bytes, to_be_bytes}
use Rattle.std.proofs.lemmas.Bool.{cases_lt, ltb-false, le-ltb}
use Rattle.std.proofs.lemmas.List.{take_at, drop_at, drop-drop, length-append, length-drop, length-take, get_or-drop}
use Rattle.std.proofs.lemmas.List.{get_or-take, get_or_past}
use Rattle.std.proofs.lemmas.List.Folds.{drop_split}
use Rattle.std.proofs.lemmas.Nat.{be_bytes_2, be_bytes_4, be_bytes_8, from_be_bytes-to_be_bytes_2}
use Rattle.std.proofs.lemmas.Nat.{from_be_bytes-to_be_bytes_4, from_be_bytes-to_be_bytes_8}
use Rattle.fp_base.specs.Steps.{◌>>=◌}
use Rattle.fp_record.specs.Fields.{number_at, bytes_at}
pub use Rattle.std.proofs.lemmas.Bool.{and_parts as both_true}

abbrev pub IsBytes : List ℕ → Type 0
IsBytes bytes = (i : ℕ) → get_or bytes i 0 < 256

-- ---- steps that didn't fail

pub bind_ok : {A B : Type 0} (r : Result A ℕ) (f : A → Result B ℕ) (y : B) → (r >>= f) ≡ Ok y → (x : A) × (r ≡ Ok x) × (f x ≡ Ok y)
bind_ok (Ok x) f y e = (x, refl, e)
bind_ok (Err at) f y e = absurd cc

-- a fault was refused by a test, or by its contrary
pub passed : {A : Type 0} (b : Bool) (at : ℕ) (r : Result A ℕ) (y : A) → cond b (Err at) r ≡ Ok y → (b ≡ false) × (r ≡ Ok y)
passed true at r y e = absurd cc
passed false at r y e = (refl, e)

pub met : {A : Type 0} (b : Bool) (at : ℕ) (r : Result A ℕ) (y : A) → cond b r (Err at) ≡ Ok y → (b ≡ true) × (r ≡ Ok y)
met true at r y e = (refl, e)
met false at r y e = absurd cc

-- which way a test went
pub chosen : {A : Type 0} (b : Bool) (p q r : A) → cond b p q ≡ r → ((b ≡ true) × (p ≡ r)) ⊎ ((b ≡ false) × (q ≡ r))
chosen true p q r e = inl (refl, e)
chosen false p q r e = inr (refl, e)

abbrev done : {A : Type 0} → A → Result A ℕ
done x = Ok x

pub ok_is : {A : Type 0} (x y : A) → done x ≡ done y → x ≡ y
ok_is x y e = cc

-- ---- places

-- this stands there, up to the end
pub record From (bytes : List ℕ) (at : ℕ) (rest : List ℕ) : Type 0 where
  pub within : at ≤ length bytes
  pub is : drop at bytes ≡ rest

pub From-start : (bytes : List ℕ) → From bytes 0 bytes
From-start bytes = record { within = omega arith; is = refl }

From-long : (bytes : List ℕ) (at : ℕ) (text rest : List ℕ) → From bytes at (text ++ rest) → at + length text ≤ length bytes
From-long bytes at text rest h =
    let within = h.within in
    let len : length bytes - at ≡ length text + length rest = sym (length-drop at bytes) ∙ ap length h.is ∙ length-append text rest in
    omega arith

-- behind a text that stands there
pub From-behind : (bytes : List ℕ) (at : ℕ) (text rest : List ℕ) → From bytes at (text ++ rest) → From bytes (at + length text) rest
From-behind bytes at text rest h = record {
  within = From-long bytes at text rest h;
  is = sym (drop-drop (length text) at bytes) ∙ ap (drop (length text)) h.is ∙ drop_at text rest (length text) refl;
}

From-range : (bytes : List ℕ) (at : ℕ) (text rest : List ℕ) → From bytes at (text ++ rest) → slice_range bytes at (at + length text) ≡ text
From-range bytes at text rest h =
    let k : at + length text - at ≡ length text = omega arith in
    rw (k, h.is) (take_at text rest (length text) refl)

-- how far it is from a text to what is behind it
pub From-to : (bytes : List ℕ) (at : ℕ) (text rest : List ℕ) (next : ℕ) → From bytes at (text ++ rest) →
    From bytes next rest → next ≡ at + length text
From-to bytes at text rest next h k =
    let from = h.within in
    let to = k.within in
    let all : length bytes - at ≡ length text + length rest = sym (length-drop at bytes) ∙ ap length h.is ∙ length-append text rest in
    let left : length bytes - next ≡ length rest = sym (length-drop next bytes) ∙ ap length k.is in
    omega (arith, from, to, all, left)

-- a reader took this text, and left what is behind it
pub record Takes (bytes : List ℕ) (at : ℕ) (text : List ℕ) (next : ℕ) : Type 0 where
  pub parts : drop at bytes ≡ text ++ drop next bytes
  pub within : next ≤ length bytes

pub Takes-nothing : (bytes : List ℕ) (at : ℕ) → at ≤ length bytes → Takes bytes at [] at
Takes-nothing bytes at h = record { parts = refl; within = h }

pub Takes-then : (bytes : List ℕ) (a : ℕ) (x : List ℕ) (b : ℕ) (y : List ℕ) (c : ℕ) → Takes bytes a x b →
    Takes bytes b y c → Takes bytes a (x ++ y) c
Takes-then bytes a x b y c p q =
    record {
      parts = p.parts ∙ ap (λ (t : List ℕ). x ++ t) q.parts ∙ sym (append_assoc x y (drop c bytes));
      within =
          q.within;
    }

pub Takes-long : (bytes : List ℕ) (at : ℕ) (text : List ℕ) (next : ℕ) → at ≤ length bytes →
    Takes bytes at text next → next ≡ at + length text
Takes-long bytes at text next from h =
    let to = h.within in
    let all : length bytes - at ≡ length text + (length bytes - next) = sym (length-drop at bytes) ∙
    ap length h.parts ∙ length-append text (drop next bytes) ∙
    ap (λ (n : ℕ). length text + n) (length-drop next bytes) in
    omega (arith, from, to, all)

-- ---- that many bytes

pub bytes_take : (bytes : List ℕ) (len at : ℕ) (x : List ℕ × ℕ) → bytes_at len bytes at ≡ Ok x → Takes bytes at x.0 x.1 × (length x.0 ≡ len)
bytes_take bytes len at x e =
    let g = passed (ltb (length bytes) (at + len)) at (Ok (slice_range bytes at (at + len), at + len)) x e in
    let long : at + len ≤ length bytes = ltb-false _ _ g.0 in
    let size : length (slice_range bytes at (at + len)) ≡ len =
    omega (arith, length-take (at + len - at) (drop at bytes), length-drop at bytes) in
    subst (λ (y : List ℕ × ℕ). Takes bytes at y.0 y.1 × (length y.0 ≡ len)) (ok_is (slice_range bytes at (at + len), at + len) x g.1)
    (record { parts = drop_split bytes at (at + len) (omega arith); within = long }, size)

pub bytes_again : (bytes : List ℕ) (at : ℕ) (text rest : List ℕ) → From bytes at (text ++ rest) →
    bytes_at (length text) bytes at ≡ Ok (text, at + length text)
bytes_again bytes at text rest h =
    let long : ltb (length bytes) (at + length text) ≡ false = le-ltb _ _ (From-long bytes at text rest h) in
    rw long (ap (λ (t : List ℕ). Ok (t, at + length text)) (From-range bytes at text rest h))

-- ---- numbers

pub record IsWide (w : Width) (limit : ℕ) : Type 0 where
  pub len : (n : ℕ) → length (to_be_bytes w n) ≡ byte_len w
  pub back : (bytes : List ℕ) → length bytes ≡ byte_len w → IsBytes bytes → to_be_bytes w (from_be_bytes w bytes) ≡ bytes
  pub again : (n : ℕ) → n < limit → from_be_bytes w (to_be_bytes w n) ≡ n
  pub below : (bytes : List ℕ) → IsBytes bytes → from_be_bytes w bytes < limit

byte_back : (bytes : List ℕ) → length bytes ≡ 1 → IsBytes bytes → to_be_bytes w8 (from_be_bytes w8 bytes) ≡ bytes
byte_back [] len fits = absurd (omega arith)
byte_back (b ∷ []) len fits = let small : b < 256 = fits 0 in ap (λ (x : ℕ). x ∷ []) (omega arith)
byte_back (b ∷ c ∷ bytes) len fits = absurd (omega arith)

pub wide8 : IsWide w8 256
wide8 = record {
  len = λ n. refl;
  back = byte_back;
  again = λ n lt. omega arith;
  below = λ bytes fits. fits 0;
}

pub wide16 : IsWide w16 (2 ^ 16)
wide16 = record {
  len = λ n. refl;
  back = λ bytes len fits. be_bytes_2 bytes _ len fits refl;
  again = λ n lt. from_be_bytes-to_be_bytes_2 n lt;
  below = λ bytes fits. omega (arith, fits 0, fits 1);
}

pub wide32 : IsWide w32 (2 ^ 32)
wide32 = record {
  len = λ n. refl;
  back = λ bytes len fits. be_bytes_4 bytes _ len fits refl;
  again = λ n lt. from_be_bytes-to_be_bytes_4 n lt;
  below = λ bytes fits. omega (arith, fits 0, fits 1, fits 2, fits 3);
}

pub wide64 : IsWide w64 (2 ^ 64)
wide64 = record {
  len = λ n. refl;
  back = λ bytes len fits. be_bytes_8 bytes _ len fits refl;
  again = λ n lt. from_be_bytes-to_be_bytes_8 n lt;
  below = λ bytes fits. omega (arith, fits 0, fits 1, fits 2, fits 3, fits 4, fits 5, fits 6, fits 7);
}

IsBytes-drop : (n : ℕ) (bytes : List ℕ) → IsBytes bytes → IsBytes (drop n bytes)
IsBytes-drop n bytes h i = rw get_or-drop (h (n + i))

IsBytes-take : (n : ℕ) (bytes : List ℕ) → IsBytes bytes → IsBytes (take n bytes)
IsBytes-take n bytes h i =
    elim (cases_lt i n) [
      | inl lt ↦ rw (get_or-take n bytes i 0 lt) (h i)
      | inr le ↦ rw (get_or_past (take n bytes) i 0 (omega (arith, length-take n bytes))) (omega arith)
    ]

pub number_takes : (w : Width) (limit : ℕ) (wide : IsWide w limit) (bytes : List ℕ) (at : ℕ) (x : ℕ × ℕ) →
    IsBytes bytes → number_at w bytes at ≡ Ok x → Takes bytes at (to_be_bytes w x.0) x.1 × (x.0 < limit)
number_takes w limit wide bytes at x fits e =
    let n = from_be_bytes w (slice_range bytes at (at + byte_len w)) in
    let b = bytes_take bytes (byte_len w) at in
    let g = passed (ltb (length bytes) (at + byte_len w)) at (Ok (n, at + byte_len w)) x e in
    let p = b (slice_range bytes at (at + byte_len w), at + byte_len w) (rw g.0 refl) in
    let field : IsBytes (slice_range bytes at (at + byte_len w)) =
    IsBytes-take (at + byte_len w - at) (drop at bytes) (IsBytes-drop at bytes fits) in
    let same : slice_range bytes at (at + byte_len w) ≡ to_be_bytes w n =
    sym (wide.back (slice_range bytes at (at + byte_len w)) p.1 field) in
    let taken : Takes bytes at (to_be_bytes w n) (at + byte_len w) = subst (λ (t : List ℕ). Takes bytes at t (at + byte_len w)) same p.0 in
    subst (λ (y : ℕ × ℕ). Takes bytes at (to_be_bytes w y.0) y.1 × (y.0 < limit)) (ok_is (n, at + byte_len w) x g.1)
    (taken, wide.below (slice_range bytes at (at + byte_len w)) field)

-- where what is behind a number begins
pub number_ends : (w : Width) (bytes : List ℕ) (at : ℕ) (x : ℕ × ℕ) → number_at w bytes at ≡ Ok x →
    (x.1 ≡ at + byte_len w) × (x.1 ≤ length bytes)
number_ends w bytes at x e =
    let found : ℕ × ℕ = (from_be_bytes w (slice_range bytes at (at + byte_len w)), at + byte_len w) in
    let g = passed (ltb (length bytes) (at + byte_len w)) at (Ok found) x e in
    let within : at + byte_len w ≤ length bytes = ltb-false _ _ g.0 in
    subst (λ (y : ℕ × ℕ). (y.1 ≡ at + byte_len w) × (y.1 ≤ length bytes)) (ok_is found x g.1) (refl, within)

pub number_again : (w : Width) (limit : ℕ) (wide : IsWide w limit) (bytes : List ℕ) (at n : ℕ) (rest : List ℕ) →
    n < limit → From bytes at (to_be_bytes w n ++ rest) → (next : ℕ) × (number_at w bytes at ≡ Ok (n, next)) ×
    From bytes next rest
number_again w limit wide bytes at n rest lt h =
    let len = wide.len n in
    let long : ltb (length bytes) (at + byte_len w) ≡ false =
    le-ltb _ _ (subst (λ (k : ℕ). at + k ≤ length bytes) len (From-long bytes at (to_be_bytes w n) rest h)) in
    let same : slice_range bytes at (at + byte_len w) ≡ to_be_bytes w n =
    subst (λ (k : ℕ). slice_range bytes at (at + k) ≡ to_be_bytes w n) len
    (From-range bytes at (to_be_bytes w n) rest h) in
    let behind : From bytes (at + byte_len w) rest =
    subst (λ (k : ℕ). From bytes (at + k) rest) len (From-behind bytes at (to_be_bytes w n) rest h) in
    (at + byte_len w, rw (long, same, wide.again n lt) (refl {a = Ok (n, at + byte_len w)}), behind)

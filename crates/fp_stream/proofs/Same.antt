-- Bytes are read in one way.
use Rattle.std.proofs.Common.{◌≡◌, ℕ, ◌<◌, ◌^◌, List, [], ◌∷◌, ◌++◌, length, take, drop, Option, Some, None, refl, sym}
use Rattle.std.proofs.Common.{ap, ap₂, subst, ◌∙◌, append_assoc, arith, inl, inr, length-append}
use Rattle.std.specs.Int.{w32, w64, from_be_bytes}
use Rattle.std.proofs.lemmas.List.{append-nil, take_at, drop_at}
use Rattle.std.proofs.lemmas.Nat.{from_be_bytes-to_be_bytes_4, from_be_bytes-to_be_bytes_8}
use Rattle.fp_stream.specs.declared.hello.Hello.{Hello}
use Rattle.fp_stream.specs.declared.hello.Hello.TheVariants.{Has}
use Rattle.fp_stream.specs.declared.fault.FrameFault.{FrameFault}
use Rattle.fp_stream.specs.declared.fault.FrameFault.TheVariants.{BadMagic, TooLong, NotRising, Memory, Failed}
use Rattle.fp_stream.specs.declared.head.TheConstants.{HEAD}
use Rattle.fp_stream.specs.Heads.{head, IsHead, IsNewer, HasFault}
use Rattle.fp_stream.specs.Frames.{Snapshot, frame, stream_of, AreNews, has_after}
use Rattle.fp_stream.specs.Reading.{FaultStands, Stops, Reads}

-- ---- one head
pub record SameHead (r s r2 s2 : ℕ) (x y : List ℕ) : Type 0 where
  pub revision : r ≡ r2
  pub size : s ≡ s2
  pub behind : x ≡ y

pub same_head : (r s r2 s2 : ℕ) (x y : List ℕ) → r < 2 ^ 64 → s < 2 ^ 32 → r2 < 2 ^ 64 → s2 < 2 ^ 32 →
    head r s ++ x ≡ head r2 s2 ++ y → SameHead r s r2 s2 x y
same_head r s r2 s2 x y fr fs fr2 fs2 e = record {
  revision = sym (from_be_bytes-to_be_bytes_8 r fr) ∙ ap (λ (l : List ℕ). from_be_bytes w64 (take 8 (drop 4 l))) e ∙
      from_be_bytes-to_be_bytes_8 r2 fr2;
  size = sym (from_be_bytes-to_be_bytes_4 s fs) ∙ ap (λ (l : List ℕ). from_be_bytes w32 (take 4 (drop 12 l))) e ∙
      from_be_bytes-to_be_bytes_4 s2 fs2;
  behind = ap (λ (l : List ℕ). drop 16 l) e;
}

same_bare : (r s r2 s2 : ℕ) → r < 2 ^ 64 → s < 2 ^ 32 → r2 < 2 ^ 64 → s2 < 2 ^ 32 → head r s ≡ head r2 s2 → SameHead r s r2 s2 [] []
same_bare r s r2 s2 fr fs fr2 fs2 e = same_head r s r2 s2 [] [] fr fs fr2 fs2 e

-- sixteen bytes in front are those of any other reading
same_front : (a x b y : List ℕ) → length a ≡ HEAD → length b ≡ HEAD → a ++ x ≡ b ++ y → a ≡ b
same_front a x b y p q e = sym (take_at a x HEAD p) ∙ ap (λ (l : List ℕ). take HEAD l) e ∙ take_at b y HEAD q

-- ---- one fault
same_fault : (has : Hello) (bytes : List ℕ) (f g : FrameFault) → HasFault has bytes f → HasFault has bytes g → f ≡ g
same_fault has bytes BadMagic BadMagic p q = refl
same_fault has bytes BadMagic TooLong p q = absurd (p (ap (λ (l : List ℕ). take 4 l) q.is))
same_fault has bytes BadMagic NotRising p q = absurd (p (ap (λ (l : List ℕ). take 4 l) q.is))
same_fault has bytes BadMagic Memory p q = absurd q
same_fault has bytes BadMagic Failed p q = absurd q
same_fault has bytes TooLong BadMagic p q = absurd (q (ap (λ (l : List ℕ). take 4 l) p.is))
same_fault has bytes TooLong TooLong p q = refl
same_fault has bytes TooLong NotRising p q =
    let within = p.within in let short = q.short in let long = p.long in
    let same = same_bare p.revision p.size q.revision q.size p.fits within q.fits (omega arith) (sym p.is ∙ q.is) in
    let size = same.size in absurd (omega arith)
same_fault has bytes TooLong Memory p q = absurd q
same_fault has bytes TooLong Failed p q = absurd q
same_fault has bytes NotRising BadMagic p q = absurd (q (ap (λ (l : List ℕ). take 4 l) p.is))
same_fault has bytes NotRising TooLong p q =
    let within = q.within in let short = p.short in let long = q.long in
    let same = same_bare p.revision p.size q.revision q.size p.fits (omega arith) q.fits within (sym p.is ∙ q.is) in
    let size = same.size in absurd (omega arith)
same_fault has bytes NotRising NotRising p q = refl
same_fault has bytes NotRising Memory p q = absurd q
same_fault has bytes NotRising Failed p q = absurd q
same_fault has bytes Memory g p q = absurd p
same_fault has bytes Failed g p q = absurd p

-- a lawful head has none
sound : (has : Hello) (r s : ℕ) (bytes : List ℕ) (f : FrameFault) → IsHead has r s → bytes ≡ head r s → HasFault has bytes f → ⊥
sound has r s bytes BadMagic h e p = p (ap (λ (l : List ℕ). take 4 l) e)
sound has r s bytes TooLong h e p =
    let within = p.within in let short = h.short in let long = p.long in
    let same = same_bare r s p.revision p.size h.fits (omega arith) p.fits within (sym e ∙ p.is) in
    let size = same.size in omega arith
sound has r s bytes NotRising h e p =
    let short = h.short in let short2 = p.short in
    let same = same_bare r s p.revision p.size h.fits (omega arith) p.fits (omega arith) (sym e ∙ p.is) in
    p.old (subst (λ (n : ℕ). IsNewer has n) same.revision h.newer)
sound has r s bytes Memory h e p = p
sound has r s bytes Failed h e p = p

pub lawful_stands : (has : Hello) (r s : ℕ) (x : List ℕ) (f : FrameFault) → IsHead has r s → FaultStands has (head r s ++ x) f → ⊥
lawful_stands has r s x f h p =
    sound has r s p.front f h (same_front p.front p.behind (head r s) x p.long refl (sym p.is)) p.wrong

-- ---- one stop
partial_stands : (has : Hello) (rest : List ℕ) (f : FrameFault) → Stops has rest None → FaultStands has rest f → ⊥
partial_stands has rest f (inl short) p =
    let long = p.long in let len = ap length p.is in let more = length-append p.front p.behind in omega arith
partial_stands has rest f (inr lacks) p =
    lawful_stands has lacks.revision lacks.size lacks.body f lacks.lawful (subst (λ (l : List ℕ). FaultStands has l f) lacks.is p)

pub same_stop : (has : Hello) (rest : List ℕ) (x y : Option FrameFault) → Stops has rest x → Stops has rest y → x ≡ y
same_stop has rest None None p q = refl
same_stop has rest None (Some f) p q = absurd (partial_stands has rest f p q)
same_stop has rest (Some f) None p q = absurd (partial_stands has rest f q p)
same_stop has rest (Some f) (Some g) p q =
    let same : p.front ≡ q.front = same_front p.front p.behind q.front q.behind p.long q.long (sym p.is ∙ q.is) in
    ap (λ (z : FrameFault). Some z) (same_fault has q.front f g (subst (λ (l : List ℕ). HasFault has l f) same p.wrong) q.wrong)

-- where a frame stands, nothing stops
pub frame_goes : (has : Hello) (s : Snapshot) (x : List ℕ) (y : Option FrameFault) → IsHead has s.revision (length s.document)
    → Stops has (frame s.revision s.document ++ x) y → ⊥
frame_goes has s x None h (inl short) = omega (arith, length-append s.document x)
frame_goes has s x None h (inr lacks) =
    let short = h.short in let short2 = lacks.lawful.short in let cut = lacks.short in
    let same = same_head s.revision (length s.document) lacks.revision lacks.size (s.document ++ x) lacks.body h.fits
    (omega arith) lacks.lawful.fits (omega arith) lacks.is in
    let size = same.size in let len = ap length same.behind in let more = length-append s.document x in omega arith
frame_goes has s x (Some f) h p = lawful_stands has s.revision (length s.document) (s.document ++ x) f h p

-- ---- one frame
pub record SameFrame (s t : Snapshot) (x y : List ℕ) : Type 0 where
  pub frame : s ≡ t
  pub behind : x ≡ y

pub same_frame : (has : Hello) (s t : Snapshot) (x y : List ℕ) → IsHead has s.revision (length s.document) →
    IsHead has t.revision (length t.document)
    → frame s.revision s.document ++ x ≡ frame t.revision t.document ++ y → SameFrame s t x y
same_frame has s t x y p q e =
    let short = p.short in let short2 = q.short in
    let same = same_head s.revision (length s.document) t.revision (length t.document) (s.document ++ x)
    (t.document ++ y) p.fits (omega arith) q.fits (omega arith) e in
    let size = same.size in
    let document : s.document ≡ t.document = sym (take_at s.document x (length t.document) size) ∙
    ap (λ (l : List ℕ). take (length t.document) l) same.behind ∙ take_at t.document y (length t.document) refl in
    record {
      frame = ap₂ (λ (r : ℕ) (d : List ℕ). let made : Snapshot = record { revision = r; document = d } in made) same.revision document;
      behind = sym (drop_at s.document x (length t.document) size) ∙
          ap (λ (l : List ℕ). drop (length t.document) l) same.behind ∙ drop_at t.document y (length t.document) refl;
    }

-- ---- one reading
pub record Same (f g : List Snapshot) (r t : List ℕ) (x y : Option FrameFault) : Type 0 where
  pub frames : f ≡ g
  pub rest : r ≡ t
  pub fault : x ≡ y

same_reading : (f g : List Snapshot) (has : Hello) (r t : List ℕ) (x y : Option FrameFault) →
    stream_of f ++ r ≡ stream_of g ++ t → AreNews has f → AreNews has g
    → Stops (has_after has f) r x → Stops (has_after has g) t y → Same f g r t x y
same_reading [] [] has r t x y e p q a b =
    record { frames = refl; rest = e; fault = same_stop has t x y (subst (λ (l : List ℕ). Stops has l x) e a) b }
same_reading [] (u ∷ g) has r t x y e p q a b =
    absurd (frame_goes has u (stream_of g ++ t) x q.0
    (subst (λ (l : List ℕ). Stops has l x) (e ∙ append_assoc (frame u.revision u.document) (stream_of g) t) a))
same_reading (s ∷ f) [] has r t x y e p q a b =
    absurd (frame_goes has s (stream_of f ++ r) y p.0
    (subst (λ (l : List ℕ). Stops has l y) (sym e ∙ append_assoc (frame s.revision s.document) (stream_of f) r)
    b))
same_reading (s ∷ f) (u ∷ g) has r t x y e p q a b =
    let one = same_frame has s u (stream_of f ++ r) (stream_of g ++ t) p.0 q.0
    (sym (append_assoc (frame s.revision s.document) (stream_of f) r) ∙ e ∙
    append_assoc (frame u.revision u.document) (stream_of g) t) in
    let rev : s.revision ≡ u.revision = ap (λ (z : Snapshot). z.revision) one.frame in
    let more = same_reading f g (Has s.revision) r t x y one.behind p.1
    (subst (λ (n : ℕ). AreNews (Has n) g) (sym rev) q.1) a
    (subst (λ (n : ℕ). Stops (has_after (Has n) g) t y) (sym rev) b) in
    record { frames = ap₂ (λ (z : Snapshot) (l : List Snapshot). z ∷ l) one.frame more.frames; rest = more.rest; fault = more.fault }

pub one_way : (has : Hello) (bytes : List ℕ) (f g : List Snapshot) (r t : List ℕ) (x y : Option FrameFault) →
    Reads has bytes f r x → Reads has bytes g t y → Same f g r t x y
one_way has bytes f g r t x y p q = same_reading f g has r t x y (sym p.whole ∙ q.whole) p.news q.news p.stops q.stops

-- other frames in front are the first of those that are read
pub begins : (o f : List Snapshot) (has : Hello) (m r : List ℕ) (x : Option FrameFault) →
    stream_of o ++ m ≡ stream_of f ++ r → AreNews has o → AreNews has f → Stops (has_after has f) r x
    → (more : List Snapshot) × (f ≡ o ++ more)
begins [] f has m r x e p q a = (f, refl)
begins (s ∷ o) [] has m r x e p q a =
    absurd (frame_goes has s (stream_of o ++ m) x p.0
    (subst (λ (l : List ℕ). Stops has l x) (sym e ∙ append_assoc (frame s.revision s.document) (stream_of o) m)
    a))
begins (s ∷ o) (u ∷ f) has m r x e p q a =
    let one = same_frame has s u (stream_of o ++ m) (stream_of f ++ r) p.0 q.0
    (sym (append_assoc (frame s.revision s.document) (stream_of o) m) ∙ e ∙
    append_assoc (frame u.revision u.document) (stream_of f) r) in
    let rev : s.revision ≡ u.revision = ap (λ (z : Snapshot). z.revision) one.frame in
    let more = begins o f (Has s.revision) m r x one.behind p.1 (subst (λ (n : ℕ). AreNews (Has n) f) (sym rev) q.1)
    (subst (λ (n : ℕ). Stops (has_after (Has n) f) r x) (sym rev) a) in
    (more.0, ap₂ (λ (z : Snapshot) (l : List Snapshot). z ∷ l) (sym one.frame) more.1)

pub begins_with : (has : Hello) (bytes : List ℕ) (f o : List Snapshot) (r m : List ℕ) (x : Option FrameFault) →
    Reads has bytes f r x → AreNews has o → bytes ≡ stream_of o ++ m
    → (more : List Snapshot) × (f ≡ o ++ more)
begins_with has bytes f o r m x p news e = begins o f has m r x (sym e ∙ p.whole) news p.news p.stops

-- what was written whole is read whole
pub written_whole : (has : Hello) (ss : List Snapshot) → AreNews has ss → Reads has (stream_of ss) ss [] None
written_whole has ss news = record { whole = sym (append-nil (stream_of ss)); news = news; stops = inl (omega arith) }

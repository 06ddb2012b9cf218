-- What a decoder has given so far.
use Rattle.std.proofs.Common.{◌≡◌, ℕ, List, [], ◌++◌, Option, Some, None, Result, Ok, Err, refl, sym, ap, subst, ◌∙◌}
use Rattle.std.proofs.Common.{append_assoc, ◌⊎◌, inl, inr}
use Rattle.std.specs.Prelude.{IfNone, IsSome}
use Rattle.std.specs.Global.{Vec}
use Rattle.std.proofs.lemmas.List.{append-nil}
use Rattle.fp_stream.specs.declared.hello.Hello.{Hello}
use Rattle.fp_stream.specs.declared.frame.Frame.{Frame}
use Rattle.fp_stream.specs.declared.fault.FrameFault.{FrameFault}
use Rattle.fp_stream.specs.declared.fault.FrameFault.TheVariants.{BadMagic, TooLong, NotRising, Memory, Failed}
use Rattle.fp_stream.specs.Frames.{Snapshot, stream_of, has_after, snapshots_of}
use Rattle.fp_stream.specs.Reading.{Reads}
use Rattle.fp_stream.specs.Decoding.{Reader, Refuses, Feeds, HasRead, bytes_taken, snapshots_given}
use Rattle.fp_stream.proofs.Streams.{Reads-more, has_after-append}

at_none : (o : Option FrameFault) (P : Type 0) → o ≡ None → IfNone o P → P
at_none None P e p = p
at_none (Some f) P e p = absurd cc

if_none : (o : Option FrameFault) (P : Type 0) → P → IfNone o P
if_none None P p = p
if_none (Some f) P p = tt

not_none : (o : Option FrameFault) (f : FrameFault) (P : Type 0) → o ≡ Some f → IfNone o P
not_none None f P e = absurd cc
not_none (Some g) f P e = tt

-- a fault stays where it stands, whatever comes behind it
pub Reads-on : (has : Hello) (bytes : List ℕ) (frames : List Snapshot) (rest piece : List ℕ) (f : FrameFault) →
    Reads has bytes frames rest (Some f) → Reads has (bytes ++ piece) frames (rest ++ piece) (Some f)
Reads-on has bytes frames rest piece f r =
    let s = r.stops in
    record {
      whole = ap (λ (t : List ℕ). t ++ piece) r.whole ∙ append_assoc (stream_of frames) rest piece;
      news = r.news;
      stops = record {
        front = s.front;
        behind = s.behind ++ piece;
        is = ap (λ (t : List ℕ). t ++ piece) s.is ∙
            append_assoc s.front s.behind piece;
        long = s.long;
        wrong = s.wrong;
      };
    }

-- ---- a fault that is owed
-- it stands there, or one was told

owed_stands : (fault owed : Option FrameFault) (f : FrameFault) → owed ≡ Some f → ((owed ≡ fault) ⊎ (IsSome fault × (owed ≡ Some Failed)))
    → (y : FrameFault) × (fault ≡ Some y) × ((f ≡ y) ⊎ (f ≡ Failed))
owed_stands None owed f e (inl p) = absurd cc
owed_stands None owed f e (inr p) = let none = p.0 in absurd cc
owed_stands (Some y) owed f e (inl p) = (y, refl, inl cc)
owed_stands (Some y) owed f e (inr p) = let failed = p.1 in (y, refl, inr cc)

-- want of memory isn't
not_memory : (has : Hello) (bytes : List ℕ) (frames : List Snapshot) (rest : List ℕ) (f y : FrameFault) →
    Reads has bytes frames rest (Some y) → ((f ≡ y) ⊎ (f ≡ Failed)) → f ≡ Memory → ⊥
not_memory has bytes frames rest f y r (inl p) m =
    (subst (λ (z : FrameFault). Reads has bytes frames rest (Some z)) (sym p ∙ m) r).stops.wrong
not_memory has bytes frames rest f y r (inr p) m = absurd cc

all_taken : (f : FrameFault) (piece : List ℕ) → (f ≡ Memory → ⊥) → bytes_taken (Err f) piece ≡ piece
all_taken BadMagic piece n = refl
all_taken TooLong piece n = refl
all_taken NotRising piece n = refl
all_taken Memory piece n = absurd (n refl)
all_taken Failed piece n = refl

pub after_fault : (has : Hello) (bytes : List ℕ) (frames : List Snapshot) (piece : List ℕ) (before after : Reader) (f : FrameFault)
    → HasRead has bytes frames before → before.owed ≡ Some f → after.owed ≡ Some Failed →
    HasRead has (bytes ++ bytes_taken (Err f) piece) (frames ++ snapshots_given (Err f)) after
after_fault has bytes frames piece before after f h e failed =
    let o = owed_stands h.fault before.owed f e h.told in
    let reads : Reads has bytes frames h.rest (Some o.0) = subst (λ (z : Option FrameFault). Reads has bytes frames h.rest z) o.1 h.reads in
    let all : bytes_taken (Err f) piece ≡ piece = all_taken f piece (not_memory has bytes frames h.rest f o.0 reads o.2) in
    let more : HasRead has (bytes ++ piece) frames after = record {
      rest = h.rest ++ piece;
      fault = Some o.0;
      reads = Reads-on has bytes frames h.rest piece o.0 reads;
      told = inr (refl, failed);
      held = not_none after.owed Failed (after.held ≡ h.rest ++ piece) failed;
      last = not_none after.owed Failed (after.has ≡ has_after has frames) failed;
    } in
    subst (λ (t : List ℕ). HasRead has (bytes ++ t) (frames ++ []) after) (sym all)
    (subst (λ (t : List Snapshot). HasRead has (bytes ++ piece) t after) (sym (append-nil frames)) more)

-- ---- a piece that was read
-- the same place, in the bytes of this piece and in all so far
pub reads_on : (has : Hello) (bytes : List ℕ) (frames : List Snapshot) (piece : List ℕ) (before : Reader)
    (more : List Snapshot) (end : List ℕ) (fault : Option FrameFault)
    → HasRead has bytes frames before → before.owed ≡ None → Reads before.has (before.held ++ piece) more end fault →
    Reads has (bytes ++ piece) (frames ++ more) end fault
reads_on has bytes frames piece before more end fault h e r =
    let held = at_none before.owed (before.held ≡ h.rest) e h.held in
    let last = at_none before.owed (before.has ≡ has_after has frames) e h.last in
    Reads-more has (bytes ++ piece) frames (h.rest ++ piece) more end fault h.reads.news
    (ap (λ (t : List ℕ). t ++ piece) h.reads.whole ∙ append_assoc (stream_of frames) h.rest piece)
    (subst (λ (x : Hello). Reads x (h.rest ++ piece) more end fault) last
    (subst (λ (t : List ℕ). Reads before.has (t ++ piece) more end fault) held r))

refused : (has : Hello) (bytes : List ℕ) (frames : List Snapshot) (piece : List ℕ) (before after : Reader) (f : FrameFault)
    → HasRead has bytes frames before → before.owed ≡ None → Refuses before.has (before.held ++ piece) f after →
    HasRead has (bytes ++ piece) (frames ++ []) after
refused has bytes frames piece before after f h e r = record {
  rest = r.rest;
  fault = Some f;
  reads = reads_on has bytes frames piece before [] r.rest (Some f) h e r.reads;
  told = inr (refl, r.failed);
  held = not_none after.owed Failed (after.held ≡ r.rest) r.failed;
  last = not_none after.owed Failed (after.has ≡ has_after has (frames ++ [])) r.failed;
}

pub after_piece : (has : Hello) (bytes : List ℕ) (frames : List Snapshot) (piece : List ℕ) (before after : Reader)
    (r : Result (Vec Frame) FrameFault)
    → HasRead has bytes frames before → before.owed ≡ None → Feeds before piece r after →
    HasRead has (bytes ++ bytes_taken r piece) (frames ++ snapshots_given r) after
after_piece has bytes frames piece before after (Ok v) h e p =
    let l = p.leaves in
    let more = snapshots_of v.items in
    let last = at_none before.owed (before.has ≡ has_after has frames) e h.last in
    record {
      rest = l.rest;
      fault = after.owed;
      reads = reads_on has bytes frames piece before more l.rest after.owed h e l.reads;
      told = inl refl;
      held = l.held;
      last = if_none after.owed (after.has ≡ has_after has (frames ++ more))
          (l.last ∙ ap (λ (x : Hello). has_after x more) last ∙ sym (has_after-append has frames more));
    }
after_piece has bytes frames piece before after (Err BadMagic) h e p = refused has bytes frames piece before after BadMagic h e p
after_piece has bytes frames piece before after (Err TooLong) h e p = refused has bytes frames piece before after TooLong h e p
after_piece has bytes frames piece before after (Err NotRising) h e p = refused has bytes frames piece before after NotRising h e p
after_piece has bytes frames piece before after (Err Memory) h e p =
    subst (λ (x : Reader). HasRead has (bytes ++ []) (frames ++ []) x) (sym p)
    (subst (λ (t : List ℕ). HasRead has t (frames ++ []) before) (sym (append-nil bytes))
    (subst (λ (t : List Snapshot). HasRead has bytes t before) (sym (append-nil frames)) h))
after_piece has bytes frames piece before after (Err Failed) h e p = absurd p

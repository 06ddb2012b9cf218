-- What was shown so far.
use Rattle.std.proofs.Common.{◌≡◌, ℕ, List, [], ◌∷◌, ◌++◌, Option, Some, None, Ok, Err, refl, sym, ap, subst, ◌∙◌}
use Rattle.std.proofs.Common.{append_assoc, ◌⊎◌, inl, inr}
use Rattle.std.specs.Global.{Vec}
use Rattle.std.specs.Prelude.{IsSome}
use Rattle.std.specs.Io.KnownBytes.{Appends, Consumes}
use Rattle.std.proofs.KnownBytes.{Consumes-trans}
use Rattle.std.proofs.lemmas.List.{append-nil}
use Rattle.fp_stream.specs.declared.fault.FrameFault.{FrameFault}
use Rattle.fp_stream.specs.declared.fault.FrameFault.TheVariants as frame
use Rattle.fp_stream.specs.declared.frame.Frame.{Frame}
use Rattle.fp_stream.specs.declared.hello.Hello.{Hello}
use Rattle.fp_stream.specs.declared.watch.WatchFault.TheVariants.{Device, BadFrame}
use Rattle.fp_stream.specs.Decoding.{Feeds, HasRead, Reader, Refuses}
use Rattle.fp_stream.specs.Frames.{Snapshot, snapshots_of}
use Rattle.fp_stream.specs.Reading.{Reads}
use Rattle.fp_stream.specs.Watching.{Watches, line_of, lines_of, of_frame}
use Rattle.fp_stream.proofs.Feeding.{reads_on}

pub lines_of-append : (a b : List Snapshot) → lines_of (a ++ b) ≡ lines_of a ++ lines_of b
lines_of-append [] b = refl
lines_of-append (s ∷ a) b = ap (λ (t : List ℕ). line_of s ++ t) (lines_of-append a b) ∙
    sym (append_assoc (line_of s) (lines_of a) (lines_of b))

-- ---- where no fault is owed
pub reads_none : (has : Hello) (bytes : List ℕ) (frames : List Snapshot) (now : Reader) →
    HasRead has bytes frames now → now.owed ≡ None → (rest : List ℕ) × Reads has bytes frames rest None
reads_none has bytes frames now h none = by_fault h.fault h.told h.reads
  where
    by_fault : (fault : Option FrameFault) → ((now.owed ≡ fault) ⊎ (IsSome fault × (now.owed ≡ Some frame.Failed))) →
        Reads has bytes frames h.rest fault → (rest : List ℕ) × Reads has bytes frames rest None
    by_fault None told r = (h.rest, r)
    by_fault (Some f) (inl same) r = let both : Some f ≡ None = sym same ∙ none in absurd cc
    by_fault (Some f) (inr p) r = let both : Some frame.Failed ≡ None = sym p.1 ∙ none in absurd cc

-- ---- a piece more
module _ (has : Hello) (bytes : List ℕ) (frames : List Snapshot) (piece : List ℕ) (was now : Reader)
    (h : HasRead has bytes frames was) (none : was.owed ≡ None) where
  -- a fault stands behind its frames
  pub reads_owed : (v : Vec Frame) (f : FrameFault) → Feeds was piece (Ok v) now → now.owed ≡ Some f →
      (rest : List ℕ) × Reads has (bytes ++ piece) (frames ++ snapshots_of v.items) rest (Some f)
  reads_owed v f fed owed =
      let l = fed.leaves in (
        l.rest,
        reads_on has bytes frames piece was (snapshots_of v.items) l.rest (Some f) h none
            (subst (λ (o : Option FrameFault). Reads was.has (was.held ++ piece) (snapshots_of v.items) l.rest o) owed
            l.reads),
      )

module _ (has : Hello) (reads left before held : Option (List ℕ)) (bytes : List ℕ) (frames : List Snapshot)
    (now : Reader) (h : HasRead has bytes frames now) (none : now.owed ≡ None)
    (came : Consumes reads left bytes) (shown : Appends before held (lines_of frames)) where
  came_all : Consumes reads left (bytes ++ [])
  came_all = subst (λ (t : List ℕ). Consumes reads left t) (sym (append-nil bytes)) came

  -- a stream failed
  pub watched-device : Watches has reads left before held (Err Device)
  watched-device = record {
    bytes = bytes;
    lost = [];
    frames = frames;
    rest =
        (reads_none has bytes frames now h none).0;
    came = came_all;
    looked_at = refl;
    read =
        (reads_none has bytes frames now h none).1;
    shown = shown;
    end = tt;
  }

  -- a piece more, and a fault at once
  pub watched-refused : (now_left : Option (List ℕ)) (piece : List ℕ) (after : Reader) (f : FrameFault) →
      Consumes left now_left piece → Feeds now piece (Err f) after →
      Watches has reads now_left before held (Err (of_frame f))
  watched-refused now_left piece after f step = by_fault f
    where
      came_more : Consumes reads now_left (bytes ++ piece)
      came_more = Consumes-trans reads left now_left bytes piece came step

      at_fault : (f : FrameFault) → Refuses now.has (now.held ++ piece) f after → Watches has reads now_left before held (Err (BadFrame f))
      at_fault f r = record {
        bytes = bytes ++ piece;
        lost = [];
        frames = frames;
        rest = r.rest;
        came = subst (λ (t : List ℕ). Consumes reads now_left t) (sym (append-nil (bytes ++ piece))) came_more;
        looked_at = refl;
        read = subst (λ (l : List Snapshot). Reads has (bytes ++ piece) l r.rest (Some f)) (append-nil frames)
            (reads_on has bytes frames piece now [] r.rest (Some f) h none r.reads);
        shown = shown;
        end = tt;
      }

      by_fault : (f : FrameFault) → Feeds now piece (Err f) after → Watches has reads now_left before held (Err (of_frame f))
      by_fault frame.BadMagic r = at_fault frame.BadMagic r
      by_fault frame.TooLong r = at_fault frame.TooLong r
      by_fault frame.NotRising r = at_fault frame.NotRising r
      by_fault frame.Memory r = record {
        bytes = bytes;
        lost = piece;
        frames = frames;
        rest = (reads_none has bytes frames now h none).0;
        came = came_more;
        looked_at = tt;
        read = (reads_none has bytes frames now h none).1;
        shown = shown;
        end = tt;
      }
      by_fault frame.Failed r = absurd r

  -- a piece more, and a fault behind its frames
  pub watched-owed : (now_left now_held : Option (List ℕ)) (piece : List ℕ) (after : Reader) (v : Vec Frame)
      (f : FrameFault) → Consumes left now_left piece → Feeds now piece (Ok v) after → after.owed ≡ Some f
      → Appends before now_held (lines_of (frames ++ snapshots_of v.items)) → Watches has reads now_left before now_held (Err (of_frame f))
  watched-owed now_left now_held piece after v f step fed owed shown_more =
      by_fault f (reads_owed has bytes frames piece now after h none v f fed owed)
    where
      came_more : Consumes reads now_left ((bytes ++ piece) ++ [])
      came_more = subst (λ (t : List ℕ). Consumes reads now_left t) (sym (append-nil (bytes ++ piece)))
          (Consumes-trans reads left now_left bytes piece came step)

      at_fault : (f : FrameFault) → ((rest : List ℕ) ×
          Reads has (bytes ++ piece) (frames ++ snapshots_of v.items) rest (Some f)) →
          Watches has reads now_left before now_held (Err (BadFrame f))
      at_fault f r = record {
        bytes = bytes ++ piece;
        lost = [];
        frames = frames ++ snapshots_of v.items;
        rest =
            r.0;
        came = came_more;
        looked_at = refl;
        read = r.1;
        shown = shown_more;
        end = tt;
      }

      by_fault : (f : FrameFault) → ((rest : List ℕ) ×
          Reads has (bytes ++ piece) (frames ++ snapshots_of v.items) rest (Some f)) →
          Watches has reads now_left before now_held (Err (of_frame f))
      by_fault frame.BadMagic r = at_fault frame.BadMagic r
      by_fault frame.TooLong r = at_fault frame.TooLong r
      by_fault frame.NotRising r = at_fault frame.NotRising r
      by_fault frame.Memory r = absurd r.1.stops.wrong
      by_fault frame.Failed r = at_fault frame.Failed r

-- What was shown of what a source sent so far.
use Rattle.std.proofs.Common.{ℕ, List, [], ◌++◌, Option, None, Err, inl, arith, refl, sym, ap, subst}
use Rattle.std.proofs.Common.{◌∙◌, append_assoc, append-nil}
use Rattle.std.specs.Io.KnownBytes.{Consumes}
use Rattle.std.proofs.KnownBytes.{Consumes-nil, Consumes-trans}
use Rattle.fp_stream.specs.declared.fault.FrameFault.{FrameFault}
use Rattle.fp_stream.specs.declared.fault.FrameFault.TheVariants as frame
use Rattle.fp_stream.specs.declared.hello.Hello.{Hello}
use Rattle.fp_stream.specs.declared.hello.Hello.TheVariants.{Nothing}
use Rattle.fp_stream.specs.Decoding.{HasRead, Reader, bytes_taken, snapshots_given}
use Rattle.fp_stream.specs.Frames.{Snapshot}
use Rattle.fp_stream.specs.Reading.{Reads}
use Rattle.fp_relay.specs.Following.{AreShort, Shows, ShowsFront}
use Rattle.fp_relay.specs.Ends.{Follows, IsLeft, IsLost, IsSetFault, of_frame}
use Rattle.fp_relay.specs.declared.source.SourceEnd.{SourceEnd}
use Rattle.fp_relay.specs.declared.source.SourceEnd.TheVariants.{Closed, Device, Memory, BadFrame, NoSet}
use Rattle.fp_relay.proofs.News.{shows-more, shows-none, short-behind, short-of_news}

-- where nothing is lost
none-lost : (end : SourceEnd) → IsLost end []
none-lost Closed = refl
none-lost Device = refl
none-lost (BadFrame f) = refl
none-lost NoSet = refl
none-lost Memory = tt

module _ (reads left : Option (List ℕ)) (last now : Hello) (old new : List Snapshot) (bytes : List ℕ)
    (frames : List Snapshot) (d : Reader) (h : HasRead Nothing bytes frames d)
    (came : Consumes reads left bytes) (shows : Shows last now old new frames) where
  -- all that came was looked at
  pub followed : (end : SourceEnd) → IsLeft end [] → Follows reads left last now old new end
  followed end none = record {
    bytes = bytes;
    lost = [];
    frames = frames;
    behind = [];
    rest = h.rest;
    fault = h.fault;
    came = subst (λ (t : List ℕ). Consumes reads left t) (sym (append-nil bytes)) came;
    held = none-lost end;
    read = subst (λ (l : List Snapshot). Reads Nothing bytes l h.rest h.fault) (sym (append-nil frames)) h.reads;
    shows = shows;
    looked_at = none;
  }

  -- the source has no more
  pub followed-end : (now_left : Option (List ℕ)) → Consumes left now_left [] → Follows reads now_left last now old new Closed
  followed-end now_left step = record {
    bytes = bytes;
    lost = [];
    frames = frames;
    behind = [];
    rest = h.rest;
    fault = h.fault;
    came = Consumes-trans reads left now_left bytes [] came step;
    held = refl;
    read = subst (λ (l : List Snapshot). Reads Nothing bytes l h.rest h.fault) (sym (append-nil frames)) h.reads;
    shows = shows;
    looked_at = refl;
  }

  -- a piece was refused
  pub followed-refused : (now_left : Option (List ℕ)) (piece : List ℕ) (after : Reader) (f : FrameFault) → Consumes left now_left piece
      → HasRead Nothing (bytes ++ bytes_taken (Err f) piece) (frames ++ snapshots_given (Err f)) after →
      Follows reads now_left last now old new (of_frame f)
  followed-refused now_left piece after f step = by_fault f
    where
      came_more : Consumes reads now_left (bytes ++ piece)
      came_more = Consumes-trans reads left now_left bytes piece came step

      at_fault : (end : SourceEnd) → IsLeft end [] → HasRead Nothing (bytes ++ piece) (frames ++ []) after →
          Follows reads now_left last now old new end
      at_fault end none k = record {
        bytes = bytes ++ piece;
        lost = [];
        frames = frames;
        behind = [];
        rest = k.rest;
        fault = k.fault;
        came = subst (λ (t : List ℕ). Consumes reads now_left t) (sym (append-nil (bytes ++ piece))) came_more;
        held = none-lost end;
        read = k.reads;
        shows = shows;
        looked_at = none;
      }

      by_fault : (f : FrameFault) → HasRead Nothing (bytes ++ bytes_taken (Err f) piece)
          (frames ++ snapshots_given (Err f)) after → Follows reads now_left last now old new (of_frame f)
      by_fault frame.BadMagic k = at_fault (BadFrame frame.BadMagic) refl k
      by_fault frame.TooLong k = at_fault (BadFrame frame.TooLong) refl k
      by_fault frame.NotRising k = at_fault (BadFrame frame.NotRising) refl k
      by_fault frame.Memory k = record {
        bytes = bytes;
        lost = piece;
        frames = frames;
        behind = [];
        rest = h.rest;
        fault = h.fault;
        came = came_more;
        held = tt;
        read = subst (λ (l : List Snapshot). Reads Nothing bytes l h.rest h.fault) (sym (append-nil frames)) h.reads;
        shows = shows;
        looked_at = tt;
      }
      by_fault frame.Failed k = at_fault (BadFrame frame.Failed) refl k

  -- of what a piece gave, the first frames were shown
  pub followed-front : (now_left : Option (List ℕ)) (piece : List ℕ) (after : Reader) (more : List Snapshot)
      (then_last : Hello) (then_new : List Snapshot) (end : SourceEnd) → Consumes left now_left piece
      → HasRead Nothing (bytes ++ piece) (frames ++ more) after → ShowsFront now then_last new then_new more →
      IsSetFault end → Follows reads now_left last then_last old then_new end
  followed-front now_left piece after more then_last then_new end step k f set = record {
    bytes = bytes ++ piece;
    lost = [];
    frames = frames ++ f.front;
    behind = f.behind;
    rest = k.rest;
    fault = k.fault;
    came = subst (λ (t : List ℕ). Consumes reads now_left t) (sym (append-nil (bytes ++ piece)))
        (Consumes-trans reads left now_left bytes piece came step);
    held = none-lost end;
    read = subst (λ (l : List Snapshot). Reads Nothing (bytes ++ piece) l k.rest k.fault)
        (ap (λ (l : List Snapshot). frames ++ l) (sym f.parts) ∙ sym (append_assoc frames f.front f.behind)) k.reads;
    shows = shows-more last now then_last old new then_new frames f.front shows f.shows;
    looked_at = by_end end set;
  }
    where
      by_end : (end : SourceEnd) → IsSetFault end → IsLeft end f.behind
      by_end NoSet s = tt
      by_end Memory s = tt
      by_end Closed s = absurd s
      by_end Device s = absurd s
      by_end (BadFrame x) s = absurd s

-- what a piece gave is short
pub short-given : (bytes : List ℕ) (frames more : List Snapshot) (after : Reader) →
    HasRead Nothing bytes (frames ++ more) after → AreShort more
short-given bytes frames more after h = short-behind frames more (short-of_news Nothing (frames ++ more) h.reads.news)

-- a fault of a frame leaves nothing behind
pub left-of_frame : (f : FrameFault) → IsLeft (of_frame f) []
left-of_frame frame.BadMagic = refl
left-of_frame frame.TooLong = refl
left-of_frame frame.NotRising = refl
left-of_frame frame.Memory = tt
left-of_frame frame.Failed = refl

-- nothing was read
pub followed-not : (reads : Option (List ℕ)) (last : Hello) (seen : List Snapshot) (end : SourceEnd) →
    IsLeft end [] → Follows reads reads last last seen seen end
followed-not reads last seen end none = record {
  bytes = [];
  lost = [];
  frames = [];
  behind = [];
  rest = [];
  fault = None;
  came = Consumes-nil reads;
  held = none-lost end;
  read = record { whole = refl; news = tt; stops = inl (omega arith) };
  shows = shows-none last seen;
  looked_at = none;
}

-- What bytes give, put together.
use Rattle.std.proofs.Common.{◌≡◌, ℕ, ◌<◌, List, [], ◌∷◌, ◌++◌, length, drop, get_or, Option, Some, None, refl, sym, ap}
use Rattle.std.proofs.Common.{subst, ◌∙◌, append_assoc, arith, inl, inr}
use Rattle.std.specs.Prelude.{slice_set}
use Rattle.std.proofs.lemmas.List.{append-nil, drop_at, map-append, length-append}
use Rattle.fp_stream.specs.declared.hello.Hello.{Hello}
use Rattle.fp_stream.specs.declared.hello.Hello.TheVariants.{Has}
use Rattle.fp_stream.specs.declared.frame.Frame.{Frame}
use Rattle.fp_stream.specs.declared.fault.FrameFault.{FrameFault}
use Rattle.fp_stream.specs.declared.head.TheConstants.{HEAD}
use Rattle.fp_stream.specs.Heads.{head, IsHead}
use Rattle.fp_stream.specs.Frames.{Snapshot, frame, stream_of, AreNews, has_after, snapshot_of, snapshots_of}
use Rattle.fp_stream.specs.Reading.{Stops, Reads}
use Rattle.fp_stream.specs.Decoding.{Reader, DecodesTo}
use Rattle.fp_stream.specs.declared.head.Head.{Head}
use Rattle.fp_stream.specs.Steps.{held_of, wanted_by, IsKnown, IsWhole, Passes}

pub AreNews-append : (has : Hello) (a b : List Snapshot) → AreNews has a → AreNews (has_after has a) b → AreNews has (a ++ b)
AreNews-append has [] b p q = q
AreNews-append has (s ∷ a) b p q = (p.0, AreNews-append (Has s.revision) a b p.1 q)

pub has_after-append : (has : Hello) (a b : List Snapshot) → has_after has (a ++ b) ≡ has_after (has_after has a) b
has_after-append has [] b = refl
has_after-append has (s ∷ a) b = has_after-append (Has s.revision) a b

pub stream_of-append : (a b : List Snapshot) → stream_of (a ++ b) ≡ stream_of a ++ stream_of b
stream_of-append [] b = refl
stream_of-append (s ∷ a) b =
    ap (λ (t : List ℕ). frame s.revision s.document ++ t) (stream_of-append a b) ∙
    sym (append_assoc (frame s.revision s.document) (stream_of a) (stream_of b))

-- what stands behind frames is read after them
pub Reads-more : (has : Hello) (bytes : List ℕ) (added : List Snapshot) (rest : List ℕ) (more : List Snapshot)
    (end : List ℕ) (fault : Option FrameFault)
    → AreNews has added → bytes ≡ stream_of added ++ rest → Reads (has_after has added) rest more end fault →
    Reads has bytes (added ++ more) end fault
Reads-more has bytes added rest more end fault news whole reads = record {
  whole = whole ∙ ap (λ (t : List ℕ). stream_of added ++ t) reads.whole ∙
      sym (append_assoc (stream_of added) (stream_of more) end) ∙
      ap (λ (t : List ℕ). t ++ end) (sym (stream_of-append added more));
  news = AreNews-append has added more news reads.news;
  stops = subst (λ (h : Hello). Stops h end fault) (sym (has_after-append has added more)) reads.stops;
}

pub Leaves-more : (has : Hello) (bytes : List ℕ) (added : List Snapshot) (last : Hello) (rest : List ℕ)
    (more : List Snapshot) (after : Reader)
    → AreNews has added → bytes ≡ stream_of added ++ rest → last ≡ has_after has added →
    DecodesTo last rest more after → DecodesTo has bytes (added ++ more) after
Leaves-more has bytes added last rest more after news whole is_last l = record {
  rest = l.rest;
  reads = Reads-more has bytes added rest more l.rest after.owed news whole
      (subst (λ (h : Hello). Reads h rest more l.rest after.owed) is_last l.reads);
  held = l.held;
  last = l.last ∙ ap (λ (h : Hello). has_after h more) is_last ∙ sym (has_after-append has added more);
}

-- ---- no whole frame
pub Leaves-short : (has : Hello) (front behind : List ℕ) (revision size : ℕ) → front ≡ head revision size →
    IsHead has revision size → length behind < size
    → DecodesTo has (front ++ behind) [] (record { has = has; held = head revision size ++ behind; owed = None })
Leaves-short has front behind revision size is lawful short = record {
  rest = front ++ behind;
  reads = record {
    whole = refl;
    news = tt;
    stops = inr (record {
      revision = revision;
      size = size;
      body = behind;
      is =
          ap (λ (t : List ℕ). t ++ behind) is;
      lawful = lawful;
      short = short;
    });
  };
  held = ap (λ (t : List ℕ). t ++ behind) (sym is);
  last = refl;
}

pub Leaves-nothing : (has : Hello) (rest : List ℕ) → length rest < HEAD →
    DecodesTo has rest [] (record { has = has; held = rest; owed = None })
Leaves-nothing has rest short = record {
  rest = rest;
  reads = record { whole = refl; news = tt; stops = inl short };
  held = refl;
  last = refl;
}

-- ---- a run over a slice
-- a frame more
pub Passes-push : (has : Hello) (bytes : List ℕ) (before now : List Frame) (last : Hello) (rest front behind : List ℕ) (f : Frame)
    → Passes has bytes before now last rest → rest ≡ front ++ behind → IsWhole last front behind (snapshot_of f)
    → Passes has bytes before (now ++ f ∷ []) (Has f.revision) (drop (length f.body.items) behind)
Passes-push has bytes before now last rest front behind f p split w =
    let s : Snapshot = snapshot_of f in
    let left : List ℕ = drop (length f.body.items) behind in
    let stands : rest ≡ frame f.revision f.body.items ++ left =
    split ∙ ap (λ (t : List ℕ). t ++ behind) w.front_is ∙ ap (λ (t : List ℕ). head f.revision (length f.body.items) ++ t) w.behind_is
    ∙ sym (append_assoc (head f.revision (length f.body.items)) f.body.items left)
    in
    record {
      added = p.added ++ s ∷ [];
      adds = map-append snapshot_of now (f ∷ []) ∙ ap (λ (t : List Snapshot). t ++ s ∷ []) p.adds ∙
          append_assoc (snapshots_of before) p.added (s ∷ []);
      news = AreNews-append has p.added (s ∷ []) p.news
          (subst (λ (h : Hello). IsHead h f.revision (length f.body.items)) p.is_last w.lawful, tt);
      whole = p.whole ∙ ap (λ (t : List ℕ). stream_of p.added ++ t)
          (stands ∙ ap (λ (t : List ℕ). t ++ left) (sym (append-nil (frame f.revision f.body.items))))
          ∙ sym (append_assoc (stream_of p.added) (frame f.revision f.body.items ++ []) left) ∙
          ap (λ (t : List ℕ). t ++ left) (sym (stream_of-append p.added (s ∷ [])));
      is_last = sym (has_after-append has p.added (s ∷ []));
    }

-- ---- the first frame of a piece
-- it stands at the front, and then come others
pub Leaves-first : (has : Hello) (bytes front behind : List ℕ) (s : Snapshot) (rest : List ℕ) (added : List Snapshot) (after : Reader)
    → bytes ≡ front ++ behind → IsWhole has front behind s → rest ≡ drop (length s.document) behind →
    DecodesTo (Has s.revision) rest added after → DecodesTo has bytes (s ∷ added) after
Leaves-first has bytes front behind s rest added after split w left l =
    let stands : bytes ≡ (frame s.revision s.document ++ []) ++ rest =
    split ∙ ap (λ (t : List ℕ). t ++ behind) w.front_is ∙
    ap (λ (t : List ℕ). head s.revision (length s.document) ++ t)
    (w.behind_is ∙ ap (λ (t : List ℕ). s.document ++ t) (sym left))
    ∙ sym (append_assoc (head s.revision (length s.document)) s.document rest)
    ∙ ap (λ (t : List ℕ). t ++ rest) (sym (append-nil (frame s.revision s.document)))
    in
    Leaves-more has bytes (s ∷ []) (Has s.revision) rest added after (w.lawful, tt) stands refl l

-- its body had come in part
pub Leaves-finished : (has : Hello) (revision size : ℕ) (held piece front behind : List ℕ) (added : List Snapshot) (after : Reader)
    → IsHead has revision size → length (held ++ front) ≡ size → piece ≡ front ++ behind → DecodesTo (Has revision) behind added after
    → DecodesTo has ((head revision size ++ held) ++ piece) ((record { revision = revision; document = held ++ front }) ∷ added) after
Leaves-finished has revision size held piece front behind added after lawful long split l =
    let whole : held ++ piece ≡ (held ++ front) ++ behind = ap (λ (t : List ℕ). held ++ t) split ∙ sym (append_assoc held front behind) in
    let rest : behind ≡ drop (length (held ++ front)) ((held ++ front) ++ behind) =
    sym (drop_at (held ++ front) behind (length (held ++ front)) refl) in
    let len = length-append (held ++ front) behind in
    Leaves-first has ((head revision size ++ held) ++ piece) (head revision size) ((held ++ front) ++ behind)
    (record { revision = revision; document = held ++ front }) behind added after
    (append_assoc (head revision size) held piece ∙ ap (λ (t : List ℕ). head revision size ++ t) whole)
    (record {
      lawful = subst (λ (n : ℕ). IsHead has revision n) (sym long) lawful;
      front_is = ap (λ (n : ℕ). head revision n) (sym long);
      within = omega arith;
      behind_is = ap (λ (t : List ℕ). (held ++ front) ++ t) rest;
    })
    rest l

-- less than was wanted came
pub Leaves-part : (has : Hello) (known : Option Head) (held piece : List ℕ) → length (held ++ piece) < wanted_by known → IsKnown has known
    → DecodesTo has (held_of known held ++ piece) [] (record { has = has; held = held_of known (held ++ piece); owed = None })
Leaves-part has None held piece short lawful = Leaves-nothing has (held ++ piece) short
Leaves-part has (Some h) held piece short lawful =
    subst (λ (t : List ℕ). DecodesTo has t []
    (record { has = has; held = head h.revision h.size ++ (held ++ piece); owed = None }))
    (sym (append_assoc (head h.revision h.size) held piece))
    (Leaves-short has (head h.revision h.size) (held ++ piece) h.revision h.size refl lawful short)

-- the first of several frames gets its body
pub first_set : (now : List Frame) (p : Snapshot) (added : List Snapshot) (f : Frame) →
    snapshots_of now ≡ p ∷ added → snapshots_of (slice_set now 0 f) ≡ snapshot_of f ∷ added
first_set [] p added f e = absurd cc
first_set (x ∷ now) p added f e = let tail : snapshots_of now ≡ added = cc in ap (λ (t : List Snapshot). snapshot_of f ∷ t) tail

pub first_revision : (now : List Frame) (p : Snapshot) (added : List Snapshot) (f : Frame) →
    snapshots_of now ≡ p ∷ added → f ≡ get_or now 0 f → f.revision ≡ p.revision
first_revision [] p added f e i = absurd cc
first_revision (x ∷ now) p added f e i =
    let one : snapshot_of x ≡ p = cc in ap (λ (g : Frame). g.revision) i ∙ ap (λ (s : Snapshot). s.revision) one

-- ---- the same, under other names
pub Leaves-same : (has has2 : Hello) (bytes bytes2 : List ℕ) (frames frames2 : List Snapshot) (after after2 : Reader)
    → has ≡ has2 → bytes ≡ bytes2 → frames ≡ frames2 → after ≡ after2 → DecodesTo has bytes frames after →
    DecodesTo has2 bytes2 frames2 after2
Leaves-same has has2 bytes bytes2 frames frames2 after after2 h b f a l =
    subst (λ (x : Hello). DecodesTo x bytes2 frames2 after2) h
    (subst (λ (x : List ℕ). DecodesTo has x frames2 after2) b
    (subst (λ (x : List Snapshot). DecodesTo has bytes x after2) f
    (subst (λ (x : Reader). DecodesTo has bytes frames x) a l)))

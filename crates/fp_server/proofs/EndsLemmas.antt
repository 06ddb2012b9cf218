-- How a service ends, of what its store is.
use Rattle.std.proofs.Common.{◌≡◌, ◌≢◌, ◌⊎◌, ◌+◌, ◌<◌, ℕ, List, [], ◌∷◌, ◌++◌, length, Ok, Err, inl, inr, ⊎_elim, refl, sym}
use Rattle.std.proofs.Common.{ap, subst, ◌∙◌, append-nil, arith}
use Rattle.std.specs.Prelude.{Option, Some, codes, decimal}
use Rattle.std.specs.Net.Text.{socket_text}
use Rattle.std.specs.declared.net.socket_addr.SocketAddr.{SocketAddr}
use Rattle.std.specs.Io.KnownBytes.{Appends, IsAtEnd}
use Rattle.fp_base.proofs.Known.{Appends-more}
use Rattle.fp_commands.specs.Files.{Environment, failures, streams_of}
use Rattle.fp_commands.specs.declared.fault.CommandFault.{CommandFault}
use Rattle.fp_commands.specs.declared.fault.CommandFault.TheVariants.{Device, StoreFailed, Memory}
use Rattle.fp_disk.specs.Crashes.{AtAnyMoment, EachCrash, SameHonesty}
use Rattle.fp_disk.specs.Outcomes.{IsOutcome}
use Rattle.fp_disk.specs.declared.disk.Disk.{Ghosts as DiskGhosts}
use Rattle.fp_committer.specs.Course.{Course, GoesThrough}
use Rattle.fp_committer.specs.StoreHalf.{StoreHalfState}
use Rattle.fp_committer.proofs.Courses.{course_later, half_through, runs}
use Rattle.fp_edit.specs.Edits.{Change}
use Rattle.fp_edit.specs.Log.{after_all}
use Rattle.fp_files.specs.Openings.{KeepsOthers}
use Rattle.fp_files.specs.declared.files.DiskFiles.{Ghosts as FileGhosts}
use Rattle.fp_files.specs.declared.openings.Purpose.TheVariants.{Writing}
use Rattle.fp_group_commit.specs.Store.{Leaves, StoreState, coming, sealed_set}
use Rattle.fp_group_commit.specs.Tokens.{Identity}
use Rattle.fp_group_commit.specs.declared.phase.Phase.TheVariants.{Idle}
use Rattle.fp_plane.specs.Flushing.{Flushes, HasBroken}
use Rattle.fp_recovery.specs.Stands.{StandsFor}
use Rattle.fp_streams.specs.Failures.{CountsFailures, Stream}
use Rattle.fp_streams.specs.Said.{AppendsLine}
use Rattle.fp_streams.specs.declared.counted.StreamFault.{StreamFault}
use Rattle.fp_streams.specs.declared.counted.StreamFault.TheVariants as stream
use Rattle.fp_server.specs.Attends.{Serves}
use Rattle.fp_server.specs.Ends.{BlamesStreams, EndsBadly, EndsWell, IsAttendingFault, IsBack, IsBrokenOff, IsBrokenStore}
use Rattle.fp_server.specs.Ends.{IsServedStore, IsServingFault, SaysAll, SaysWhere, broken_off, line, where_text}

pub says_where : (a b c d : Option (List ℕ)) (x y z : SocketAddr) →
    AppendsLine a b (codes "ofrep " ++ socket_text x) → AppendsLine b c (codes "edit " ++ socket_text y) →
    AppendsLine c d (codes "stream " ++ socket_text z) → Appends a d (where_text x y z)
says_where a b c d x y z p q r =
    let first = line (codes "ofrep " ++ socket_text x) in
    let second = line (codes "edit " ++ socket_text y) in
    let third = line (codes "stream " ++ socket_text z) in
    Appends-more a c d (first ++ second) third (Appends-more a b c first second p q) r

pub says_all : (revision : ℕ) (before held after : Option (List ℕ)) → SaysWhere before held →
    AppendsLine held after (codes "stopped at revision " ++ decimal revision) → SaysAll revision before after
says_all revision before held after p q = record {
  ofrep = p.ofrep;
  edit = p.edit;
  stream = p.stream;
  text = Appends-more before held after (where_text p.ofrep p.edit p.stream)
      (line (codes "stopped at revision " ++ decimal revision)) p.text q;
}

-- with nothing on its way, what a crash leaves is what is kept
kept_alone : {D : Type 0} (s : StoreState D) (c : List ℕ) → s.phase ≡ Idle → Leaves s c → StandsFor c (sealed_set s)
kept_alone s c idle (inl stands) = stands
kept_alone s c idle (inr begun) = absurd (begun.0 idle)

-- and else perhaps with the batch on its way
either : {D : Type 0} (s : StoreState D) (c : List ℕ) → Leaves s c → StandsFor c (sealed_set s) ⊎ StandsFor c (coming s)
either s c (inl stands) = inl stands
either s c (inr begun) = inr begun.2

module _ {F D : Type 0} (files : FileGhosts F D) (disk : DiskGhosts D) (old new : F) (path : List ℕ) (before after : D) (t s : StoreState D)
    (found : files.at old path ≡ Some before) (stands : disk.honest before → StandsFor (disk.bytes before) t.store.start)
    (opening : AtAnyMoment disk before t.disk (IsOutcome (disk.unsynced before)))
    (honest : SameHonesty disk before t.disk) (well : disk.faults t.disk ≡ disk.faults before)
    (given : after ≡ s.disk) (leaves : EachCrash disk after (Leaves s)) (back : IsBack files disk new path after) where
  pub ends_well : IsServedStore disk t s → (said held : Option (List ℕ)) → s.phase ≡ Idle → (revision : ℕ) →
      revision ≡ s.store.start.revision + length s.sealed → SaysAll revision said held →
      EndsWell files disk old new path said held
  unfolding runs
  ends_well served said held idle revision is told = record {
    start = t.store.start;
    edits = s.sealed;
    after = after;
    opened = record { before = before; found = found; stands = stands };
    back = back;
    run = runs disk before after t s opening honest given served.run;
    settled = served.settled.1;
    keeps = λ h c o. subst (λ (i : Identity). StandsFor c (after_all i.start s.sealed)) served.same (kept_alone s c idle (leaves h c o));
    told = subst (λ n. SaysAll n said held) (is ∙ ap (λ (i : Identity). i.start.revision + length s.sealed) served.same) told;
  }

  pub ends_broken : (f : CommandFault) → IsServingFault f → IsBrokenStore disk t s f → EndsBadly files disk old new path f
  unfolding runs
  ends_broken f is broken = broken_off is (record {
    start = t.store.start;
    edits = s.sealed;
    last = s.staged;
    after = after;
    opened = record { before = before; found = found; stands = stands };
    back = back;
    run = runs disk before after t s opening honest given broken.run;
    keeps = λ h c o. subst (λ (i : Identity). StandsFor c (after_all i.start s.sealed) ⊎ StandsFor c
        (after_all i.start (s.sealed ++ s.staged))) broken.same (either s c (leaves h c o));
  }) (λ failed. ⊎_elim (λ more. inl (rw (given, ← well) more)) (λ full. inr full) (broken.cause failed))

-- ---- from the half to its store
module _ {D : Type 0} (disk : DiskGhosts D) (first last : StoreHalfState D) (t : StoreState D)
    (none_drawn : first.half.all ≡ []) (none_settled : first.half.settled ≡ []) (is : t ≡ last.store) where
  same_store : Course disk first last → t.store ≡ first.store.store
  same_store course = ap (λ (x : StoreState D). x.store) is ∙ (course_later disk first last course).store

  pub served_store : Flushes disk first last (Ok tt) → last.half.all ≡ last.half.settled ++ last.drawn →
      last.drawn ≡ [] → last.store.sealed ≡ last.half.settled → IsServedStore disk first.store t
  unfolding half_through
  served_store f whole none sealed =
      let settled : last.half.settled ≡ t.sealed = sym sealed ∙ ap (λ (x : StoreState D). x.sealed) (sym is) in record {
        run = half_through disk first last none_drawn none_settled f.course f.any_moment t is;
        same = same_store f.course;
        settled = (whole ∙ ap (λ (l : List Change). last.half.settled ++ l) none ∙ append-nil last.half.settled ∙ settled, settled);
      }

  pub broken_store : (f : CommandFault) → IsBrokenOff disk first last f → IsBrokenStore disk first.store t f
  unfolding half_through
  broken_store f broken = record {
    run = half_through disk first last none_drawn none_settled broken.flushed.course broken.flushed.any_moment t is;
    same = same_store broken.flushed.course;
    cause = λ failed. (subst (λ (x : StoreState D). HasBroken disk first.store.disk x.disk last) (sym is) (broken.cause failed));
  }

-- and of one that was served well, where telling the end failed
pub served_broken : {D : Type 0} (disk : DiskGhosts D) (t s : StoreState D) → IsServedStore disk t s →
    (f : CommandFault) → f ≢ StoreFailed → IsBrokenStore disk t s f
served_broken disk t s served f never = record { run = served.run; same = served.same; cause = λ failed. absurd (never failed) }

-- a store that nothing was done with
pub untouched_store : {D : Type 0} (disk : DiskGhosts D) (t : StoreState D) → GoesThrough disk t t →
    (f : CommandFault) → f ≢ StoreFailed → IsBrokenStore disk t t f
untouched_store disk t through f never = record { run = through; same = refl; cause = λ failed. absurd (never failed) }

-- and a half
pub untouched_half : {D : Type 0} (disk : DiskGhosts D) (h : StoreHalfState D) → Flushes disk h h (Ok tt) →
    (f : CommandFault) → f ≢ StoreFailed → IsBrokenOff disk h h f
untouched_half disk h flushed f never = record { ended = Ok tt; flushed = flushed; cause = λ failed. absurd (never failed) }

-- no store failed where connections weren't let in
pub attending_calm : (f : CommandFault) → IsAttendingFault f → f ≢ StoreFailed
attending_calm f (inl device) is = let both : Device ≡ StoreFailed = sym device ∙ is in absurd cc
attending_calm f (inr memory) is = let both : Memory ≡ StoreFailed = sym memory ∙ is in absurd cc

-- the writer failed, and neither stream had before
pub blames_writer : {R W : Type 0} (r0 r : Stream R) (w0 w1 w : Stream W) (f : StreamFault) → f ≡ stream.Device →
    r.failures + w1.failures ≡ r0.failures + w0.failures → CountsFailures {A = Unit {0}} w1.failures w.failures (Err f) →
    BlamesStreams (record { reader = r0; writer = w0 }) (record { reader = r; writer = w })
blames_writer r0 r w0 w1 w f is same counted =
    let more : w1.failures < w.failures =
    subst (λ (f : StreamFault). CountsFailures {A = Unit {0}} w1.failures w.failures (Err f)) is counted in
    inr (omega (arith, same, more))

-- what a service comes to, whose disk was opened at this path alone
module _ {F D R W : Type 0} (files : FileGhosts F D) (disk : DiskGhosts D) (remaining : R → Option (List ℕ))
    (contents : W → Option (List ℕ)) (old new : Environment F R W) (path : List ℕ)
    (asked : files.asked new.files ≡ files.asked old.files ++ (path, Writing) ∷ [])
    (others : KeepsOthers files.at old.files new.files path) where
  pub serves_well : IsAtEnd (remaining new.reader.inner) →
      EndsWell files disk old.files new.files path (contents old.writer.inner) (contents new.writer.inner) →
      Serves files disk remaining contents old new path (Ok tt)
  serves_well ended ends = record { well = ends; ended = ended; badly = tt; calm = tt; blames = tt; asked = asked; others = others }

  pub serves_badly : (f : CommandFault) → EndsBadly files disk old.files new.files path f →
      (f ≡ StoreFailed → failures (streams_of new) ≡ failures (streams_of old)) →
      (f ≢ StoreFailed → BlamesStreams (streams_of old) (streams_of new)) →
      Serves files disk remaining contents old new path (Err f)
  serves_badly f ends calm blames =
      record { well = tt; ended = tt; badly = ends; calm = calm; blames = blames; asked = asked; others = others }

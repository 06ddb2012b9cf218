-- What holds of every disk in memory.
use Rattle.std.specs.Prelude.{◌≡◌, ◌↔◌, ◌≤◌, ◌+◌, ◌-◌, ◌/◌, ℕ, List, [], ◌∷◌, ◌++◌, length, take}
use Rattle.std.specs.Prelude.{drop, replicate, refl}
use Rattle.std.specs.List.{AllByRecursion}
use Rattle.std.proofs.lemmas.Grind.{common_steps}
use Rattle.std.proofs.lemmas.Bool.{cases_lt}
use Rattle.std.proofs.lemmas.List.Elements.{All-append, All-take, All-drop, All-replicate}
use Rattle.std.proofs.Common.{inl, inr, length-append, sym, ap, ◌∙◌, subst, arith, zero, suc}
use Rattle.fp_disk.specs.Outcomes.{PendingState, IsOutcome, IsByte, AreBytes, Elapses}
use Rattle.fp_disk.specs.Outcomes.{ChangesWithin, all_synced, with_bytes_at}
use Rattle.fp_disk.specs.Writes.{length-overwritten, overwritten_before, overwritten_behind}
use Rattle.fp_disk.specs.declared.call.Call.{Call}
use Rattle.fp_disk.specs.declared.call.Progress.{Progress}
use Rattle.fp_disk.specs.declared.call.Progress.TheVariants.{Whole, Half, Nothing}
use Rattle.fp_disk.specs.declared.call.Request.{Request}
use Rattle.fp_disk.specs.declared.call.Request.TheVariants.{Len, Read, Write, Sync}
use Rattle.fp_disk.specs.Memory.{State, Memory, state, bytes_after_write, after, after_request}
use Rattle.fp_disk.specs.Memory.{replay}
use Rattle.fp_disk.specs.Memory.{at_first, unsynced_of, state_at, LeftSince}
use Rattle.fp_disk.specs.Memory.{BringsBytes, HoldsBytes}

-- all of a list, and a front of a list with one more

take_whole : (cs : List Call) (k : ℕ) → length cs ≤ k → take k cs ≡ cs
take_whole [] zero le = refl
take_whole [] (suc k) le = refl
take_whole (c ∷ cs) zero le = absurd (omega arith)
take_whole (c ∷ cs) (suc k) le = ap (λ (l : List Call). c ∷ l) (take_whole cs k (omega arith))

take_front : (k : ℕ) (cs : List Call) (c : Call) → k ≤ length cs → take k (cs ++ c ∷ []) ≡ take k cs
take_front zero cs c le = refl
take_front (suc k) [] c le = absurd (omega arith)
take_front (suc k) (d ∷ cs) c le = ap (λ (l : List Call). d ∷ l) (take_front k cs c (omega arith))

-- the outcomes at the last call are those of now

pub counts : (first : List ℕ) (calls : List Call) (t : ℕ) (c : List ℕ) → t ≤ length calls →
    IsOutcome (unsynced_of (replay (at_first first) calls)) c → LeftSince first calls t c
counts first calls t c le out = (
  length calls,
  le,
  omega arith,
  subst (λ (l : List Call). IsOutcome (unsynced_of (replay (at_first first) l)) c)
      (sym (take_whole calls (length calls) (omega arith))) out,
)

pub only : (first : List ℕ) (calls : List Call) (c : List ℕ) →
    LeftSince first calls (length calls) c →
    IsOutcome (unsynced_of (replay (at_first first) calls)) c
only first calls c left = subst
    (λ (l : List Call). IsOutcome (unsynced_of (replay (at_first first) l)) c)
    (take_whole calls left.0 left.1)
    left.3

-- a part of a write changes no more than the whole

changes_less : (old new : List ℕ) (at m n : ℕ) → m ≤ n → ChangesWithin old at m new →
    ChangesWithin old at n new
changes_less old new at m n le c = let a = c.no_longer in record {
  no_shorter = c.no_shorter;
  no_longer = omega (arith, a, le);
  outside = λ k lt out. c.outside k lt
      (λ inside. out (inside.0, (let h = inside.1 in omega (arith, h, le))));
}

overwritten_changes : (old more : List ℕ) (at : ℕ) →
    ChangesWithin old at (length more) (with_bytes_at old at more)
overwritten_changes old more at = let len = length-overwritten old more at in record {
  no_shorter = omega (arith, len);
  no_longer = omega (arith, len);
  outside = λ k lt out. elim (cases_lt k at) [
    | inl less ↦ overwritten_before old more at k less lt
    | inr no_less ↦ elim (cases_lt k (at + length more)) [
      | inl inside ↦ absurd (out (no_less, inside))
      | inr behind ↦ overwritten_behind old more at k behind
    ]
  ];
}

pub written_changes : (p : Progress) (old more : List ℕ) (at : ℕ) →
    ChangesWithin old at (length more) (bytes_after_write p old at more)
written_changes Whole old more at = overwritten_changes old more at
written_changes Half old more at =
    let half = overwritten_changes old (take (length more / 2) more) at in
    changes_less old _ at (length (take (length more / 2) more)) (length more)
    (grind (arith, common_steps)) half
written_changes Nothing old more at = record {
  no_shorter = omega arith;
  no_longer = omega arith;
  outside = λ k lt out. refl;
}

-- bytes put over bytes are bytes

overwritten_bytes : (old more : List ℕ) (at : ℕ) → AreBytes old → AreBytes more →
    AreBytes (with_bytes_at old at more)
overwritten_bytes old more at o m =
    let filled : List ℕ = old ++ replicate (at - length old) 0 in
    let before = All-take IsByte at filled
    (All-append IsByte old (replicate (at - length old) 0) o
    (All-replicate IsByte (at - length old) 0 (omega arith))) in
    All-append IsByte (take at filled ++ more) (drop (at + length more) old)
    (All-append IsByte (take at filled) more before m)
    (All-drop IsByte (at + length more) old o)

written_bytes : (p : Progress) (old more : List ℕ) (at : ℕ) → AreBytes old → AreBytes more →
    AreBytes (bytes_after_write p old at more)
written_bytes Whole old more at o m = overwritten_bytes old more at o m
written_bytes Half old more at o m =
    overwritten_bytes old (take (length more / 2) more) at o
    (All-take IsByte (length more / 2) more m)
written_bytes Nothing old more at o m = o

-- what a read gives is an outcome, at first and after each call

wrote_real : (p : Progress) (s : State) (at : ℕ) (more : List ℕ) → AreBytes more →
    IsOutcome (unsynced_of s) s.bytes →
    IsOutcome (unsynced_of (after_request (Write at more) p s))
    (bytes_after_write p s.bytes at more)
wrote_real p s at more m r =
    let c = written_changes p s.bytes more at in
    let a = r.no_shorter in let b = r.no_longer in
    let x = c.no_shorter in let y = c.no_longer in
    record {
      bytes = written_bytes p s.bytes more at r.bytes m;
      no_shorter = omega (arith, a, x);
      no_longer = omega (arith, b, y);
      kept = λ k lt out. c.outside k (omega (arith, a, lt)) (λ inside. out (inl inside))
          ∙ r.kept k lt (λ covers. out (inr covers));
    }

settled_real : (bytes : List ℕ) → AreBytes bytes → IsOutcome (all_synced bytes) bytes
settled_real bytes b = record {
  bytes = b;
  no_shorter = omega arith;
  no_longer = omega arith;
  kept = λ k lt out. refl;
}

after_real : (request : Request) (p : Progress) (s : State) → BringsBytes request →
    IsOutcome (unsynced_of s) s.bytes →
    IsOutcome (unsynced_of (after_request request p s)) (after_request request p s).bytes
after_real Len p s b r = r
after_real (Read at n) p s b r = r
after_real (Write at more) p s b r = wrote_real p s at more b r
after_real Sync Whole s b r = settled_real s.bytes r.bytes
after_real Sync Half s b r = r
after_real Sync Nothing s b r = r

replay_real : (s : State) (cs : List Call) →
    AllByRecursion (λ (c : Call). BringsBytes c.request) cs → IsOutcome (unsynced_of s) s.bytes →
    IsOutcome (unsynced_of (replay s cs)) (replay s cs).bytes
replay_real s [] b r = r
replay_real s (c ∷ cs) b r =
    replay_real (after s c) cs b.1 (after_real c.request c.progress s b.0 r)

pub has_present : (m : Memory) → HoldsBytes m.first m.calls →
    IsOutcome (unsynced_of (state m)) (state m).bytes
has_present m h = replay_real (at_first m.first) m.calls h.brought (settled_real m.first h.at_first)

-- one call more

brought_more : (cs : List Call) (c : Call) → BringsBytes c.request →
    AllByRecursion (λ (d : Call). BringsBytes d.request) cs →
    AllByRecursion (λ (d : Call). BringsBytes d.request) (cs ++ c ∷ [])
brought_more [] c b all = (b, tt)
brought_more (d ∷ cs) c b all = (all.0, brought_more cs c b all.1)

brought_less : (cs : List Call) (c : Call) →
    AllByRecursion (λ (d : Call). BringsBytes d.request) (cs ++ c ∷ []) →
    AllByRecursion (λ (d : Call). BringsBytes d.request) cs
brought_less [] c all = tt
brought_less (d ∷ cs) c all = (all.0, brought_less cs c all.1)

pub holds_more : (first : List ℕ) (calls : List Call) (c : Call) → BringsBytes c.request →
    HoldsBytes first calls ↔ HoldsBytes first (calls ++ c ∷ [])
holds_more first calls c b = (
  λ h. record { at_first = h.at_first; brought = brought_more calls c b h.brought },
  λ h. record { at_first = h.at_first; brought = brought_less calls c h.brought },
)

pub replay_more : (s : State) (cs : List Call) (c : Call) →
    replay s (cs ++ c ∷ []) ≡ after (replay s cs) c
replay_more s [] c = refl
replay_more s (d ∷ cs) c = replay_more (after s d) cs c

pub elapses_call : (first : List ℕ) (calls : List Call) (c : Call) (u : PendingState) →
    ((o : List ℕ) → IsOutcome (unsynced_of (after (replay (at_first first) calls) c)) o →
    IsOutcome u o)
    → Elapses (length calls) (length (calls ++ c ∷ [])) (LeftSince first calls)
    (LeftSince first (calls ++ c ∷ [])) (IsOutcome u)
elapses_call first calls c u fits = record {
  later = omega (arith, len);
  nothing_else = λ t o le left. elim (cases_lt (length calls) left.0) [
    | inl past ↦ inr (fits o (subst (λ (s : State). IsOutcome (unsynced_of s) o)
        (whole left.0 (omega (arith, past))) left.3))
    | inr within ↦ inl (
      left.0,
      left.1,
      within,
      subst (λ (l : List Call). IsOutcome (unsynced_of (replay (at_first first) l)) o)
          (take_front left.0 calls c within) left.3,
    )
  ];
  keeps = λ t o le left. (
    left.0,
    left.1,
    (let h = left.2 in omega (arith, len, h)),
    subst (λ (l : List Call). IsOutcome (unsynced_of (replay (at_first first) l)) o)
        (sym (take_front left.0 calls c left.2)) left.3,
  );
}
  where
    len : length (calls ++ c ∷ []) ≡ length calls + 1
    len = length-append calls (c ∷ [])

    whole : (k : ℕ) → length calls + 1 ≤ k →
        state_at first (calls ++ c ∷ []) k ≡ after (replay (at_first first) calls) c
    whole k le = ap (λ (l : List Call). replay (at_first first) l)
        (take_whole (calls ++ c ∷ []) k (omega (arith, len, le)))
        ∙ replay_more (at_first first) calls c

-- a sync leaves an outcome from before it
pub synced_fits : (m : Memory) (o : List ℕ) → HoldsBytes m.first m.calls →
    IsOutcome (all_synced (state m).bytes) o → IsOutcome (unsynced_of (state m)) o
synced_fits m o h out =
    let p = has_present m h in
    let a = p.no_shorter in let b = p.no_longer in
    let x = out.no_shorter in let y = out.no_longer in
    record {
      bytes = out.bytes;
      no_shorter = omega (arith, a, x);
      no_longer = omega (arith, b, y);
      kept = λ k lt apart. out.kept k (omega (arith, a, lt)) (λ none. none)
          ∙ p.kept k lt apart;
    }

-- What the fields of a disk in memory owe, after a call.
use Rattle.std.proofs.Common.{◌≡◌, ◌≤◌, ◌+◌, ℕ, max, List, [], ◌∷◌, ◌++◌, length, drop, refl, arith, sym, ap, ◌∙◌}
use Rattle.std.proofs.Common.{subst, length-append, zero, suc}
use Rattle.fp_disk.specs.declared.call.Call.{Call}
use Rattle.fp_disk.specs.declared.call.Progress.{Progress}
use Rattle.fp_disk.specs.declared.call.Progress.TheVariants.{Whole, Half, Nothing}
use Rattle.fp_disk.specs.declared.call.Request.TheVariants.{Len, Read, Write, Sync}
use Rattle.fp_disk.specs.Memory.{State, BringsBytes, after, replay, at_first, reach_of, with_request, writes_after}
use Rattle.fp_disk.specs.Memory.{bytes_after_write, HoldsBytes, Keeps}
use Rattle.fp_disk.specs.Outcomes.{AreBytes}
use Rattle.fp_disk.specs.MemoryLaws.{replay_more, holds_more}

pub writes_after_more : (ws : List (ℕ × List ℕ)) (cs : List Call) (c : Call) →
    writes_after ws (cs ++ c ∷ []) ≡ with_request (writes_after ws cs) c.request
writes_after_more ws [] c = refl
writes_after_more ws (d ∷ cs) c = writes_after_more (with_request ws d.request) cs c

drop_more : (n : ℕ) (cs : List Call) (c : Call) → n ≤ length cs → drop n (cs ++ c ∷ []) ≡ drop n cs ++ c ∷ []
drop_more zero cs c le = refl
drop_more (suc n) [] c le = absurd (omega arith)
drop_more (suc n) (d ∷ cs) c le = drop_more n cs c (omega arith)

drop_all : (n : ℕ) (cs : List Call) → length cs ≤ n → drop n cs ≡ []
drop_all zero [] le = refl
drop_all zero (c ∷ cs) le = absurd (omega arith)
drop_all (suc n) [] le = refl
drop_all (suc n) (c ∷ cs) le = drop_all n cs (omega arith)

module _ (first bytes synced : List ℕ) (calls : List Call) (all_synced reach : ℕ)
    (kept : Keeps first bytes synced calls all_synced reach) where
  -- a call that synced nothing
  keeps_more : (c : Call) (bytes' : List ℕ) (reach' : ℕ) → BringsBytes c.request →
      bytes' ≡ (after (replay (at_first first) calls) c).bytes →
      (after (replay (at_first first) calls) c).synced ≡ (replay (at_first first) calls).synced
      → (after (replay (at_first first) calls) c).writes ≡ with_request (replay (at_first first) calls).writes
      c.request → reach' ≡ reach_of (length synced) (after (replay (at_first first) calls) c).writes
      → Keeps first bytes' synced (calls ++ c ∷ []) all_synced reach'
  keeps_more c bytes' reach' brings bytes_are synced_same writes_are reach_is = let more = replay_more (at_first first) calls c in record {
    bytes_are = bytes_are ∙ ap (λ (s : State). s.bytes) (sym more);
    synced_are = kept.synced_are ∙ (sym synced_same ∙ ap (λ (s : State). s.synced) (sym more));
    pending = ap (λ (cs : List Call). writes_after [] cs) (drop_more all_synced calls c kept.within)
        ∙ (writes_after_more [] (drop all_synced calls) c ∙
        (ap (λ (ws : List (ℕ × List ℕ)). with_request ws c.request) kept.pending ∙
        (sym writes_are ∙ ap (λ (s : State). s.writes) (sym more))));
    within = let len = length-append calls (c ∷ []) in let le = kept.within in omega (arith, len, le);
    reach_is = reach_is ∙ ap (λ (s : State). reach_of (length synced) s.writes) (sym more);
    holds = (holds_more first calls c brings).0 kept.holds;
  }

  along : (c : Call) (calls' : List Call) (bytes' synced' : List ℕ) (all_synced' reach' : ℕ) →
      calls' ≡ calls ++ c ∷ [] → Keeps first bytes' synced' (calls ++ c ∷ []) all_synced' reach' →
      Keeps first bytes' synced' calls' all_synced' reach'
  along c calls' bytes' synced' all_synced' reach' is =
      subst (λ (cs : List Call). Keeps first bytes' synced' cs all_synced' reach') (sym is)

  pub keeps_len : (p : Progress) (calls' : List Call) →
      calls' ≡ calls ++ (record { request = Len; progress = p }) ∷ [] →
      Keeps first bytes synced calls' all_synced reach
  keeps_len p calls' is = let c : Call = record { request = Len; progress = p } in
      along c calls' bytes synced all_synced reach is
      (keeps_more c bytes reach tt kept.bytes_are refl refl kept.reach_is)

  pub keeps_read : (at n : ℕ) (p : Progress) (calls' : List Call) →
      calls' ≡ calls ++ (record { request = Read at n; progress = p }) ∷ [] →
      Keeps first bytes synced calls' all_synced reach
  keeps_read at n p calls' is = let c : Call = record { request = Read at n; progress = p } in
      along c calls' bytes synced all_synced reach is
      (keeps_more c bytes reach tt kept.bytes_are refl refl kept.reach_is)

  pub keeps_write : (at : ℕ) (more bytes' : List ℕ) (p : Progress) (end : ℕ) (calls' : List Call) → AreBytes more →
      bytes' ≡ bytes_after_write p bytes at more → end ≡ at + length more
      → calls' ≡ calls ++ (record { request = Write at more; progress = p }) ∷ [] →
      Keeps first bytes' synced calls' all_synced (max reach end)
  keeps_write at more bytes' p end calls' m put ends is = let c : Call =
      record { request = Write at more; progress = p } in along c calls' bytes' synced all_synced (max reach end) is
      (keeps_more c bytes' (max reach end) m
      (put ∙ ap (λ (b : List ℕ). bytes_after_write p b at more) kept.bytes_are) refl refl
      (ap (λ (r : ℕ). max r end) kept.reach_is ∙
      ap (λ (e : ℕ). max (reach_of (length synced) (replay (at_first first) calls).writes) e) ends))

  pub keeps_failed_sync : (p : Progress) (calls' : List Call) → (p ≡ Whole → ⊥) →
      calls' ≡ calls ++ (record { request = Sync; progress = p }) ∷ [] →
      Keeps first bytes synced calls' all_synced reach
  keeps_failed_sync Whole calls' failed is = absurd (failed refl)
  keeps_failed_sync Half calls' failed is = let c : Call = record { request = Sync; progress = Half } in
      along c calls' bytes synced all_synced reach is
      (keeps_more c bytes reach tt kept.bytes_are refl refl kept.reach_is)
  keeps_failed_sync Nothing calls' failed is = let c : Call = record { request = Sync; progress = Nothing } in
      along c calls' bytes synced all_synced reach is
      (keeps_more c bytes reach tt kept.bytes_are refl refl kept.reach_is)

  pub keeps_sync : (synced' : List ℕ) (calls' : List Call) (all_synced' : ℕ) → synced' ≡ bytes →
      calls' ≡ calls ++ (record { request = Sync; progress = Whole }) ∷ [] → all_synced' ≡ length calls' →
      Keeps first bytes synced' calls' all_synced' (length bytes)
  keeps_sync synced' calls' all_synced' same is all = let more =
      replay_more (at_first first) calls (record { request = Sync; progress = Whole }) in
      let there : replay (at_first first) calls' ≡ after (replay (at_first first) calls)
      (record { request = Sync; progress = Whole }) = ap (λ (cs : List Call). replay (at_first first) cs) is ∙
      more in record {
        bytes_are = kept.bytes_are ∙ ap (λ (s : State). s.bytes) (sym there);
        synced_are = same ∙ (kept.bytes_are ∙ ap (λ (s : State). s.synced) (sym there));
        pending = ap (λ (cs : List Call). writes_after [] cs) (drop_all all_synced' calls' (omega (arith, all))) ∙
            ap (λ (s : State). s.writes) (sym there);
        within = omega (arith, all);
        reach_is = sym (ap (λ (b : List ℕ). length b) same) ∙ ap (λ (s : State). reach_of (length synced') s.writes) (sym there);
        holds = subst (λ (cs : List Call). HoldsBytes first cs) (sym is)
            ((holds_more first calls (record { request = Sync; progress = Whole }) tt).0 kept.holds);
      }

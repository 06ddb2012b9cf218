-- Where a drawn batch is, from call to call of the store.
use Rattle.std.proofs.Common.{◌≡◌, ◌≢◌, ◌+◌, ℕ, true, List, [], ◌++◌, length, arith, refl, sym, ap, subst, ◌∙◌}
use Rattle.std.proofs.lemmas.List.{append-nil}
use Rattle.fp_disk.specs.Outcomes.{PendingState, IsOutcome}
use Rattle.fp_edit.specs.Edits.{Change}
use Rattle.fp_edit.specs.Flags.{State}
use Rattle.fp_edit.specs.Log.{after_all}
use Rattle.fp_record.specs.Group.{Group}
use Rattle.fp_group_commit.specs.Calls.{SameStore}
use Rattle.fp_group_commit.specs.Changes.{GoesOn}
use Rattle.fp_group_commit.specs.Store.{Leaves, StoreState, sealed_set}
use Rattle.fp_group_commit.specs.Tokens.{Identity, ReceiptState}
use Rattle.fp_desk.specs.Desk.{DeskState, IsDrawn, IsNewDraw, settled_set}
use Rattle.fp_committer.specs.Halves.{HalfState}
use Rattle.fp_committer.specs.StoreHalf.{IsOut, IsStoreHalf, changes_held, is_in_flight}
use Rattle.fp_committer.specs.declared.held.Held.{Held}
use Rattle.fp_committer.specs.declared.held.Held.TheVariants as held
use Rattle.fp_committer.proofs.Ways.{at_rest}

-- a batch in flight stays in flight
pub out_moved : {D : Type 0} (s n : StoreState D) (l : List Change) (h : Held) → IsOut h s l →
    is_in_flight s.phase ≡ true → n.sealed ≡ s.sealed → n.staged ≡ s.staged → is_in_flight n.phase ≡ true →
    IsOut h n l
out_moved s n l held.Nothing o air sealed staged still = absurd (at_rest s.phase o.0 air)
out_moved s n l (held.Drawn group) o air sealed staged still = absurd (at_rest s.phase o.0 air)
out_moved s n l held.InFlight o air sealed staged still = (still, sealed ∙ o.1, λ e. o.2 (sym staged ∙ e))
out_moved s n l (held.Sealed receipt) o air sealed staged still = absurd (at_rest s.phase o.0 air)

-- a call that leaves the batch and what is sealed
pub out_still : {D : Type 0} (s n : StoreState D) (l : List Change) (h : Held) → IsOut h s l → n.phase ≡ s.phase →
    n.store ≡ s.store → n.sealed ≡ s.sealed → n.staged ≡ s.staged → IsOut h n l
out_still s n l held.Nothing o step store sealed staged = (step ∙ o.0, sealed ∙ o.1)
out_still s n l (held.Drawn group) o step store sealed staged =
    let set : sealed_set n ≡ sealed_set s = ap (λ (x : Identity). after_all x.start n.sealed) store ∙
    ap (λ (k : List Change). after_all s.store.start k) sealed in
    (step ∙ o.0, sealed ∙ o.1, o.2, subst (λ (t : State). GoesOn t group) (sym set) o.3, o.4)
out_still s n l held.InFlight o step store sealed staged = (ap is_in_flight step ∙ o.0, sealed ∙ o.1, λ e. o.2 (sym staged ∙ e))
out_still s n l (held.Sealed receipt) o step store sealed staged = (
  step ∙ o.0,
  sealed ∙ o.1,
  o.2,
  o.3 ∙ sym store,
  o.4 ∙
      ap (λ (x : Identity). x.start.revision + length l + 1) (sym store),
)

-- what was drawn is held again
pub out_put : {D : Type 0} (s n : StoreState D) (l : List Change) (g g2 : Group) → IsOut (held.Drawn g) s l →
    g2 ≡ g → n.phase ≡ s.phase → n.store ≡ s.store → n.sealed ≡ s.sealed → IsOut (held.Drawn g2) n l
out_put s n l g g2 o same phase store sealed =
    let set : sealed_set n ≡ sealed_set s = ap (λ (x : Identity). after_all x.start n.sealed) store ∙
    ap (λ (k : List Change). after_all s.store.start k) sealed in
    subst (λ (x : Group). IsOut (held.Drawn x) n l) (sym same)
    (phase ∙ o.0, sealed ∙ o.1, o.2, subst (λ (t : State). GoesOn t g) (sym set) o.3, o.4)

pub held_same : {D : Type 0} (s n : StoreState D) (h : Held) → n.staged ≡ s.staged → changes_held h n ≡ changes_held h s
held_same s n held.Nothing staged = refl
held_same s n (held.Drawn group) staged = refl
held_same s n held.InFlight staged = staged
held_same s n (held.Sealed receipt) staged = refl

-- from the write of its gate on a batch is in flight
pub in_flight : {D : Type 0} (s : StoreState D) (l : List Change) (h : Held) → IsOut h s l → is_in_flight s.phase ≡ true → h ≡ held.InFlight
in_flight s l held.Nothing o air = absurd (at_rest s.phase o.0 air)
in_flight s l (held.Drawn group) o air = absurd (at_rest s.phase o.0 air)
in_flight s l held.InFlight o air = refl
in_flight s l (held.Sealed receipt) o air = absurd (at_rest s.phase o.0 air)

-- where no edit is held, none is out
pub none_out : {D : Type 0} (s : StoreState D) (l : List Change) (h : Held) → IsOut h s l → changes_held h s ≡ [] → h ≡ held.Nothing
none_out s l held.Nothing o none = refl
none_out s l (held.Drawn group) o none = absurd (o.2 none)
none_out s l held.InFlight o none = absurd (o.2 none)
none_out s l (held.Sealed receipt) o none = absurd (o.2 none)

module _ {D : Type 0} (honest : D → Type 0) (unsynced : D → PendingState) {h : Held} {s : StoreState D}
    {half : HalfState} (w : IsStoreHalf honest unsynced h s half) where
  abbrev Now : StoreState D → Type 0
  Now n = honest n.disk → (c : List ℕ) → IsOutcome (unsynced n.disk) c → Leaves n c

  -- the store has gone on
  pub went : (h2 : Held) (n : StoreState D) → IsOut h2 n half.settled → changes_held h2 n ≡ changes_held h s →
      Now n → IsStoreHalf honest unsynced h2 n half
  went h2 n out same now = record { out = out; whole = w.whole ∙ ap (λ (l : List Change). half.settled ++ l) (sym same); now = now }

  -- and its batch is in flight still
  pub moved : (n : StoreState D) → is_in_flight s.phase ≡ true → is_in_flight n.phase ≡ true → SameStore s n →
      Now n → IsStoreHalf honest unsynced h n half
  moved n air still same now = went h n (out_moved s n half.settled h w.out air same.1 same.2 still) (held_same s n h same.2) now

  -- and its batch is where it was
  pub stood : (n : StoreState D) → n.phase ≡ s.phase → SameStore s n → Now n → IsStoreHalf honest unsynced h n half
  stood n step same now = went h n (out_still s n half.settled h w.out step same.0 same.1 same.2) (held_same s n h same.2) now

  -- a batch is drawn where none is held
  pub drawn : (d n : DeskState) (group : Group) → s.store ≡ d.store → (half.settled ≡ d.settled) ×
      (changes_held h s ≡ d.drawn) → IsNewDraw d n group →
      IsStoreHalf honest unsynced (held.Drawn group) s (record half { all = half.all ++ n.drawn })
  drawn d n group same agree draws =
      let none = agree.1 ∙ draws.none_out in
      let o = subst (λ (x : Held). IsOut x s half.settled) (none_out s half.settled h w.out none) w.out in
      let some : group.changes ≢ [] = (λ e. let any = draws.longest.some in let nil = ap length e in omega (arith, any, nil)) in
      let set : sealed_set s ≡ settled_set d = ap (λ (x : Identity). after_all x.start s.sealed) same ∙
      ap (λ (l : List Change). after_all d.store.start l) (o.1 ∙ agree.0) in
      let drawn_is : n.drawn ≡ group.changes = ap (λ (x : DeskState). x.drawn) draws.new_is in
      record {
        out = (o.0, o.1, some, subst (λ (t : State). GoesOn t group) (sym set) draws.goes_on, draws.longest.few);
        whole = ap (λ (l : List Change). l ++ n.drawn)
            (w.whole ∙ ap (λ (l : List Change). half.settled ++ l) none ∙ append-nil half.settled) ∙
            ap (λ (l : List Change). half.settled ++ l) drawn_is;
        now = w.now;
      }

-- the receipt that is held is for what the desk has drawn
pub is_drawn : {D : Type 0} (s : StoreState D) (l : List Change) (d : DeskState) (r : ReceiptState) →
    IsOut (held.Sealed r) s l → s.store ≡ d.store → l ≡ d.settled → r.batch.changes ≡ d.drawn → IsDrawn d r
is_drawn s l d r o same settled drawn =
    let first = o.4 in let len = ap length settled in let start = ap (λ (x : Identity). x.start.revision) same in
    ((λ e. o.2 (drawn ∙ e)), omega (arith, first, len, start), drawn)

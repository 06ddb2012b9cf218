-- What a plane's lock keeps, and whose committer's halves there are.
use Rattle.std.specs.Prelude.{◌≡◌, ◌⊎◌, ◌<◌, ◌+◌, ◌||◌, ℕ, Bool, true, false, List, [], length, Option, None}
use Rattle.std.specs.Prelude.{All}
use Rattle.fp_disk.specs.declared.disk.Disk.{Ghosts}
use Rattle.fp_committer.specs.Committer.{DeskHalfState}
use Rattle.fp_committer.specs.Course.{LacksRoom}
use Rattle.fp_committer.specs.Halves.{HalfState, Names}
use Rattle.fp_committer.specs.StoreHalf.{StoreHalfState}
use Rattle.fp_desk.specs.Desk.{DeskState, settled_front, settled_revision}
use Rattle.fp_desk.specs.declared.fault.SubmitFault.{SubmitFault}
use Rattle.fp_edit.specs.Edits.{Proposal}
use Rattle.fp_group_commit.specs.Tokens.{FrontState, Identity, front_revision}
use Rattle.fp_publish.specs.Evaluator.{EvaluatorState}
use Rattle.fp_publish.specs.Fronts.{Begins}
use Rattle.fp_publish.specs.Seats.{IsOfStore}

pub record HallState : Type 0 where
  pub desk : DeskState
  -- what the desk's half lists
  pub half : HalfState
  -- the front that evaluators take
  pub shown : FrontState
  -- the evaluators that nobody has
  pub idle : List EvaluatorState
  -- how many seats are taken, and the front that was handed last
  pub taken : ℕ
  pub handed : Option FrontState
  -- sealing broke off; the plane is to stop; no batch is drawn any more
  pub failed : Bool
  pub closing : Bool
  pub ended : Bool

abbrev pub desk_of : HallState → DeskHalfState
desk_of h = record { desk = h.desk; half = h.half }

-- ---- halves by name
-- a half whose own lists and whose counterpart's are called so
abbrev pub IsNamed : Names → Names → HalfState → Type 0
IsNamed own there half = (half.own ≡ own) × (half.there ≡ there)

-- the desk's half of the committer of this store, whose halves' lists are called so
pub record IsDeskOf (store : Identity) (desk_lists store_lists : Names)
    (d : DeskHalfState) : Type 0 where
  pub ours : d.desk.store ≡ store
  pub named : IsNamed desk_lists store_lists d.half

-- and the store's
pub record IsStoreOf {D : Type 0} (store : Identity) (desk_lists store_lists : Names)
    (h : StoreHalfState D) : Type 0 where
  pub ours : h.store.store ≡ store
  pub named : IsNamed store_lists desk_lists h.half

-- it seals nothing any more: the store has failed, or has no room for what is drawn
abbrev pub SealsNoMore : {D : Type 0} → Ghosts D → StoreHalfState D → Type 0
SealsNoMore disk h = (h.store.failed ≡ true) ⊎ LacksRoom disk h

-- the last revision that is settled of the store's half
abbrev pub settled_by : {D : Type 0} → StoreHalfState D → ℕ
settled_by h = h.store.store.start.revision + length h.half.settled

-- ---- halls
-- an edit that wasn't taken, and why
pub record RefusalState : Type 0 where
  pub fault : SubmitFault
  pub edit : Proposal

-- no edit is settled any more: sealing broke off, or no batch is drawn
abbrev pub IsOver : HallState → Type 0
IsOver h = (h.failed || h.ended) ≡ true

-- the edit that makes this revision isn't settled, or what is settled isn't shown
abbrev pub IsUnanswered : HallState → ℕ → Type 0
IsUnanswered h revision = (settled_revision h.desk < revision)
    ⊎ (front_revision h.shown < settled_revision h.desk)

-- an evaluator that knows a front of this store, and is lent nothing
abbrev pub IsAtRest : Identity → EvaluatorState → Type 0
IsAtRest store e = (e.known.store ≡ store) × (e.lent ≡ None)

-- no edit was handed in yet
pub record IsNewDesk (d : DeskState) : Type 0 where
  pub settled : d.settled ≡ []
  pub drawn : d.drawn ≡ []
  pub waiting : d.waiting ≡ []
  pub open_desk : d.stopped ≡ false
  pub last : d.last ≡ []

-- all that was taken is settled, and no edit is taken any more
pub record IsAllSettled (d : DeskState) : Type 0 where
  pub drawn : d.drawn ≡ []
  pub waiting : d.waiting ≡ []
  pub stopped : d.stopped ≡ true

-- What holds whenever the lock is free: all in it is of one store, and what is shown begins what is
-- settled; where the plane is to stop no edit is taken any more; and where no batch is drawn any
-- more, all that was taken is settled, unless sealing broke off
pub record IsOrderly (store : Identity) (desk_lists store_lists : Names) (h : HallState)
    : Type 0 where
  pub ours : IsDeskOf store desk_lists store_lists (desk_of h)
  pub shown : Begins h.shown (settled_front h.desk)
  pub idle : All (IsAtRest store) h.idle
  pub handed : IsOfStore h.handed h.shown
  pub closed : h.closing ≡ true → h.desk.stopped ≡ true
  pub over : h.ended ≡ true → h.failed ≡ false → IsAllSettled h.desk

-- a hall in which nothing was done yet
pub record IsNew (store : Identity) (h : HallState) : Type 0 where
  pub store_is : h.desk.store ≡ store
  pub desk : IsNewDesk h.desk
  pub shown : h.shown ≡ record { store = store; edits = [] }
  pub taken : h.taken ≡ 0
  pub handed : h.handed ≡ None
  pub failed : h.failed ≡ false
  pub closing : h.closing ≡ false
  pub ended : h.ended ≡ false

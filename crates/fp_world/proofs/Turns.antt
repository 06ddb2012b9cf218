-- One event of a world, by what became of it.
use Rattle.std.proofs.Common.{◌≡◌, ◌≢◌, ◌≤◌, ◌-◌, ℕ, max, List, [], ◌++◌, length, take, refl, sym, ap, subst, ◌∙◌, arith, append_assoc}
use Rattle.std.proofs.lemmas.List.{append-nil, take_at}
use Rattle.fp_disk.specs.Crashes.{EachCrash, SameHonesty}
use Rattle.fp_disk.specs.Outcomes.{IsOutcome}
use Rattle.fp_disk.specs.declared.disk.Disk.{Ghosts}
use Rattle.fp_disk.specs.declared.history.CallKind.{CallKind}
use Rattle.fp_edit.specs.Edits.{Change}
use Rattle.fp_edit.specs.declared.edit.Edit.{Edit}
use Rattle.fp_group_commit.specs.Tokens.{FrontState, Identity, front_revision}
use Rattle.fp_desk.specs.Desk.{DeskState, log, settled_front, settled_revision}
use Rattle.fp_publish.specs.Fronts.{Begins}
use Rattle.std.specs.Prelude.{Option, MatchOption, slice_set}
use Rattle.fp_stream.specs.declared.hello.Hello.{Hello}
use Rattle.fp_stream.specs.declared.hello.Hello.TheVariants.{Has}
use Rattle.fp_world.specs.Views.{HasNews, HasNoNews, ViewsState}
use Rattle.fp_committer.specs.Commits.{accepted_by as accepted_of, told_after as told_of_reply}
use Rattle.fp_committer.specs.Committer.{CommitterState, StepsBy}
use Rattle.fp_committer.specs.Kept.{KeptFrom}
use Rattle.fp_committer.specs.StoreHalf.{RisesFor as RisesForReply}
use Rattle.fp_committer.specs.declared.event.Answer.{Answer as Reply}
use Rattle.fp_committer.specs.declared.event.Answer.TheVariants as reply
use Rattle.fp_committer.specs.declared.event.Event.{Event as Commit}
use Rattle.fp_committer.specs.declared.event.Event.TheVariants as commit
use Rattle.fp_world.specs.declared.event.Event.TheVariants as event
use Rattle.fp_group_commit.specs.declared.fault.StoreFault.TheVariants as fault
use Rattle.fp_world.specs.Events.{ByCommitter, MakesItsCall, RisesFor, accepted_by, answer_by, told_after}
use Rattle.fp_world.specs.Machine.{DoesCommit, Step, and_published, published_front}
use Rattle.fp_world.specs.World.{StepsTo, WorldState, desk_of, disk_of, machine, told_of}
use Rattle.fp_world.specs.declared.event.Answer.{Answer}
use Rattle.fp_world.specs.declared.event.Event.{Event}
use Rattle.fp_world.specs.declared.event.Answer.TheVariants as answer
use Rattle.fp_committer.proofs.Keeps as keeps

-- ---- fronts
-- what is shown is the first edits of the log, up to its revision
pub first_edits : (d : DeskState) (f : FrontState) → Begins f (settled_front d)
    → f ≡ record { store = d.store; edits = take (front_revision f - d.store.start.revision) (log d) }
first_edits d f b =
    let rest = b.1.0 in let more = rest ++ (d.drawn ++ d.waiting) in let n = front_revision f - d.store.start.revision in
    let start = ap (λ (x : Identity). x.start.revision) b.0 in
    let whole : log d ≡ f.edits ++ more = ap (λ (l : List Change). l ++ (d.drawn ++ d.waiting)) (sym b.1.1) ∙
    append_assoc f.edits rest (d.drawn ++ d.waiting) in
    let long : length f.edits ≡ n = omega (arith, start) in
    let cut : take n (log d) ≡ f.edits = ap (λ (l : List Change). take n l) whole ∙ take_at f.edits more n long in
    ap (λ (x : Identity). record { store = x; edits = f.edits }) b.0 ∙
    ap (λ (l : List Change). record { store = d.store; edits = l }) (sym cut)

pub front_is : {D : Type 0} (w : WorldState D) → Begins w.views.board (settled_front w.committer.desk) →
    w.views.board ≡ published_front (machine w)
front_is w b = first_edits w.committer.desk w.views.board b

-- ---- steps
module _ {D : Type 0} (disk : Ghosts D)
    (only_now : (d : D) (c : List ℕ) → disk.honest d → disk.crash_states_since d (disk.moment d) c →
    IsOutcome (disk.unsynced d) c) where
  -- one that makes no call of the disk, and of the committer changes no more than what was told
  pub told_step : (old new : WorldState D) (e : Event) (a : Answer) (t : ℕ) →
      new.committer ≡ record old.committer { told = t } → told_of old ≤ t → t ≡ told_after (told_of old) a
      → [] ≡ accepted_by e a → ((x : List CallKind) → MakesItsCall e a x x) → ((n : ℕ) → RisesFor a n n) →
      Step (machine old) e a (machine new) →
      EachCrash disk (disk_of new) (KeptFrom (desk_of new) (told_of new)) → StepsTo disk old e a new
  told_step old new e a t is le told none calls rises steps exit =
      let told_is = ap (λ (x : CommitterState D). x.told) is in
      record {
        steps = steps;
        log = ap (λ (x : CommitterState D). log x.desk) is ∙ sym (append-nil (log (desk_of old))) ∙
            ap (λ (l : List Change). log (desk_of old) ++ l) none;
        told = told_is ∙ told;
        store = ap (λ (x : CommitterState D). x.store.store) is;
        desk = ap (λ (x : CommitterState D). x.desk.store) is;
        any_moment = keeps.rested disk only_now old.committer new.committer
            (ap (λ (x : CommitterState D). x.store) is) (omega (arith, told_is, le)) exit;
        exit = exit;
        honest = subst (λ (x : CommitterState D). SameHonesty disk (disk_of old) x.store.disk) (sym is) ((λ h. h), (λ h. h));
        called = subst (λ (x : CommitterState D). MakesItsCall e a (disk.calls (disk_of old))
            (disk.calls x.store.disk)) (sym is) (calls (disk.calls (disk_of old)));
        cause = subst (λ (x : CommitterState D). RisesFor a (disk.faults (disk_of old)) (disk.faults x.store.disk))
            (sym is) (rises (disk.faults (disk_of old)));
      }

abbrev pub World : {D : Type 0} → CommitterState D → ViewsState → WorldState D
World m v = record { committer = m; views = v }

-- ---- what the committer answers
told_same : (told : ℕ) (a : Reply) → told_of_reply told a ≡ told_after told (answer_by a)
told_same told reply.NotNow = refl
told_same told reply.Memory = refl
told_same told (reply.Refused f) = refl
told_same told (reply.Fault f) = refl
told_same told (reply.Ticket n) = refl
told_same told (reply.Drawn n) = refl
told_same told reply.Done = refl
told_same told (reply.Sealed n) = refl
told_same told (reply.Settled n) = refl
told_same told (reply.Acked n) = refl
told_same told reply.Waiting = refl
told_same told (reply.Phase n) = refl

rises_same : (a : Reply) (before now : ℕ) → RisesForReply a before now → RisesFor (answer_by a) before now
rises_same reply.NotNow before now r = r
rises_same reply.Memory before now r = r
rises_same (reply.Refused f) before now r = r
rises_same (reply.Fault fault.Device) before now r = r
rises_same (reply.Fault fault.Failed) before now r = r
rises_same (reply.Fault fault.Memory) before now r = r
rises_same (reply.Fault fault.Stranger) before now r = r
rises_same (reply.Ticket n) before now r = r
rises_same (reply.Drawn n) before now r = r
rises_same reply.Done before now r = r
rises_same (reply.Sealed n) before now r = r
rises_same (reply.Settled n) before now r = r
rises_same (reply.Acked n) before now r = r
rises_same reply.Waiting before now r = r
rises_same (reply.Phase n) before now r = r

-- an edit is accepted where the committer says so
pub taken_same : (edit : Edit) (a : Reply) → accepted_of (commit.Submit edit) a ≡ accepted_by (event.Submit edit) (answer_by a)
taken_same edit reply.NotNow = refl
taken_same edit reply.Memory = refl
taken_same edit (reply.Refused f) = refl
taken_same edit (reply.Fault f) = refl
taken_same edit (reply.Ticket n) = refl
taken_same edit (reply.Drawn n) = refl
taken_same edit reply.Done = refl
taken_same edit (reply.Sealed n) = refl
taken_same edit (reply.Settled n) = refl
taken_same edit (reply.Acked n) = refl
taken_same edit reply.Waiting = refl
taken_same edit (reply.Phase n) = refl

module _ {D : Type 0} (disk : Ghosts D) where
  -- an event of the edits is a step of the world as it is one of the committer
  pub committed : (e : Event) (c : Commit) (said : Reply) (m n : CommitterState D) (v : ViewsState) →
      ((P : Commit → Type 0) (Else : Type 0) → P c → ByCommitter e P Else) →
      accepted_of c said ≡ accepted_by e (answer_by said)
      → (Step (machine (World m v)) e (answer_by said) (machine (World n v)) ≡ DoesCommit e (machine (World m v))
      (answer_by said) (machine (World n v))) → StepsBy disk m c said n →
      StepsTo disk (World m v) e (answer_by said) (World n v)
  committed e c said m n v by taken steps s = record {
    steps = subst (λ (T : Type 0). T) (sym steps) (by _ _ (said, refl, s.steps), refl);
    log = s.log ∙ ap (λ (l : List Change). log m.desk ++ l) taken;
    told = s.kept.told ∙ told_same m.told said;
    store = s.kept.same.0;
    desk = s.kept.same.1;
    any_moment = s.kept.any_moment;
    exit = s.kept.exit;
    honest = s.kept.honest;
    called = by _ _ (said, refl, s.called);
    cause = rises_same said (disk.faults m.store.disk) (disk.faults n.store.disk) s.kept.cause;
  }

-- ---- what is published, and who takes it
-- by what the board did
abbrev pub ShownBy : DeskState → ViewsState → ViewsState → Option FrontState → Type 0
ShownBy d v n o = MatchOption o ((front_revision v.board ≡ settled_revision d) × (n ≡ v))
    (λ s. (front_revision v.board ≢ settled_revision d) × (s ≡ settled_front d) × (n ≡ record v { board = settled_front d }))

abbrev pub HandedBy : ℕ → ViewsState → ViewsState → Option FrontState → Type 0
HandedBy seat v n o = MatchOption o (HasNoNews v seat × (n ≡ v))
    (λ h. HasNews v seat × (h ≡ v.board) × (n ≡ record v { seats = slice_set v.seats seat (Has (front_revision v.board)) }))

-- what is published was told
pub machine_told : {D : Type 0} (m told : CommitterState D) (v n : ViewsState) (revision : ℕ) (seats : List Hello) →
    told ≡ record m { told = max m.told revision } → revision ≡ front_revision v.board →
    n ≡ record v { seats = seats }
    → machine (World told n) ≡ record (machine (World m v)) { commits = and_published (machine (World m v)); seats = seats }
machine_told m told v n revision seats is same views =
    ap (λ (x : CommitterState _). machine (World x n)) is
    ∙ ap (λ (x : ViewsState). machine (World (record m { told = max m.told revision }) x)) views
    ∙ ap (λ (r : ℕ). machine (World (record m { told = max m.told r }) (record v { seats = seats }))) same

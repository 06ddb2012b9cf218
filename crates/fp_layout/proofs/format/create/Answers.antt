use Rattle.std.proofs.Common.{rules, ◌≡◌, ◌+◌, ◌<◌, ℕ, List, [], ◌∷◌, inl, inr, ⊎_elim, refl, true, sym, ◌∙◌, ap, subst}
use Rattle.fp_disk.specs.History.{MakesSome}
use Rattle.fp_disk.specs.Outcomes.{PendingState, all_synced}
use Rattle.fp_disk.specs.declared.history.CallKind.{CallKind}
use Rattle.fp_disk.specs.declared.history.CallKind.TheVariants.{Length}
use Rattle.fp_journal.specs.State.{EndsClosed, JournalState}
use Rattle.fp_journal.proofs.Gates.{quiet_settled}
use Rattle.fp_disk.specs.Moments.{leaves_then}
use Rattle.fp_layout.specs.NewDisk.{IsNewDisk, IsNewOrNone, closed_bytes, format_calls, new_front}
use Rattle.fp_layout.proofs.Calls.{calls_joined}
use Rattle.fp_layout.proofs.Making as making
use Rattle.fp_layout.proofs.format.create.Goals as goal

pub returns : goal.returns
returns g c =
    let D = g.D.Disk in let m = g.met.D.Disk in let s = c.args.size in let d0 = c.args.disk in
    let d1 = c.len.new.self in let d2 = c.format.new.disk in let allowed = c.first_slot.ensures.allowed in
    let x = c.len.ensures in let y = c.in-Ok-format.ensures in let j = c.adopt-journal.ensures in let same = c.new.ensures.same in
    let empty : D.honest d0 → D.bytes d0 ≡ [] =
    λ h. making.no_bytes (D.bytes d0) (sym (c.in-Ok-eq0.ensures.answer h) ∙ c.in-Ok-eq0.field-0-test) in
    let new : D.honest d0 → IsNewDisk s (D.bytes d2) = λ h. y.made (x.honest.0 h) ((x.same h).0 ∙ empty h) in
    rw (ap (λ (k : JournalState g.row.D.Denot). k.disk) same.0 ∙ j.disk) (record {
      journal = (
        ap (λ (k : JournalState g.row.D.Denot). k.slot) same.0 ∙ j.slot.0 ∙ c.first_slot.ensures.slot,
        ap (λ (k : JournalState g.row.D.Denot). k.front) same.0 ∙ j.slot.1 ∙
            making.opened_front s c.first_slot.result c.first_slot.ensures.slot c.in-Ok-closed.bytes.items
            c.in-Ok-closed.ensures,
        ap (λ (k : JournalState g.row.D.Denot). k.sealed) same.0 ∙ j.begins.0,
        ap (λ (k : JournalState g.row.D.Denot). k.phase) same.0 ∙ j.begins.1,
      );
      beside = (same.1 ∙ c.second_slot.ensures.slot, same.2, same.3, same.5, same.4);
      made = new;
      all_synced = λ h. y.all_synced (x.honest.0 h);
      stands = λ h. (
        making.new_header s (D.bytes d2) allowed (new h),
        making.new_active s (D.bytes d2) allowed (new h),
        making.new_head s (D.bytes d2) allowed (new h),
      );
      not_empty = λ h. tt;
      empty = λ h ok. empty h;
      any_moment = λ h is. leaves_then D.moment D.crash_states_since d0 d1 d2 (IsNewOrNone s)
          (making.empty_leaves D m.present m.only_now s d0 d1 h is (x.time h))
          (making.empty_only D m.present m.only_now s d1 y.word (x.honest.0 h) ((x.same h).1 ∙ is));
      honest = (λ h. y.word.honest.0 (x.honest.0 h), λ h. x.honest.1 (y.word.honest.1 h));
      called = calls_joined (Length ∷ []) format_calls (D.calls d0) (D.calls d1) (D.calls d2) x.called y.called;
      untouched = tt;
      kept = λ h. tt;
      no_failure = y.cause.well (refl {a = true}) ∙ c.in-Ok-eq0.ensures.cause.well (refl {a = true});
      cause = tt;
      unfailed = tt;
    })

pub adopt-journal-requires-clause-quiet : goal.adopt-journal-requires-clause-quiet
adopt-journal-requires-clause-quiet g c =
    let D = g.D.Disk in let s = c.args.size in let d = c.format.new.disk in
    let items : c.in-Ok-closed.bytes.items ≡ closed_bytes s = c.in-Ok-closed.ensures in
    let new : D.honest d → IsNewDisk s (D.bytes d) = λ h. let h1 = c.format.ensures.word.honest.1 h in
    let h0 = c.len.ensures.honest.1 h1 in
    c.in-Ok-format.ensures.made h1
    ((c.len.ensures.same h0).0 ∙ making.no_bytes (D.bytes c.args.disk)
    (sym (c.in-Ok-eq0.ensures.answer h0) ∙ c.in-Ok-eq0.field-0-test)) in
    let sure : D.honest d → D.unsynced d ≡ all_synced (D.bytes d) = search rules in
    rw (c.first_slot.ensures.slot, items)
    (λ h. subst (λ (u : PendingState). EndsClosed 64 (64 + s) new_front u) (sym (sure h))
    (quiet_settled 64 (64 + s) new_front (D.bytes d)
    (making.new_ends s (D.bytes d) c.first_slot.ensures.allowed (new h))))

pub returns-in_default-format-clause-any_moment : goal.returns-in_default-format-clause-any_moment
returns-in_default-format-clause-any_moment g c =
    let D = g.D.Disk in let m = g.met.D.Disk in let s = c.args.size in let d0 = c.args.disk in
    let d1 = c.len.new.self in let d2 = c.format.new.disk in
    λ h is. let same : D.unsynced d1 ≡ all_synced [] = (c.len.ensures.same h).1 ∙ is in
    leaves_then D.moment D.crash_states_since d0 d1 d2 (IsNewOrNone s)
    (making.empty_leaves D m.present m.only_now s d0 d1 h is (c.len.ensures.time h))
    (making.empty_only D m.present m.only_now s d1 c.format.ensures.word (c.len.ensures.honest.0 h) same)

pub new-requires-clause-beaten : goal.new-requires-clause-beaten
new-requires-clause-beaten g c =
    let D = g.D.Disk in let s = c.args.size in let d = c.format.new.disk in
    let new : D.honest d → IsNewDisk s (D.bytes d) = λ h. let h1 = c.format.ensures.word.honest.1 h in
    let h0 = c.len.ensures.honest.1 h1 in
    c.in-Ok-format.ensures.made h1
    ((c.len.ensures.same h0).0 ∙ making.no_bytes (D.bytes c.args.disk)
    (sym (c.in-Ok-eq0.ensures.answer h0) ∙ c.in-Ok-eq0.field-0-test)) in
    let sure : D.honest d → D.unsynced d ≡ all_synced (D.bytes d) = search rules in
    rw (c.adopt-journal.ensures.disk, c.second_slot.ensures.slot)
    (λ h. making.new_shut s (D.bytes d) c.first_slot.ensures.allowed (new h) (D.unsynced d) (sure h))

pub format-requires : goal.format-requires
format-requires g c = c.deref.ensures.value ∙ c.in-Ok-closed.ensures

pub adopt-journal-requires-clause-place : goal.adopt-journal-requires-clause-place
adopt-journal-requires-clause-place g c =
    making.opened_place c.args.size c.first_slot.result c.first_slot.ensures.slot c.in-Ok-closed.bytes.items
    c.in-Ok-closed.ensures

pub adopt-journal-requires-clause-within : goal.adopt-journal-requires-clause-within
adopt-journal-requires-clause-within g c =
    making.first_within c.args.size c.first_slot.result c.first_slot.ensures.slot c.first_slot.ensures.allowed

pub new-requires-clause-apart : goal.new-requires-clause-apart
new-requires-clause-apart g c =
    inl (making.two_apart c.args.size c.adopt-journal.result.slot
    (c.adopt-journal.ensures.slot.0 ∙ c.first_slot.ensures.slot) c.second_slot.result c.second_slot.ensures.slot)

pub new-requires-clause-wide : goal.new-requires-clause-wide
new-requires-clause-wide g c =
    making.two_wide c.args.size c.adopt-journal.result.slot
    (c.adopt-journal.ensures.slot.0 ∙ c.first_slot.ensures.slot) c.second_slot.result c.second_slot.ensures.slot
    c.first_slot.ensures.allowed

pub new-requires-clause-front : goal.new-requires-clause-front
new-requires-clause-front g c =
    making.new_is_front c.adopt-journal.result.front
    (c.adopt-journal.ensures.slot.1 ∙
    making.opened_front c.args.size c.first_slot.result c.first_slot.ensures.slot c.in-Ok-closed.bytes.items
    c.in-Ok-closed.ensures)

pub new-requires-clause-live : goal.new-requires-clause-live
new-requires-clause-live g c = making.idle_lives c.adopt-journal.result.phase c.adopt-journal.ensures.begins.1

pub returns-in-Ok-clause-any_moment : goal.returns-in-Ok-clause-any_moment
returns-in-Ok-clause-any_moment g c =
    λ h is. making.empty_leaves g.D.Disk g.met.D.Disk.present g.met.D.Disk.only_now c.args.size c.args.disk
    c.len.new.self h is (c.len.ensures.time h)

pub returns-in-Ok-clause-called : goal.returns-in-Ok-clause-called
returns-in-Ok-clause-called g c = inr (inl c.len.ensures.called)

pub returns-in-Ok-clause-honest : goal.returns-in-Ok-clause-honest
returns-in-Ok-clause-honest g c = c.len.ensures.honest

pub returns-in-Err-clause-any_moment : goal.returns-in-Err-clause-any_moment
returns-in-Err-clause-any_moment g c =
    λ h is. making.empty_leaves g.D.Disk g.met.D.Disk.present g.met.D.Disk.only_now c.args.size c.args.disk
    c.len.new.self h is (c.len.ensures.time h)

pub returns-in-Err-clause-called : goal.returns-in-Err-clause-called
returns-in-Err-clause-called g c = inr (inl c.len.ensures.called)

pub returns-in-Err-clause-honest : goal.returns-in-Err-clause-honest
returns-in-Err-clause-honest g c = c.len.ensures.honest

pub returns-in_default-clause-any_moment : goal.returns-in_default-clause-any_moment
returns-in_default-clause-any_moment g c =
    λ h is. making.empty_leaves g.D.Disk g.met.D.Disk.present g.met.D.Disk.only_now c.args.size c.args.disk
    c.len.new.self h is (c.len.ensures.time h)

pub returns-in_default-clause-called : goal.returns-in_default-clause-called
returns-in_default-clause-called g c = inr (inl c.len.ensures.called)

pub returns-in_default-clause-honest : goal.returns-in_default-clause-honest
returns-in_default-clause-honest g c = c.len.ensures.honest

pub returns-in-Ok-clause-untouched : goal.returns-in-Ok-clause-untouched
returns-in-Ok-clause-untouched g c = inr c.len.ensures.called

pub returns-in_default-clause-untouched : goal.returns-in_default-clause-untouched
returns-in_default-clause-untouched g c = inr c.len.ensures.called

pub returns-in-Err-clause-cause : goal.returns-in-Err-clause-cause
returns-in-Err-clause-cause g c = λ e. c.in-Err.ensures.cause.ill (refl {a = true})

pub returns-in_default-clause-kept : goal.returns-in_default-clause-kept
returns-in_default-clause-kept g c =
    λ h why. making.untouched g.D.Disk g.met.D.Disk.only_now h (c.len.ensures.same h) (c.len.ensures.time h)

pub returns-in-Ok-clause-kept : goal.returns-in-Ok-clause-kept
returns-in-Ok-clause-kept g c = λ h why. making.untouched g.D.Disk g.met.D.Disk.only_now h (c.len.ensures.same h) (c.len.ensures.time h)

pub returns-in-Err-clause-kept : goal.returns-in-Err-clause-kept
returns-in-Err-clause-kept g c = λ h why. making.untouched g.D.Disk g.met.D.Disk.only_now h (c.len.ensures.same h) (c.len.ensures.time h)

pub returns-in_default-format-clause-kept : goal.returns-in_default-format-clause-kept
returns-in_default-format-clause-kept g c = λ h why.
    let D = g.D.Disk in let empty = making.no_bytes (D.bytes c.args.disk) (sym (c.in-Ok-eq0.ensures.answer h) ∙ c.in-Ok-eq0.field-0-test) in
    absurd (⊎_elim (λ bytes. bytes empty) (λ other. other refl) why)

pub returns-in_default-format-clause-called : goal.returns-in_default-format-clause-called
returns-in_default-format-clause-called g c =
    let D = g.D.Disk in let d2 = c.format.new.disk in
    inr (subst (λ (l : List CallKind). MakesSome format_calls l (D.calls d2)) c.len.ensures.called c.in_default-format.ensures.called)

pub returns-in_default-format-clause-honest : goal.returns-in_default-format-clause-honest
returns-in_default-format-clause-honest g c =
    let x = c.len.ensures.honest in let y = c.format.ensures.word.honest in (λ h. y.0 (x.0 h), λ h. x.1 (y.1 h))

pub returns-in_default-format-clause-cause : goal.returns-in_default-format-clause-cause
returns-in_default-format-clause-cause g c = λ e.
    let D = g.D.Disk in
    subst (λ (n : ℕ). n < D.faults c.format.new.disk) (c.in-Ok-eq0.ensures.cause.well (refl {a = true}))
    (c.in_default-format.ensures.cause.ill (refl {a = true}))

pub returns-in_default-format-clause-untouched : goal.returns-in_default-format-clause-untouched
returns-in_default-format-clause-untouched g c = inl refl

pub returns-in-Err-clause-untouched : goal.returns-in-Err-clause-untouched
returns-in-Err-clause-untouched g c = inl refl

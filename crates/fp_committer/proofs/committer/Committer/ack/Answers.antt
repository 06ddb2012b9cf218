use Rattle.std.proofs.Common.{rules, ◌≡◌, ◌≤◌, ◌<◌, ◌+◌, ◌-◌, ℕ, [], max, List, length, get_or, refl, sym, ap, subst, ◌∙◌, inl, arith}
use Rattle.std.proofs.lemmas.List.{append-nil}
use Rattle.fp_desk.specs.Desk.{DeskState, TicketState, settled_revision}
use Rattle.fp_committer.specs.Committer.{commits_of}
use Rattle.fp_committer.proofs.Keeps as keeps
use Rattle.fp_committer.proofs.Sound as sound
use Rattle.fp_committer.proofs.committer.Committer.ack.Goals as goal

pub returns-then-revision-self : goal.returns-then-revision-self
returns-then-revision-self g c =
    let low = c.if-revision-self.true in let start = c.self.invariant.start_is in
    rw (← c.self.view_is) (record {
      steps = (inl (omega (arith, low, start)), refl);
      log = sym (append-nil _);
      settled = ([], append-nil _);
      kept = keeps.desk_still g.D.Disk c.self.invariant c.rest.ensures.whole g.met.D.Disk.only_now c.rest.ensures.exit refl (λ n. refl);
      called = refl;
    })

pub returns-in_default : goal.returns-in_default
returns-in_default g c =
    rw (← c.self.view_is) (record {
      steps = search rules;
      log = sym (append-nil _);
      settled = ([], append-nil _);
      kept = keeps.desk_still g.D.Disk c.self.invariant c.rest.ensures.whole g.met.D.Disk.only_now c.rest.ensures.exit refl (λ n. refl);
      called = refl;
    })

pub returns-in_default-ack : goal.returns-in_default-ack
returns-in_default-ack g c =
    let d = c.self.inside.desk.desk in let i = c.self.invariant in
    let start = c.self.inside.start in let tickets = c.self.inside.tickets.items in let t = c.in-Some.ticket.now in
    let k = c.args.revision - start - 1 in
    let above = c.if-revision-self.false in let begun = i.start_is in let count = i.counted in
    let lt : k < length tickets = subst (λ (l : List TicketState). k < length l) c.deref.ensures.value c.in-Some.ensures.lookup.3.0 in
    let found : t ≡ get_or tickets k t =
    subst (λ (l : List TicketState). t ≡ get_or l k t) c.deref.ensures.value c.in-Some.ensures.lookup.1 in
    let number = sound.numbered_at (start + 1) tickets k t i.numbered lt found in
    let is : t.revision ≡ c.args.revision = omega (arith, number, above) in
    let waits : settled_revision d < t.revision =
    subst (λ (x : DeskState). settled_revision x < t.revision) c.desk.ensures c.in_default-ack.ensures.waiting in
    rw (← c.self.view_is) (record {
      steps = (omega (arith, waits, is), omega (arith, lt, above, begun, count), refl);
      log = sym (append-nil _);
      settled = ([], append-nil _);
      kept = keeps.desk_still g.D.Disk c.self.invariant c.rest.ensures.whole g.met.D.Disk.only_now c.rest.ensures.exit refl (λ n. refl);
      called = refl;
    })

pub returns : goal.returns
returns g c =
    let D = g.D.Disk in let a = c.self.inside.desk in let b = c.self.inside.store in let d = a.desk in
    let told = c.self.inside.told in let i = c.self.invariant in
    let start = c.self.inside.start in let tickets = c.self.inside.tickets.items in let t = c.in-Some.ticket.now in
    let k = c.args.revision - start - 1 in
    let above = c.if-revision-self.false in let begun = i.start_is in let low = i.low in
    let lt : k < length tickets = subst (λ (l : List TicketState). k < length l) c.deref.ensures.value c.in-Some.ensures.lookup.3.0 in
    let found : t ≡ get_or tickets k t =
    subst (λ (l : List TicketState). t ≡ get_or l k t) c.deref.ensures.value c.in-Some.ensures.lookup.1 in
    let number = sound.numbered_at (start + 1) tickets k t i.numbered lt found in
    let is : t.revision ≡ c.args.revision = omega (arith, number, above) in
    let settled : t.revision ≤ settled_revision d =
    subst (λ (x : DeskState). t.revision ≤ settled_revision x) c.desk.ensures c.in-Some-ack.ensures.settled in
    let then = c.max-self-inside.result in
    let then_is : then ≡ max told t.revision = c.max-self-inside.ensures ∙
    ap (λ (n : ℕ). max told n) c.revision.ensures in
    let high : then ≤ settled_revision d = omega (arith, then_is, settled, low) in
    rw (← c.self.view_is) (record {
      steps = (
        c.revision-2.ensures ∙ is,
        omega (arith, above, begun),
        omega (arith, settled, is),
        ap (λ (n : ℕ). commits_of (keeps.Both a b n)) (then_is ∙ ap (λ (n : ℕ). max told n) is),
      );
      log = sym (append-nil _);
      settled = ([], append-nil _);
      kept = keeps.desk_moved D i c.rest.ensures.whole g.met.D.Disk.only_now c.rest.ensures.exit a b.progress then
          refl (omega (arith, then_is)) (then_is ∙ ap (λ (n : ℕ). max told n) (sym c.revision-2.ensures)) (λ n. refl)
          (λ o kept. keeps.told_kept d b then i.halves.same i.agree.0 i.agree.1 c.rest.ensures.whole high o kept);
      called = refl;
    })

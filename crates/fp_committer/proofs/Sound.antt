-- What holds of a committer, as its desk goes on.
use Rattle.std.proofs.Common.{◌≡◌, ◌<◌, ◌+◌, ℕ, zero, suc, false, true, List, [], ◌∷◌, ◌++◌, length, get_or, refl}
use Rattle.std.proofs.Common.{sym, ap, subst, ◌∙◌, arith, length-append}
use Rattle.fp_edit.specs.Edits.{Change, Proposal}
use Rattle.fp_record.specs.Group.{Group}
use Rattle.fp_desk.specs.Desk.{DeskState, IsNewDraw, Refuses, TicketState, log, settled_revision}
use Rattle.fp_desk.specs.declared.fault.SubmitFault.{SubmitFault}
use Rattle.fp_desk.specs.declared.fault.SubmitFault.TheVariants as submit
use Rattle.fp_committer.specs.Commits.{Commits, Submits}
use Rattle.fp_committer.specs.Committer.{DeskHalfState, IsCommitter, NumberedFrom}
use Rattle.fp_committer.specs.Halves.{ArePair, HalfState}
use Rattle.fp_committer.specs.StoreHalf.{StoreHalfState}
use Rattle.fp_committer.specs.declared.event.Answer.TheVariants as answer
use Rattle.fp_committer.proofs.Keeps.{log_more}

-- ---- tickets
pub numbered_more : (n : ℕ) (ts : List TicketState) (t : TicketState) → NumberedFrom n ts →
    t.revision ≡ n + length ts → NumberedFrom n (ts ++ t ∷ [])
numbered_more n [] t all is = (omega (arith, is), tt)
numbered_more n (x ∷ ts) t all is = (all.0, numbered_more (n + 1) ts t all.1 (omega (arith, is)))

pub numbered_at : (n : ℕ) (ts : List TicketState) (k : ℕ) (t : TicketState) → NumberedFrom n ts → k < length ts →
    t ≡ get_or ts k t → t.revision ≡ n + k
numbered_at n [] k t all lt is = absurd (omega (arith, lt))
numbered_at n (x ∷ ts) zero t all lt is = let same = ap (λ (y : TicketState). y.revision) is in let first = all.0 in
    omega (arith, same, first)
numbered_at n (x ∷ ts) (suc k) t all lt is = let rest = numbered_at (n + 1) ts k t all.1 (omega (arith, lt)) is in omega (arith, rest)

-- ---- an edit isn't taken
pub refuses : (f : SubmitFault) (p : Proposal) (m : Commits) → m.desk.stopped ≡ false → Refuses m.desk p f →
    Submits p m (answer.Refused f) m
refuses submit.Stopped p m going why = let both : false ≡ true = sym going ∙ why in absurd cc
refuses (submit.Edit f) p m going why = (refl, why)
refuses submit.QueueFull p m going why = (refl, why)
refuses submit.Memory p m going why = refl

-- ---- and the log goes on
-- a first part of what waits was drawn: the log is the same
pub drawn_log : (d n : DeskState) (group : Group) → IsNewDraw d n group → log n ≡ log d
drawn_log d n group draws = ap log draws.new_is ∙
    ap (λ (l : List Change). d.settled ++ l) (sym draws.longest.parts) ∙
    ap (λ (l : List Change). d.settled ++ (l ++ d.waiting)) (sym draws.none_out)

module _ {D : Type 0} {a : DeskHalfState} {b : StoreHalfState D} {ts : List TicketState} {start told : ℕ}
    (w : IsCommitter a b ts start told) where
  -- the desk has an edit more, with its ticket
  pub submitted : (n : DeskHalfState) (c : Change) (t : TicketState) →
      n.desk ≡ record a.desk { waiting = a.desk.waiting ++ c ∷ [] } → n.half ≡ a.half →
      t.revision ≡ n.desk.store.start.revision + length (log n.desk) → (ts2 : List TicketState) →
      ts2 ≡ ts ++ t ∷ [] → IsCommitter n b ts2 start told
  submitted n c t is half revision ts2 more =
      let d = a.desk in
      let grown : log n.desk ≡ log d ++ c ∷ [] = ap log is ∙ log_more d c in
      let len = ap length grown in let one = length-append (log d) (c ∷ []) in let count = w.counted in let begun = w.start_is in
      let same = ap (λ (x : DeskState). x.store.start.revision) is in let tickets = ap length more in
      let last = length-append ts (t ∷ []) in
      let settled = ap settled_revision is in let low = w.low in
      record {
        halves = record {
          pair = subst (λ (x : HalfState). ArePair x b.half) (sym half) w.halves.pair;
          same =
              w.halves.same ∙ sym (ap (λ (x : DeskState). x.store) is);
        };
        agree = (w.agree.0 ∙ sym (ap (λ (x : DeskState). x.settled) is), w.agree.1 ∙ sym (ap (λ (x : DeskState). x.drawn) is));
        low = omega (arith, settled, low);
        open_desk = ap (λ (x : DeskState). x.stopped) is ∙ w.open_desk;
        start_is = omega (arith, begun, same);
        numbered = subst (λ (l : List TicketState). NumberedFrom (start + 1) l) (sym more)
            (numbered_more (start + 1) ts t w.numbered (omega (arith, revision, len, one, count, begun, same)));
        counted = omega (arith, tickets, last, count, len, one);
      }

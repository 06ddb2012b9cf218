-- Works are of any length.
use Rattle.std.proofs.Common.{◌≡◌, List, [], ◌∷◌, ◌++◌, false, inl, refl, sym, ap, subst, ◌∙◌}
use Rattle.std.proofs.Common.{append_assoc, append-nil}
use Rattle.fp_compaction.specs.Steps as compaction
use Rattle.fp_disk.specs.History.{MakesSome}
use Rattle.fp_disk.specs.declared.disk.Disk.{Ghosts}
use Rattle.fp_disk.specs.declared.history.CallKind.{CallKind}
use Rattle.fp_group_commit.specs.Store.{StoreState}
use Rattle.fp_slots.specs.declared.slots.Step.{Step}
use Rattle.fp_committer.specs.Works.{BreaksOff, Leads, Work, Works, calls_of, work_calls}
use Rattle.fp_committer.specs.Works.{compaction_step, whole_batch}

-- the calls of some works and then of others
pub calls_more : (xs ys : List Work) → calls_of (xs ++ ys) ≡ calls_of xs ++ calls_of ys
calls_more [] ys = refl
calls_more (w ∷ xs) ys =
    ap (λ (l : List CallKind). work_calls w ++ l) (calls_more xs ys)
    ∙ sym (append_assoc (work_calls w) (calls_of xs) (calls_of ys))

-- works lead on from where others led
pub leads_more : (p q r : Step) (xs ys : List Work) → Leads p xs q → Leads q ys r →
    Leads p (xs ++ ys) r
leads_more p q r [] ys h k = subst (λ (x : Step). Leads x ys r) h k
leads_more p q r (whole_batch ∷ xs) ys h k = (h.0, leads_more p q r xs ys h.1 k)
leads_more p q r (compaction_step x may_open ∷ xs) ys h k =
    (h.0, h.1, leads_more (compaction.next_step p h.1) q r xs ys h.2 k)

module _ {D : Type 0} (disk : Ghosts D) where
  pub no_works : (a : StoreState D) → Works disk a a
  no_works a =
      record { works = []; lead = refl; calls = sym (append-nil (disk.calls a.disk)) }

  pub works_on : (a b c : StoreState D) → Works disk a b → Works disk b c → Works disk a c
  works_on a b c h k = record {
    works = h.works ++ k.works;
    lead = leads_more a.compaction.next b.compaction.next c.compaction.next h.works k.works h.lead k.lead;
    calls = k.calls ∙ ap (λ (l : List CallKind). l ++ calls_of k.works) h.calls
        ∙ append_assoc (disk.calls a.disk) (calls_of h.works) (calls_of k.works)
        ∙ ap (λ (l : List CallKind). disk.calls a.disk ++ l)
        (sym (calls_more h.works k.works));
  }

  pub breaks_on : (a b c : StoreState D) → Works disk a b → BreaksOff disk b c → BreaksOff disk a c
  breaks_on a b c h k =
      let first : List CallKind = disk.calls a.disk in record {
        works = h.works ++ k.works;
        next = k.next;
        last = k.last;
        lead = leads_more a.compaction.next b.compaction.next k.next h.works k.works h.lead k.lead;
        may = k.may;
        calls = subst
            (λ (l : List CallKind).
            MakesSome (work_calls k.last) l (disk.calls c.disk))
            (ap (λ (l : List CallKind). l ++ calls_of k.works) h.calls
            ∙ append_assoc first (calls_of h.works) (calls_of k.works)
            ∙ ap (λ (l : List CallKind). first ++ l) (sym (calls_more h.works k.works))) k.calls;
      }

  -- works that nothing came behind
  pub works_break : (a b : StoreState D) → Works disk a b → BreaksOff disk a b
  works_break a b h = record {
    works = h.works;
    next = b.compaction.next;
    last = compaction_step b.compaction.next false;
    lead = h.lead;
    may = refl;
    calls = none (work_calls (compaction_step b.compaction.next false))
        (disk.calls a.disk ++ calls_of h.works)
        (disk.calls b.disk) h.calls;
  }
    where
      none : (kinds old new : List CallKind) → new ≡ old → MakesSome kinds old new
      none [] old new is = is
      none (k ∷ kinds) old new is = inl is

use Rattle.std.proofs.Common.{◌≡◌, ◌+◌, ℕ, List, map, ap, sym, subst, arith}
use Rattle.fp_session.specs.Asks.{Ask, asked_by_flags, flag_bytes}
use Rattle.fp_session.specs.Streams.{Blames}
use Rattle.fp_session.specs.declared.replies.TheConstants.{MOST_WAITING}
use Rattle.fp_session.proofs.Endings.{promised}
use Rattle.fp_session.proofs.import.import_flags.Goals as goal

-- flags that are at hand come from no stream that fails
none : (n : ℕ) → 0 + n ≡ n
none n = omega arith

pub returns : goal.returns
returns g c =
    let a = c.answer_all-outcome in let old = g.W.Write.contents c.args.w.now.inner in
    let new = g.W.Write.contents a.new.w.inner in let f0 = c.args.w.now.failures in let f = a.new.w.failures in
    let all = asked_by_flags (map flag_bytes c.args.flags.items) in record {
      runs = promised g.E.EditStore c.args.edits a.new.edits MOST_WAITING
          (λ (xs : List Ask). xs ≡ asked_by_flags (map flag_bytes c.new-puts.result)) old new f0 f
          (λ Holds. Holds all)
          (λ P h. h all (ap (λ fs. asked_by_flags (map flag_bytes fs)) (sym c.new-puts.ensures))) a.result a.ensures.ends;
      device = subst (λ (n : ℕ). Blames n f a.result) (none f0) (subst (λ (n : ℕ). Blames (0 + f0) n a.result) (none f) a.ensures.device);
    }

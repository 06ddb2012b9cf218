use Rattle.std.proofs.Common.{◌++◌, [], ◌∷◌, ℕ, List, length, refl, sym, ap, subst, ◌∙◌, arith}
use Rattle.std.proofs.lemmas.Result.{err_from_is_err_and}
use Rattle.std.specs.Io.KnownBytes.{Appends}
use Rattle.fp_base.proofs.Known.{Appends-nil}
use Rattle.fp_session.specs.Progress.{IsBrokenWith}
use Rattle.fp_session.specs.Sources.{most_at_once}
use Rattle.fp_session.specs.Streams.{of_stream}
use Rattle.fp_session.specs.declared.fault.ApplyFault.{ApplyFault}
use Rattle.fp_session.specs.declared.fault.ApplyFault.TheVariants.{Memory}
use Rattle.fp_session.proofs.Endings.{broke-over, broken-sent, concluded, read-device}
use Rattle.fp_session.proofs.ProgressLemmas.{is_at-broken, is_at-start}
use Rattle.fp_session.proofs.Sourcing.{asked-none, asked-one, came-none, came-one, came-part, came-whole, few-waiting}
use Rattle.fp_session.proofs.run.answer_all.Goals as goal

pub loop-next-init : goal.loop-next-init
loop-next-init g c = record {
  asked = [];
  came = λ all a. (all, refl, a);
  at = record {
    sent = [];
    appended = Appends-nil (g.W.Write.contents c.args.w.now.inner);
    at = c.in_ok-go_on.ensures.at c.args.edits.now [] [] c.new-replies.result 0 c.new-replies.ensures.none
        (is_at-start g.E.EditStore c.args.edits.now c.new-replies.result c.new-replies.ensures.text
        c.new-replies.ensures.none c.new-replies.ensures.told c.requires.fresh c.flags.ensures.still);
  };
  few = let none = ap length c.new-replies.ensures.none in omega (arith, none);
  paid = c.in_ok-go_on.ensures.paid;
  sent_well = refl;
  read_well = refl;
}

pub loop-next-2-preserved : goal.loop-next-2-preserved
loop-next-2-preserved g c =
    let inv = c.loop-next-2.invariant in let first = c.args.edits.now in let most = most_at_once c.args.batching in
    let before = g.W.Write.contents c.args.w.now.inner in let f0 = c.args.w.now.failures in
    let next = asked-one g.A.EditSource.asks c.loop-next-2.source c.next.new.self c.in-Ok.next c.in-Some.edit
    c.in-Some.is c.in-Ok.ensures.next in
    let came = came-one g.A.EditSource.asks c.args.source.now c.args.stream.now c.loop-next-2.source c.next.new.self
    c.loop-next.stream inv.asked inv.came next.0 next.2 in
    record {
      asked = inv.asked ++ next.0 ∷ [];
      came = came;
      at = c.in_ok-answer.ensures.answered first inv.asked next.0 before next.1 inv.few inv.at;
      few = (c.in_ok-answer.ensures.bounded inv.few).0;
      paid = c.in_ok-answer.ensures.paid;
      sent_well = c.in_ok-answer.ensures.device ∙ inv.sent_well;
    }

pub returns-in_err-go_on-clause-ends : goal.returns-in_err-go_on-clause-ends
returns-in_err-go_on-clause-ends g c =
    let p = err_from_is_err_and c.from_residual.result c.from_residual.ensures.1 in
    let first = c.args.edits.now in let now = c.go_on.new.edits in let q = c.new-replies.result in
    let most = most_at_once c.args.batching in
    let before = g.W.Write.contents c.args.w.now.inner in let f0 = c.args.w.now.failures in let e = c.in_err-go_on.field-0.0 in
    let broken = c.in_err-go_on.ensures.at first [] [] q most c.new-replies.ensures.none
    (is_at-start g.E.EditStore first q c.new-replies.ensures.text c.new-replies.ensures.none
    c.new-replies.ensures.told c.requires.fresh c.flags.ensures.still) in
    rw (p.1, p.2) (record {
      asked = [];
      part = λ all a. (all, refl);
      whole = tt;
      ends = broken-sent g.E.EditStore first now [] [] most most before before before f0 f0 q e (omega arith) broken (Appends-nil before)
          (λ same. subst (λ (l : List ℕ). Appends before before l) (sym c.new-replies.ensures.text) (Appends-nil before));
    })

-- memory is wanting for the next edit
pub returns-in_default-clause-ends : goal.returns-in_default-clause-ends
returns-in_default-clause-ends g c =
    let inv = c.loop-next-2.invariant in let first = c.args.edits.now in let most = most_at_once c.args.batching in
    let before = g.W.Write.contents c.args.w.now.inner in let f0 = c.args.w.now.failures in
    let now = c.loop-next-2.edits in let r = c.loop-next-2.replies in
    let w = g.W.Write.contents c.give_up.new.w.inner in let f = c.give_up.new.w.failures in
    record {
      asked = inv.asked;
      part = came-part g.A.EditSource.asks c.args.source.now c.args.stream.now c.loop-next-2.source c.loop-next.stream inv.asked inv.came;
      whole = tt;
      ends = subst (λ (e : ApplyFault). IsBrokenWith g.E.EditStore most first now inv.asked before w f0 f e) (sym c.give_up.ensures.same)
          (broken-sent g.E.EditStore first now inv.asked inv.at.sent most most before
          (g.W.Write.contents c.loop-next-2.w.inner) w f0 f r Memory (omega arith)
          (is_at-broken g.E.EditStore first now inv.asked inv.at.sent r r most inv.at.at refl
          (few-waiting c.args.batching _ inv.few)) inv.at.appended
          (λ same. c.give_up.ensures.sent (same ∙ sym inv.sent_well)));
    }

pub returns-in_err-answer-clause-ends : goal.returns-in_err-answer-clause-ends
returns-in_err-answer-clause-ends g c =
    let p = err_from_is_err_and c.from_residual-in_err-answer.result c.from_residual-in_err-answer.ensures.1 in
    let inv = c.loop-next-2.invariant in let before = g.W.Write.contents c.args.w.now.inner in
    let next = asked-one g.A.EditSource.asks c.loop-next-2.source c.next.new.self c.in-Ok.next c.in-Some.edit
    c.in-Some.is c.in-Ok.ensures.next in
    let came = came-one g.A.EditSource.asks c.args.source.now c.args.stream.now c.loop-next-2.source c.next.new.self
    c.loop-next.stream inv.asked inv.came next.0 next.2 in
    rw (p.1, p.2) (broke-over g.E.EditStore c.args.edits.now c.answer.new.edits (most_at_once c.args.batching) _
    before (g.W.Write.contents c.answer.new.w.inner) c.args.w.now.failures c.loop-next-2.w.failures
    c.answer.new.w.failures c.in_err-answer.field-0.0 (inv.asked ++ next.0 ∷ [])
    (came-part g.A.EditSource.asks c.args.source.now c.args.stream.now c.next.new.self c.loop-next.stream
    (inv.asked ++ next.0 ∷ []) came) inv.sent_well
    (c.in_err-answer.ensures.answered c.args.edits.now inv.asked next.0 before next.1 inv.few inv.at))

pub returns-in_err-settle-clause-ends : goal.returns-in_err-settle-clause-ends
returns-in_err-settle-clause-ends g c =
    let p = err_from_is_err_and c.from_residual-in_err-settle.result c.from_residual-in_err-settle.ensures.1 in
    let inv = c.loop-next-2.invariant in let most = most_at_once c.args.batching in
    let before = g.W.Write.contents c.args.w.now.inner in
    let came = came-none g.A.EditSource.asks c.args.source.now c.args.stream.now c.loop-next-2.source c.next.new.self
    c.loop-next.stream inv.asked inv.came
    (asked-none g.A.EditSource.asks c.loop-next-2.source c.next.new.self c.in-Ok.next c.in_default-next.is c.in-Ok.ensures.next) in
    rw (p.1, p.2) (broke-over g.E.EditStore c.args.edits.now c.settle.new.edits most _ before
    (g.W.Write.contents c.settle.new.w.inner) c.args.w.now.failures c.loop-next-2.w.failures
    c.settle.new.w.failures c.in_err-settle.field-0.0 inv.asked
    (came-part g.A.EditSource.asks c.args.source.now c.args.stream.now c.next.new.self c.loop-next.stream inv.asked
    came) inv.sent_well (c.in_err-settle.ensures.settled c.args.edits.now inv.asked before most
    (few-waiting c.args.batching _ inv.few) inv.at))

-- the stream failed, and all replies are sent
pub returns-in_err-more-clause-ends : goal.returns-in_err-more-clause-ends
returns-in_err-more-clause-ends g c =
    let p = err_from_is_err_and c.from_residual-in_err-more.result c.from_residual-in_err-more.ensures.1 in
    let inv = c.loop-next-2.invariant in let first = c.args.edits.now in let most = most_at_once c.args.batching in
    let before = g.W.Write.contents c.args.w.now.inner in let f0 = c.args.w.now.failures in
    let came = came-none g.A.EditSource.asks c.args.source.now c.args.stream.now c.loop-next-2.source c.next.new.self
    c.loop-next.stream inv.asked inv.came
    (asked-none g.A.EditSource.asks c.loop-next-2.source c.next.new.self c.in-Ok.next c.in_default-next.is c.in-Ok.ensures.next) in
    let w = g.W.Write.contents c.settle.new.w.inner in let f = c.settle.new.w.failures in
    let s = c.in_ok-settle.ensures.settled first inv.asked before most (few-waiting c.args.batching _ inv.few) inv.at
    in let none = c.in_ok-settle.ensures.none in
    rw (p.1) (record {
      asked = inv.asked;
      part = came-part g.A.EditSource.asks c.args.source.now c.args.stream.now c.next.new.self c.loop-next.stream inv.asked came;
      whole = tt;
      ends = subst (λ (e : ApplyFault). IsBrokenWith g.E.EditStore most first c.settle.new.edits inv.asked before w
          f0 f e) (sym (p.2 ∙ ap of_stream c.in_err-more.ensures.fault))
          (read-device g.E.EditStore first c.settle.new.edits inv.asked s.sent most before w f0 f
          c.settle.new.replies s.at none.0 none.1 s.appended);
    })

pub returns-then-not-more-clause-ends : goal.returns-then-not-more-clause-ends
returns-then-not-more-clause-ends g c =
    let inv = c.loop-next-2.invariant in let first = c.args.edits.now in let most = most_at_once c.args.batching in
    let before = g.W.Write.contents c.args.w.now.inner in let f0 = c.args.w.now.failures in
    let came = came-none g.A.EditSource.asks c.args.source.now c.args.stream.now c.loop-next-2.source c.next.new.self
    c.loop-next.stream inv.asked inv.came
    (asked-none g.A.EditSource.asks c.loop-next-2.source c.next.new.self c.in-Ok.next c.in_default-next.is c.in-Ok.ensures.next) in
    let w = g.W.Write.contents c.settle.new.w.inner in let f1 = c.settle.new.w.failures in let now = c.end-ended.new.edits in
    let s = c.in_ok-settle.ensures.settled first inv.asked before most (few-waiting c.args.batching _ inv.few) inv.at
    in let none = ap length c.in_ok-settle.ensures.none.0 in
    record {
      asked = inv.asked;
      part = came-part g.A.EditSource.asks c.args.source.now c.args.stream.now c.next.new.self c.loop-next.stream inv.asked came;
      whole = came-whole g.A.EditSource.asks c.args.source.now c.args.stream.now c.next.new.self c.loop-next.stream
          inv.asked came (λ rest a. (c.in_ok-more.ensures.more rest a).1 c.if-not-more.true) c.conclude.result;
      ends = concluded g.E.EditStore first now inv.asked s.sent (length c.settle.new.replies.waiting.items) most
          before w (g.W.Write.contents c.conclude.new.w.inner) f0 f1 c.conclude.new.w.failures c.end-ended.new.self
          c.end-ended.result c.conclude.result
          (omega (arith, none)) (c.end-ended.ensures.ended first inv.asked s.sent s.at) s.appended
          (c.in_ok-settle.ensures.device ∙ inv.sent_well) c.conclude.ensures.sent c.conclude.ensures.fault
          c.conclude.ensures.outcome;
    }

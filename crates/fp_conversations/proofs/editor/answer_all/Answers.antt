use Rattle.std.proofs.Common.{◌++◌, [], ◌∷◌, ◌≡◌, Option, refl, sym, subst, ◌∙◌}
use Rattle.std.specs.Prelude.{IfSome}
use Rattle.fp_group_commit.specs.Tokens.{FrontState}
use Rattle.fp_session.proofs.Sourcing.{asked-one, came-one}
use Rattle.fp_conversations.specs.Editing.{IsServed}
use Rattle.fp_conversations.proofs.EditingLemmas.{handed-later, served-handed, served-none, under-way-handed}
use Rattle.fp_conversations.proofs.editor.answer_all.Goals as goal

-- nothing was asked yet
pub loop-next-init : goal.loop-next-init
loop-next-init g c =
    let held = g.O.Write.contents c.args.w.now.inner in record {
      read_well = refl;
      sent_well = refl;
      ours = subst (λ (o : Option FrontState). IfSome o (λ t. t.store ≡ g.K.Naming.store)) (sym c.requires.none) tt;
      way = record {
        asked = [];
        came = λ all a. (all, refl, a);
        served = subst (λ (o : Option FrontState). IsServed g.K.Naming.store o [] c.args.editing.now c.args.editing.now held held)
            (sym c.requires.none) (served-none g.K.Naming.store c.args.editing.now held);
      };
    }

-- one more was asked, and answered
pub loop-next-2-preserved : goal.loop-next-2-preserved
loop-next-2-preserved g c =
    let inv = c.loop-next-2.invariant in let u = inv.way in let before = g.O.Write.contents c.args.w.now.inner in
    let next = asked-one g.A.EditSource.asks c.loop-next-2.source c.next.new.self c.in-Ok.next c.in-Some.asked
    c.in-Some.is c.in-Ok.ensures.next in
    record {
      sent_well = c.in_ok-answer.ensures.counted ∙ inv.sent_well;
      ours = c.answer.ensures.ours;
      way = record {
        asked = u.asked ++ next.0 ∷ [];
        came = came-one g.A.EditSource.asks c.args.source.now c.args.stream.now c.loop-next-2.source c.next.new.self
            c.loop-next.stream u.asked u.came next.0 next.2;
        served = c.in_ok-answer.ensures.answered next.0 u.asked c.args.editing.now before next.1 u.served;
      };
    }

-- nothing is handed in but what was asked
pub returns-in_default-clause-handed : goal.returns-in_default-clause-handed
returns-in_default-clause-handed g c = λ all a.
    under-way-handed g.A.EditSource.asks c.args.source.now c.args.stream.now c.loop-next-2.source c.loop-next.stream g.K.Naming.store
    c.loop-next-2.told c.args.editing.now c.loop-next-2.editing (g.O.Write.contents c.args.w.now.inner)
    (g.O.Write.contents c.loop-next-2.w.inner) c.loop-next-2.invariant.way all a

pub returns-in_err-more-clause-handed : goal.returns-in_err-more-clause-handed
returns-in_err-more-clause-handed g c = λ all a.
    under-way-handed g.A.EditSource.asks c.args.source.now c.args.stream.now c.loop-next-2.source c.loop-next.stream g.K.Naming.store
    c.loop-next-2.told c.args.editing.now c.loop-next-2.editing (g.O.Write.contents c.args.w.now.inner)
    (g.O.Write.contents c.loop-next-2.w.inner) c.loop-next-2.invariant.way all a

pub returns-then-not-more-clause-handed : goal.returns-then-not-more-clause-handed
returns-then-not-more-clause-handed g c = λ all a.
    under-way-handed g.A.EditSource.asks c.args.source.now c.args.stream.now c.loop-next-2.source c.loop-next.stream g.K.Naming.store
    c.loop-next-2.told c.args.editing.now c.loop-next-2.editing (g.O.Write.contents c.args.w.now.inner)
    (g.O.Write.contents c.loop-next-2.w.inner) c.loop-next-2.invariant.way all a

-- what was asked last, too, is handed in once
pub returns-in_err-answer-clause-handed : goal.returns-in_err-answer-clause-handed
returns-in_err-answer-clause-handed g c = λ all a.
    let u = c.loop-next-2.invariant.way in let was = c.args.editing.now in
    let next = asked-one g.A.EditSource.asks c.loop-next-2.source c.next.new.self c.in-Ok.next c.in-Some.asked
    c.in-Some.is c.in-Ok.ensures.next in
    let came = came-one g.A.EditSource.asks c.args.source.now c.args.stream.now c.loop-next-2.source c.next.new.self
    c.loop-next.stream u.asked u.came next.0 next.2 all a in
    handed-later (u.asked ++ next.0 ∷ []) came.0 all was c.answer.new.editing came.1
    (c.answer.ensures.handed next.0 u.asked was next.1
    (served-handed g.K.Naming.store c.loop-next-2.told u.asked was c.loop-next-2.editing (g.O.Write.contents c.args.w.now.inner)
    (g.O.Write.contents c.loop-next-2.w.inner) u.served))

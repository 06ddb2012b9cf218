use Rattle.std.proofs.Common.{◌≡◌, ℕ, List, [], ◌∷◌, ◌++◌, length, refl, sym, ap, subst, ◌∙◌, append_assoc, append-nil, arith}
use Rattle.std.proofs.KnownBytes.{Appends-nil, Appends-trans}
use Rattle.std.proofs.lemmas.List.{nil_from_length}
use Rattle.std.specs.Io.KnownBytes.{Appends}
use Rattle.std.specs.Vec.Iter.{into_iter_items}
use Rattle.fp_stream.specs.Frames.{Snapshot, snapshot_of, snapshots_of}
use Rattle.fp_stream.specs.Watching.{line_of, lines_of}
use Rattle.fp_stream.proofs.Watched.{lines_of-append}
use Rattle.fp_stream.proofs.watch.show_all.Goals as goal

pub loop-frame-init : goal.loop-frame-init
loop-frame-init g c =
    let gives = c.into_iter-frame-iterator.ensures.into_iter_gives in
    let all = ap length gives.0 in let len = gives.1 in let kept = c.args.frames.ok.0 in record {
      done = [];
      parts = ap snapshots_of gives.0;
      shown = Appends-nil (g.W.Write.contents c.args.w.now.inner);
      counted = omega arith;
      sent_well = refl;
    }

pub loop-frame-preserved : goal.loop-frame-preserved
loop-frame-preserved g c =
    let inv = c.loop-frame.invariant in let one = snapshot_of c.in-Some.frame in let k = g.W.Write.contents in
    let rest = snapshots_of (into_iter_items c.next.new.self) in
    let steps = c.in-Some.ensures.steps in let short = ap length steps.0 in let was = inv.counted in let gone = steps.1 in record {
      done = inv.done ++ one ∷ [];
      parts = append_assoc inv.done (one ∷ []) rest ∙ ap (λ items. inv.done ++ snapshots_of items) (sym steps.0) ∙ inv.parts;
      shown = subst (λ (t : List ℕ). Appends (k c.args.w.now.inner) (k c.show.new.w.inner) t)
          (ap (λ (t : List ℕ). lines_of inv.done ++ t) (sym (append-nil (line_of one))) ∙
          sym (lines_of-append inv.done (one ∷ [])))
          (Appends-trans (k c.args.w.now.inner) (k c.loop-frame.w.inner) (k c.show.new.w.inner) (lines_of inv.done)
          (line_of one) inv.shown c.in_ok-show.ensures.shown);
      counted = omega arith;
      sent_well = c.in_ok-show.ensures.counted ∙ inv.sent_well;
    }

pub returns-clause-shown : goal.returns-clause-shown
returns-clause-shown g c =
    let inv = c.loop-frame.invariant in
    let none : into_iter_items c.loop-frame.frame-iterator ≡ [] = nil_from_length _ (inv.counted ∙ c.in-None.ensures.steps.0) in
    let whole : inv.done ≡ snapshots_of c.args.frames.items = sym (append-nil inv.done) ∙
    ap (λ items. inv.done ++ snapshots_of items) (sym none) ∙ inv.parts in
    subst (λ (xs : List Snapshot). Appends (g.W.Write.contents c.args.w.now.inner)
    (g.W.Write.contents c.loop-frame.w.inner) (lines_of xs)) whole inv.shown

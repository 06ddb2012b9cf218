use Rattle.std.proofs.Common.{List, [], ◌∷◌, ◌++◌, length, sym, ap, subst, ◌∙◌, append_assoc, arith}
use Rattle.std.specs.Vec.Iter.{into_iter_items}
use Rattle.fp_stream.specs.Frames.{Snapshot, snapshot_of, snapshots_of}
use Rattle.fp_relay.specs.Following.{AreShort}
use Rattle.fp_relay.proofs.News.{short-behind, shows-more}
use Rattle.fp_relay.proofs.source.show_all.Goals as goal

pub show_newer-requires : goal.show_newer-requires
show_newer-requires g c =
    let inv = c.loop-frame.invariant in
    let short = short-behind inv.done (snapshots_of (into_iter_items c.loop-frame.frame-iterator))
    (subst (λ (l : List Snapshot). AreShort l) (sym inv.parts) c.requires) in
    (subst (λ (l : List Snapshot). AreShort l) (ap snapshots_of c.in-Some.ensures.steps.0) short).0

pub loop-frame-preserved : goal.loop-frame-preserved
loop-frame-preserved g c =
    let inv = c.loop-frame.invariant in let one = snapshot_of c.in-Some.frame in
    let rest = snapshots_of (into_iter_items c.next.new.self) in
    let steps = c.in-Some.ensures.steps in let short = ap length steps.0 in let was = inv.counted in let gone = steps.1 in record {
      done = inv.done ++ one ∷ [];
      parts = append_assoc inv.done (one ∷ []) rest ∙ ap (λ items. inv.done ++ snapshots_of items) (sym steps.0) ∙ inv.parts;
      shows = shows-more c.args.last.now c.loop-frame.last c.show_newer.new.last
          (g.A.Audience.seen c.args.audience.now) (g.A.Audience.seen c.loop-frame.audience)
          (g.A.Audience.seen c.show_newer.new.audience) inv.done (one ∷ []) inv.shows c.in_ok-show_newer.ensures.shows;
      counted = omega arith;
    }

use Rattle.std.proofs.Common.{◌≡◌, ℕ, ◌<◌, List, ◌++◌, [], length, Option, None, sym, ap, ap₂, subst, ◌∙◌, arith}
use Rattle.std.proofs.lemmas.List.{length-append}
use Rattle.fp_stream.specs.declared.fault.FrameFault.{FrameFault}
use Rattle.fp_stream.specs.declared.frame.Frame.{Frame}
use Rattle.fp_stream.specs.Frames.{snapshots_of}
use Rattle.fp_stream.specs.Decoding.{Reader, DecodesTo}
use Rattle.fp_stream.specs.Steps.{held_of, wanted_by, IsKnown}
use Rattle.fp_stream.specs.declared.head.Head.{Head}
use Rattle.fp_stream.specs.Heads.{head}
use Rattle.std.specs.Global.{Vec}
use Rattle.fp_stream.specs.contracts.decoder.Decoder.{the_view as view}
use Rattle.fp_stream.proofs.Streams.{Leaves-part, Leaves-same}
use Rattle.fp_stream.proofs.decoder.Decoder.take.Goals as goal
use Rattle.fp_stream.proofs.decoder.Decoder.take.Goals.{in-None+in_ok-finish_head-in-None, in-Some+in_ok-frames-in-Some}

pub returns-then-piece-wanted-clause-leaves : goal.returns-then-piece-wanted-clause-leaves
returns-then-piece-wanted-clause-leaves c =
    let inside = c.self.inside in
    let piece : List ℕ = c.args.piece.now in
    let held : List ℕ = inside.held.items in
    let short : length (held ++ piece) < wanted_by inside.head =
    omega (
      arith,
      length-append held piece,
      inside.held.ok.0,
      c.wanted.ensures,
      c.if-piece-wanted.true,
      c.len.ensures,
    ) in
    let l = Leaves-part inside.has inside.head held piece short c.self.invariant.lawful in
    let none : inside.owed ≡ None = ap (λ (r : Reader). r.owed) c.self.view_is ∙ c.requires in
    let longer : c.extend_from_slice.new.self.items ≡ held ++ piece = c.in_ok-extend_from_slice.ensures.items ∙
    ap (λ h. h ++ piece) c.make_room.ensures in
    let made : List ℕ → Option FrameFault → Reader = λ h o. record { has = inside.has; held = held_of inside.head h; owed = o } in
    let left : made (held ++ piece) None ≡ made c.extend_from_slice.new.self.items inside.owed = ap₂ made (sym longer) (sym none) in
    let one = subst (λ (x : Reader). DecodesTo inside.has (held_of inside.head held ++ piece) [] x) left l in
    let two = subst (λ (s : Reader). DecodesTo s.has (s.held ++ piece) []
    (made c.extend_from_slice.new.self.items inside.owed)) c.self.view_is one in
    subst (λ (t : List Frame). DecodesTo c.args.self.now.has (c.args.self.now.held ++ piece) (snapshots_of t)
    (made c.extend_from_slice.new.self.items inside.owed)) (sym c.new.ensures.items) two

pub returns-clause-leaves : goal.returns-clause-leaves
returns-clause-leaves c =
    let inside = c.self.inside in
    let piece : List ℕ = c.args.piece.now in
    let has : inside.has ≡ c.args.self.now.has = ap (λ (r : Reader). r.has) c.self.view_is in
    let held : held_of inside.head inside.held.items ≡ c.args.self.now.held = ap (λ (r : Reader). r.held) c.self.view_is in
    elim c.match-self.branch [
      | in-None+in_ok-finish_head-in-None w ↦
          let e = w.in_ok-finish_head-in-None in
          let bytes : w.deref.result.now ≡ c.args.self.now.held = w.deref.ensures.value ∙
          sym (ap (λ (h : Option Head). held_of h inside.held.items) w.in-None.is) ∙ held in
          Leaves-same inside.has c.args.self.now.has (w.deref.result.now ++ piece) (c.args.self.now.held ++ piece)
          (snapshots_of e.frames.items) (snapshots_of c.match-self.frames.0.items) e.next (view c.drop.inside)
          has (ap (λ (t : List ℕ). t ++ piece) bytes)
          (sym (ap (λ (p : Vec Frame × Reader). snapshots_of p.0.items) w.frames-is))
          (sym (c.drop.view_is ∙ ap (λ (p : Vec Frame × Reader). p.1) w.frames-is)) e.ensures
      | in-Some+in_ok-frames-in-Some w ↦
          let e = w.in_ok-frames-in-Some in
          let h = w.in-Some.head in
          let bytes : head h.revision h.size ++ inside.held.items ≡ c.args.self.now.held =
          sym (ap (λ (o : Option Head). held_of o inside.held.items) w.in-Some.is) ∙ held in
          Leaves-same inside.has c.args.self.now.has ((head h.revision h.size ++ inside.held.items) ++ piece)
          (c.args.self.now.held ++ piece) (snapshots_of e.frames.items)
          (snapshots_of c.match-self.frames.0.items) e.next (view c.drop.inside)
          has (ap (λ (t : List ℕ). t ++ piece) bytes)
          (sym (ap (λ (p : Vec Frame × Reader). snapshots_of p.0.items) w.frames-is))
          (sym (c.drop.view_is ∙ ap (λ (p : Vec Frame × Reader). p.1) w.frames-is))
          (e.ensures.read inside.has (subst (λ (o : Option Head). IsKnown inside.has o) w.in-Some.is c.self.invariant.lawful))
    ]

use Rattle.std.proofs.Common.{refl, ◌≡◌, ◌+◌, ℕ, List, length, ap, sym, subst, ◌∙◌, arith}
use Rattle.fp_slots.specs.Head.{head_text}
use Rattle.fp_slots.specs.declared.places.TheConstants.{IMAGE_PLACE, VERSION}
use Rattle.fp_slots.proofs.Beside.{head_long}
use Rattle.fp_recovery.specs.Stands.{IsImageOf}
use Rattle.fp_compaction.proofs.Images.{planned_for}
use Rattle.fp_compaction.proofs.Stepping as steps
use Rattle.fp_compaction.proofs.steps.begin.Goals as goal

pub begin-requires-clause-short : goal.begin-requires-clause-short
begin-requires-clause-short g c =
    let len = ap length c.deref.ensures.value ∙ c.in_ok-image.ensures.len in
    let within = c.in_ok-image.ensures.within in let limit = c.requires.limit.1 in
    omega (arith, len, within, limit)

pub begin-requires-clause-fits : goal.begin-requires-clause-fits
begin-requires-clause-fits g c =
    let len = ap length c.deref.ensures.value ∙ c.in_ok-image.ensures.len in
    let within = c.in_ok-image.ensures.within in let wide = c.requires.wide in omega (arith, len, within, wide)

pub returns-clause-planned : goal.returns-clause-planned
returns-clause-planned g c = λ size limit.
    let set = c.args.set.now in
    let image : IsImageOf set.revision set.limit c.deref.result.now set =
    subst (λ (b : List ℕ). IsImageOf set.revision set.limit b set) (sym c.deref.ensures.value)
    c.in_ok-image.ensures.image in
    let text = subst (λ (n : ℕ). c.begin.new.self.text ≡ head_text VERSION (c.args.slots.now.generation + 1) n
    c.deref.result.now) c.revision.ensures.revision c.in_ok-begin.ensures.text.0 in
    planned_for size set (c.args.slots.now.generation + 1) c.deref.result.now c.begin.new.self.text limit c.requires.next image text

pub returns-clause-begun : goal.returns-clause-begun
returns-clause-begun g c =
    let set = c.args.set.now in
    let len = ap length c.deref.ensures.value ∙ c.in_ok-image.ensures.len in let t = c.in_ok-begin.ensures.text in
    let same = c.begin.ensures.same in
    let long = head_long VERSION (c.args.slots.now.generation + 1) c.revision.result c.deref.result.now in
    let text = ap length t.0 in let head = t.1 in record {
      journal = same.0;
      other = same.1;
      generation = same.2;
      version = same.3;
      may_open = same.4;
      left = c.in_ok-begin.ensures.text.2;
      head = head ∙ ap (λ (n : ℕ). IMAGE_PLACE + n) len;
      short = c.in_ok-image.ensures.within;
      text = omega (arith, text, long, head);
      ready = c.in_ok-begin.ensures.ready;
    }

pub returns-in_err-image-clause-taken : goal.returns-in_err-image-clause-taken
returns-in_err-image-clause-taken g c =
    steps.still_step g.D.Disk c.args.slots.now c.args.slots.now g.met.D.Disk.only_now c.requires.step refl refl refl
    (λ h o left. steps.begins_now c.args.slots.now c.step.result (c.step.ensures.step ∙ c.requires.step) o
    (c.step.ensures.outcomes h o left))

pub returns-in_err-begin-clause-taken : goal.returns-in_err-begin-clause-taken
returns-in_err-begin-clause-taken g c =
    steps.still_step g.D.Disk c.args.slots.now c.begin.new.self g.met.D.Disk.only_now c.requires.step
    c.begin.ensures.same.0 c.begin.ensures.same.1 c.begin.ensures.same.3
    (λ h o left. steps.begins_now c.args.slots.now c.step.result (c.step.ensures.step ∙ c.requires.step) o
    (c.step.ensures.outcomes h o left))

pub returns-clause-taken : goal.returns-clause-taken
returns-clause-taken g c = steps.still_step g.D.Disk c.args.slots.now c.begin.new.self g.met.D.Disk.only_now
    c.requires.step c.begin.ensures.same.0 c.begin.ensures.same.1 c.begin.ensures.same.3
    (λ h o left. steps.begins_now c.args.slots.now c.step.result (c.step.ensures.step ∙ c.requires.step) o
    (c.step.ensures.outcomes h o left))

use Rattle.std.proofs.Common.{◌++◌, ◌-◌, [], append-nil, length, codes, sym, ap, ◌∙◌, arith, length-append}
use Rattle.serde_json.specs.Find.{get}
use Rattle.serde_json.specs.Written.{compact_text}
use Rattle.fp_canonical.proofs.Leads.{begins}
use Rattle.fp_definition.specs.Beside.{targeting_in}
use Rattle.fp_definition.specs.Numbers.{DEEPEST_DEFINITION}
use Rattle.fp_definition.specs.Resolving.{data_of}
use Rattle.fp_definition.proofs.Refused.{map_is, targeting_sound}
use Rattle.fp_definition.proofs.reading.passes_targeting.Goals as goal

pub returns-in-Some-targeting-clause-passed : goal.returns-in-Some-targeting-clause-passed
returns-in-Some-targeting-clause-passed c = λ h.
    let d = map_is compact_text (get (codes "targeting") (data_of c.in-Some.other.now)) c.in-Some-targeting.text.now
    (sym c.in-Some-targeting.ensures.text) in
    let sound = targeting_sound c.in-Some.other.now c.targeting.ensures.canonical d.0 d.1 in (
      d.0,
      ap targeting_in c.in-Some.is ∙ d.1,
      record {
        spelled = c.take_text.ensures.taken h ∙ ap (λ xs. xs ++ c.take_text.new.self) (sym d.2);
        ordered = sound.0;
        whole = sound.1;
        flat = sound.2;
      },
    )

pub returns-in-Some-targeting-clause-shorter : goal.returns-in-Some-targeting-clause-shorter
returns-in-Some-targeting-clause-shorter c = λ h.
    let text = c.in-Some-targeting.text.now in
    let new = c.take_text.new.self in
    let d = map_is compact_text (get (codes "targeting") (data_of c.in-Some.other.now)) text (sym c.in-Some-targeting.ensures.text) in
    let sound = targeting_sound c.in-Some.other.now c.targeting.ensures.canonical d.0 d.1 in
    let some = begins (DEEPEST_DEFINITION - 1) d.0 text [] record {
      spelled = sym d.2 ∙ sym (append-nil (compact_text d.0));
      ordered = sound.0;
      whole = sound.1;
      flat = sound.2;
    } in
    omega (arith, ap length (c.take_text.ensures.taken h), length-append text new, ap length some.begins)

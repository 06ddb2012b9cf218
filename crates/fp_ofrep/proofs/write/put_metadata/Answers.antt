use Rattle.std.proofs.Common.{option_map, sym, ap, ◌∙◌}
use Rattle.fp_ofrep.proofs.Written.{metadata_put}
use Rattle.fp_ofrep.proofs.write.put_metadata.Goals as goal

pub returns-in_ok-extend_from_slice-in-Some-2 : goal.returns-in_ok-extend_from_slice-in-Some-2
returns-in_ok-extend_from_slice-in-Some-2 c = λ m ms texts.
    metadata_put c.args.out.now.items _ _ c.in-Some.text.now m ms c.in_ok-extend_from_slice-in-Some.ensures.items
    c.in_ok-extend_from_slice-in-Some-2.ensures.items
    (ap (option_map (λ t. t.now)) (sym c.in-Some.is) ∙ texts)

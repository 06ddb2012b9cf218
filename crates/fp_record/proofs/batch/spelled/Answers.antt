use Rattle.std.proofs.Common.{◌≡◌, ◌++◌, List, ℕ, ap, append_assoc, sym, ◌∙◌, length, take}
use Rattle.std.specs.Int.{w16, w64, to_be_bytes}
use Rattle.std.specs.List.{flat_map}
use Rattle.std.proofs.lemmas.List.{take_all, length-map}
use Rattle.fp_edit.specs.declared.edit.Edit.{Edit}
use Rattle.fp_edit.specs.Following.{change_of, changes_of}
use Rattle.fp_record.specs.Encoding.{encoding_of_batch, encoding_of_change}
use Rattle.fp_record.proofs.batch.spelled.Goals as goal

pub returns-clause-spelled : goal.returns-clause-spelled
unfolding encoding_of_batch
returns-clause-spelled c =
    let edits = c.args.edits.now in
    let all : take c.loop-edit.edit-index edits ≡ edits = take_all _ _ c.loop-edit-test.false in
    let first = to_be_bytes w64 c.args.first in
    let spelled = flat_map encoding_of_change (changes_of edits) in
    c.loop-edit.invariant.0
    ∙ ap (λ (done : List Edit). (first ++ to_be_bytes w16 (length edits)) ++ flat_map encoding_of_change (changes_of done)) all
    ∙ append_assoc first (to_be_bytes w16 (length edits)) spelled
    ∙ ap (λ (n : ℕ). first ++ (to_be_bytes w16 n ++ spelled)) (sym (length-map edits change_of))

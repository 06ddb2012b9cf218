use Rattle.std.proofs.Common.{◌≡◌, List, length, ap, ◌∙◌, arith}
use Rattle.fp_edit.specs.Edits.{Change}
use Rattle.fp_edit.specs.Following.{changes_of}
use Rattle.fp_record.specs.Group.{Group}
use Rattle.fp_record.specs.Encoding.{encoding_of_batch}
use Rattle.fp_record.proofs.Lengths.{length-encoding_of_batch}
use Rattle.fp_group_commit.proofs.draw.framed.Goals as goal

pub new-requires : goal.new-requires
new-requires c =
    let copied : changes_of c.in_ok-copies_of.field-0.items ≡ changes_of c.draw.inside.edits.items =
    c.in_ok-copies_of.ensures.copied ∙ ap changes_of c.deref.ensures.value in
    let group : c.new-batch.result ≡ c.args.draw.now = c.new-batch.ensures ∙
    ap (λ (l : List Change). record { first = c.draw.inside.first; changes = l }) copied ∙ c.draw.view_is in
    let len = ap length c.deref-2.ensures.value ∙ ap length c.in_ok-body.ensures.spelled ∙
    ap (λ (b : Group). length (encoding_of_batch b)) group ∙ length-encoding_of_batch c.args.draw.now in
    let small = c.requires.small in
    omega (arith, len, small)

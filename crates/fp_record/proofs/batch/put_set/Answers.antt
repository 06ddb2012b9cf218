use Rattle.std.proofs.Common.{◌≡◌, ◌++◌, ◌∷◌, [], List, ℕ, ap, append_assoc, sym, ◌∙◌, length, map, take}
use Rattle.std.specs.Int.{w16, to_be_bytes}
use Rattle.std.specs.List.{flat_map}
use Rattle.std.proofs.lemmas.List.{take_all, length-map}
use Rattle.fp_edit.specs.Parts.{parts_of, proposed_of}
use Rattle.fp_edit.specs.declared.edit.Change.{Change}
use Rattle.fp_record.specs.Encoding.{encoding_of_change, encoding_of_part}
use Rattle.fp_record.specs.declared.batch.TheConstants.{SET_KIND}
use Rattle.fp_record.proofs.batch.put_set.Goals as goal

pub returns-clause-written : goal.returns-clause-written
unfolding encoding_of_change
returns-clause-written c =
    let changes = c.args.changes.now in
    let all : take c.loop-change.change-index changes ≡ changes = take_all _ _ c.loop-change-test.false in
    let front = c.args.out.now.items in
    let proposed = map proposed_of changes in
    let spelled = flat_map encoding_of_part (parts_of proposed) in
    let count : length changes ≡ length (parts_of proposed) = sym (length-map proposed _ ∙ length-map changes proposed_of) in
    c.loop-change.invariant.0
    ∙ ap (λ (done : List Change). ((front ++ SET_KIND ∷ []) ++ to_be_bytes w16 (length changes)) ++ flat_map
    encoding_of_part (parts_of (map proposed_of done))) all
    ∙ append_assoc (front ++ SET_KIND ∷ []) (to_be_bytes w16 (length changes)) spelled
    ∙ append_assoc front (SET_KIND ∷ []) (to_be_bytes w16 (length changes) ++ spelled)
    ∙ ap (λ (n : ℕ). front ++ SET_KIND ∷ (to_be_bytes w16 n ++ spelled)) count

use Rattle.std.proofs.Common.{ℕ, List, arith, map}
use Rattle.fp_edit.specs.Parts.{Part, keys_of, parts_of, proposed_of}
use Rattle.fp_record.proofs.Batches.{set_lawful}
use Rattle.fp_record.proofs.edits.set_from.Goals as goal

pub of_lawful-requires : goal.of_lawful-requires
of_lawful-requires c =
    let parts = c.in_ok-parts.parts.items in
    let x : List Part × (List (List ℕ) × ℕ) = (parts_of (map proposed_of parts), (keys_of parts, c.in_ok-parts.next)) in
    set_lawful c.args.bytes.now c.args.kind c.args.at (c.in_ok-count.count, c.in_ok-count.next) x
    (λ i. omega (arith, c.type_inv.bytes i)) c.requires.0 c.requires.1 c.in_ok-count.ensures.value
    c.in_ok-parts.ensures.value (omega (arith, c.if-next-kind.false))

use Rattle.std.proofs.Common.{refl, arith}
use Rattle.fp_layout.specs.Faults.{no_base, no_length, no_image}
use Rattle.fp_layout.proofs.Heads.{version_from, base_in, base_from, length_in, length_from, lead_text}
use Rattle.fp_layout.proofs.head.read_head.Goals as goal

pub returns-in_default-base_of-clause-fault : goal.returns-in_default-base_of-clause-fault
returns-in_default-base_of-clause-fault c = λ b lead long.
    let at = c.args.slot in let bytes = c.args.bytes.now in let version = c.in-Some.version in
    no_base version (version_from b at bytes lead version c.in-Some.ensures.some)
    (λ base has. c.in_default-base_of.ensures.none base (base_in b at bytes lead base has)) refl

pub returns-in_default-length_of-clause-fault : goal.returns-in_default-length_of-clause-fault
returns-in_default-length_of-clause-fault c = λ b lead long.
    let at = c.args.slot in let bytes = c.args.bytes.now in let version = c.in-Some.version in let base = c.in-Some-base_of.base in
    no_length version base (version_from b at bytes lead version c.in-Some.ensures.some)
    (base_from b at bytes lead base c.in-Some-base_of.ensures.some)
    (λ len has. c.in_default-length_of.ensures.none len (length_in b at bytes lead c.args.size len has)) refl

pub returns-then-len-place-clause-fault : goal.returns-then-len-place-clause-fault
returns-then-len-place-clause-fault c = λ b lead long.
    let at = c.args.slot in let bytes = c.args.bytes.now in let version = c.in-Some.version in
    let base = c.in-Some-base_of.base in let len = c.in-Some-length_of.image in let short = c.if-len-place.true in
    no_image version base len (version_from b at bytes lead version c.in-Some.ensures.some)
    (base_from b at bytes lead base c.in-Some-base_of.ensures.some)
    (length_from b at bytes lead c.args.size len c.in-Some-length_of.ensures.some) (omega (arith, long, short))
    refl

pub returns-clause-text : goal.returns-clause-text
returns-clause-text c =
    let bytes = c.args.bytes.now in let version = c.in-Some.version in let len = c.in-Some-length_of in
    let many = c.requires.many in let there = len.ensures.some.text.long in
    lead_text bytes c.args.size version c.u64_at.result c.in-Some-base_of.base len.image (omega (arith, many, there))
    c.requires.open (record { small = c.u64_at.ensures.fits; text = c.u64_at.ensures.holds })
    c.in-Some.ensures.some c.in-Some-base_of.ensures.some len.ensures.some

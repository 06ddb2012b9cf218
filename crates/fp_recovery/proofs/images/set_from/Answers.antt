use Rattle.std.proofs.Common.{Ok, sym, ap, ◌∙◌, arith}
use Rattle.std.proofs.lemmas.List.{length-map}
use Rattle.fp_documents.specs.Entries.{entry_of, entries_of}
use Rattle.fp_edit.specs.Flags.{State}
use Rattle.fp_recovery.proofs.Read.{image_is, image_stands, marks_read, room_read}
use Rattle.fp_recovery.proofs.images.set_from.Goals as goal

pub of_flags-requires-clause-numbered : goal.of_flags-requires-clause-numbered
of_flags-requires-clause-numbered c =
    (image_is c.args.base c.args.limit c.args.bytes.now (entries_of c.in_ok-flags.flags.items)
    (λ i. omega (arith, c.type_inv.bytes i)) c.in_ok-flags.ensures).numbered

pub of_flags-requires-clause-ascending : goal.of_flags-requires-clause-ascending
of_flags-requires-clause-ascending c =
    (image_is c.args.base c.args.limit c.args.bytes.now (entries_of c.in_ok-flags.flags.items)
    (λ i. omega (arith, c.type_inv.bytes i)) c.in_ok-flags.ensures).lawful.ascending

pub of_flags-requires-clause-changed : goal.of_flags-requires-clause-changed
of_flags-requires-clause-changed c =
    let flags = entries_of c.in_ok-flags.flags.items in
    let r = image_is c.args.base c.args.limit c.args.bytes.now flags (λ i. omega (arith, c.type_inv.bytes i)) c.in_ok-flags.ensures in
    marks_read c.args.base flags r.lawful.flags r.changed

pub of_flags-requires-clause-few : goal.of_flags-requires-clause-few
of_flags-requires-clause-few c =
    let flags = entries_of c.in_ok-flags.flags.items in
    let r = image_is c.args.base c.args.limit c.args.bytes.now flags (λ i. omega (arith, c.type_inv.bytes i)) c.in_ok-flags.ensures in
    let few = r.lawful.few in omega (arith, few, length-map c.in_ok-flags.flags.items entry_of)

pub of_flags-requires-clause-room : goal.of_flags-requires-clause-room
of_flags-requires-clause-room c =
    let flags = entries_of c.in_ok-flags.flags.items in
    room_read c.args.base c.args.limit c.args.bytes.now flags
    (image_is c.args.base c.args.limit c.args.bytes.now flags (λ i. omega (arith, c.type_inv.bytes i)) c.in_ok-flags.ensures)

pub returns-clause-read : goal.returns-clause-read
returns-clause-read c = c.in_ok-flags.ensures ∙ ap Ok (sym c.in_ok-set.ensures.entries)

pub returns-clause-found : goal.returns-clause-found
returns-clause-found c =
    image_stands c.args.base c.args.limit c.args.bytes.now c.in_ok-set.set (λ i. omega (arith, c.type_inv.bytes i))
    (c.in_ok-flags.ensures ∙ ap Ok (sym c.in_ok-set.ensures.entries))
    (ap (λ (s : State). s.revision) c.in_ok-set.ensures.made) (ap (λ (s : State). s.limit) c.in_ok-set.ensures.made)

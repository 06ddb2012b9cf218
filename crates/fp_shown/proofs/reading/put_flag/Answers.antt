use Rattle.std.proofs.Common.{sym, ap, ◌∙◌, arith}
use Rattle.fp_definition.specs.Key.{key_bytes}
use Rattle.fp_definition.specs.Valid.{is_definition_text}
use Rattle.fp_shown.proofs.Definitions.{definition_found, object_text}
use Rattle.fp_shown.proofs.Rooms.{has_room}
use Rattle.fp_shown.proofs.reading.put_flag.Goals as goal

pub returns-then-revision-eq0-clause-refused : goal.returns-then-revision-eq0-clause-refused
returns-then-revision-eq0-clause-refused c = λ _ some key spelled.
    let none = c.if-revision-eq0.true in
    let same = c.revision-revision.ensures.revision in absurd (omega (arith, some, none, same))

pub returns-then-member-gt-LONGEST_DEFINITION-clause-refused :
    goal.returns-then-member-gt-LONGEST_DEFINITION-clause-refused
returns-then-member-gt-LONGEST_DEFINITION-clause-refused c = λ _ some key spelled.
    let short = (object_text _ spelled.definition).short in
    let long = c.if-member-gt-LONGEST_DEFINITION.true in absurd (omega (arith, short, long))

pub restore-requires-clause-room : goal.restore-requires-clause-room
restore-requires-clause-room c =
    let found = definition_found c.args.member.now.value.now c.in-Some.definition
    (sym c.in_ok-definition.ensures ∙ c.in-Some.is) in
    has_room c.args.set.now.flags (key_bytes c.in_ok-key.key)
    (record {
      definition = c.in-Some.definition;
      changed =
          c.revision-revision.result;
    }) c.args.set.now.limit
    c.requires.few c.requires.room c.in_ok-key.ensures.long (ap is_definition_text found.1
    ∙ found.0)

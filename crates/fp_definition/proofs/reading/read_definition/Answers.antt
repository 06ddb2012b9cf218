use Rattle.std.proofs.Common.{◌≡◌, ◌-◌, ◌∷◌, [], length, option_map, false, sym, ap, subst, ◌∙◌, arith}
use Rattle.std.specs.Str.{IsUtf8}
use Rattle.serde_json.specs.Data.{no_members, object}
use Rattle.serde_json.specs.Written.{compact_text, members_text}
use Rattle.fp_base.specs.Json.{json_of}
use Rattle.fp_base.proofs.Printed.{reads_back}
use Rattle.fp_canonical.proofs.Digits.{has_numbers}
use Rattle.fp_canonical.proofs.Read.{object-read}
use Rattle.fp_definition.specs.Beside.{members_with, targeting_in}
use Rattle.fp_definition.specs.Numbers.{DEEPEST_DEFINITION}
use Rattle.fp_definition.specs.Spelled.{AreNoted}
use Rattle.fp_definition.proofs.Beside.{sorted_with}
use Rattle.fp_definition.proofs.Passed.{none_left}
use Rattle.fp_definition.proofs.reading.read_definition.Goals as goal

pub returns-clause-read : goal.returns-clause-read
returns-clause-read c =
    let found = c.in_ok-members.members.now in
    let t = targeting_in c.in_ok-members.noted.other in
    let all = members_with t found no_members in
    let left = c.read_members.new.cursor in
    let opened : c.args.text.now ≡ 123 ∷ c.take.new.self = sym c.new-cursor.ensures ∙ c.take.ensures.taken c.if-not-take.false in
    let read = object-read (DEEPEST_DEFINITION - 1) all c.args.text.now c.take.new.self left opened
    (sorted_with t found c.in_ok-members.ensures.sorted) c.in_ok-members.ensures.read in
    let none : length left ≡ 0 = omega (arith, c.left.ensures, c.if-left-gt0.false) in
    let whole = none_left c.args.text.now (compact_text (object all)) left read.spelled none in
    record {
      spelled = whole;
      reads = ap json_of whole
          ∙ reads_back (object all) (subst IsUtf8 whole c.utf8.text, has_numbers (object all) read.ordered read.whole)
          read.ordered read.whole (omega (arith, read.flat));
      ordered = read.ordered;
      whole = read.whole;
      flat = read.flat;
    }

pub returns-clause-noted : goal.returns-clause-noted
returns-clause-noted c =
    let noted = c.in_ok-members.noted in
    let all = members_with (targeting_in noted.other) c.in_ok-members.members.now no_members in
    let left = c.read_members.new.cursor in
    let opened : c.args.text.now ≡ 123 ∷ c.take.new.self = sym c.new-cursor.ensures ∙ c.take.ensures.taken c.if-not-take.false in
    let text = opened ∙ ap (λ xs. 123 ∷ xs) c.in_ok-members.ensures.read.spelled in
    let whole = none_left c.args.text.now (123 ∷ members_text false all) left text (omega (arith, c.left.ensures, c.if-left-gt0.false)) in
    subst (λ xs. AreNoted xs (option_map (λ v. v.items) noted.variants) noted.places no_members all) (sym whole)
    (c.in_ok-members.ensures.noted (123 ∷ []) (ap length opened))

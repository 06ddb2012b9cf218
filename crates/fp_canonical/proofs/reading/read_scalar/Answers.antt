use Rattle.std.proofs.Common.{sym, ◌∙◌, arith}
use Rattle.serde_json.specs.Data.{null, boolean}
use Rattle.serde_json.specs.Written.{compact_text}
use Rattle.std.proofs.Common.{true, false}
use Rattle.fp_canonical.proofs.Leads.{string_here, true_here, false_here, null_here, number_here}
use Rattle.fp_canonical.proofs.Leads.{word_taken}
use Rattle.fp_canonical.proofs.reading.read_scalar.Goals as goal

pub returns-in-34-clause-taken : goal.returns-in-34-clause-taken
returns-in-34-clause-taken c = λ limit d left flat reads ends.
    let s = string_here limit c.args.cursor.now left d flat (λ b rest is. sym c.in-34.is ∙ c.peek.ensures b rest is) reads in
    c.read_string.ensures.taken s.0 left s.1

pub returns-in-116-clause-taken : goal.returns-in-116-clause-taken
returns-in-116-clause-taken c = λ limit d left flat reads ends.
    word_taken c.after.result c.take_word.result _ (compact_text (boolean true)) c.args.cursor.now c.take_word.new.self left
    (true_here limit c.args.cursor.now left d flat (λ b rest is. sym c.in-116.is ∙ c.peek.ensures b rest is) reads)
    c.take_word.ensures.next c.take_word.ensures.taken c.after.ensures

pub returns-in-102-clause-taken : goal.returns-in-102-clause-taken
returns-in-102-clause-taken c = λ limit d left flat reads ends.
    word_taken c.after-in-102.result c.take_word-in-102.result _ (compact_text (boolean false)) c.args.cursor.now
    c.take_word-in-102.new.self left
    (false_here limit c.args.cursor.now left d flat (λ b rest is. sym c.in-102.is ∙ c.peek.ensures b rest is) reads)
    c.take_word-in-102.ensures.next c.take_word-in-102.ensures.taken c.after-in-102.ensures

pub returns-in-110-clause-taken : goal.returns-in-110-clause-taken
returns-in-110-clause-taken c = λ limit d left flat reads ends.
    word_taken c.after-in-110.result c.take_word-in-110.result _ (compact_text null) c.args.cursor.now c.take_word-in-110.new.self left
    (null_here limit c.args.cursor.now left d flat (λ b rest is. sym c.in-110.is ∙ c.peek.ensures b rest is) reads)
    c.take_word-in-110.ensures.next c.take_word-in-110.ensures.taken c.after-in-110.ensures

pub returns-in_default-clause-taken : goal.returns-in_default-clause-taken
returns-in_default-clause-taken c = λ limit d left flat reads ends.
    let n = number_here limit c.args.cursor.now left c.peek.result d flat c.peek.ensures
    (λ q. omega (arith, q, c.in_default)) (λ q. omega (arith, q, c.in_default)) (λ q. omega (arith, q, c.in_default))
    (λ q. omega (arith, q, c.in_default)) reads in
    c.read_number.ensures.taken n.0 left n.1 n.2 n.3 ends

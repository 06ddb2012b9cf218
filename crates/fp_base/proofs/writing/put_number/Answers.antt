use lib.Signed.{mag}
use Rattle.std.proofs.Common.{◌≡◌, ◌<◌, ◌^◌, subst, rules}
use Rattle.std.specs.Fmt.{signed_decimal}
use Rattle.std.specs.Str.{IsUtf8}
use Rattle.serde_json.specs.View.{number_view}
use Rattle.fp_base.proofs.Printed.{number_printed}
use Rattle.fp_base.proofs.writing.put_number.Goals as goal

pub returns-clause-printed : goal.returns-clause-printed
returns-clause-printed c =
    let small : mag c.in-Some.whole < 2 ^ 63 = search rules in
    let same : c.format.result.now ≡ signed_decimal c.in-Some.whole = search rules in
    number_printed (number_view c.args.number.now) c.in-Some.whole (search rules) small (subst IsUtf8 same c.format.utf8)

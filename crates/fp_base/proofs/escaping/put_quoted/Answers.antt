use Rattle.json.proofs.Printed.Utf8.{IsUtf8-quoted}
use Rattle.fp_base.proofs.escaping.put_quoted.Goals as goal

pub returns-clause-utf8 : goal.returns-clause-utf8
returns-clause-utf8 c = IsUtf8-quoted c.args.text.now c.utf8.text

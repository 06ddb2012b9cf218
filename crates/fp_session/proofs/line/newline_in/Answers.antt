use Rattle.fp_session.proofs.Newlines.{first_byte}
use Rattle.fp_session.proofs.line.newline_in.Goals as goal

pub returns-clause-first : goal.returns-clause-first
returns-clause-first c = first_byte 10 c.args.bytes.now c.memchr.result c.memchr.ensures

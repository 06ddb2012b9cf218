use Rattle.std.proofs.Common.{◌++◌, sym, ap, ◌∙◌}
use Rattle.std.proofs.lemmas.Result.{on_ok_weaker}
use Rattle.fp_definition.proofs.Told.{told}
use Rattle.fp_session.specs.Reply.{reply_text, bad_flag_in_or_memory}
use Rattle.fp_session.proofs.reply.put_placed_flag.Goals as goal

pub returns-in_default : goal.returns-in_default
returns-in_default c =
    let first = told c.args.fault.now c.in_default.not-Memory in
    on_ok_weaker c.put_detail.result (λ said. said first.0 first.1 ∙
    ap (λ o. c.args.out.now.items ++ reply_text (bad_flag_in_or_memory c.args.at o)) (sym first.1)) c.put_detail.ensures

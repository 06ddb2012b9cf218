use Rattle.std.proofs.Common.{◌++◌, codes, ap, ◌∙◌}
use Rattle.fp_session.specs.Reply.{number_or_null}
use Rattle.fp_session.proofs.TextLemmas.{three_behind}
use Rattle.fp_session.proofs.reply.put_conflict.Goals as goal

pub returns : goal.returns
returns c =
    let name = codes "\"current\":" in let number = number_or_null c.args.current in
    let rest = codes ",\"error\":\"conflict\"}" in
    c.in_ok-extend_from_slice-2.ensures.items ∙
    ap (λ l. l ++ rest) (c.in_ok-put_number_or_null.ensures ∙ ap (λ l. l ++ number) c.in_ok-extend_from_slice.ensures.items) ∙
    three_behind c.put_opening.new.out.items name number rest ∙ c.in_ok-put_opening.ensures (name ++ number ++ rest)

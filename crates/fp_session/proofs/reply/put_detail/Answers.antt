use Rattle.std.proofs.Common.{◌≡◌, ◌++◌, codes, ap, ◌∙◌}
use Rattle.fp_definition.specs.Faults.{word_or, word_of}
use Rattle.fp_session.specs.Reply.{operator_member}
use Rattle.fp_session.proofs.TextLemmas.{five_behind}
use Rattle.fp_session.proofs.reply.put_detail.Goals as goal

pub returns : goal.returns
returns c = λ f told.
    let first = codes "\"detail\":\"" in let between = codes "\",\"error\":\"flag\"" in
    let word : c.as_bytes.result.now ≡ word_of f = c.as_bytes.ensures.value ∙ c.as_str.ensures ∙
    ap (word_or (codes "out-of-memory")) told in
    let front = c.in_ok-extend_from_slice-2.ensures.items ∙
    ap (λ w. c.extend_from_slice.new.self.items ++ w) word ∙ ap (λ l. l ++ word_of f) c.in_ok-extend_from_slice.ensures.items in
    let named = c.in_ok-extend_from_slice-3.ensures.items ∙ ap (λ l. l ++ between) front in
    c.in_ok-extend_from_slice-4.ensures.items ∙
    ap (λ l. l ++ codes "}") (c.in_ok-put_operator.ensures f told ∙ ap (λ l. l ++ operator_member f) named) ∙
    five_behind c.put_opening.new.out.items first (word_of f) between (operator_member f) (codes "}") ∙
    c.in_ok-put_opening.ensures (first ++ word_of f ++ between ++ operator_member f ++ codes "}")

use Rattle.std.proofs.Common.{◌++◌, ◌∷◌, [], ◌∙◌, ap, take}
use Rattle.fp_base.proofs.Unescaped.{quoted_halves}
use Rattle.fp_base.proofs.escaping.put_between_quotes.Goals as goal

pub returns : goal.returns
returns c =
    let bytes = c.args.bytes.now in
    let run = c.unescaped_len-run in
    let opened = c.in_ok-push.ensures.items ∙ ap (λ l. l ++ 34 ∷ []) c.in_ok-reserve.ensures.items in
    let begun = c.in_ok-extend_from_slice.ensures.items ∙ ap (λ l. l ++ take run.result bytes) opened in
    let ended = c.in_ok-push-2.ensures.items ∙ ap (λ l. l ++ 34 ∷ []) c.in_ok-put_escaped.ensures in
    quoted_halves bytes run.result c.args.out.now.items c.extend_from_slice.new.self.items c.push-2.new.self.items
    run.ensures.written begun ended

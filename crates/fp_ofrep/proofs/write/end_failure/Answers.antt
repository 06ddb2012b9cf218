use Rattle.std.proofs.Common.{◌++◌, sym, ap, ◌∙◌}
use Rattle.std.specs.Option.{option_copied}
use Rattle.serde_json.specs.Written.{members_text}
use Rattle.std.specs.Prelude.{true}
use Rattle.fp_ofrep.specs.Bodies.{with_key}
use Rattle.fp_ofrep.proofs.Written.{key_put}
use Rattle.fp_ofrep.proofs.write.end_failure.Goals as goal

pub returns-in_ok-push-in-Some : goal.returns-in_ok-push-in-Some
returns-in_ok-push-in-Some c =
    key_put c.args.out.now.items _ _ c.in-Some.key.now c.in_ok-put_text-in-Some.ensures c.in_ok-push-in-Some.ensures.items
    ∙ ap (λ k. c.args.out.now.items ++ members_text true (with_key (option_copied k))) (sym c.in-Some.is)

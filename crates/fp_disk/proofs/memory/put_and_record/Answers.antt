use Rattle.std.proofs.Common.{◌∙◌, ◌++◌, ◌∷◌, [], ap₂}
use Rattle.fp_disk.specs.declared.call.Request.TheVariants.{Write}
use Rattle.fp_disk.proofs.memory.put_and_record.Goals as goal

pub returns-clause-bytes : goal.returns-clause-bytes
returns-clause-bytes c = c.in_ok-put.ensures.ok

pub returns-clause-calls : goal.returns-clause-calls
returns-clause-calls c =
    c.push_reserved.ensures.items
    ∙ ap₂ (λ calls bytes. calls ++ record { request = Write c.args.at bytes; progress = c.args.progress } ∷ [])
    c.in_ok-reserve.ensures.items c.in_ok-copy.ensures

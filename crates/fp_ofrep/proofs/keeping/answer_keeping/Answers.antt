use Rattle.std.proofs.Common.{sym, ap, ◌∙◌}
use Rattle.std.specs.Prelude.{option_map, Some}
use Rattle.std.specs.Option.{option_copied}
use Rattle.fp_group_commit.specs.Tokens.{front_set}
use Rattle.fp_ofrep.specs.Reply.{reply}
use Rattle.fp_ofrep.specs.Response.{Response}
use Rattle.fp_ofrep.specs.Seen.{body_seen}
use Rattle.fp_ofrep.proofs.TagLemmas.{asked_for_all, tag_told}
use Rattle.fp_ofrep.proofs.keeping.answer_keeping.Goals as goal

pub note-requires-clause-tag : goal.note-requires-clause-tag
note-requires-clause-tag c =
    let set = front_set c.args.view.now in let tags = option_copied c.args.if_none_match in let body = c.in-Some.asked.now in (
      c.args.now,
      tag_told set tags body c.deref.result.now c.args.now
          (ap (λ (r : Response). r.etag)
          (sym (c.in_ok-reply.ensures
          ∙ ap (λ s. reply s c.args.method.now c.args.target.now tags (body_seen c.args.body) c.args.now) c.set-set.ensures
          ∙ asked_for_all c.args.method.now c.args.target.now (body_seen c.args.body)
          body c.in-Some.ensures set tags c.args.now))
          ∙ ap (option_map (λ v. v.items)) c.in-Some-etag.is ∙ ap Some (sym c.deref.ensures.value)),
    )

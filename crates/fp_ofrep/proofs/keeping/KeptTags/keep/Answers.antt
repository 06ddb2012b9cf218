use Rattle.std.proofs.Common.{◌≡◌, ◌%◌, arith}
use Rattle.std.proofs.lemmas.Nat.{mod_below}
use Rattle.fp_ofrep.proofs.TagLemmas.{put_kept}
use Rattle.fp_ofrep.proofs.keeping.KeptTags.keep.Goals as goal

pub invariant_of-self-2 : goal.invariant_of-self-2
invariant_of-self-2 c =
    let front = c.self.inside.shown in let body = c.in_ok-to_vec.field-0 in let tag = c.in_ok-to_vec-2.field-0 in
    let same_body : body.items ≡ c.args.body.now = c.in_ok-to_vec.ensures.items_if_clones_equal (λ x y h. h) in
    let same_tag : tag.items ≡ c.args.tag.now = c.in_ok-to_vec-2.ensures.items_if_clones_equal (λ x y h. h) in
    put_kept front c.self.inside.is_timeless c.self.inside.tags.items c.put_at.new.tags.items
    (record { body = body; tag = tag }) (c.self.inside.next % 32)
    c.if-not-self.false c.self.invariant (c.requires.0, rw (same_body, same_tag, c.self.view_is) c.requires.1)
    (rw same_body c.if-body-gt-LONGEST_KEPT_BODY.false)
    (mod_below c.self.inside.next 32 (omega arith)) c.in_ok-put_at.ensures.put

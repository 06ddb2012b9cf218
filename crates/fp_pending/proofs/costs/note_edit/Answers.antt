use Rattle.std.proofs.Common.{◌<◌, ◌≤◌, ◌+◌, ℕ, List, length, take, cond, is_eq, sym, ap, subst, ◌∙◌, arith}
use Rattle.std.specs.Prelude.{bytes_eq, unwrap_or}
use Rattle.std.specs.Borrow.{Bor}
use Rattle.std.specs.BTreeMap.{get_by}
use Rattle.std.proofs.lemmas.List.{take_all}
use Rattle.fp_base.specs.Bytes.{bytes_cmp}
use Rattle.fp_definition.specs.Key.{key_bytes}
use Rattle.fp_edit.specs.Admits.{parts_after}
use Rattle.fp_edit.specs.Edits.{change_in, parts}
use Rattle.fp_edit.specs.Flags.{Flags}
use Rattle.fp_edit.specs.Lent.{lent, lent_parts}
use Rattle.fp_pending.specs.Noted.{AreNoted, noted_at}
use Rattle.fp_edit.specs.Parts.{Part, part_key}
use Rattle.fp_edit.proofs.Lending.{key_with}
use Rattle.fp_pending.proofs.Noting.{Notes-one, chosen, noted-part, same_key}
use Rattle.fp_edit.proofs.Parts.{parts_after-more}
use Rattle.fp_pending.proofs.costs.note_edit.Goals as goal

pub loop-i-preserved : goal.loop-i-preserved
loop-i-preserved c = λ r before after was.
    let ps = lent_parts c.new-parts.result in let i = c.loop-i.i in let p = (lent c.lend-part.result).part in
    let len = c.len-i-end.ensures in
    let test = c.loop-i-test.true in
    let within : i < length ps = omega (arith, test, len) in
    let more = parts_after-more ps i p within c.lend-part.ensures.part r after in
    let key = c.as_str.result in
    let was_noted = c.loop-i.noted in
    let own = c.as_str.ensures ∙ sym (key_with (key_bytes c.lend-part.result.key.now) c.lend-part.result.flag) in
    let noted : Notes-one was_noted c.insert.new.self (part_key p) c.cost.result = λ k none.
    let q : Bor (List ℕ) = record { ref_ptr = key.ref_ptr; now = k } in
    ap (λ o. unwrap_or o none) (c.in_ok-insert.ensures.updates.0 q)
    ∙ chosen (is_eq (bytes_cmp key.now k)) c.cost.result none (get_by (λ x. bytes_cmp k x.now) was_noted)
    ∙ ap (λ b. cond b c.cost.result (noted_at was_noted k none)) (same_key key.now k ∙ ap (bytes_eq k) own) in
    subst (λ (m : Flags). AreNoted c.insert.new.self before m) (sym more)
    (noted-part was_noted c.insert.new.self r before (parts_after r after (take i ps)) p c.cost.result
    (c.cost.ensures.cost r) (c.loop-i.invariant r before after was) noted)

pub returns : goal.returns
returns c = λ s t was.
    let ps = lent_parts c.new-parts.result in
    let len = c.len-i-end.ensures in
    let test = c.loop-i-test.false in
    let ended : length ps ≤ c.loop-i.i = omega (arith, test, len) in
    let all = take_all c.loop-i.i ps ended ∙ ap (λ p. parts (change_in p)) c.new-parts.ensures.same in
    subst (λ (qs : List Part). AreNoted c.loop-i.noted s.flags (parts_after (t.revision + 1) t.flags qs)) all
    (c.loop-i.invariant (t.revision + 1) s.flags t.flags was)

use Rattle.std.proofs.Common.{rules, ◌≡◌, ◌<◌, ◌+◌, ◌^◌, length, Some, sym, subst, arith}
use Rattle.fp_edit.specs.Admits.{refusal}
use Rattle.fp_edit.specs.Changes.{set_len}
use Rattle.fp_edit.specs.Edits.{Proposal, parts, proposal_of}
use Rattle.fp_edit.specs.Following.{change_of, unconditional}
use Rattle.fp_edit.specs.declared.edit.Edit.{Edit}
use Rattle.fp_recovery.proofs.Faults.{few_more, refused_for}
use Rattle.fp_recovery.proofs.Reach.{change_reach}
use Rattle.fp_recovery.proofs.batches.make_edit.Goals as goal

pub wrong_at-requires : goal.wrong_at-requires
wrong_at-requires c =
    let s = c.args.set.now in let at = c.args.at in let edit = c.in_ok-edit.edit in let next = c.in_ok-edit.next in
    let fault = c.in-Err.fault in let same = c.in-Err.ensures.given_back in
    let refused = subst (λ (p : Proposal). refusal s p ≡ Some fault) c.in_ok-edit.ensures.free
    (refused_for s (proposal_of edit) fault c.in-Err.ensures.refused c.in_default-fault.not-Memory) in
    let few = few_more (change_of edit) at next (change_reach c.args.bytes.now at (change_of edit, next) c.in_ok-edit.ensures.value) in
    let within = c.in_ok-edit.ensures.within in let short : length c.args.bytes.now < 2 ^ 63 = search rules in
    record {
      refused = (s, subst (λ (e : Edit). refusal s (unconditional (change_of e)) ≡ Some fault) (sym same) refused);
      small = subst (λ (e : Edit). at + set_len (parts (change_of e)) < 2 ^ 64) (sym same) (omega (arith, few, within, short));
    }

use Rattle.std.proofs.Common.{rules, ℕ, List}
use Rattle.std.proofs.lemmas.Result.{err_from_is_err_and}
use Rattle.fp_slots.specs.Rules.{HasLeads, IsOneOf, IsRuling, RefusesSlots}
use Rattle.fp_layout.specs.Size.{first_slot, second_slot}
use Rattle.fp_layout.proofs.Choosing.{chosen_active, chosen_lead}
use Rattle.fp_layout.proofs.Refusals.{head_refuses, neither_refuses, slots_no_device}
use Rattle.fp_layout.proofs.opening.choose.Goals as goal

pub returns-in_err-active-clause-fault : goal.returns-in_err-active-clause-fault
returns-in_err-active-clause-fault c =
    let p = err_from_is_err_and c.from_residual.result c.from_residual.ensures.1 in
    let size = c.args.size in let f = c.in_err-active.field-0.0 in
    let told : (b : List ℕ) → HasLeads (first_slot size) c.args.mine.now (second_slot size) c.args.its.now b →
    RefusesSlots (first_slot size).start (second_slot size).start b f = search rules in
    rw (p.1, p.2) (λ b leads long. neither_refuses size b f (told b leads))

pub returns-in_err-head-clause-fault : goal.returns-in_err-head-clause-fault
returns-in_err-head-clause-fault c =
    let p = err_from_is_err_and c.from_residual-in_err-head.result c.from_residual-in_err-head.ensures.1 in
    let size = c.args.size in let mine = c.args.mine.now in let its = c.args.its.now in let a = c.in_ok-active.active in
    let are : IsOneOf (first_slot size) mine (second_slot size) its a.slot a.bytes.now a.other = search rules in
    let rules_there : (b : List ℕ) → HasLeads (first_slot size) mine (second_slot size) its b →
    IsRuling a.slot.start a.other.start a.is_open b = search rules in
    rw (p.1, p.2) (λ b leads long.
    head_refuses b size a.slot a.other c.in_err-head.field-0.0
    (chosen_active b size mine its a.slot a.bytes.now a.other are a.is_open (rules_there b leads))
    (c.in_err-head.ensures.fault b (chosen_lead b size mine its a.slot a.bytes.now a.other are leads) long))

pub returns-in_err-active-clause-no_device : goal.returns-in_err-active-clause-no_device
returns-in_err-active-clause-no_device c =
    let p = err_from_is_err_and c.from_residual.result c.from_residual.ensures.1 in
    rw (p.1, p.2) (slots_no_device c.in_err-active.field-0.0)

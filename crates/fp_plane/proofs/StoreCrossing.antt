-- A store, and its half of a committer, may cross threads with its disk.
use denote.RattleType.{RattleType}
use denote.Param.Send.{IsSend, sendable, view_send, recorded_send, struct_send, enum_send}
use denote.Struct.Declared.{shape}
use Rattle.std.proofs.Crossing.{crosses}
use denote.Enum.Declared as enums
use Rattle.fp_committer.specs.contracts.held.Held as held
use Rattle.fp_committer.specs.contracts.store_half.StoreHalf as store_half
use Rattle.fp_committer.specs.contracts.store_half.StoreHalf.TheInside as store_half_inside
use Rattle.fp_group_commit.proofs.part.Part.TheSendSync as part
use Rattle.fp_group_commit.specs.contracts.draw.Draw as draw
use Rattle.fp_group_commit.specs.contracts.draw.Draw.TheInside as draw_inside
use Rattle.fp_group_commit.specs.contracts.receipt.Receipt as receipt
use Rattle.fp_group_commit.specs.contracts.receipt.Receipt.TheInside as receipt_inside
use Rattle.fp_disk.specs.declared.disk.Disk.{Ghosts}
use Rattle.fp_disk.proofs.checked.Checked.TheSendSync as checked
use Rattle.fp_fronts.proofs.growing.Growing.TheSendSync as growing
use Rattle.fp_journal.proofs.slot.Slot.TheSendSync as slot
use Rattle.fp_journal.specs.contracts.journal.Journal as journal
use Rattle.fp_journal.specs.contracts.journal.Journal.TheInside as journal_inside
use Rattle.fp_slots.specs.contracts.slots.Slots as slots
use Rattle.fp_slots.specs.contracts.slots.Slots.TheInside as slots_inside
use Rattle.fp_group_commit.proofs.part.Origin.TheSendSync as origin
use Rattle.fp_group_commit.specs.contracts.store.Store as store
use Rattle.fp_group_commit.specs.contracts.store.Store.TheInside as store_inside
use Rattle.fp_hall.proofs.Crossing.{edit_sent, flags_sent, half_sent}

draw_sent : IsSend draw.the_row
draw_sent = view_send _ _ _ _ _
    (recorded_send _ _ _ (draw_inside.the_type).to_one
    (struct_send (shape draw_inside.the_type) (search (sendable, crosses, edit_sent) depth 20)))

receipt_sent : IsSend receipt.the_row
receipt_sent = view_send _ _ _ _ _
    (recorded_send _ _ _ (receipt_inside.the_type).to_one
    (struct_send (shape receipt_inside.the_type) (draw_sent, (part.the_send, tt))))

held_sent : IsSend (held.the_field).row
held_sent = enum_send (enums.shape held.the_type) (tt, ((draw_sent, tt), (tt, ((receipt_sent, tt), tt))))

module _ (D : RattleType) (g : Ghosts D.Denot) (sd : IsSend D) where
  journal_sent : IsSend (journal.the_row D g)
  journal_sent = let T = journal_inside.the_type D g in
      view_send _ _ _ _ _ (recorded_send _ _ _ T.to_one (struct_send (shape T)
      (checked.the_send D g sd, search (sendable, crosses, growing.the_send, slot.the_field_send) depth 20)))

  slots_sent : IsSend (slots.the_row D g)
  slots_sent = let T = slots_inside.the_type D g in
      view_send _ _ _ _ _ (recorded_send _ _ _ T.to_one (struct_send (shape T)
      (journal_sent, search (sendable, crosses, slot.the_field_send) depth 20)))

  pub store_sent : IsSend (store.the_row D g)
  store_sent = let T = store_inside.the_type D g in
      view_send _ _ _ _ _ (recorded_send _ _ _ T.to_one (struct_send (shape T)
      (slots_sent, search (sendable, crosses, flags_sent, edit_sent, growing.the_send, origin.the_send) depth 20)))

  pub store_half_sent : IsSend (store_half.the_row D g)
  store_half_sent = let T = store_half_inside.the_type D g in
      view_send _ _ _ _ _ (recorded_send _ _ _ T.to_one (struct_send (shape T) (store_sent, (held_sent, (half_sent, tt)))))

-- Where reading an edit asks for memory, by what was found of it.
use Rattle.std.proofs.Common.{◌≡◌, true, subst}
use Rattle.serde_json.specs.Data.{Data, Members, object}
use Rattle.fp_edit.specs.Asks.{edit_asks, members_ask, part_asks, set_asks}
use Rattle.fp_edit.specs.Line.{all_known, is_set}

pub asks-part : (d : Data) (ms : Members) → d ≡ object ms → all_known ms ≡ true → members_ask d ≡ true → part_asks d ≡ true
asks-part d ms is known asked =
    let here : members_ask (object ms) ≡ true = subst (λ x. members_ask x ≡ true) is asked in
    rw is (rw known here)

pub asks-set : (d : Data) (ms : Members) → d ≡ object ms → is_set d ≡ true → set_asks ms ≡ true → edit_asks d ≡ true
asks-set d ms is many asked =
    let set : is_set (object ms) ≡ true = subst (λ x. is_set x ≡ true) is many in
    rw is (rw set asked)

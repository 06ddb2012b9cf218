-- Data have room for a key where what was put into them has.
use Rattle.std.proofs.Common.{◌≡◌, ℕ, List, String, Global, codes, rules, sym, subst}
use Rattle.std.specs.BTreeMap.{BTreeMap}
use Rattle.fp_operators.specs.declared.datum.Datum.{Datum, out-Datum, the_lemmas}
use Rattle.fp_operators.specs.declared.datum.Datum.TheVariants.{Object}
use Rattle.fp_operators.specs.declared.datum.Datum.TheOpen.{Datum-F}
use Rattle.std.specs.Prelude.{Result, Ok, Err, IfOk}
use Rattle.fp_targeting.specs.Room.{FlagHasRoom, HasRoom, IsObject, IsUnder, KeyHasRoom, Stands}

opened : (m : BTreeMap (String Global) Datum) → out-Datum (Object m) ≡ Datum-F.Object m
opened m = search (rules, the_lemmas)

pub stands : (name : List ℕ) (x : Datum) (m : BTreeMap (String Global) Datum) → IsUnder name (λ y. y ≡ x) m.entries
    → Stands name x (Object m)
stands name x m h = subst (IsObject (IsUnder name (λ y. y ≡ x))) (sym (opened m)) h

module _ (name : List ℕ) (P : Datum → Type 0) (x : Datum) (p : P x) where
  under : (o : Datum-F Datum) → IsObject (IsUnder name (λ y. y ≡ x)) o → IsObject (IsUnder name P) o
  under (Datum-F.Object ms) h = λ d found. subst P (sym (h d found)) p
  under Datum-F.Null h = tt
  under (Datum-F.Bool b) h = tt
  under (Datum-F.Whole z) h = tt
  under (Datum-F.Text s) h = tt
  under (Datum-F.List v) h = tt

pub flag_has_room : {E : Type 0} (r : Result Datum E) (key : Datum) → KeyHasRoom key → IfOk r (Stands (codes "flagKey") key)
    → IfOk r FlagHasRoom
flag_has_room (Ok d) key room stands = under (codes "flagKey") KeyHasRoom key room (out-Datum d) stands
flag_has_room (Err e) key room stands = tt

pub has_room : (d flag : Datum) → FlagHasRoom flag → Stands (codes "$flagd") flag d → HasRoom d
has_room d flag room stands = under (codes "$flagd") FlagHasRoom flag room (out-Datum d) stands

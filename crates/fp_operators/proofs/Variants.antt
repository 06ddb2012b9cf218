-- What each variant of a `Datum` stands for.
use Rattle.std.proofs.Common.{◌≡◌, ℤ, Bool, String, Global, Vec, rules}
use Rattle.std.specs.BTreeMap.{BTreeMap}
use Rattle.fp_operators.specs.Data.{null, boolean, whole, text, list, object}
use Rattle.fp_operators.specs.KeptText.{TextState}
use Rattle.fp_operators.specs.View.{view, items_view, members_view}
use Rattle.fp_operators.specs.declared.datum.Datum.{Datum, the_lemmas}
use Rattle.fp_operators.specs.declared.datum.Datum.TheVariants.{Null, Bool as Truth, Whole, Text, List, Object}

pub view-Null : view Null ≡ null
view-Null = search (rules, the_lemmas)

pub view-Bool : (b : Bool) → view (Truth b) ≡ boolean b
view-Bool b = search (rules, the_lemmas)

pub view-Whole : (z : ℤ) → view (Whole z) ≡ whole z
view-Whole z = search (rules, the_lemmas)

pub view-Text : (s : TextState) → view (Text s) ≡ text s.bytes
view-Text s = search (rules, the_lemmas)

pub view-List : (v : Vec Datum Global) → view (List v) ≡ list (items_view v.items)
view-List v = search (rules, the_lemmas)

pub view-Object : (m : BTreeMap (String Global) Datum) → view (Object m) ≡ object (members_view m.entries)
view-Object m = search (rules, the_lemmas)

-- all of them, to list at a tactic in crates that build or take apart a `Datum`
pub ruleset variants = (view-Null, view-Bool, view-Whole, view-Text, view-List, view-Object)

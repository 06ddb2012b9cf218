-- Data as they are read: the members of each object ascend by their names, of which no two are the same, and what is
-- written of a whole number is read as it.
use Rattle.std.specs.Prelude.{◌≡◌, true, Some, is_some, ⊤}
use Rattle.serde_json.specs.Data.{Num, Data, null, boolean, number, string, array, object, Items}
use Rattle.serde_json.specs.Data.{no_items, item, Members, no_members, member}
use Rattle.serde_json.specs.Find.{as_i64}
use Rattle.serde_json.specs.Read.{number_of}
use Rattle.serde_json.specs.Written.{number_text}
use Rattle.fp_base.specs.Sorted.{IsSorted}

-- where it is whole, its text is its own
abbrev pub IsWritten : Num → Type 0
IsWritten n = is_some (as_i64 n) ≡ true → number_of (number_text n) ≡ Some n

abbrev mutual
  pub IsOrdered : Data → Type 0
  IsOrdered null = ⊤
  IsOrdered (boolean b) = ⊤
  IsOrdered (number n) = IsWritten n
  IsOrdered (string s) = ⊤
  IsOrdered (array ds) = AreOrdered ds
  IsOrdered (object ms) = IsSorted ms × MembersAreOrdered ms

  pub AreOrdered : Items → Type 0
  AreOrdered no_items = ⊤
  AreOrdered (item d ds) = IsOrdered d × AreOrdered ds

  pub MembersAreOrdered : Members → Type 0
  MembersAreOrdered no_members = ⊤
  MembersAreOrdered (member k d ms) = IsOrdered d × MembersAreOrdered ms

-- `fractional`: pairs of a name and a weight, and which of them a key falls to.
use Rattle.std.specs.Prelude.{ℕ, ◌+◌, List, [], ◌∷◌, ◌++◌, Bool, true, false, ◌&&◌, nat_le, nat_lt}
use Rattle.std.specs.Prelude.{pos, negsuc, Option, Some, None, is_some, option_map}
use Rattle.std.specs.Prelude.{option_and_then, codes, if◌then◌else◌}
use Rattle.fp_operators.specs.Data.{Data, null, boolean, whole, text, list, object}
use Rattle.fp_operators.specs.Path.{step_to, found_or}
use Rattle.fp_operators.specs.Share.{place_among}
use Rattle.fp_machine.specs.Rule as tree
use Rattle.fp_machine.specs.Rule.{Rule, Rules, no_rules, rule}
use Rattle.fp_machine.specs.Numbers.{GREATEST_WEIGHT}

abbrev pub text_in : Data → Option (List ℕ)
text_in null = None
text_in (boolean b) = None
text_in (whole z) = None
text_in (text s) = Some s
text_in (list ds) = None
text_in (object ms) = None

-- a text, as the name that it is
abbrev pub name_in : Data → Option Data
name_in null = None
name_in (boolean b) = None
name_in (whole z) = None
name_in (text s) = Some (text s)
name_in (list ds) = None
name_in (object ms) = None

-- a whole number that may be a weight
abbrev pub weight_in : Data → Option ℕ
weight_in null = None
weight_in (boolean b) = None
weight_in (whole (pos n)) = if nat_le n GREATEST_WEIGHT then Some n else None
weight_in (whole (negsuc n)) = None
weight_in (text s) = None
weight_in (list ds) = None
weight_in (object ms) = None

-- what a literal stands for
abbrev pub literal_in : Rule → Option Data
literal_in (tree.literal d) = Some d
literal_in (tree.list rs) = None
literal_in (tree.apply o rs) = None

-- a name and how much it weighs
abbrev pub Share : Type 0
Share = Data × ℕ

abbrev pub name_of : Rule → Option Data
name_of r = option_and_then name_in (literal_in r)

abbrev pub weight_of : Rule → Option ℕ
weight_of r = option_and_then weight_in (literal_in r)

-- a literal text alone weighs one; behind it may stand another weight, a literal too
abbrev pub share_of_items : Rules → Option Share
share_of_items no_rules = None
share_of_items (rule name no_rules) = option_map (λ s. (s, 1)) (name_of name)
share_of_items (rule name (rule weight no_rules)) =
    option_and_then (λ s. option_map (λ w. (s, w)) (weight_of weight)) (name_of name)
share_of_items (rule name (rule weight (rule more rs))) = None

-- the share that a pair writes
abbrev pub share_of : Rule → Option Share
share_of (tree.literal d) = None
share_of (tree.list rs) = share_of_items rs
share_of (tree.apply o rs) = None

abbrev pub is_list : Rule → Bool
is_list (tree.literal d) = false
is_list (tree.list rs) = true
is_list (tree.apply o rs) = false

-- the arguments behind the bucketing rule, which is the first one where that is no list
abbrev pub pairs_of : Rules → Rules
pairs_of no_rules = no_rules
pairs_of (rule r rs) = if is_list r then rule r rs else rs

-- the weights of pairs, added to a sum; none where one is no pair
abbrev pub total_after : ℕ → Rules → Option ℕ
total_after sum no_rules = Some sum
total_after sum (rule r rs) = option_and_then (λ s. total_after (sum + s.1) rs) (share_of r)

abbrev pub within_limit : Option ℕ → Option ℕ
within_limit None = None
within_limit (Some n) = if nat_le n GREATEST_WEIGHT then Some n else None

-- the total weight of pairs, where they are pairs and it isn't too much
abbrev pub total_of : Rules → Option ℕ
total_of rs = within_limit (total_after 0 rs)

abbrev pub is_any : Rules → Bool
is_any no_rules = false
is_any (rule r rs) = true

-- the arguments of `fractional`: one pair or more, behind a rule or not
abbrev pub is_split : Rules → Bool
is_split rs = is_any (pairs_of rs) && is_some (total_of (pairs_of rs))

-- the first share whose weight, with those before it, is above the place
abbrev pub share_at : ℕ → ℕ → Rules → Option Data
share_at place sum no_rules = None
share_at place sum (rule r rs) =
    option_and_then
    (λ s. if nat_lt place (sum + s.1) then Some s.0 else share_at place (sum + s.1) rs)
    (share_of r)

-- which of the pairs the key falls to
abbrev pub chosen : Rules → List ℕ → Option Data
chosen pairs key =
    option_and_then (λ total. share_at (place_among total key) 0 pairs) (total_of pairs)

abbrev pub flag_key : Data → Option (List ℕ)
flag_key root =
    option_and_then text_in
    (option_and_then (step_to (codes "flagKey")) (step_to (codes "$flagd") root))

abbrev pub targeting_key : Data → Option (List ℕ)
targeting_key root = option_and_then text_in (step_to (codes "targetingKey") root)

-- the flag's key followed by the targeting key
abbrev pub own_key : Data → Option (List ℕ)
own_key root = option_and_then (λ f. option_map (λ t. f ++ t) (targeting_key root)) (flag_key root)

-- the text that is hashed: the bucketing rule's result, where there is such a rule
abbrev pub key_of : Data → Rules → List Data → Option (List ℕ)
key_of root no_rules ds = None
key_of root (rule r rs) [] = None
key_of root (rule r rs) (d ∷ ds) = if is_list r then own_key root else text_in d

-- what `fractional` gives for its arguments and their results
abbrev pub split_value : Data → Rules → List Data → Data
split_value root rs ds =
    found_or null (option_and_then (chosen (pairs_of rs)) (key_of root rs ds))

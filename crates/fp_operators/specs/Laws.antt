-- What holds of the operators at all data. A function of the module `laws` proves each.
use Rattle.std.specs.Prelude.{◌≡◌, ◌≢◌, ◌↔◌, ⊤, ℕ, ◌<◌, ℤ, pos, ◌+ℤ◌, ◌*ℤ◌, ◌≤ℤ◌, List, [], ◌∷◌}
use Rattle.std.specs.Prelude.{◌++◌, Bool, true, false, not, ◌&&◌, ◌||◌, Some, is_some, option_map}
use Rattle.std.specs.Prelude.{FitsSigned, unsigned_abs}
use Rattle.std.specs.Int.{w64}
use Rattle.std.specs.Fmt.{signed_decimal}
use Rattle.std.specs.Ordering.{ordering_reverse, is_lt}
use Rattle.semver.specs.Parse.{Parts}
use Rattle.semver.specs.Grammar.{IsValid}
use Rattle.semver.specs.Identifiers.{parts_text}
use Rattle.fp_operators.specs.Data.{Data, null, boolean, whole, text, list, object}
use Rattle.fp_operators.specs.Numeral.{whole_number_of}
use Rattle.fp_operators.specs.Equality.{strict_equality, loose_equality}
use Rattle.fp_operators.specs.Order.{order, is_below, is_at_most}
use Rattle.fp_operators.specs.Arithmetic.{remainder_of}
use Rattle.fp_operators.specs.Text.{is_part, has_prefix, has_suffix}
use Rattle.fp_operators.specs.Version.{without_v, with_zero_groups, version_of, precedence, holds}

-- neither a list nor an object
abbrev pub IsScalar : Data → Type 0
IsScalar null = ⊤
IsScalar (boolean b) = ⊤
IsScalar (whole z) = ⊤
IsScalar (text s) = ⊤
IsScalar (list ds) = ⊥
IsScalar (object ms) = ⊥

-- `===` says that two scalars are one
abbrev pub StrictIsSameness : Type 0
StrictIsSameness = (a b : Data) → (strict_equality a b ≡ true) ↔ (IsScalar a × (a ≡ b))

abbrev pub StrictImpliesLoose : Type 0
StrictImpliesLoose = (a b : Data) → strict_equality a b ≡ true → loose_equality a b ≡ true

abbrev pub LooseIsSymmetric : Type 0
LooseIsSymmetric = (a b : Data) → loose_equality a b ≡ loose_equality b a

-- the order of two data, seen from the other one
abbrev pub OrderReverses : Type 0
OrderReverses = (a b : Data) → order b a ≡ option_map ordering_reverse (order a b)

abbrev pub exactly_one : Bool → Bool → Bool → Bool
exactly_one true p q = not p && not q
exactly_one false true q = not q
exactly_one false false q = q

-- of two data that have an order, one is below the other, or they are equal, and never two of these
abbrev pub OrderIsTotal : Type 0
OrderIsTotal = (a b : Data) → is_some (order a b) ≡ true
    → exactly_one (is_below a b) (loose_equality a b) (is_below b a) ≡ true

-- numbers among themselves and texts among themselves have an order
abbrev pub NumbersAreOrdered : Type 0
NumbersAreOrdered = (x y : ℤ) → is_some (order (whole x) (whole y)) ≡ true

abbrev pub TextsAreOrdered : Type 0
TextsAreOrdered = (s t : List ℕ) → is_some (order (text s) (text t)) ≡ true

abbrev pub NumbersAscend : Type 0
NumbersAscend = (x y z : ℤ) → is_below (whole x) (whole y) ≡ true
    → is_below (whole y) (whole z) ≡ true → is_below (whole x) (whole z) ≡ true

abbrev pub TextsAscend : Type 0
TextsAscend = (s t u : List ℕ) → is_below (text s) (text t) ≡ true
    → is_below (text t) (text u) ≡ true → is_below (text s) (text u) ≡ true

abbrev pub AtMostIsBelowOrEqual : Type 0
AtMostIsBelowOrEqual = (a b : Data) → is_some (order a b) ≡ true
    → is_at_most a b ≡ (is_below a b || loose_equality a b)

-- a number is read back from its decimal text
abbrev pub DecimalsReadBack : Type 0
DecimalsReadBack = (z : ℤ) → FitsSigned w64 z → whole_number_of (signed_decimal z) ≡ Some z

-- what a division leaves that rounds towards zero
pub record IsRemainder (x y r : ℤ) : Type 0 where
  pub divides : (q : ℤ) × (q *ℤ y +ℤ r ≡ x)
  pub smaller : unsigned_abs r < unsigned_abs y
  pub not_negative : pos 0 ≤ℤ x → pos 0 ≤ℤ r
  pub not_positive : x ≤ℤ pos 0 → r ≤ℤ pos 0

abbrev pub RemaindersAreExact : Type 0
RemaindersAreExact = (x y : ℤ) → y ≢ pos 0
    → (r : ℤ) × (remainder_of (whole x) (whole y) ≡ whole r) × IsRemainder x y r

abbrev pub PartsStandInside : Type 0
PartsStandInside = (s t : List ℕ) → (is_part (text s) (text t) ≡ true)
    ↔ ((before : List ℕ) × (after : List ℕ) × (t ≡ before ++ (s ++ after)))

abbrev pub PrefixesStandFirst : Type 0
PrefixesStandFirst =
    (s t : List ℕ) → (has_prefix (text s) (text t) ≡ true) ↔ ((after : List ℕ) × (s ≡ t ++ after))

abbrev pub SuffixesStandLast : Type 0
SuffixesStandLast =
    (s t : List ℕ) → (has_suffix (text s) (text t) ≡ true) ↔ ((before : List ℕ) × (s ≡ before ++ t))

-- a text is a version where, without its `v` and filled up, it is the text of valid parts
abbrev pub VersionsFollowTheGrammar : Type 0
VersionsFollowTheGrammar = (bs : List ℕ) (p : Parts)
    → (version_of bs ≡ Some p) ↔ (IsValid p × (parts_text p ≡ with_zero_groups (without_v bs)))

-- two versions that differ in build metadata alone
pub record SameButBuild (p q : Parts) : Type 0 where
  pub major : p.0 ≡ q.0
  pub minor : p.1 ≡ q.1
  pub patch : p.2 ≡ q.2
  pub pre_release : p.3 ≡ q.3

abbrev pub BuildIsIgnored : Type 0
BuildIsIgnored = (op : List ℕ) (p q r : Parts) → SameButBuild p q
    → (holds op p r ≡ holds op q r) × (holds op r p ≡ holds op r q)

abbrev pub PreReleasesComeFirst : Type 0
PreReleasesComeFirst =
    (major minor patch b : ℕ) (bs build other : List ℕ) → is_lt
    (precedence (major, minor, patch, b ∷ bs, build) (major, minor, patch, [], other)) ≡ true

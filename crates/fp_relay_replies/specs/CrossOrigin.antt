-- What pages of other origins are allowed.
use Rattle.std.specs.Prelude.{ℕ, List, [], ◌∷◌, ◌++◌, ◌||◌, Bool, true, false, not}
use Rattle.std.specs.Prelude.{Option, Some, None, bytes_eq, codes, if◌then◌else◌}
use Rattle.http1.specs.Fields.{Header}
use Rattle.fp_relay_replies.specs.declared.cross_origin.Allowance.{Allowance}
use Rattle.fp_relay_replies.specs.declared.cross_origin.Allowance.TheVariants.{Every, Only}

-- what is allowed to a page: what is to every one, or what is to those of its origin
pub data Allowed : Type 0 where
  every : Allowed
  only : List ℕ → Allowed

abbrev pub allowance_seen : Allowance → Allowed
allowance_seen Every = every
allowance_seen (Only origin) = only origin.now

-- a text is among these
abbrev pub lists : List (List ℕ) → List ℕ → Bool
lists [] text = false
lists (listed ∷ more) text = bytes_eq listed text || lists more text

-- what is allowed to this origin alone
abbrev pub allowed_by_name : List (List ℕ) → Option (List ℕ) → Option Allowed
allowed_by_name origins None = None
allowed_by_name origins (Some origin) = if lists origins origin then Some (only origin) else None

-- a star among the origins stands for every one, whoever asks: a cache may hand on what it is told
abbrev pub allowed : List (List ℕ) → Option (List ℕ) → Option Allowed
allowed origins asks = if lists origins (codes "*") then Some every
    else allowed_by_name origins asks

-- what is allowed depends on the origin of who asks: some are listed, and no star
abbrev pub are_told_apart : List (List ℕ) → Bool
are_told_apart [] = false
are_told_apart (first ∷ more) = not (lists (first ∷ more) (codes "*"))

-- fields, and one more
abbrev pub and_one : List Header → List ℕ → List ℕ → List Header
and_one fields name value = fields ++ (name, value) ∷ []

abbrev pub and_exposing : List Header → List Header
and_exposing fields =
    and_one fields (codes "access-control-expose-headers") (codes "etag, flag-revision")

-- fields, and those that tell a page what is allowed to it
abbrev pub and_allowing : List Header → Option Allowed → List Header
and_allowing fields None = fields
and_allowing fields (Some every) =
    and_exposing (and_one fields (codes "access-control-allow-origin") (codes "*"))
and_allowing fields (Some (only origin)) =
    and_exposing (and_one fields (codes "access-control-allow-origin") origin)

-- fields, and the one that tells caches where they depend on the origin of who asks
abbrev pub and_varying : List Header → Bool → List Header
and_varying fields true = and_one fields (codes "vary") (codes "origin")
and_varying fields false = fields

-- fields, and those that tell it what it may ask
abbrev pub and_leave : List Header → List Header
and_leave fields = and_one (and_one (and_one fields
    (codes "access-control-allow-methods") (codes "POST"))
    (codes "access-control-allow-headers")
    (codes "content-type, if-none-match, authorization, x-api-key"))
    (codes "access-control-max-age") (codes "86400")

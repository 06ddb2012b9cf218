-- Pages, the steps between them, and the rule over what is published and
-- what each seat knows of it.
use Rattle.std.specs.Prelude.{◌≡◌, ℕ, List, Option, None, Some}
use mathlib.Core.Option.{some}
use lib.ListN.{get_elem?}
use Rattle.fp_edit.specs.Admits.{next}
use Rattle.fp_edit.specs.Edits.{Change}
use Rattle.fp_edit.specs.Following.{change_of}
use Rattle.fp_edit.specs.Log.{after_all}
use Rattle.fp_group_commit.specs.Tokens.{FrontState, front_set}
use Rattle.fp_publish.specs.Fronts.{Begins}
use Rattle.fp_publish.specs.declared.page.Page.{Page}
use Rattle.fp_publish.specs.declared.page.Step.{Step}
use Rattle.fp_publish.specs.declared.page.Step.TheVariants.{Change as takes, Settled, Whole}

-- the set is the one that the front leads to
abbrev pub IsConsistent : Page → Type 0
IsConsistent p = p.set ≡ front_set p.front

-- the page that stands for a front
abbrev pub page_at : FrontState → Page
page_at f = record { set = front_set f; front = f }

-- the page with these changes taken in, and its front as before
abbrev pub with_changes : Page → List Change → Page
with_changes p cs = record { set = after_all p.set cs; front = p.front }

abbrev pub page_after : Page → Step → Page
page_after p (takes edit) = record { set = next p.set (change_of edit); front = p.front }
page_after p (Settled front) = record { set = p.set; front = front }
page_after p (Whole set front) = record { set = set; front = front }

-- what a seat knows, if anything, begins this
abbrev pub IfKnownBegins : Option FrontState → FrontState → Type 0
IfKnownBegins None g = Unit {0}
IfKnownBegins (Some f) g = Begins f g

-- the rule: what is published stands for a front, which goes on from all that any seat knows
abbrev pub KeepsFronts : Page → List (Option FrontState) → Type 0
KeepsFronts p seats = IsConsistent p
    × ((seat : ℕ) (known : Option FrontState) → get_elem? seats seat ≡ some known
    → IfKnownBegins known p.front)

-- a step of a seat from one published page to the next: what it knew begins the first, and
-- then it knows the second
abbrev pub Sees : Option FrontState → Page → Page → Option FrontState → Type 0
Sees knew before after knows = IfKnownBegins knew before.front × IsConsistent after
    × (knows ≡ Some after.front)

-- What is read of lists and objects, one by one.
use Rattle.std.proofs.Common.{◌≡◌, ◌+◌, ℕ, List, [], ◌∷◌, ◌++◌, Bool, true, false, refl, sym, ap}
use Rattle.std.proofs.Common.{subst, ◌∙◌, arith}
use Rattle.std.proofs.Common.{append_assoc}
use Rattle.json.specs.Print.{quoted}
use Rattle.serde_json.specs.Data.{Data, object, Items, no_items, item, Members, no_members}
use Rattle.serde_json.specs.Data.{member}
use Rattle.serde_json.specs.Written.{comma_if, compact_text, items_text, members_text}
use Rattle.fp_base.specs.Places.{AreBefore}
use Rattle.fp_base.specs.Sorted.{IsSorted}
use Rattle.fp_base.specs.TreeView.{Entry, tree_view, tree_members}
use Rattle.fp_base.specs.declared.tree.Tree.{Tree}
use Rattle.fp_base.proofs.Gatherings.{put-at_end}
use Rattle.fp_base.proofs.Read.{items_before}
use Rattle.fp_base.proofs.Sorted.{sorted-put}
use Rattle.fp_canonical.specs.Reads.{Reads, ReadsItems, ReadsMembers, is_some_there}

-- ---- items

pub items-more : (ts : List Tree) (t : Tree) (rest : Items) → items_before (ts ++ t ∷ []) rest ≡ items_before ts (item (tree_view t) rest)
items-more [] t rest = refl
items-more (u ∷ ts) t rest = ap (item (tree_view u)) (items-more ts t rest)

pub item-read : (limit : ℕ) (later : Bool) (d : Data) (ds : Items) (one two three left : List ℕ) → one ≡ comma_if later ++ two →
    Reads limit d two three → ReadsItems limit true ds three left → ReadsItems limit later (item d ds) one left
item-read limit later d ds one two three left same first rest = record {
  spelled = same ∙ ap (λ xs. comma_if later ++ xs)
      (first.spelled ∙ ap (λ xs. compact_text d ++ xs) rest.spelled ∙ sym (append_assoc (compact_text d) (items_text true ds) left))
      ∙ sym (append_assoc (comma_if later) (compact_text d ++ items_text true ds) left);
  ordered = (first.ordered, rest.ordered);
  whole = rw (first.whole, rest.whole) refl;
  flat = omega (arith, first.flat, rest.flat);
}

pub no-item-read : (limit : ℕ) (later : Bool) (text left : List ℕ) → text ≡ 93 ∷ left → ReadsItems limit later no_items text left
no-item-read limit later text left same = record { spelled = same; ordered = tt; whole = refl; flat = omega arith }

-- ---- members

abbrev pub members_before : List Entry → Members → Members
members_before [] rest = rest
members_before (m ∷ ms) rest = member m.0.now (tree_view m.1) (members_before ms rest)

pub members-all : (ms : List Entry) → members_before ms no_members ≡ tree_members ms
members-all [] = refl
members-all (m ∷ ms) = ap (member m.0.now (tree_view m.1)) (members-all ms)

pub members-more : (ms : List Entry) (m : Entry) (rest : Members) →
    members_before (ms ++ m ∷ []) rest ≡ members_before ms (member m.0.now (tree_view m.1) rest)
members-more [] m rest = refl
members-more (n ∷ ms) m rest = ap (member n.0.now (tree_view n.1)) (members-more ms m rest)

pub member-read : (limit : ℕ) (later : Bool) (k : List ℕ) (d : Data) (ms : Members) (one two three left : List ℕ) →
    one ≡ comma_if later ++ (quoted k ++ 58 ∷ two) → Reads limit d two three → ReadsMembers limit true ms three left →
    ReadsMembers limit later (member k d ms) one left
member-read limit later k d ms one two three left same first rest = record {
  spelled = same ∙ ap (λ xs. comma_if later ++ xs)
      (ap (λ xs. quoted k ++ 58 ∷ xs)
      (first.spelled ∙ ap (λ xs. compact_text d ++ xs) rest.spelled ∙ sym (append_assoc (compact_text d) (members_text true ms) left))
      ∙ sym (append_assoc (quoted k) (58 ∷ (compact_text d ++ members_text true ms)) left))
      ∙ sym (append_assoc (comma_if later) (quoted k ++ 58 ∷ (compact_text d ++ members_text true ms)) left);
  ordered = (first.ordered, rest.ordered);
  whole = rw (first.whole, rest.whole) refl;
  flat = omega (arith, first.flat, rest.flat);
}

pub no-member-read : (limit : ℕ) (later : Bool) (text left : List ℕ) → text ≡ 125 ∷ left → ReadsMembers limit later no_members text left
no-member-read limit later text left same = record { spelled = same; ordered = tt; whole = refl; flat = omega arith }

pub object-read : (limit : ℕ) (ms : Members) (one two left : List ℕ) → one ≡ 123 ∷ two → IsSorted ms →
    ReadsMembers limit false ms two left → Reads (limit + 1) (object ms) one left
object-read limit ms one two left same sorted r = record {
  spelled = same ∙ ap (λ xs. 123 ∷ xs) r.spelled;
  ordered = (sorted, r.ordered);
  whole = r.whole;
  flat = omega (arith, r.flat);
}

pub is_later : (ms : List Entry) (m : Entry) → is_some_there (ms ++ m ∷ []) ≡ true
is_later [] m = refl
is_later (n ∷ ms) m = refl

-- ---- a loop over members

-- what is read of the rest is read, behind those in front, of all
abbrev pub AreReadBehind : ℕ → Bool → (Members → Members) → List ℕ → List ℕ → Type 0
AreReadBehind limit later front all rest =
    (more : Members) (left : List ℕ) → ReadsMembers limit later more rest left → ReadsMembers limit false (front more) all left

-- with one more in front
pub read-behind : (limit : ℕ) (ms : List Entry) (front after : Members → Members) (all one two three : List ℕ) (m : Entry) (d : Data)
    (new : List Entry) → AreReadBehind limit (is_some_there ms) front all one → new ≡ ms ++ m ∷ [] →
    ((more : Members) → after more ≡ front (member m.0.now d more)) →
    one ≡ comma_if (is_some_there ms) ++ (quoted m.0.now ++ 58 ∷ two) → Reads limit d two three →
    AreReadBehind limit (is_some_there new) after all three
read-behind limit ms front after all one two three m d new so_far pushed on named read more left rest =
    subst (λ xs. ReadsMembers limit false xs all left) (sym (on more))
    (so_far (member m.0.now d more) left
    (member-read limit (is_some_there ms) m.0.now d more one two three left named read
    (subst (λ b. ReadsMembers limit b more three left) (ap is_some_there pushed ∙ is_later ms m) rest)))

abbrev pub AreReadSoFar : ℕ → List Entry → List ℕ → List ℕ → Type 0
AreReadSoFar limit ms all rest = AreReadBehind limit (is_some_there ms) (members_before ms) all rest

module _ (limit : ℕ) (ms : List Entry) (all one : List ℕ) (so_far : AreReadSoFar limit ms all one) where
  pub read-on : (m : Entry) (two three : List ℕ) (new : List Entry) → new ≡ ms ++ m ∷ [] →
      one ≡ comma_if (is_some_there ms) ++ (quoted m.0.now ++ 58 ∷ two) → Reads limit (tree_view m.1) two three →
      AreReadSoFar limit new all three
  read-on m two three new pushed named read =
      read-behind limit ms (members_before ms) (members_before new) all one two three m (tree_view m.1) new so_far pushed
      (λ more. ap (λ es. members_before es more) pushed ∙ members-more ms m more) named read

  pub read-end : (left : List ℕ) → one ≡ 125 ∷ left → ReadsMembers limit false (tree_members ms) all left
  read-end left end = subst (λ xs. ReadsMembers limit false xs all left) (members-all ms)
      (so_far no_members left (no-member-read limit (is_some_there ms) one left end))

pub sorted-on : (ms : List Entry) (m : Entry) (new : List Entry) → IsSorted (tree_members ms) → AreBefore m.0.now ms → new ≡ ms ++ m ∷ [] →
    IsSorted (tree_members new)
sorted-on ms m new sorted behind pushed =
    subst IsSorted (sym (put-at_end ms new m behind pushed)) (sorted-put m.0.now (tree_view m.1) (tree_members ms) sorted)

-- What comes next of lists and objects that can be read.
use Rattle.std.proofs.Common.{◌≡◌, ◌≢◌, ◌<◌, ◌-◌, ℕ, List, [], ◌∷◌, ◌++◌, Bool, true, false, get_or}
use Rattle.std.proofs.Common.{drop, Option, Result, Some, None, Ok, Err, inl, inr, ◌⊎◌, Less}
use Rattle.std.proofs.Common.{nat_cmp, refl, sym, ap, subst, ◌∙◌, arith}
use Rattle.std.proofs.Common.{append_assoc}
use Rattle.std.proofs.lemmas.Bool.{and_parts}
use Rattle.std.specs.Bool.{⊤}
use Rattle.std.specs.Prelude.{MatchOption, MatchResult}
use Rattle.std.specs.Cmp.Lexicographic.{slice_cmp}
use Rattle.json.specs.Print.{quoted}
use Rattle.serde_json.specs.Data.{Data, null, boolean, number, string, array, object, Items}
use Rattle.serde_json.specs.Data.{no_items, item, Members, no_members, member, depth}
use Rattle.serde_json.specs.Written.{comma_if, compact_text, items_text, members_text}
use Rattle.fp_base.specs.Places.{AreBefore}
use Rattle.fp_base.specs.Sorted.{IsBelow, IsSorted}
use Rattle.fp_base.specs.TreeView.{Entry}
use Rattle.fp_base.specs.Whole.{is_whole, items_whole, members_whole}
use Rattle.fp_canonical.specs.Reads.{Ends, Reads, ReadsItems, ReadsMembers, is_some_there}
use Rattle.fp_canonical.proofs.Leads.{IsLead, begins, no_bracket, starts}
use Rattle.fp_canonical.proofs.Read.{is_later}

-- ---- data, by their first byte

module _ (limit : ℕ) (text rest left : List ℕ) where
  first : (b : ℕ) (d : Data) → Reads limit d text left → text ≡ b ∷ rest → IsLead d b
  first b d r is = starts limit text left b d (λ c more also. ap (λ l. get_or l 0 0) (sym is ∙ also)) r

  -- an object's members
  pub object_here : (d : Data) → Reads limit d text left → text ≡ 123 ∷ rest →
      (ms : Members) × IsSorted ms × (0 < limit) × ReadsMembers (limit - 1) false ms rest left
  object_here null r is = absurd (omega (arith, first 123 null r is))
  object_here (boolean true) r is = absurd (omega (arith, first 123 (boolean true) r is))
  object_here (boolean false) r is = absurd (omega (arith, first 123 (boolean false) r is))
  object_here (number n) r is = absurd (omega (arith, first 123 (number n) r is))
  object_here (string s) r is = absurd (omega (arith, first 123 (string s) r is))
  object_here (array ds) r is = absurd (omega (arith, first 123 (array ds) r is))
  object_here (object ms) r is = (
    ms,
    r.ordered.0,
    omega (arith, r.flat),
    record {
      spelled = ap (drop 1) (sym is ∙ r.spelled);
      ordered = r.ordered.1;
      whole = r.whole;
      flat = omega (arith, r.flat);
    },
  )

  -- a list's items
  pub list_here : (d : Data) → Reads limit d text left → text ≡ 91 ∷ rest →
      (ds : Items) × (0 < limit) × ReadsItems (limit - 1) false ds rest left
  list_here null r is = absurd (omega (arith, first 91 null r is))
  list_here (boolean true) r is = absurd (omega (arith, first 91 (boolean true) r is))
  list_here (boolean false) r is = absurd (omega (arith, first 91 (boolean false) r is))
  list_here (number n) r is = absurd (omega (arith, first 91 (number n) r is))
  list_here (string s) r is = absurd (omega (arith, first 91 (string s) r is))
  list_here (object ms) r is = absurd (omega (arith, first 91 (object ms) r is))
  list_here (array ds) r is = (
    ds,
    omega (arith, r.flat),
    record {
      spelled = ap (drop 1) (sym is ∙ r.spelled);
      ordered = r.ordered;
      whole = r.whole;
      flat = omega (arith, r.flat);
    },
  )

-- what begins with no bracket
pub scalar_here : (limit : ℕ) (d : Data) (text left : List ℕ) → Reads limit d text left → ((rest : List ℕ) → text ≡ 123 ∷ rest → ⊥) →
    ((rest : List ℕ) → text ≡ 91 ∷ rest → ⊥) → depth d ≡ 0
scalar_here limit null text left r p q = refl
scalar_here limit (boolean b) text left r p q = refl
scalar_here limit (number n) text left r p q = refl
scalar_here limit (string s) text left r p q = refl
scalar_here limit (array ds) text left r p q = absurd (q (items_text false ds ++ left) r.spelled)
scalar_here limit (object ms) text left r p q = absurd (p (members_text false ms ++ left) r.spelled)

-- ---- items

pub record NextItem (limit : ℕ) (later : Bool) (text left : List ℕ) : Type 0 where
  pub d : Data
  pub ds : Items
  pub from : List ℕ
  pub to : List ℕ
  pub comma : text ≡ comma_if later ++ from
  pub reads : Reads limit d from to
  pub ends : Ends to
  pub on : ReadsItems limit true ds to left

items_end : (ds : Items) (left : List ℕ) → Ends (items_text true ds ++ left)
items_end no_items left = λ h. omega arith
items_end (item d ds) left = λ h. omega (arith, h)

pub items_next : (limit : ℕ) (later : Bool) (ds : Items) (text left : List ℕ) → ReadsItems limit later ds text left →
    (text ≡ 93 ∷ left) ⊎ NextItem limit later text left
items_next limit later no_items text left r = inl r.spelled
items_next limit later (item d ds) text left r =
    let both = and_parts (is_whole d) (items_whole ds) r.whole in
    inr record {
      d = d;
      ds = ds;
      from = compact_text d ++ (items_text true ds ++ left);
      to = items_text true ds ++ left;
      comma = r.spelled ∙ append_assoc (comma_if later) (compact_text d ++ items_text true ds) left
          ∙ ap (λ xs. comma_if later ++ xs) (append_assoc (compact_text d) (items_text true ds) left);
      reads = record { spelled = refl; ordered = r.ordered.0; whole = both.0; flat = omega (arith, r.flat) };
      ends = items_end ds left;
      on = record { spelled = refl; ordered = r.ordered.1; whole = both.1; flat = omega (arith, r.flat) };
    }

-- by whether one was found
module _ {E : Type 0} (limit : ℕ) (later : Bool) (text left : List ℕ) (r : Result Bool E) where
  pub item_here : r ≡ Ok true → ((left : List ℕ) → text ≡ 93 ∷ left → r ≡ Ok false) → (text ≡ 93 ∷ left) ⊎ NextItem limit later text left →
      NextItem limit later text left
  item_here some ended (inl end) = let none = ended left end in absurd (cc)
  item_here some ended (inr n) = n

  pub item_begins : ((byte : ℕ) (left : List ℕ) → byte ≢ 93 → text ≡ comma_if later ++ byte ∷ left → r ≡ Ok true) →
      NextItem limit later text left → r ≡ Ok true
  item_begins taken n =
      let b = begins limit n.d n.from n.to n.reads in
      taken b.byte b.bytes (no_bracket n.d b.byte b.lead) (n.comma ∙ ap (λ xs. comma_if later ++ xs) b.begins)

  pub item_refused : (e : E) → r ≡ Err e → ((byte : ℕ) (left : List ℕ) → byte ≢ 93 → text ≡ comma_if later ++ byte ∷ left → r ≡ Ok true) →
      ((left : List ℕ) → text ≡ 93 ∷ left → r ≡ Ok false) → (text ≡ 93 ∷ left) ⊎ NextItem limit later text left → ⊥
  item_refused e not taken ended (inl end) = let none = ended left end in cc
  item_refused e not taken ended (inr n) = let some = item_begins taken n in cc

  pub items_over : r ≡ Ok false → ((byte : ℕ) (left : List ℕ) → byte ≢ 93 → text ≡ comma_if later ++ byte ∷ left → r ≡ Ok true) →
      (text ≡ 93 ∷ left) ⊎ NextItem limit later text left → text ≡ 93 ∷ left
  items_over none taken (inl end) = end
  items_over none taken (inr n) = let some = item_begins taken n in absurd (cc)

-- ---- members

-- of these members, each comes behind those found
abbrev pub AreBehind : List Entry → Members → Type 0
AreBehind found no_members = ⊤
AreBehind found (member k d ms) = AreBefore k found × AreBehind found ms

before_on : (found : List Entry) (m : Entry) (k : List ℕ) → AreBefore k found → slice_cmp nat_cmp m.0.now k ≡ Less →
    AreBefore k (found ++ m ∷ [])
before_on [] m k h less = (less, tt)
before_on (n ∷ found) m k h less = (h.0, before_on found m k h.1 less)

behind_on : (found : List Entry) (m : Entry) (k : List ℕ) (ms : Members) → m.0.now ≡ k → IsBelow k ms → AreBehind found ms →
    AreBehind (found ++ m ∷ []) ms
behind_on found m k no_members same below h = tt
behind_on found m k (member l d ms) same below h =
    (before_on found m l h.0 (ap (λ n. slice_cmp nat_cmp n l) same ∙ below.0), behind_on found m k ms same below.1 h.1)

-- members that are left, behind those found
pub record AreLeft (limit : ℕ) (found : List Entry) (rest left : List ℕ) : Type 0 where
  pub ms : Members
  pub reads : ReadsMembers limit (is_some_there found) ms rest left
  pub sorted : IsSorted ms
  pub behind : AreBehind found ms

pub record NextMember (limit : ℕ) (found : List Entry) (rest left : List ℕ) : Type 0 where
  pub name : List ℕ
  pub d : Data
  pub from : List ℕ
  pub to : List ℕ
  pub named : rest ≡ comma_if (is_some_there found) ++ (quoted name ++ 58 ∷ from)
  pub before : AreBefore name found
  pub reads : Reads limit d from to
  pub ends : Ends to
  pub on : (m : Entry) → m.0.now ≡ name → AreLeft limit (found ++ m ∷ []) to left

members_end : (ms : Members) (left : List ℕ) → Ends (members_text true ms ++ left)
members_end no_members left = λ h. omega arith
members_end (member k d ms) left = λ h. omega (arith, h)

none_behind : (ms : Members) → AreBehind [] ms
none_behind no_members = tt
none_behind (member k d ms) = (tt, none_behind ms)

pub all_left : (limit : ℕ) (ms : Members) (text left : List ℕ) → ReadsMembers limit false ms text left → IsSorted ms →
    AreLeft limit [] text left
all_left limit ms text left r sorted = record { ms = ms; reads = r; sorted = sorted; behind = none_behind ms }

members_next_of : (limit : ℕ) (found : List Entry) (ms : Members) (rest left : List ℕ) →
    ReadsMembers limit (is_some_there found) ms rest left → IsSorted ms → AreBehind found ms →
    (rest ≡ 125 ∷ left) ⊎ NextMember limit found rest left
members_next_of limit found no_members rest left r sorted behind = inl r.spelled
members_next_of limit found (member k d ms) rest left r sorted behind =
    let later = is_some_there found in
    let both = and_parts (is_whole d) (members_whole ms) r.whole in
    inr record {
      name = k;
      d = d;
      from = compact_text d ++ (members_text true ms ++ left);
      to = members_text true ms ++ left;
      named = r.spelled ∙ append_assoc (comma_if later) (quoted k ++ 58 ∷ (compact_text d ++ members_text true ms)) left
          ∙ ap (λ xs. comma_if later ++ xs) (append_assoc (quoted k) (58 ∷ (compact_text d ++ members_text true ms)) left
          ∙ ap (λ xs. quoted k ++ 58 ∷ xs) (append_assoc (compact_text d) (members_text true ms) left));
      before = behind.0;
      reads = record { spelled = refl; ordered = r.ordered.0; whole = both.0; flat = omega (arith, r.flat) };
      ends = members_end ms left;
      on = λ m same. record {
        ms = ms;
        reads = subst (λ b. ReadsMembers limit b ms (members_text true ms ++ left) left) (sym (is_later found m))
            (record { spelled = refl; ordered = r.ordered.1; whole = both.1; flat = omega (arith, r.flat) });
        sorted = sorted.1;
        behind = behind_on found m k ms same sorted.0 behind.1;
      };
    }

pub members_next : (limit : ℕ) (found : List Entry) (rest left : List ℕ) → AreLeft limit found rest left →
    (rest ≡ 125 ∷ left) ⊎ NextMember limit found rest left
members_next limit found rest left l = members_next_of limit found l.ms rest left l.reads l.sorted l.behind

-- by whether one was found
module _ {A E : Type 0} (limit : ℕ) (found : List Entry) (text left : List ℕ) (r : Result (Option A) E) where
  pub member_here : (a : A) → r ≡ Ok (Some a) → ((left : List ℕ) → text ≡ 125 ∷ left → r ≡ Ok None) →
      (text ≡ 125 ∷ left) ⊎ NextMember limit found text left → NextMember limit found text left
  member_here a some ended (inl end) = let none = ended left end in absurd (cc)
  member_here a some ended (inr n) = n

  -- what is taken of these members is taken of those found
  module _ (P : List ℕ → List ℕ → A → Type 0) (es : List Entry) (same : es ≡ found)
      (taken : (name left : List ℕ) → text ≡ comma_if (is_some_there es) ++ (quoted name ++ 58 ∷ left) → AreBefore name es →
      MatchResult r (λ o. MatchOption o ⊥ (P name left)) (λ _. ⊥)) where
    pub member_taken : (n : NextMember limit found text left) → MatchResult r (λ o. MatchOption o ⊥ (P n.name n.from)) (λ _. ⊥)
    member_taken n =
        taken n.name n.from (subst (λ ms. text ≡ comma_if (is_some_there ms) ++ (quoted n.name ++ 58 ∷ n.from)) (sym same) n.named)
        (subst (AreBefore n.name) (sym same) n.before)

    pub member_named : (a : A) → r ≡ Ok (Some a) → (n : NextMember limit found text left) → P n.name n.from a
    member_named a some n = subst (λ q. MatchResult q (λ o. MatchOption o ⊥ (P n.name n.from)) (λ _. ⊥)) some (member_taken n)

    pub members_over : r ≡ Ok None → (text ≡ 125 ∷ left) ⊎ NextMember limit found text left → text ≡ 125 ∷ left
    members_over none (inl end) = end
    members_over none (inr n) = absurd (subst (λ q. MatchResult q (λ o. MatchOption o ⊥ (P n.name n.from)) (λ _. ⊥)) none (member_taken n))

    pub member_refused : (e : E) → r ≡ Err e → ((left : List ℕ) → text ≡ 125 ∷ left → r ≡ Ok None) →
        (text ≡ 125 ∷ left) ⊎ NextMember limit found text left → ⊥
    member_refused e not ended (inl end) = let none = ended left end in cc
    member_refused e not ended (inr n) = subst (λ q. MatchResult q (λ o. MatchOption o ⊥ (P n.name n.from)) (λ _. ⊥)) not (member_taken n)

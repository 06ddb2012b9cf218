-- The lists and objects of a text, a turn at a time, and the data that are read off each turn.
use Rattle.std.proofs.Common.{◌≡◌, ℕ, zero, suc, ◌-◌, ◌<◌, ◌≤◌, ◌⊎◌, inl, inr, List, [], ◌∷◌, length, Option, Some}
use Rattle.std.proofs.Common.{None, option_map, option_and_then, refl, ap, ◌∙◌, arith}
use Rattle.json.specs.Token.{Token}
use Rattle.json.specs.Json as json
use Rattle.json.specs.Json.{Parse, parse_map, after_end_array, read_key, items, members, if_last}
use Rattle.json.proofs.Grammar.{items_end, items_fail, items_more, members_end, members_fail, members_more, members_no_key}
use Rattle.serde_json.specs.Data.{Data, array, object, no_items, item, Members, no_members, put}
use Rattle.serde_json.specs.Read.{of_json, of_items, of_members, converted}

-- ---- what was parsed, where it has data and where it hasn't

data-of : {A B : Type 0} (x : Option B) (a : A) (r s : List Token) (b : B) →
    option_map {U = B × List Token} (λ y. (y, r)) x ≡ Some (b, s) → (r ≡ s) × (x ≡ Some b)
data-of None a r s b h = absurd (cc)
data-of (Some y) a r s b h = let pair : (y, r) ≡ (b, s) = same (y, r) (b, s) h in (ap (λ p. p.1) pair, ap (λ p. Some p.0) pair)
  where
    same : {P : Type 0} (p q : P) → Some p ≡ Some q → p ≡ q
    same p q e = cc

parsed : {A B : Type 0} (f : A → Option B) (o : Option (A × List Token)) (b : B) (r : List Token) →
    converted f o ≡ Some (b, r) → (a : A) × (o ≡ Some (a, r)) × (f a ≡ Some b)
parsed f None b r h = absurd (cc)
parsed f (Some p) b r h = let both = data-of (f p.0) p.0 p.1 r b h in (p.0, ap (λ s. Some (p.0, s)) both.0, both.1)

no-data : {B : Type 0} (x : Option B) (r : List Token) → option_map {U = B × List Token} (λ y. (y, r)) x ≡ None → x ≡ None
no-data None r h = refl
no-data (Some y) r h = absurd (cc)

-- nothing was parsed, or what was has no data
not-parsed : {A B : Type 0} (f : A → Option B) (o : Option (A × List Token)) → converted f o ≡ None →
    (o ≡ None) ⊎ ((p : A × List Token) × (o ≡ Some p) × (f p.0 ≡ None))
not-parsed f None h = inl refl
not-parsed f (Some p) h = inr (p, refl, no-data (f p.0) p.1 h)

behind : {A B : Type 0} (g : A → B) (r : List Token) (x : Option A) →
    option_map (λ b. (b, r)) (option_map g x) ≡ parse_map g (option_map (λ a. (a, r)) x)
behind g r None = refl
behind g r (Some a) = refl

pub array-parsed : (o : Option (json.Items × List Token)) →
    converted of_json (parse_map json.array o) ≡ parse_map array (converted of_items o)
array-parsed None = refl
array-parsed (Some p) = behind array p.1 (of_items p.0)

pub object-parsed : (o : Option (json.Members × List Token)) →
    converted of_json (parse_map json.object o) ≡ parse_map object (converted (λ ms. of_members ms no_members) o)
object-parsed None = refl
object-parsed (Some p) = behind object p.1 (of_members p.0 no_members)

-- ---- items

first-item : (j : json.Json) (d : Data) (o : Option (json.Items × List Token)) → of_json j ≡ Some d →
    converted of_items (parse_map (json.item j) o) ≡ parse_map (item d) (converted of_items o)
first-item j d None e = refl
first-item j d (Some p) e = rw e (behind (item d) p.1 (of_items p.0))

bad-item : (j : json.Json) (o : Option (json.Items × List Token)) → of_json j ≡ None → converted of_items (parse_map (json.item j) o) ≡ None
bad-item j None e = refl
bad-item j (Some p) e = rw e

module _ (p : Parse json.Json) where
  pub one-item : (n : ℕ) (ts r : List Token) (d : Data) → 0 < n → after_end_array ts ≡ None → converted of_json (p ts) ≡ Some (d, r)
      → converted of_items (items p n ts) ≡ parse_map (item d) (converted of_items (items p (n - 1) r))
  one-item n ts r d some goes h =
      let j = parsed of_json (p ts) d r h in
      ap (converted of_items) (items_more p n ts r j.0 some goes j.1) ∙ first-item j.0 d (items p (n - 1) r) j.2

  pub no-item : (n : ℕ) (ts : List Token) → after_end_array ts ≡ None → converted of_json (p ts) ≡ None →
      converted of_items (items p n ts) ≡ None
  unfolding items
  no-item zero ts goes h = refl
  no-item (suc n) ts goes h =
      elim (not-parsed of_json (p ts) h) as (λ _. converted of_items (items p (suc n) ts) ≡ None) [
        | inl none ↦ ap (converted of_items) (items_fail p (suc n) ts goes none)
        | inr q ↦ ap (converted of_items) (items_more p (suc n) ts q.0.1 q.0.0 (omega arith) goes q.1) ∙
            bad-item q.0.0 (items p (suc n - 1) q.0.1) q.2
      ]

  pub end-of-items : (n : ℕ) (ts r : List Token) → length ts ≤ n → after_end_array ts ≡ Some r →
      converted of_items (items p n ts) ≡ Some (no_items, r)
  end-of-items n ts r enough closed = ap (converted of_items) (items_end p n ts r enough closed)

-- ---- members

first-member : (k : List ℕ) (j : json.Json) (d : Data) (found : Members) (o : Option (json.Members × List Token)) → of_json j ≡ Some d
    → converted (λ ms. of_members ms found) (parse_map (json.member k j) o) ≡ converted (λ ms. of_members ms (put k d found)) o
first-member k j d found None e = refl
first-member k j d found (Some p) e = rw e

bad-member : (k : List ℕ) (j : json.Json) (found : Members) (o : Option (json.Members × List Token)) →
    of_json j ≡ None → converted (λ ms. of_members ms found) (parse_map (json.member k j) o) ≡ None
bad-member k j found None e = refl
bad-member k j found (Some p) e = rw e

module _ (p : Parse json.Json) (found : Members) where
  pub one-member : (n : ℕ) (k : List ℕ) (ts s r : List Token) (d : Data) → 0 < n → read_key ts ≡ Some (Some k, s) →
      converted of_json (p s) ≡ Some (d, r)
      → converted (λ ms. of_members ms found) (members p n ts) ≡ converted (λ ms. of_members ms (put k d found)) (members p (n - 1) r)
  one-member n k ts s r d some named h =
      let j = parsed of_json (p s) d r h in
      ap (converted (λ ms. of_members ms found)) (members_more p n k ts s r j.0 some named j.1) ∙
      first-member k j.0 d found (members p (n - 1) r) j.2

  pub no-member : (n : ℕ) (k : List ℕ) (ts s : List Token) → read_key ts ≡ Some (Some k, s) →
      converted of_json (p s) ≡ None → converted (λ ms. of_members ms found) (members p n ts) ≡ None
  unfolding members
  no-member zero k ts s named h = refl
  no-member (suc n) k ts s named h =
      elim (not-parsed of_json (p s) h) as (λ _. converted (λ ms. of_members ms found) (members p (suc n) ts) ≡ None) [
        | inl none ↦ ap (converted (λ ms. of_members ms found)) (members_fail p (suc n) k ts s named none)
        | inr q ↦ ap (converted (λ ms. of_members ms found))
            (members_more p (suc n) k ts s q.0.1 q.0.0 (omega arith) named q.1) ∙
            bad-member k q.0.0 found (members p (suc n - 1) q.0.1) q.2
      ]

  pub no-name : (n : ℕ) (ts : List Token) → read_key ts ≡ None → converted (λ ms. of_members ms found) (members p n ts) ≡ None
  no-name n ts none = ap (converted (λ ms. of_members ms found)) (members_no_key p n ts none)

  pub end-of-members : (n : ℕ) (ts r : List Token) → length ts ≤ n → read_key ts ≡ Some (None, r) →
      converted (λ ms. of_members ms found) (members p n ts) ≡ Some (found, r)
  end-of-members n ts r enough closed = ap (converted (λ ms. of_members ms found)) (members_end p n ts r enough closed)

-- ---- the whole text

abbrev pub text-data : Option (json.Json × List Token) → Option Data
text-data o = option_and_then of_json (option_and_then (λ p. if_last p.0 p.1) o)

pub whole-text : (o : Option (json.Json × List Token)) (d : Data) (r : List Token) →
    converted of_json o ≡ Some (d, r) → r ≡ [] → text-data o ≡ Some d
whole-text o d r h over = let j = parsed of_json o d r h in ap text-data j.1 ∙ ap (λ s. option_and_then of_json (if_last j.0 s)) over ∙ j.2

pub text-with_more : (o : Option (json.Json × List Token)) (d : Data) (t : Token) (r ts : List Token) →
    converted of_json o ≡ Some (d, r) → r ≡ t ∷ ts → text-data o ≡ None
text-with_more o d t r ts h more = let j = parsed of_json o d r h in
    ap text-data j.1 ∙ ap (λ s. option_and_then of_json (if_last j.0 s)) more

no-end : (j : json.Json) (r : List Token) → of_json j ≡ None → option_and_then of_json (if_last j r) ≡ None
no-end j [] h = h
no-end j (t ∷ ts) h = refl

pub no-text : (o : Option (json.Json × List Token)) → converted of_json o ≡ None → text-data o ≡ None
no-text o h =
    elim (not-parsed of_json o h) as (λ _. text-data o ≡ None) [
      | inl none ↦ ap text-data none
      | inr q ↦ ap text-data q.1 ∙ no-end q.0.0 q.0.1 q.2
    ]

pub ruleset whole_texts = (no-text, text-with_more, whole-text)

pub ruleset item_turns = (no-item, end-of-items)

-- The pairs of `fractional`, as they are read from JSON and as they are kept.
use Rattle.std.proofs.Common.{◌≡◌, ◌+◌, ◌≤◌, ℕ, ℤ, pos, negsuc, List, [], ◌∷◌, ◌++◌, length, drop}
use Rattle.std.proofs.Common.{Bool, true, false, Option, None, Some, option_map, option_and_then}
use Rattle.std.proofs.Common.{unwrap_or, refl, sym, ap, ◌∙◌, subst, arith, if◌then◌else◌}
use Rattle.std.specs.Prelude.{nat_le}
use Rattle.std.proofs.lemmas.List.{append_assoc}
use Rattle.serde_json.specs.Data as json
use Rattle.serde_json.specs.Find.{as_i64}
use Rattle.fp_base.specs.TreeView.{tree_view, tree_items}
use Rattle.fp_base.specs.declared.tree.Tree.{Tree}
use Rattle.fp_operators.specs.Data.{Data, whole, text}
use Rattle.fp_operators.specs.FromJson.{whole_or_null}
use Rattle.fp_operators.specs.KeptText.{TextState}
use Rattle.fp_operators.specs.declared.datum.Datum.TheVariants as Datum
use Rattle.fp_targeting.specs.Compile.{first_of, first_unknown, items_unknown, one_more, arguments_of, rule_of, rules_from}
use Rattle.fp_machine.specs.Operators.{operator_of, allows}
use Rattle.fp_machine.specs.Rule as tree
use Rattle.fp_machine.specs.Rule.{Rule, Rules, no_rules, rule}
use Rattle.fp_machine.specs.Split.{Share, weight_in, name_of, weight_of, share_of, total_after, within_limit}
use Rattle.fp_targeting.specs.Pairs.{Written, name_written, weight_written, pair_of_items, pair_written}
use Rattle.fp_machine.specs.Table.{pair_rule, share_rule}
use Rattle.fp_machine.specs.View.{rules_of}
use Rattle.fp_machine.specs.declared.operator.Operator.{Operator}
use Rattle.fp_machine.specs.Numbers.{GREATEST_WEIGHT}
use Rattle.fp_operators.proofs.Variants.{view-Text}
use Rattle.fp_targeting.proofs.Trees.{rule_of-operator}

-- ---- the limit

-- a sum within the limit is itself
kept_if : (b : Bool) (n m : ℕ) → nat_le n GREATEST_WEIGHT ≡ b → (if b then Some n else None) ≡ Some m → within_limit (Some m) ≡ Some m
kept_if true n m e h = let same : n ≡ m = cc in rw (sym same, e) refl
kept_if false n m e h = absurd (cc)

pub kept : (n m : ℕ) → Some m ≡ within_limit (Some n) → within_limit (Some m) ≡ Some m
kept n m h = kept_if (nat_le n GREATEST_WEIGHT) n m refl (sym h)

same_if : (b : Bool) (n m : ℕ) → (if b then Some n else None) ≡ Some m → m ≡ n
same_if true n m h = cc
same_if false n m h = absurd (cc)

pub same : (n m : ℕ) → Some m ≡ within_limit (Some n) → m ≡ n
same n m h = same_if (nat_le n GREATEST_WEIGHT) n m (sym h)

further_if : (a b : Bool) (n m : ℕ) → nat_le n GREATEST_WEIGHT ≡ a → nat_le (n + m) GREATEST_WEIGHT ≡ b →
    (if a then Some n else None) ≡ None → (if b then Some (n + m) else None) ≡ None
further_if true b n m e f h = absurd (cc)
further_if false true n m e f h = absurd (grind (arith, e, f))
further_if false false n m e f h = refl

further : (n m : ℕ) → within_limit (Some n) ≡ None → within_limit (Some (n + m)) ≡ None
further n m h = further_if (nat_le n GREATEST_WEIGHT) (nat_le (n + m) GREATEST_WEIGHT) n m refl refl h

-- what is past the limit stays so
past : (n : ℕ) (rs : Rules) → within_limit (Some n) ≡ None → within_limit (total_after n rs) ≡ None
past n no_rules h = h
past n (rule r rs) h = elim (share_of r) as
    (λ o. within_limit (option_and_then (λ s. total_after (n + s.1) rs) o) ≡ None)
    [ None ↦ refl | Some s ↦ past (n + s.1) rs (further n s.1 h) ]

-- ---- what scalars write

weight-number : (o : Option ℤ) (w : ℕ) → option_and_then (λ z. weight_in (whole z)) o ≡ Some w →
    tree.literal (whole_or_null o) ≡ tree.literal (whole (pos w))
weight-number None w h = absurd (cc)
weight-number (Some (pos n)) w h = ap (λ m. tree.literal (whole (pos m))) (sym (same_if (nat_le n GREATEST_WEIGHT) n w h))
weight-number (Some (negsuc n)) w h = absurd (cc)

limit-number : (o : Option ℤ) (w : ℕ) → option_and_then (λ z. weight_in (whole z)) o ≡ Some w → weight_in (whole (pos w)) ≡ Some w
limit-number None w h = absurd (cc)
limit-number (Some (pos n)) w h = kept_if (nat_le n GREATEST_WEIGHT) n w refl h
limit-number (Some (negsuc n)) w h = absurd (cc)

-- a value that is written as a literal
record IsLiteral (d : json.Data) (x : Data) : Type 0 where
  rule : rule_of d ≡ Some (tree.literal x)
  known : first_unknown d ≡ None

literal-name : (d : json.Data) (s : List ℕ) → name_written d ≡ Some s → IsLiteral d (text s)
literal-name json.null s h = absurd (cc)
literal-name (json.boolean b) s h = absurd (cc)
literal-name (json.number n) s h = absurd (cc)
literal-name (json.string t) s h = let e : t ≡ s = cc in record { rule = ap (λ u. Some (tree.literal (text u))) e; known = refl }
literal-name (json.array ds) s h = absurd (cc)
literal-name (json.object ms) s h = absurd (cc)

literal-weight : (d : json.Data) (w : ℕ) → weight_written d ≡ Some w → IsLiteral d (whole (pos w))
literal-weight json.null w h = absurd (cc)
literal-weight (json.boolean b) w h = absurd (cc)
literal-weight (json.number n) w h = record { rule = ap Some (weight-number (as_i64 n) w h); known = refl }
literal-weight (json.string t) w h = absurd (cc)
literal-weight (json.array ds) w h = absurd (cc)
literal-weight (json.object ms) w h = absurd (cc)

limit-weight : (d : json.Data) (w : ℕ) → weight_written d ≡ Some w → weight_in (whole (pos w)) ≡ Some w
limit-weight json.null w h = absurd (cc)
limit-weight (json.boolean b) w h = absurd (cc)
limit-weight (json.number n) w h = limit-number (as_i64 n) w h
limit-weight (json.string t) w h = absurd (cc)
limit-weight (json.array ds) w h = absurd (cc)
limit-weight (json.object ms) w h = absurd (cc)

-- ---- what is no part of a pair, and no pair

record IsOther (o : Option Rule) : Type 0 where
  no_name : option_and_then name_of o ≡ None
  no_weight : option_and_then weight_of o ≡ None
  no_share : option_and_then share_of o ≡ None

other_if : (b : Bool) (o : Operator) (rs : Rules) → IsOther (if b then Some (tree.apply o rs) else None)
other_if true o rs = record { no_name = refl; no_weight = refl; no_share = refl }
other_if false o rs = record { no_name = refl; no_weight = refl; no_share = refl }

other-apply : (q : Option Operator) (arguments : Option (List Rule))
    → IsOther (option_and_then (λ o. option_and_then
    (λ rs. if allows o (rules_of rs) then Some (tree.apply o (rules_of rs)) else None) arguments) q)
other-apply None arguments = record { no_name = refl; no_weight = refl; no_share = refl }
other-apply (Some o) None = record { no_name = refl; no_weight = refl; no_share = refl }
other-apply (Some o) (Some rs) = other_if (allows o (rules_of rs)) o (rules_of rs)

other-object : (ms : json.Members) → IsOther (rule_of (json.object ms))
other-object json.no_members = record { no_name = refl; no_weight = refl; no_share = refl }
other-object (json.member k d json.no_members) = subst IsOther (sym (rule_of-operator k d)) (other-apply (operator_of k) (arguments_of d))
other-object (json.member k d (json.member l e ms)) = record { no_name = refl; no_weight = refl; no_share = refl }

list-name : (o : Option (List Rule)) → option_and_then name_of (option_map (λ rs. tree.list (rules_of rs)) o) ≡ None
list-name None = refl
list-name (Some rs) = refl

list-weight : (o : Option (List Rule)) → option_and_then weight_of (option_map (λ rs. tree.list (rules_of rs)) o) ≡ None
list-weight None = refl
list-weight (Some rs) = refl

no-name : (d : json.Data) → name_written d ≡ None → option_and_then name_of (rule_of d) ≡ None
no-name json.null h = refl
no-name (json.boolean b) h = refl
no-name (json.number n) h = elim (as_i64 n) as
    (λ o. option_and_then name_of (Some (tree.literal (whole_or_null o))) ≡ None) [ None ↦ refl | Some z ↦ refl ]
no-name (json.string t) h = absurd (cc)
no-name (json.array ds) h = list-name (rules_from ds)
no-name (json.object ms) h = (other-object ms).no_name

no_weight_number : (o : Option ℤ) → option_and_then (λ z. weight_in (whole z)) o ≡ None →
    option_and_then weight_of (Some (tree.literal (whole_or_null o))) ≡ None
no_weight_number None h = refl
no_weight_number (Some z) h = h

no-weight : (d : json.Data) → weight_written d ≡ None → option_and_then weight_of (rule_of d) ≡ None
no-weight json.null h = refl
no-weight (json.boolean b) h = refl
no-weight (json.number n) h = no_weight_number (as_i64 n) h
no-weight (json.string t) h = refl
no-weight (json.array ds) h = list-weight (rules_from ds)
no-weight (json.object ms) h = (other-object ms).no_weight

-- ---- pairs that are written

pub mapped : {A B : Type 0} (f : A → B) (o : Option A) (b : B) → option_map f o ≡ Some b → (a : A) × (o ≡ Some a) × (f a ≡ b)
mapped f None b h = absurd (cc)
mapped f (Some a) b h = let e : f a ≡ b = cc in (a, refl, e)

chained : {A B : Type 0} (f : A → Option B) (o : Option A) (b : B) → option_and_then f o ≡ Some b → (a : A) × (o ≡ Some a) × (f a ≡ Some b)
chained f None b h = absurd (cc)
chained f (Some a) b h = (a, refl, h)

-- a value that writes a pair
pub record IsPair (d : json.Data) (name : List ℕ) (weight : Option ℕ) : Type 0 where
  pub rule : rule_of d ≡ Some (pair_rule (text name) weight)
  pub known : first_unknown d ≡ None
  pub share : share_of (pair_rule (text name) weight) ≡ Some (text name, unwrap_or weight 1)

pair-alone : (d : json.Data) (s : List ℕ) → name_written d ≡ Some s → IsPair (json.array (json.item d json.no_items)) s None
pair-alone d s h =
    let l = literal-name d s h in record {
      rule = ap (λ o. option_map (λ rs. tree.list (rules_of rs)) (one_more o (Some []))) l.rule;
      known = ap (λ o. first_of o None) l.known;
      share = refl;
    }

pair-two : (d e : json.Data) (s : List ℕ) (w : ℕ) → name_written d ≡ Some s → weight_written e ≡ Some w →
    IsPair (json.array (json.item d (json.item e json.no_items))) s (Some w)
pair-two d e s w h g =
    let l = literal-name d s h in
    let m = literal-weight e w g in record {
      rule = ap (λ o. option_map (λ rs. tree.list (rules_of rs)) (one_more o (one_more (rule_of e) (Some [])))) l.rule
          ∙ ap (λ o. option_map (λ rs. tree.list (rules_of rs)) (one_more (Some (tree.literal (text s))) (one_more o (Some [])))) m.rule;
      known = ap (λ o. first_of o (first_of (first_unknown e) None)) l.known ∙ ap (λ o. first_of o None) m.known;
      share = ap (option_map (λ v. (text s, v))) (limit-weight e w g);
    }

items-pair : (ds : json.Items) (p : Written) → pair_of_items ds ≡ Some p → IsPair (json.array ds) p.0 p.1
items-pair json.no_items p h = absurd (cc)
items-pair (json.item d json.no_items) p h =
    let m = mapped (λ (n : List ℕ). let q : Written = (n, None) in q) (name_written d) p h in
    subst (λ q. IsPair (json.array (json.item d json.no_items)) q.0 q.1) m.2 (pair-alone d m.0 m.1)
items-pair (json.item d (json.item e json.no_items)) p h =
    let m = chained (λ (n : List ℕ). option_map (λ (w : ℕ). let q : Written = (n, Some w) in q) (weight_written e)) (name_written d) p h in
    let k = mapped (λ (w : ℕ). let q : Written = (m.0, Some w) in q) (weight_written e) p m.2 in
    subst (λ q. IsPair (json.array (json.item d (json.item e json.no_items))) q.0 q.1) k.2 (pair-two d e m.0 k.0 m.1 k.1)
items-pair (json.item d (json.item e (json.item f ds))) p h = absurd (cc)

pub is-pair : (d : json.Data) (p : Written) → pair_written d ≡ Some p → IsPair d p.0 p.1
is-pair json.null p h = absurd (cc)
is-pair (json.boolean b) p h = absurd (cc)
is-pair (json.number n) p h = absurd (cc)
is-pair (json.string t) p h = absurd (cc)
is-pair (json.array ds) p h = items-pair ds p h
is-pair (json.object ms) p h = absurd (cc)

unmapped : {A B : Type 0} (f : A → B) (o : Option A) → option_map f o ≡ None → o ≡ None
unmapped f None h = refl
unmapped f (Some a) h = absurd (cc)

one-none : (o : Option Rule) → option_and_then name_of o ≡ None →
    option_and_then share_of (option_map (λ rs. tree.list (rules_of rs)) (one_more o (Some []))) ≡ None
one-none None h = refl
one-none (Some r) h = ap (option_map (λ s. (s, 1))) h

unnamed : (o q : Option Rule) → option_and_then name_of o ≡ None →
    option_and_then share_of (option_map (λ rs. tree.list (rules_of rs)) (one_more o (one_more q (Some [])))) ≡ None
unnamed None q h = refl
unnamed (Some r) None h = refl
unnamed (Some r) (Some t) h = ap (option_and_then (λ s. option_map (λ w. (s, w)) (weight_of t))) h

none_of : (q : Option Data) (w : Option ℕ) → w ≡ None → option_and_then (λ s. option_map (λ v. let p : Share = (s, v) in p) w) q ≡ None
none_of None w h = refl
none_of (Some s) w h = ap (option_map (λ v. let p : Share = (s, v) in p)) h

unweighed : (o q : Option Rule) → option_and_then weight_of q ≡ None →
    option_and_then share_of (option_map (λ rs. tree.list (rules_of rs)) (one_more o (one_more q (Some [])))) ≡ None
unweighed None q h = refl
unweighed (Some r) None h = refl
unweighed (Some r) (Some t) h = none_of (name_of r) (weight_of t) h

too_many : (o q v : Option Rule) (rest : Option (List Rule)) →
    option_and_then share_of (option_map (λ rs. tree.list (rules_of rs)) (one_more o (one_more q (one_more v rest))))
    ≡ None
too_many None q v rest = refl
too_many (Some r) None v rest = refl
too_many (Some r) (Some t) None rest = refl
too_many (Some r) (Some t) (Some u) None = refl
too_many (Some r) (Some t) (Some u) (Some rs) = refl

no_two : (d e : json.Data) (n : Option (List ℕ)) (w : Option ℕ) → name_written d ≡ n → weight_written e ≡ w →
    option_and_then (λ s. option_map (λ v. let q : Written = (s, Some v) in q) w) n ≡ None →
    option_and_then share_of (rule_of (json.array (json.item d (json.item e json.no_items)))) ≡ None
no_two d e None w f g h = unnamed (rule_of d) (rule_of e) (no-name d f)
no_two d e (Some s) None f g h = unweighed (rule_of d) (rule_of e) (no-weight e g)
no_two d e (Some s) (Some w) f g h = absurd (cc)

no-items : (ds : json.Items) → pair_of_items ds ≡ None → option_and_then share_of (rule_of (json.array ds)) ≡ None
no-items json.no_items h = refl
no-items (json.item d json.no_items) h =
    one-none (rule_of d) (no-name d (unmapped (λ (n : List ℕ). let q : Written = (n, None) in q) (name_written d) h))
no-items (json.item d (json.item e json.no_items)) h = no_two d e (name_written d) (weight_written e) refl refl h
no-items (json.item d (json.item e (json.item f ds))) h = too_many (rule_of d) (rule_of e) (rule_of f) (rules_from ds)

-- a value that writes no pair is no share
pub no-pair : (d : json.Data) → pair_written d ≡ None → option_and_then share_of (rule_of d) ≡ None
no-pair json.null h = refl
no-pair (json.boolean b) h = refl
no-pair (json.number n) h = refl
no-pair (json.string t) h = refl
no-pair (json.array ds) h = no-items ds h
no-pair (json.object ms) h = (other-object ms).no_share

-- more than a name and a weight are no pair
pub items-no_pair : (ts : List Tree) → 3 ≤ length ts → None ≡ pair_of_items (tree_items ts)
items-no_pair [] h = absurd (omega arith)
items-no_pair (a ∷ []) h = absurd (omega arith)
items-no_pair (a ∷ b ∷ []) h = absurd (omega arith)
items-no_pair (a ∷ b ∷ c ∷ ts) h = refl

-- ---- pairs that are read one after the other

-- the total of a sum and the pairs that are left, where they are rules
abbrev pub total_left : ℕ → Option (List Rule) → Option ℕ
total_left sum o = option_and_then (λ rs. within_limit (total_after sum (rules_of rs))) o

pub left-none : (sum : ℕ) (o : Option Rule) (rest : Option (List Rule)) → option_and_then share_of o ≡ None →
    total_left sum (one_more o rest) ≡ None
left-none sum None rest h = refl
left-none sum (Some r) None h = refl
left-none sum (Some r) (Some rs) h = ap (λ q. within_limit (option_and_then (λ s. total_after (sum + s.1) (rules_of rs)) q)) h

pub left-more : (sum : ℕ) (r : Rule) (d : Data) (w : ℕ) (rest : Option (List Rule)) → share_of r ≡ Some (d, w) →
    total_left sum (one_more (Some r) rest) ≡ total_left (sum + w) rest
left-more sum r d w None h = refl
left-more sum r d w (Some rs) h = ap (λ q. within_limit (option_and_then (λ s. total_after (sum + s.1) (rules_of rs)) q)) h

pub left-past : (sum : ℕ) (rest : Option (List Rule)) → within_limit (Some sum) ≡ None → total_left sum rest ≡ None
left-past sum None h = refl
left-past sum (Some rs) h = past sum (rules_of rs) h

-- rules that are done, and those that are left
abbrev pub behind : List Rule → Option (List Rule) → Option (List Rule)
behind done rest = option_map (λ rs. done ++ rs) rest

pub behind-more : (done : List Rule) (r : Rule) (rest : Option (List Rule)) →
    behind (done ++ r ∷ []) rest ≡ behind done (one_more (Some r) rest)
behind-more done r None = refl
behind-more done r (Some rs) = ap Some (append_assoc done (r ∷ []) rs)

-- a turn at a pair
pub weight-turn : (sum : ℕ) (xs : List Tree) (i : ℕ) (x : Tree) (p : Written) → drop i xs ≡ x ∷ drop (i + 1) xs →
    IsPair (tree_view x) p.0 p.1
    → total_left sum (rules_from (tree_items (drop i xs))) ≡ total_left (sum + unwrap_or p.1 1) (rules_from (tree_items (drop (i + 1) xs)))
weight-turn sum xs i x p here h =
    ap (λ ys. total_left sum (rules_from (tree_items ys))) here
    ∙ ap (λ o. total_left sum (one_more o (rules_from (tree_items (drop (i + 1) xs))))) h.rule
    ∙ left-more sum (pair_rule (text p.0) p.1) (text p.0) (unwrap_or p.1 1) (rules_from (tree_items (drop (i + 1) xs))) h.share

pub known-turn : (xs : List Tree) (i : ℕ) (x : Tree) (p : Written) → drop i xs ≡ x ∷ drop (i + 1) xs → IsPair (tree_view x) p.0 p.1
    → items_unknown (tree_items (drop (i + 1) xs)) ≡ items_unknown (tree_items (drop i xs))
known-turn xs i x p here h =
    ap (λ u. first_of u (items_unknown (tree_items (drop (i + 1) xs)))) (sym h.known)
    ∙ ap (λ ys. items_unknown (tree_items ys)) (sym here)

pub read-turn : (done : List Rule) (xs : List Tree) (i : ℕ) (x : Tree) (p : Written) →
    drop i xs ≡ x ∷ drop (i + 1) xs → IsPair (tree_view x) p.0 p.1
    → behind (done ++ pair_rule (text p.0) p.1 ∷ []) (rules_from (tree_items (drop (i + 1) xs))) ≡ behind done
    (rules_from (tree_items (drop i xs)))
read-turn done xs i x p here h =
    behind-more done (pair_rule (text p.0) p.1) (rules_from (tree_items (drop (i + 1) xs)))
    ∙ ap (λ o. behind done (one_more o (rules_from (tree_items (drop (i + 1) xs))))) (sym h.rule)
    ∙ ap (λ ys. behind done (rules_from (tree_items ys))) (sym here)

-- what is kept of a pair is the rule that it writes
pub share_rule-Text : (s : TextState) (name : List ℕ) (weight : Option ℕ) → s.bytes ≡ name →
    share_rule (record { name = Datum.Text s; weight = weight }) ≡ pair_rule (text name) weight
share_rule-Text s name weight e = ap (λ d. pair_rule d weight) (view-Text s ∙ ap text e)

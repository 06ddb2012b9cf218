-- Changes of which all that put a flag are made first, and undone where memory is wanting.
use Rattle.std.proofs.Common.{◌≡◌, ◌≢◌, ◌||◌, not, ℕ, Bool, true, false, List, [], ◌∷◌, map, Option, None, Some, is_none, cond}
use Rattle.std.proofs.Common.{refl, sym, ap, ◌∙◌}
use Rattle.std.specs.Prelude.{bytes_eq}
use Rattle.std.specs.Ordering.{eq_by_cmp}
use Rattle.std.specs.Cmp.{Equal-is}
use Rattle.std.specs.FinMap as fin
use Rattle.std.proofs.lemmas.Bool.{and_parts, or_parts, not-true}
use Rattle.std.proofs.lemmas.Cmp.{nat_list_cmp_total}
use Rattle.std.proofs.lemmas.Map.Lookups.{exact_bytes}
use Rattle.fp_base.specs.Bytes.{bytes_cmp}
use Rattle.fp_edit.specs.Admits.{part_after, parts_after}
use Rattle.fp_edit.specs.Changes.{are_distinct, is_among}
use Rattle.fp_edit.specs.Puts.{any_new, deletes_of, puts_of, with_flag, definition_or, definition_before}
use Rattle.fp_edit.specs.Flags.{Flags}
use Rattle.fp_edit.specs.Lent.{left_at}
use Rattle.fp_edit.specs.Parts.{Part, any_put, put, delete, part_key}
use Rattle.fp_documents.specs.declared.flags.Flag.{Flag}
use Rattle.fp_edit.proofs.Parts.{apart, get-part, other_key, same_key}
use Rattle.fp_documents.proofs.Sizes.{at_key, removed_none}

-- ---- one part, and back
-- a flag that was put in the place of another one, and the other one put back
back_again : (b : Bool) (y : Option Flag) (f g : Flag) → (b ≡ true → y ≡ Some g) → cond b (Some g) (cond b (Some f) y) ≡ y
back_again true y f g is = sym (is refl)
back_again false y f g is = refl

pub put_back : (m : Flags) (k : List ℕ) (f g : Flag) → fin.get m k ≡ Some g → fin.insert (fin.insert m k f) k g ≡ m
put_back m k f g was = fin.same_map nat_list_cmp_total exact_bytes (fin.insert (fin.insert m k f) k g) m (λ q.
    fin.get-insert nat_list_cmp_total (fin.insert m k f) k g q
    ∙ ap (cond (eq_by_cmp bytes_cmp q k) (Some g)) (fin.get-insert nat_list_cmp_total m k f q)
    ∙ back_again (eq_by_cmp bytes_cmp q k) (fin.get m q) f g (λ e. at_key m k q e ∙ was))

gone_twice : (b : Bool) (x y : Option Flag) → cond b None (cond b x y) ≡ cond b None y
gone_twice true x y = refl
gone_twice false x y = refl

-- a flag that was put where there was none, and taken
pub taken_back : (m : Flags) (k : List ℕ) (f : Flag) → fin.get m k ≡ None → fin.remove (fin.insert m k f) k ≡ m
taken_back m k f none = fin.same_map nat_list_cmp_total exact_bytes (fin.remove (fin.insert m k f) k) (fin.remove m k) (λ q.
    fin.get-remove nat_list_cmp_total (fin.insert m k f) k q
    ∙ ap (cond (eq_by_cmp bytes_cmp q k) None) (fin.get-insert nat_list_cmp_total m k f q)
    ∙ gone_twice (eq_by_cmp bytes_cmp q k) (Some f) (fin.get m q)
    ∙ sym (fin.get-remove nat_list_cmp_total m k q))
    ∙ removed_none m k none

pub get-put : (m : Flags) (k : List ℕ) (f : Flag) → fin.get (fin.insert m k f) k ≡ Some f
get-put m k f = fin.get-insert nat_list_cmp_total m k f k ∙ ap (λ (b : Bool). cond b (Some f) (fin.get m k)) (same_key k)

-- what was there is there again
undone : (m : Flags) (k : List ℕ) (f : Flag) (o : Option Flag) → fin.get m k ≡ o → with_flag (fin.insert m k f) k o ≡ m
undone m k f None was = taken_back m k f was
undone m k f (Some g) was = put_back m k f g was

pub put_undone : (m : Flags) (k : List ℕ) (f : Flag) → with_flag (fin.insert m k f) k (fin.get m k) ≡ m
put_undone m k f = undone m k f (fin.get m k) refl

-- the definition that was put is at hand, or stands at the key
pub definition_put : (m n : Flags) (k text now : List ℕ) (r : ℕ) (b : Option ℕ)
    → n ≡ fin.insert m k (record { definition = text; changed = r }) → (b ≡ None → now ≡ text) → definition_before n k now b ≡ text
definition_put m n k text now r None is kept = kept refl
definition_put m n k text now r (Some changed) is kept =
    ap (λ (x : Flags). definition_or now (fin.get x k)) is
    ∙ ap (definition_or now) (get-put m k (record { definition = text; changed = r }))

-- ---- the order
-- of two conditions that don't hold both either may come first
turned : (a b : Bool) (x y z : Option Flag) → (a ≡ true → b ≡ false) → cond a x (cond b y z) ≡ cond b y (cond a x z)
turned true b x y z never = ap (λ (c : Bool). cond c y x) (sym (never refl))
turned false b x y z never = refl

-- two parts of different keys may change places
pub part_after-turned : (r : ℕ) (m : Flags) (p q : Part) → part_key p ≢ part_key q
    → part_after r (part_after r m p) q ≡ part_after r (part_after r m q) p
part_after-turned r m p q never = fin.same_map nat_list_cmp_total exact_bytes _ _ (λ k.
    get-part r (part_after r m p) q k
    ∙ ap (cond (eq_by_cmp bytes_cmp k (part_key q)) (left_at r q)) (get-part r m p k)
    ∙ turned (eq_by_cmp bytes_cmp k (part_key q)) (eq_by_cmp bytes_cmp k (part_key p)) (left_at r q) (left_at r p) (fin.get m k)
    (λ e. other_key k (part_key p) (λ same. never (sym same ∙ exact_bytes k (part_key q) ((Equal-is (bytes_cmp k (part_key q))).0 e))))
    ∙ sym (get-part r (part_after r m q) p k ∙ ap (cond (eq_by_cmp bytes_cmp k (part_key p)) (left_at r p)) (get-part r m q k)))

-- a part may come behind those that put a flag, if its key is none of theirs
pub puts-turned : (r : ℕ) (m : Flags) (p : Part) (ps : List Part) → is_among (part_key p) (map part_key ps) ≡ false
    → part_after r (parts_after r m (puts_of ps)) p ≡ parts_after r (part_after r m p) (puts_of ps)
puts-turned r m p [] other = refl
puts-turned r m p (put k text ∷ ps) other =
    let both = or_parts (bytes_eq (part_key p) k) (is_among (part_key p) (map part_key ps)) other in
    let turn = part_after-turned r m (put k text) p (λ same. apart (part_key p) k both.0 (sym same)) in
    puts-turned r (part_after r m (put k text)) p ps both.1 ∙ ap (λ (n : Flags). parts_after r n (puts_of ps)) turn
puts-turned r m p (delete k ∷ ps) other =
    puts-turned r m p ps (or_parts (bytes_eq (part_key p) k) (is_among (part_key p) (map part_key ps)) other).1

-- what is put may come before what is deleted
pub puts-first : (r : ℕ) (m : Flags) (ps : List Part) → are_distinct (map part_key ps) ≡ true
    → parts_after r (parts_after r m (puts_of ps)) (deletes_of ps) ≡ parts_after r m ps
puts-first r m [] all = refl
puts-first r m (put k text ∷ ps) all =
    let both = and_parts (not (is_among k (map part_key ps))) (are_distinct (map part_key ps)) all in
    puts-first r (part_after r m (put k text)) ps both.1
puts-first r m (delete k ∷ ps) all =
    let both = and_parts (not (is_among k (map part_key ps))) (are_distinct (map part_key ps)) all in
    ap (λ (n : Flags). parts_after r n (deletes_of ps)) (puts-turned r m (delete k) ps (not-true (is_among k (map part_key ps)) both.0))
    ∙ puts-first r (part_after r m (delete k)) ps both.1

-- a part's deletion, and those of the parts behind it
pub deletes-more : (r : ℕ) (m : Flags) (p : Part) (ps : List Part)
    → parts_after r (parts_after r m (deletes_of (p ∷ []))) (deletes_of ps) ≡ parts_after r m (deletes_of (p ∷ ps))
deletes-more r m (put k text) ps = refl
deletes-more r m (delete k) ps = refl

-- ---- keys that have no flag
or_both : (a b c d : Bool) → (a ≡ true → c ≡ true) → (b ≡ true → d ≡ true) → (a || b) ≡ true → (c || d) ≡ true
or_both true b c d left right all = ap (λ (x : Bool). x || d) (left refl)
or_both false b true d left right all = refl
or_both false b false d left right all = right all

none_before : (b : Bool) (f : Flag) (o : Option Flag) → is_none (cond b (Some f) o) ≡ true → is_none o ≡ true
none_before true f o none = absurd cc
none_before false f o none = none

-- what is new behind an insert was new before it
new-insert : (m : Flags) (k : List ℕ) (f : Flag) (ps : List Part) → any_new (fin.insert m k f) ps ≡ true → any_new m ps ≡ true
new-insert m k f [] some = some
new-insert m k f (put q text ∷ ps) some =
    let here = ap is_none (sym (fin.get-insert nat_list_cmp_total m k f q)) in
    or_both (is_none (fin.get (fin.insert m k f) q)) (any_new (fin.insert m k f) ps) (is_none (fin.get m q)) (any_new m ps)
    (λ none. none_before (eq_by_cmp bytes_cmp q k) f (fin.get m q) (here ∙ none)) (new-insert m k f ps) some
new-insert m k f (delete q ∷ ps) some = new-insert m k f ps some

or_behind : (a b : Bool) → b ≡ true → (a || b) ≡ true
or_behind true b some = refl
or_behind false b some = some

pub new-more : (r : ℕ) (m : Flags) (p : Part) (ps : List Part) → any_new (parts_after r m (puts_of (p ∷ []))) ps ≡ true
    → any_new m (p ∷ ps) ≡ true
new-more r m (put k text) ps some =
    or_behind (is_none (fin.get m k)) (any_new m ps) (new-insert m k (record { definition = text; changed = r }) ps some)
new-more r m (delete k) ps some = some

-- and some flag is put then
pub new-put : (m : Flags) (ps : List Part) → any_new m ps ≡ true → any_put ps ≡ true
new-put m [] some = some
new-put m (put k text ∷ ps) some = refl
new-put m (delete k ∷ ps) some = new-put m ps some

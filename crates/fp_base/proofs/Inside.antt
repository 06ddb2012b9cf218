-- What is so of all members is so of the one that is looked up: of ordered data it is ordered, and it nests no deeper.
use Rattle.std.proofs.Common.{◌≡◌, ◌≤◌, ℕ, List, Option, Some, unwrap_or, Ordering, Less, Equal, Greater, refl, ap, subst, arith}
use Rattle.std.proofs.lemmas.Option.{none-some}
use Rattle.std.specs.Ordering.{match_ordering, nat_cmp}
use Rattle.std.specs.Cmp.Lexicographic.{slice_cmp}
use Rattle.serde_json.specs.Data.{Data, null, boolean, number, string, array, object, Members, no_members, member, depth, members_depth}
use Rattle.serde_json.specs.Find.{get, get_member}
use Rattle.fp_base.specs.Ordered.{IsOrdered, MembersAreOrdered}

module _ (P : Data → Type 0) (All : Members → Type 0)
    (parts : (k : List ℕ) (d : Data) (ms : Members) → All (member k d ms) → P d × All ms) where
  -- what is found is this member or one of the rest
  found : (o : Ordering) (rest : Option Data) (d e : Data) → (rest ≡ Some e → P e) → P d →
      match_ordering o rest (Some d) rest ≡ Some e → P e
  found Less rest d e later here h = later h
  found Equal rest d e later here h = let same : d ≡ e = ap (λ o. unwrap_or o d) h in rw (← same) here
  found Greater rest d e later here h = later h

  inside_members : (k : List ℕ) (ms : Members) (e : Data) → All ms → get_member k ms ≡ Some e → P e
  inside_members k no_members e all h = absurd (none-some e h)
  inside_members k (member l d ms) e all h =
      let both = parts l d ms all in found (slice_cmp nat_cmp k l) (get_member k ms) d e (inside_members k ms e both.1) both.0 h

  pub inside : (k : List ℕ) (d e : Data) → ((ms : Members) → d ≡ object ms → All ms) → get k d ≡ Some e → P e
  inside k null e all h = absurd (none-some e h)
  inside k (boolean b) e all h = absurd (none-some e h)
  inside k (number n) e all h = absurd (none-some e h)
  inside k (string s) e all h = absurd (none-some e h)
  inside k (array ds) e all h = absurd (none-some e h)
  inside k (object ms) e all h = inside_members k ms e (all ms refl) h

pub ordered_get : (k : List ℕ) (d e : Data) → IsOrdered d → get k d ≡ Some e → IsOrdered e
ordered_get k d e o h = inside IsOrdered MembersAreOrdered (λ l x ms all. all) k d e (λ ms is. (subst IsOrdered is o).1) h

pub flat_get : (n : ℕ) (k : List ℕ) (d e : Data) → depth d ≤ n → get k d ≡ Some e → depth e ≤ n
flat_get n k d e f h =
    inside (λ x. depth x ≤ n) (λ ms. members_depth ms ≤ n) (λ l x ms all. (omega (arith, all), omega (arith, all))) k d e
    (λ ms is. let deep : depth (object ms) ≤ n = subst (λ x. depth x ≤ n) is f in omega (arith, deep)) h

-- Members in ascending order of their names: what is put among them, and what is printed of them and read back.
use Rattle.std.proofs.Common.{◌≡◌, ℕ, List, Some, Ordering, Less, Equal, Greater, nat_cmp, refl, sym, ap, ◌∙◌}
use Rattle.std.specs.Prelude.{⊤}
use Rattle.std.specs.Ordering.{match_ordering, ordering_reverse}
use Rattle.std.specs.Cmp.Lexicographic.{slice_cmp}
use Rattle.std.proofs.lemmas.Cmp.{nat_list_cmp_total}
use Rattle.serde_json.specs.Data.{Data, Members, no_members, member, put}
use Rattle.serde_json.specs.Read.{of_json, of_members}
use Rattle.serde_json.specs.Written.{outline, members_outline}
use Rattle.fp_base.specs.Sorted.{IsBelow, IsSorted}

abbrev cmp : List ℕ → List ℕ → Ordering
cmp = slice_cmp nat_cmp

pub turned : (k l : List ℕ) (o : Ordering) → cmp k l ≡ o → cmp l k ≡ ordering_reverse o
turned k l o e = nat_list_cmp_total.antisymm l k ∙ ap ordering_reverse e

pub below-trans : (k l : List ℕ) (ms : Members) → cmp k l ≡ Less → IsBelow l ms → IsBelow k ms
below-trans k l no_members h p = tt
below-trans k l (member m d ms) h p = (nat_list_cmp_total.trans k l m h p.0, below-trans k l ms h p.1)

-- what is so of three is so of the one that an order picks
pub by-order : (P : Members → Type 0) (o : Ordering) (a b c : Members) → P a → P b → P c → P (match_ordering o a b c)
by-order P Less a b c p q r = p
by-order P Equal a b c p q r = q
by-order P Greater a b c p q r = r

below-put : (k l : List ℕ) (d : Data) (ms : Members) → cmp k l ≡ Less → IsBelow k ms → IsBelow k (put l d ms)
below-put k l d no_members h p = (h, tt)
below-put k l d (member m e ms) h p =
    by-order (IsBelow k) (cmp l m) (member l d (member m e ms)) (member m d ms) (member m e (put l d ms)) (h, p) p
    (p.0, below-put k l d ms h p.1)

sorted-match : (k l : List ℕ) (d e : Data) (ms : Members) (o : Ordering) → cmp k l ≡ o → IsSorted (member l e ms) → IsSorted (put k d ms)
    → IsSorted (match_ordering o (member k d (member l e ms)) (member l d ms) (member l e (put k d ms)))
sorted-match k l d e ms Less h p q = ((h, below-trans k l ms h p.0), p)
sorted-match k l d e ms Equal h p q = p
sorted-match k l d e ms Greater h p q = (below-put l k d ms (turned k l Greater h) p.0, q)

pub sorted-put : (k : List ℕ) (d : Data) (ms : Members) → IsSorted ms → IsSorted (put k d ms)
sorted-put k d no_members p = (tt, tt)
sorted-put k d (member l e ms) p = sorted-match k l d e ms (cmp k l) refl p (sorted-put k d ms p.1)

-- ---- what is printed of each is read back

-- what is printed of each member reads as it
abbrev pub AreBack : Members → Type 0
AreBack no_members = ⊤
AreBack (member k d ms) = (of_json (outline d) ≡ Some d) × AreBack ms

-- the name comes after each
abbrev pub IsAfter : List ℕ → Members → Type 0
IsAfter k no_members = ⊤
IsAfter k (member l d ms) = (cmp k l ≡ Greater) × IsAfter k ms

abbrev pub AreAfter : Members → Members → Type 0
AreAfter found no_members = ⊤
AreAfter found (member k d ms) = IsAfter k found × AreAfter found ms

abbrev pub append : Members → Members → Members
append no_members more = more
append (member k d ms) more = member k d (append ms more)

pub append-one : (found : Members) (k : List ℕ) (d : Data) (ms : Members) →
    append (append found (member k d no_members)) ms ≡ append found (member k d ms)
append-one no_members k d ms = refl
append-one (member l e found) k d ms = ap (member l e) (append-one found k d ms)

pub put-after : (k : List ℕ) (d : Data) (found : Members) → IsAfter k found → put k d found ≡ append found (member k d no_members)
put-after k d no_members h = refl
put-after k d (member l e found) h =
    ap (λ o. match_ordering o (member k d (member l e found)) (member l d found) (member l e (put k d found))) h.0
    ∙ ap (member l e) (put-after k d found h.1)

after-append : (k : List ℕ) (found : Members) (l : List ℕ) (d : Data) → IsAfter k found → cmp k l ≡ Greater →
    IsAfter k (append found (member l d no_members))
after-append k no_members l d p h = (h, tt)
after-append k (member m e found) l d p h = (p.0, after-append k found l d p.1 h)

pub all_after-append : (found ms : Members) (l : List ℕ) (d : Data) → AreAfter found ms → IsBelow l ms →
    AreAfter (append found (member l d no_members)) ms
all_after-append found no_members l d p h = tt
all_after-append found (member k e ms) l d p h = (after-append k found l d p.0 (turned l k Less h.0), all_after-append found ms l d p.1 h.1)

pub all_after-none : (ms : Members) → AreAfter no_members ms
all_after-none no_members = tt
all_after-none (member k d ms) = (tt, all_after-none ms)

pub append-none : (found : Members) → append found no_members ≡ found
append-none no_members = refl
append-none (member k d ms) = ap (member k d) (append-none ms)

read_back : (ms found : Members) → IsSorted ms → AreBack ms → AreAfter found ms →
    of_members (members_outline ms) found ≡ Some (append found ms)
read_back no_members found p q r = ap Some (sym (append-none found))
read_back (member k d ms) found p q r =
    rw q.0
    (ap (of_members (members_outline ms)) (put-after k d found r.0)
    ∙ read_back ms (append found (member k d no_members)) p.1 q.1 (all_after-append found ms k d r.1 p.0)
    ∙ ap Some (append-one found k d ms))

pub members-read_back : (ms : Members) → IsSorted ms → AreBack ms → of_members (members_outline ms) no_members ≡ Some ms
members-read_back ms p q = read_back ms no_members p q (all_after-none ms)

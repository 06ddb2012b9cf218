-- Which flags stay, and how many one edit marks, where edits lead from one set to another.
use Rattle.std.proofs.Common.{◌≡◌, ℕ, ◌+◌, ◌-◌, ◌≤◌, ◌<◌, T, List, [], ◌∷◌, length, Less, Equal, Greater, Option, Some}
use Rattle.std.proofs.Common.{None, cond, is_some, is_eq, unwrap_or, Bool, true, false, true≢false, refl, sym, ap}
use Rattle.std.proofs.Common.{subst, ◌∙◌, arith}
use Rattle.std.specs.Prelude.{if◌then◌else◌, nat_lt}
use Rattle.std.specs.Ordering.{eq_by_cmp, ordering_reverse}
use Rattle.std.proofs.lemmas.Bool.{le-ltb, ltb-true, ltb-false}
use Rattle.std.proofs.lemmas.Cmp.{nat_list_cmp_total, tied_itself}
use Rattle.std.proofs.lemmas.Map.Lookups.{exact_bytes}
use Rattle.std.specs.FinMap as fin
use Rattle.std.specs.FinMap.Entries.{find, below_all, is_sorted}
use Rattle.fp_base.specs.Bytes.{bytes_cmp}
use Rattle.fp_edit.specs.Admits.{next, part_after, parts_after}
use Rattle.fp_edit.specs.Edits.{Change, parts}
use Rattle.fp_edit.specs.Flags.{Flags, State}
use Rattle.fp_edit.specs.Log.{after_all}
use Rattle.fp_documents.specs.Outline.{changed_after, KeepsKeys, SameButChanged, HasAsMany}
use Rattle.fp_edit.specs.Outline.{MarksOne}
use Rattle.fp_edit.specs.Parts.{Part, put, delete}
use Rattle.fp_documents.specs.declared.flags.Flag.{Flag}
use Rattle.fp_edit.proofs.Changed.{AreChangedBy, changed-empty}
use Rattle.fp_documents.proofs.Sizes.{first, second, less, find_below, sum-insert, sum-remove}

abbrev Entry : Type 0
Entry = List ℕ × Flag

abbrev Entries : Type 0
Entries = List Entry

-- ---- what wasn't changed since was there

not_put : (r : ℕ) (b : Bool) (o : Option Flag) (v f : Flag) → r < v.changed → f.changed ≤ r → cond b (Some v) o ≡ Some f → o ≡ Some f
not_put r true o v f late early e = let same = ap (λ x. (unwrap_or x v).changed) e in absurd (omega (arith, late, early, same))
not_put r false o v f late early e = e

not_deleted : (b : Bool) (o : Option Flag) (f : Flag) → cond b None o ≡ Some f → o ≡ Some f
not_deleted true o f e = absurd (true≢false (sym (ap is_some e)))
not_deleted false o f e = e

was-part : (r n : ℕ) (m : Flags) (p : Part) (q : List ℕ) (f : Flag) → r < n → f.changed ≤ r →
    fin.get (part_after n m p) q ≡ Some f → fin.get m q ≡ Some f
was-part r n m (put k text) q f late early e =
    let v : Flag = record { definition = text; changed = n } in
    not_put r (eq_by_cmp bytes_cmp q k) (fin.get m q) v f late early (sym (fin.get-insert nat_list_cmp_total m k v q) ∙ e)
was-part r n m (delete k) q f late early e =
    not_deleted (eq_by_cmp bytes_cmp q k) (fin.get m q) f (sym (fin.get-remove nat_list_cmp_total m k q) ∙ e)

was-parts : (r n : ℕ) (m : Flags) (ps : List Part) (q : List ℕ) (f : Flag) → r < n → f.changed ≤ r →
    fin.get (parts_after n m ps) q ≡ Some f → fin.get m q ≡ Some f
was-parts r n m [] q f late early e = e
was-parts r n m (p ∷ ps) q f late early e = was-part r n m p q f late early (was-parts r n (part_after n m p) ps q f late early e)

was-all : (r : ℕ) (s : State) (log : List Change) (q : List ℕ) (f : Flag) → r ≤ s.revision → f.changed ≤ r →
    fin.get (after_all s log).flags q ≡ Some f → fin.get s.flags q ≡ Some f
was-all r s [] q f late early e = e
was-all r s (c ∷ log) q f late early e =
    was-parts r (s.revision + 1) s.flags (parts c) q f (omega (arith, late)) early
    (was-all r (next s c) log q f (omega (arith, late)) early e)

-- ---- which stay

-- what a flag's key had before: the flag itself, unless it was changed since
abbrev Was : ℕ → Flag → Option Flag → Type 0
Was r f o = (f.changed ≤ r → o ≡ Some f) × (is_some o ≡ true)

abbrev Were : ℕ → Entries → Entries → Type 0
Were r es fs = (k : List ℕ) (f : Flag) → find bytes_cmp k fs ≡ Some f → Was r f (find bytes_cmp k es)

find_above : (x : List ℕ) (es : Entries) → T (below_all bytes_cmp x es) → find bytes_cmp x es ≡ None
find_above x [] h = refl
find_above x (e ∷ es) h = ap (λ o. cond (is_eq o) (Some e.1) (find bytes_cmp x es)) (less _ (first _ _ h)) ∙ find_above x es (second _ _ h)

-- a key that is found isn't one that isn't
other_key : (x k : List ℕ) (f : Flag) (es : Entries) → find bytes_cmp x es ≡ None → find bytes_cmp k es ≡ Some f →
    is_eq (bytes_cmp k x) ≡ false
other_key x k f es none some =
    elim (bytes_cmp k x) as (λ o. bytes_cmp k x ≡ o → is_eq o ≡ false) [
      | Less ↦ λ _. refl
      | Equal ↦ λ p. absurd (true≢false (ap is_some (sym some ∙ ap (λ y. find bytes_cmp y es) (exact_bytes k x p) ∙ none)))
      | Greater ↦ λ _. refl
    ] refl

past_first : (e : Entry) (es : Entries) (k : List ℕ) → is_eq (bytes_cmp k e.0) ≡ false → find bytes_cmp k (e ∷ es) ≡ find bytes_cmp k es
past_first e es k h = ap (λ b. cond b (Some e.1) (find bytes_cmp k es)) h

found_first : (e : Entry) (es : Entries) → find bytes_cmp e.0 (e ∷ es) ≡ Some e.1
found_first e es = ap (λ o. cond (is_eq o) (Some e.1) (find bytes_cmp e.0 es)) (tied_itself nat_list_cmp_total e.0)

same_entry : (e f : Entry) → e.0 ≡ f.0 → Some e.1 ≡ Some f.1 → e ≡ f
same_entry e f p q = ap (λ k. (k, e.1)) p ∙ ap (λ o. (f.0, unwrap_or o e.1)) q

-- no more than there were, and where there are as many, none is at another place
record Fits (r : ℕ) (es fs : Entries) : Type 0 where
  fewer : length fs ≤ length es
  same : length fs ≡ length es → SameButChanged r es fs

none_left : (r : ℕ) (es : Entries) → 0 ≡ length es → SameButChanged r es []
none_left r [] h = tt
none_left r (e ∷ es) h = absurd (omega (arith, h))

fits : (r : ℕ) (es fs : Entries) → T (is_sorted bytes_cmp es) → T (is_sorted bytes_cmp fs) → Were r es fs → Fits r es fs
fits r [] [] s t were = record { fewer = omega arith; same = none_left r [] }
fits r (e ∷ es) [] s t were = record { fewer = omega arith; same = none_left r (e ∷ es) }
fits r [] (f ∷ fs) s t were = absurd (true≢false (sym (were f.0 f.1 (found_first f fs)).1))
fits r (e ∷ es) (f ∷ fs) s t were =
    let here = were f.0 f.1 (found_first f fs) in
    let above = first (below_all bytes_cmp e.0 es) (is_sorted bytes_cmp es) s in
    let later = second (below_all bytes_cmp e.0 es) (is_sorted bytes_cmp es) s in
    let more = first (below_all bytes_cmp f.0 fs) (is_sorted bytes_cmp fs) t in
    elim (bytes_cmp f.0 e.0) as (λ o. bytes_cmp f.0 e.0 ≡ o → Fits r (e ∷ es) (f ∷ fs)) [
      | Less ↦ λ p.
          let none : find bytes_cmp f.0 (e ∷ es) ≡ None =
          ap (λ o. cond (is_eq o) (Some e.1) (find bytes_cmp f.0 es)) p ∙ find_below f.0 e.0 es p above in
          absurd (true≢false (sym here.1 ∙ ap is_some none))
      | Equal ↦ λ p.
          let key : e.0 ≡ f.0 = sym (exact_bytes f.0 e.0 p) in
          let flag : find bytes_cmp f.0 (e ∷ es) ≡ Some e.1 = ap (λ o. cond (is_eq o) (Some e.1) (find bytes_cmp f.0 es)) p in
          let rest = fits r es fs later (second (below_all bytes_cmp f.0 fs) (is_sorted bytes_cmp fs) t) (λ k g q.
          let apart = other_key f.0 k g fs (find_above f.0 fs more) q in
          subst (Was r g) (past_first e es k (subst (λ x. is_eq (bytes_cmp k x) ≡ false) (sym key) apart))
          (were k g (past_first f fs k apart ∙ q))) in
          let few = rest.fewer in record {
            fewer = omega arith;
            same = λ n. (key, λ early. same_entry e f key (sym flag ∙ here.0 early), rest.same (omega (arith, n)));
          }
      | Greater ↦ λ p.
          let under : bytes_cmp e.0 f.0 ≡ Less = nat_list_cmp_total.antisymm e.0 f.0 ∙ ap ordering_reverse p in
          let none : find bytes_cmp e.0 (f ∷ fs) ≡ None =
          ap (λ o. cond (is_eq o) (Some f.1) (find bytes_cmp e.0 fs)) under ∙ find_below e.0 f.0 fs under more in
          let rest = fits r es (f ∷ fs) later t
          (λ k g q. subst (Was r g) (past_first e es k (other_key e.0 k g (f ∷ fs) none q)) (were k g q)) in
          let few = rest.fewer in record { fewer = omega arith; same = λ n. absurd (omega (arith, n, few)) }
    ] refl

-- a flag that was changed is found where its key was kept
kept_found : (r : ℕ) (es fs : Entries) → KeepsKeys r es fs → (k : List ℕ) (f : Flag) → find bytes_cmp k fs ≡ Some f →
    r < f.changed → is_some (find bytes_cmp k es) ≡ true
kept_found r [] [] keys k f q late = absurd (true≢false (sym (ap is_some q)))
kept_found r [] (g ∷ fs) keys k f q late = absurd keys
kept_found r (e ∷ es) [] keys k f q late = absurd keys
kept_found r (e ∷ es) (g ∷ fs) keys k f q late =
    elim (bytes_cmp k g.0) as (λ o. bytes_cmp k g.0 ≡ o → cond (is_eq o) (Some g.1) (find bytes_cmp k fs) ≡ Some f →
    is_some (cond (is_eq (bytes_cmp k e.0)) (Some e.1) (find bytes_cmp k es)) ≡ true) [
      | Less ↦ λ p x. or_found (is_eq (bytes_cmp k e.0)) e.1 (find bytes_cmp k es) (kept_found r es fs keys.1 k f x late)
      | Equal ↦ λ p x.
          let is : g.1 ≡ f = cc x in
          let key : e.0 ≡ g.0 = keys.0 (subst (λ (y : Flag). r < y.changed) (sym is) late) in
          ap (λ o. is_some (cond (is_eq o) (Some e.1) (find bytes_cmp k es))) (ap (bytes_cmp k) key ∙ p)
      | Greater ↦ λ p x. or_found (is_eq (bytes_cmp k e.0)) e.1 (find bytes_cmp k es) (kept_found r es fs keys.1 k f x late)
    ] refl q
  where
    or_found : (b : Bool) (v : Flag) (o : Option Flag) → is_some o ≡ true → is_some (cond b (Some v) o) ≡ true
    or_found true v o h = refl
    or_found false v o h = h

were_there : (s t : State) (log : List Change) → t ≡ after_all s log →
    KeepsKeys s.revision (fin.entries s.flags) (fin.entries t.flags) →
    Were s.revision (fin.entries s.flags) (fin.entries t.flags)
were_there s t log leads keys k f q =
    let same : f.changed ≤ s.revision → find bytes_cmp k (fin.entries s.flags) ≡ Some f = λ early.
    sym (fin.get-entries s.flags k) ∙
    was-all s.revision s log k f (omega arith) early
    (subst (λ (x : State). fin.get x.flags k ≡ Some f) leads (fin.get-entries t.flags k ∙ q)) in (
      same,
      elim (nat_lt s.revision f.changed) as
          (λ b. nat_lt s.revision f.changed ≡ b → is_some (find bytes_cmp k (fin.entries s.flags)) ≡ true) [
            | true ↦ λ b. kept_found s.revision (fin.entries s.flags) (fin.entries t.flags) keys k f q (ltb-true _ _ b)
            | false ↦ λ b. ap is_some (same (ltb-false _ _ b))
          ] refl,
    )

-- where there are as many flags as before
pub as_many_before : (s t : State) (log : List Change) → t ≡ after_all s log → fin.len t.flags ≡ fin.len s.flags →
    HasAsMany s.revision (fin.entries s.flags) (fin.entries t.flags)
as_many_before s t log leads len =
    let as_many = sym (fin.len-entries t.flags) ∙ len ∙ fin.len-entries s.flags in (
      as_many,
      λ keys. (fits s.revision (fin.entries s.flags) (fin.entries t.flags) (fin.entries_sorted s.flags)
          (fin.entries_sorted t.flags) (were_there s t log leads keys)).same as_many,
    )

-- ---- none after a set's own revision

none_late : (r : ℕ) (es : Entries) → T (is_sorted bytes_cmp es) →
    ((k : List ℕ) (f : Flag) → find bytes_cmp k es ≡ Some f → f.changed ≤ r) → changed_after r es ≡ 0
none_late r [] sorted h = refl
none_late r (e ∷ es) sorted h =
    let early = le-ltb r e.1.changed (h e.0 e.1 (found_first e es)) in
    let above = find_above e.0 es (first (below_all bytes_cmp e.0 es) (is_sorted bytes_cmp es) sorted) in
    let rest = none_late r es (second (below_all bytes_cmp e.0 es) (is_sorted bytes_cmp es) sorted)
    (λ k f p. h k f (past_first e es k (other_key e.0 k f es above p) ∙ p)) in
    rw early (omega (arith, rest))

pub none_after : (r : ℕ) (m : Flags) → AreChangedBy r m → changed_after r (fin.entries m) ≡ 0
none_after r m h = none_late r (fin.entries m) (fin.entries_sorted m) (λ k f p. (h k f (fin.get-entries m k ∙ p)).1)

-- ---- one at most by an edit

abbrev one_if : Bool → ℕ
one_if b = if b then 1 else 0

one_at_most : (b : Bool) → one_if b ≤ 1
one_at_most true = omega arith
one_at_most false = omega arith

abbrev late_found : ℕ → Option Flag → ℕ
late_found r None = 0
late_found r (Some f) = one_if (nat_lt r f.changed)

one-insert : (r : ℕ) (m : Flags) (k : List ℕ) (f : Flag) → AreChangedBy r m → changed_after r (fin.entries (fin.insert m k f)) ≤ 1
one-insert r m k f was =
    let all = sum-insert (λ e. one_if (nat_lt r e.1.changed)) (changed_after r) (λ e es. refl) (λ _. late_found r)
    (λ k. refl) (λ k f. refl) m k f in
    let none = none_after r m was in
    let one = one_at_most (nat_lt r f.changed) in omega arith

one-remove : (r : ℕ) (m : Flags) (k : List ℕ) → AreChangedBy r m → changed_after r (fin.entries (fin.remove m k)) ≤ 1
one-remove r m k was =
    let all = sum-remove (λ e. one_if (nat_lt r e.1.changed)) (changed_after r) (λ e es. refl) (λ _. late_found r)
    (λ k. refl) (λ k f. refl) m k in
    let none = none_after r m was in omega arith

module _ (said : Bool) (r n : ℕ) (m : Flags) (was : AreChangedBy r m) (new : said ≡ true → r < n) where
  earlier : said ≡ true → AreChangedBy (n - 1) m
  earlier on k f is = let h = was k f is in let late = new on in (h.0, omega arith)

  pub marks_one-insert : (k : List ℕ) (f : Flag) → MarksOne said n (fin.insert m k f)
  marks_one-insert k f on = one-insert (n - 1) m k f (earlier on)

  pub marks_one-remove : (k : List ℕ) → MarksOne said n (fin.remove m k)
  marks_one-remove k on = one-remove (n - 1) m k (earlier on)

  part_marks_one : (p : Part) → MarksOne said n (part_after n m p)
  part_marks_one (put k text) = marks_one-insert k (record { definition = text; changed = n })
  part_marks_one (delete k) = marks_one-remove k

  pub marks_one-parts : (ps : List Part) → (said ≡ true → length ps ≡ 1) → MarksOne said n (parts_after n m ps)
  marks_one-parts [] one on = absurd (let none = one on in omega arith)
  marks_one-parts (p ∷ []) one on = part_marks_one p on
  marks_one-parts (p ∷ q ∷ ps) one on = absurd (let many = one on in omega arith)

pub marks_one-empty : (said : Bool) (n : ℕ) → MarksOne said n fin.empty
marks_one-empty said n on = let none = none_after (n - 1) fin.empty (changed-empty (n - 1)) in omega arith

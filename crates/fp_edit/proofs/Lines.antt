-- What a line says, by what was found of it.
use Rattle.std.proofs.Common.{◌≡◌, ℕ, suc, ◌+◌, ◌<◌, ◌≤◌, true, false, List, [], ◌∷◌, ◌++◌, length, map, drop, get_or}
use Rattle.std.proofs.Common.{Option, Some, None, IsSomeAnd, Result, Ok, Err, refl, ap, sym, subst, ◌∙◌}
use Rattle.std.proofs.Common.{append_assoc, add-one}
use Rattle.std.proofs.Math.ListN.{drop_of_length-le}
use Rattle.std.proofs.lemmas.List.{drop_more, append-nil, map-append}
use Rattle.std.specs.Borrow.{Bor}
use Rattle.serde_json.specs.Data.{Data, array, object, Members, item}
use Rattle.serde_json.specs.Events.{items_len}
use Rattle.fp_base.specs.Ordered.{IsOrdered, AreOrdered}
use Rattle.fp_base.specs.Steps.{◌>>=◌}
use Rattle.fp_base.specs.TreeView.{tree_view, tree_members, tree_items, Entry}
use Rattle.fp_base.specs.declared.tree.Tree.{Tree, Object}
use Rattle.fp_base.proofs.Views.{view-Object}
use Rattle.fp_definition.specs.Faults.{tells}
use Rattle.fp_edit.specs.Edits.{single}
use Rattle.fp_edit.specs.Parts.{ProposedPart, proposed_of}
use Rattle.fp_edit.specs.Line as says
use Rattle.fp_edit.specs.Changes.{is_count}
use Rattle.fp_edit.specs.Line.{Fault, parts_from, part_inside, set_of}
use Rattle.fp_edit.specs.Spelled.{Tells, TellsPart, TellsInSet}
use Rattle.fp_edit.specs.declared.edit.Change.{Change}
use Rattle.fp_edit.specs.declared.line.PartFault.{PartFault}
use Rattle.fp_edit.specs.declared.line.PartFault.TheVariants as part
use Rattle.fp_edit.specs.declared.line.LineFault.{LineFault}
use Rattle.fp_edit.specs.declared.line.LineFault.TheVariants.{TooLong, NotJson, NotObject, BadMember, BadOp, BadKey}
use Rattle.fp_edit.specs.declared.line.LineFault.TheVariants.{BadIf, BadFlag, BadSet, InSet, Memory}

-- ---- objects

-- an object is seen as its members
pub seen_members : (t : Tree) (v : Bor (List Entry)) → t ≡ Object v → tree_view t ≡ object (tree_members v.now)
seen_members t v is = ap tree_view is ∙ view-Object v

-- one of known members alone is the part that they make
pub part_known : (d : Data) (ms : Members) → d ≡ object ms → says.all_known ms ≡ true → says.part_in d ≡ says.part_of d
part_known d ms is known = rw is (rw known refl)

pub part_unknown : (d : Data) (ms : Members) → d ≡ object ms → says.all_known ms ≡ false → says.part_in d ≡ Err says.bad_member
part_unknown d ms is other = rw is (rw other refl)

-- ---- faults

-- what is so of a value, and what follows of it
some_more : {A : Type 0} (o : Option A) (P Q : A → Type 0) → ((x : A) → P x → Q x) → IsSomeAnd o P → IsSomeAnd o Q
some_more None P Q more h = h
some_more (Some x) P Q more h = more x h

-- what a fault tells has whatever follows of it
pub told_more : (e : PartFault) (P Q : Fault → Type 0) → ((f : Fault) → P f → Q f) → TellsPart e P → TellsPart e Q
told_more part.NotObject P Q more h = more says.not_object h
told_more part.BadMember P Q more h = more says.bad_member h
told_more part.BadOp P Q more h = more says.bad_op h
told_more part.BadKey P Q more h = more says.bad_key h
told_more part.BadIf P Q more h = more says.bad_if h
told_more (part.BadFlag e) P Q more h =
    some_more (tells e) (λ f. P (says.bad_flag f)) (λ f. Q (says.bad_flag f)) (λ f. more (says.bad_flag f)) h
told_more part.Memory P Q more h = tt

told_more_in_set : (at : ℕ) (e : PartFault) (P Q : Fault → Type 0) → ((f : Fault) → P f → Q f) → TellsInSet at e P → TellsInSet at e Q
told_more_in_set at part.Memory P Q more h = h
told_more_in_set at e P Q more h = told_more e (λ f. P (says.in_set at f)) (λ f. Q (says.in_set at f)) (λ f. more (says.in_set at f)) h

pub told_more_of_line : (e : LineFault) (P Q : Fault → Type 0) → ((f : Fault) → P f → Q f) → Tells e P → Tells e Q
told_more_of_line TooLong P Q more h = more says.too_long h
told_more_of_line NotJson P Q more h = more says.not_json h
told_more_of_line NotObject P Q more h = more says.not_object h
told_more_of_line BadMember P Q more h = more says.bad_member h
told_more_of_line BadOp P Q more h = more says.bad_op h
told_more_of_line BadKey P Q more h = more says.bad_key h
told_more_of_line BadIf P Q more h = more says.bad_if h
told_more_of_line (BadFlag e) P Q more h =
    some_more (tells e) (λ f. P (says.bad_flag f)) (λ f. Q (says.bad_flag f)) (λ f. more (says.bad_flag f)) h
told_more_of_line BadSet P Q more h = more says.bad_set h
told_more_of_line (InSet at e) P Q more h = told_more_in_set at e P Q more h
told_more_of_line Memory P Q more h = tt

-- what fails first is the fault of all
pub stops : {A B : Type 0} (e : LineFault) (r : Result A Fault) (next : A → Result B Fault) (said : Result B Fault) → said ≡ (r >>= next)
    → Tells e (λ f. r ≡ Err f) → Tells e (λ f. said ≡ Err f)
stops e r next said is = told_more_of_line e (λ f. r ≡ Err f) (λ f. said ≡ Err f) (λ f h. is ∙ rw h refl)

-- ---- edits

-- the text of `op` decides whether it is a set
pub edit_of_set : (d : Data) (ms : Members) → d ≡ object ms → says.is_set d ≡ true → says.edit_in d ≡ says.set_in ms
edit_of_set d ms is many =
    let set : says.is_set (object ms) ≡ true = subst (λ x. says.is_set x ≡ true) is many in
    rw is (rw set refl)

pub edit_of_part : (d : Data) (ms : Members) → d ≡ object ms → says.is_set d ≡ false →
    says.edit_in d ≡ (says.part_in d >>= λ p. Ok (single p))
edit_of_part d ms is one =
    let not_set : says.is_set (object ms) ≡ false = subst (λ x. says.is_set x ≡ false) is one in
    rw is (rw not_set refl)

-- ---- sets of changes

-- the number of items decides whether they are looked at
pub item_count : (ts : List Tree) → items_len (tree_items ts) ≡ length ts
item_count [] = refl
item_count (t ∷ ts) = ap suc (item_count ts)

pub set_of_count : (ts : List Tree) → is_count (length ts) ≡ true →
    says.set_of (Some (array (tree_items ts))) ≡ (parts_from 0 (tree_items ts) >>= says.joined)
unfolding set_of
set_of_count ts counted = rw (item_count, counted) refl

pub set_of_bad_count : (ts : List Tree) → is_count (length ts) ≡ false → says.set_of (Some (array (tree_items ts))) ≡ Err says.bad_set
unfolding set_of
set_of_bad_count ts bad = rw (item_count, bad) refl

-- what was read comes before what the rest makes
abbrev pub behind : List ProposedPart → Result (List ProposedPart) Fault → Result (List ProposedPart) Fault
behind ps rest = rest >>= λ qs. Ok (ps ++ qs)

joins : (ps : List ProposedPart) (p : ProposedPart) (r : Result (List ProposedPart) Fault) →
    behind ps (r >>= λ qs. Ok (p ∷ qs)) ≡ behind (ps ++ p ∷ []) r
joins ps p (Ok qs) = ap Ok (sym (append_assoc ps (p ∷ []) qs))
joins ps p (Err f) = refl

begins : (r : Result (List ProposedPart) Fault) → r ≡ behind [] r
begins (Ok qs) = refl
begins (Err f) = refl

-- the items before this place are these changes, and those from it on decide the rest
pub record IsReading (all : List Tree) (at : ℕ) (changes : List Change) : Type 0 where
  pub ordered : AreOrdered (tree_items (drop at all))
  pub decides : parts_from 0 (tree_items all) ≡ behind (map proposed_of changes) (parts_from at (tree_items (drop at all)))

pub begins_reading : (all : List Tree) (changes : List Change) → AreOrdered (tree_items all) → changes ≡ [] → IsReading all 0 changes
begins_reading all changes o none = record { ordered = o; decides = rw none (begins (parts_from 0 (tree_items all))) }

module _ (all : List Tree) (at : ℕ) (changes : List Change) (t : Tree) (within : at < length all)
    (is : t ≡ get_or all at t) (r : IsReading all at changes) where
  left : tree_items (drop at all) ≡ item (tree_view t) (tree_items (drop (at + 1) all))
  left = ap tree_items (drop_more all at t within ∙ ap (λ x. x ∷ drop (at + 1) all) (sym is))

  parts : IsOrdered (tree_view t) × AreOrdered (tree_items (drop (at + 1) all))
  parts = subst AreOrdered left r.ordered

  pub ordered_item : IsOrdered (tree_view t)
  ordered_item = parts.0

  decided : parts_from 0 (tree_items all) ≡ behind (map proposed_of changes)
      (parts_from at (item (tree_view t) (tree_items (drop (at + 1) all))))
  decided = subst (λ ds. parts_from 0 (tree_items all) ≡ behind (map proposed_of changes) (parts_from at ds)) left r.decides

  pub reads_on : (c : Change) → part_inside (tree_view t) ≡ Ok (proposed_of c) → IsReading all (at + 1) (changes ++ c ∷ [])
  reads_on c e = record {
    ordered = parts.1;
    decides = decided ∙ rw (e, map-append, add-one)
        (joins (map proposed_of changes) (proposed_of c) (parts_from (suc at) (tree_items (drop (suc at) all))));
  }

  -- a fault is that of the whole, at this place
  pub breaks_off : (f : Fault) → part_inside (tree_view t) ≡ Err f → parts_from 0 (tree_items all) ≡ Err (says.in_set at f)
  breaks_off f e = decided ∙ rw e refl

-- nothing is left
pub ends_reading : (all : List Tree) (at : ℕ) (changes : List Change) → length all ≤ at → IsReading all at changes →
    parts_from 0 (tree_items all) ≡ Ok (map proposed_of changes)
ends_reading all at changes end r = r.decides ∙ rw (drop_of_length-le all end) (ap Ok (append-nil (map proposed_of changes)))

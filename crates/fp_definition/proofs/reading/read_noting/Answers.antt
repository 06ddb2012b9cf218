use Rattle.std.proofs.Common.{Ok, Err, Some, None, drop, ◌≡◌, ◌-◌, ◌∷◌, ◌++◌, []}
use Rattle.std.proofs.Common.{refl, sym, ap, subst, ◌∙◌, arith, rules, false}
use Rattle.json.specs.Print.{quoted}
use Rattle.serde_json.specs.Data.{member, no_members}
use Rattle.serde_json.specs.Written.{comma_if, compact_text, members_text}
use Rattle.fp_base.specs.Places.{AreBefore}
use Rattle.fp_base.specs.Sorted.{IsSorted}
use Rattle.fp_base.specs.TreeView.{Entry, tree_view, tree_members}
use Rattle.fp_canonical.specs.Reads.{Reads, ReadsMembers, is_some_there}
use Rattle.fp_canonical.proofs.Next.{AreLeft, all_left, member_here, member_named, member_refused}
use Rattle.fp_canonical.proofs.Next.{members_next, members_over}
use Rattle.fp_canonical.proofs.Read.{AreReadSoFar, members-all, members-more, members_before}
use Rattle.fp_canonical.proofs.Read.{read-end, read-on, sorted-on}
use Rattle.fp_definition.specs.Numbers.{DEEPEST_DEFINITION}
use Rattle.fp_definition.specs.Spelled.{AreAt, AreWithin, spelled, texts}
use Rattle.fp_definition.specs.declared.spelling.Variant.{Variant}
use Rattle.fp_definition.proofs.Passed.{name_text, past, past_name, passed_len, same_passed}
use Rattle.fp_definition.proofs.Spelled.{all_more, at_new, noted_spelled, noted_within}
use Rattle.fp_definition.proofs.Spelled.{spelled_more}
use Rattle.fp_definition.proofs.reading.read_noting.Goals as goal

pub members-init : goal.members-init
members-init c =
    let none = c.new-found.ensures.items in
    let no_variants = c.in_ok-variants.ensures.items in
    let text = c.args.cursor.now in (
      subst (λ es. AreReadSoFar (DEEPEST_DEFINITION - 2) es text text) (sym none) (λ more left r. r),
      subst (λ es. IsSorted (tree_members es)) (sym none) tt,
      omega arith,
      λ ms left reads sorted.
          subst (λ es. AreLeft (DEEPEST_DEFINITION - 2) es text left) (sym none)
          (all_left (DEEPEST_DEFINITION - 2) ms text left reads sorted),
      λ before len. (
        before,
        refl,
        λ more. ap (λ vs. spelled before vs (texts more)) no_variants ∙ ap (λ es. texts (members_before es more)) (sym none),
        subst (AreWithin before) (sym no_variants) tt,
      ),
    )

pub members-preserved : goal.members-preserved
members-preserved c =
    let l = c.members in
    let ms = l.found.items in
    let m : Entry = (c.in-Some.name, c.in_ok-value.value) in
    let d = tree_view m.1 in
    let one = c.next_name.new.self in
    let two = c.read_value.new.cursor in
    let pushed = c.in_ok-push.ensures.items in
    let named : l.cursor ≡ comma_if (is_some_there ms) ++ (quoted m.0.now ++ 58 ∷ one) = search rules in
    let behind : AreBefore m.0.now ms = search rules in
    let read = c.in_ok-value.ensures.read in
    let start = c.args.len - c.left.result in
    let end = c.args.len - c.left-in-Some.result in
    let v : Variant = record { name = c.in_ok-name-2.name; value = record { start = start; end = end } } in
    let more_variants = c.in_ok-push-2.ensures.items in (
      read-on (DEEPEST_DEFINITION - 2) ms c.args.cursor.now l.cursor l.invariant.0 m one two c.push.new.self.items pushed named read,
      sorted-on ms m c.push.new.self.items l.invariant.1 behind pushed,
      omega (arith, c.in_ok-value.ensures.shorter, c.in_ok-name.ensures.shorter, l.invariant.2),
      λ all left reads sorted.
          let some : c.next_name.result ≡ Ok (Some m.0) = search rules in
          let n = member_here (DEEPEST_DEFINITION - 2) ms l.cursor left c.next_name.result m.0 some c.next_name.ensures.ended
          (members_next (DEEPEST_DEFINITION - 2) ms l.cursor left (l.invariant.3 all left reads sorted)) in
          let name = member_named (DEEPEST_DEFINITION - 2) ms l.cursor left c.next_name.result
          (λ k rest found. (found.now ≡ k) × (one ≡ rest)) c.as_slice.result.now c.as_slice.ensures.value
          c.next_name.ensures.taken m.0 some n in
          let end = c.in_ok-value.ensures.taken n.d n.to
          (subst (λ xs. Reads (DEEPEST_DEFINITION - 2) n.d xs n.to) (sym name.1) n.reads) n.ends in
          subst (λ es. AreLeft (DEEPEST_DEFINITION - 2) es two left) (sym pushed)
          (subst (λ xs. AreLeft (DEEPEST_DEFINITION - 2) (ms ++ m ∷ []) xs left) (sym end) (n.on m name.0)),
      λ before len.
          let h = l.invariant.4 before len in
          let all = before ++ c.args.cursor.now in
          let name = name_text (is_some_there ms) m.0.now in
          let bytes = compact_text d in
          let behind_name = past_name all h.0 l.cursor one (is_some_there ms) m.0.now h.1 named in
          let behind_value = past all (h.0 ++ name) one bytes two behind_name read.spelled in
          let new = (h.0 ++ name) ++ bytes in
          let there = at_new (h.0 ++ name) new bytes v.value refl
          (passed_len all (h.0 ++ name) one c.args.len c.left.result len behind_name c.left.ensures)
          (passed_len all new two c.args.len c.left-in-Some.result len behind_value c.left-in-Some.ensures) in
          let named : v.name.bytes ≡ m.0.now = search rules in (
            new,
            behind_value,
            λ more. ap (λ vs. spelled new vs (texts more)) more_variants
                ∙ noted_spelled h.0 name new bytes l.variants.items v m.0.now (texts more) refl h.3 named there.0
                ∙ h.2 (member m.0.now d more)
                ∙ sym (ap texts (ap (λ es. members_before es more) pushed ∙ members-more ms m more)),
            subst (AreWithin new) (sym more_variants)
                (noted_within h.0 name new bytes l.variants.items v m.0.now (texts no_members) refl h.3 there.1),
          ),
    )

pub returns-clause-read : goal.returns-clause-read
returns-clause-read c =
    let l = c.members in
    let end : l.cursor ≡ 125 ∷ c.next_name.new.self = search rules in
    subst (λ es. ReadsMembers (DEEPEST_DEFINITION - 2) false (tree_members es) c.args.cursor.now c.next_name.new.self)
    (sym c.into_bump_slice.ensures)
    (read-end (DEEPEST_DEFINITION - 2) l.found.items c.args.cursor.now l.cursor l.invariant.0 c.next_name.new.self end)

pub returns-clause-noted : goal.returns-clause-noted
returns-clause-noted c = λ before len.
    let l = c.members in
    let left = c.next_name.new.self in
    let end : l.cursor ≡ 125 ∷ left = search rules in
    let h = l.invariant.4 before len in
    let all = tree_members l.found.items in
    let read = read-end (DEEPEST_DEFINITION - 2) l.found.items c.args.cursor.now l.cursor l.invariant.0 left end in
    let same = same_passed before (members_text false all) left c.args.cursor.now h.0 (125 ∷ []) read.spelled
    (h.1 ∙ ap (λ xs. h.0 ++ xs) end) in
    subst (λ es. AreAt (before ++ members_text false (tree_members es)) l.variants.items (tree_members es)) (sym c.into_bump_slice.ensures)
    (record {
      spelled =
          ap (λ xs. spelled xs l.variants.items no_members) same ∙ spelled_more h.0 (125 ∷ []) l.variants.items no_members h.3
          ∙ h.2 no_members ∙ ap texts (members-all l.found.items);
      within = subst (λ xs. AreWithin xs l.variants.items) (sym same) (all_more h.0 (125 ∷ []) l.variants.items h.3);
    })

-- ---- what is taken

pub returns-in_err-name-clause-taken : goal.returns-in_err-name-clause-taken
returns-in_err-name-clause-taken c = λ all left reads sorted.
    let l = c.members in
    let ms = l.found.items in
    let not : c.next_name.result ≡ Err c.in_err-name.field-0.0 = search rules in
    absurd (member_refused (DEEPEST_DEFINITION - 2) ms l.cursor left c.next_name.result
    (λ k rest found. (found.now ≡ k) × (c.next_name.new.self ≡ rest)) c.as_slice.result.now c.as_slice.ensures.value
    c.next_name.ensures.taken c.in_err-name.field-0.0 not c.next_name.ensures.ended
    (members_next (DEEPEST_DEFINITION - 2) ms l.cursor left (l.invariant.3 all left reads sorted)))

pub returns-in_err-value-clause-taken : goal.returns-in_err-value-clause-taken
returns-in_err-value-clause-taken c = λ all left reads sorted.
    let l = c.members in
    let ms = l.found.items in
    let name = c.in-Some.name in
    let some : c.next_name.result ≡ Ok (Some name) = search rules in
    let n = member_here (DEEPEST_DEFINITION - 2) ms l.cursor left c.next_name.result name some c.next_name.ensures.ended
    (members_next (DEEPEST_DEFINITION - 2) ms l.cursor left (l.invariant.3 all left reads sorted)) in
    let so = member_named (DEEPEST_DEFINITION - 2) ms l.cursor left c.next_name.result
    (λ k rest found. (found.now ≡ k) × (c.next_name.new.self ≡ rest)) c.as_slice.result.now c.as_slice.ensures.value
    c.next_name.ensures.taken name some n in
    let is = c.in_err-value.ensures.taken n.d n.to
    (subst (λ xs. Reads (DEEPEST_DEFINITION - 2) n.d xs n.to) (sym so.1) n.reads) n.ends in search rules

pub returns-clause-taken : goal.returns-clause-taken
returns-clause-taken c = λ all left reads sorted.
    let l = c.members in
    let ms = l.found.items in
    let none : c.next_name.result ≡ Ok None = search rules in
    let end = members_over (DEEPEST_DEFINITION - 2) ms l.cursor left c.next_name.result
    (λ k rest found. (found.now ≡ k) × (c.next_name.new.self ≡ rest)) c.as_slice.result.now c.as_slice.ensures.value
    c.next_name.ensures.taken none
    (members_next (DEEPEST_DEFINITION - 2) ms l.cursor left (l.invariant.3 all left reads sorted)) in
    let ended : l.cursor ≡ 125 ∷ c.next_name.new.self = search rules in
    ap (drop 1) (sym ended ∙ end)

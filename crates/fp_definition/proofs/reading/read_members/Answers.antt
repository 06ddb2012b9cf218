use Rattle.std.proofs.Common.{Ok, Err, Some, None, drop, ◌≡◌, ◌-◌, ◌∷◌, ◌++◌, [], length}
use Rattle.std.proofs.Common.{option_map, false, inl, refl, sym, ap, subst, ◌∙◌, arith, rules}
use Rattle.json.specs.Print.{quoted}
use Rattle.serde_json.specs.Data.{Members, member, no_members}
use Rattle.serde_json.specs.Written.{comma_if, compact_text, members_text}
use Rattle.fp_base.specs.Places.{AreBefore}
use Rattle.fp_base.specs.Sorted.{IsSorted}
use Rattle.fp_base.specs.TreeView.{Entry, tree_view, tree_members}
use Rattle.fp_canonical.specs.Reads.{Reads, ReadsMembers, is_some_there}
use Rattle.fp_canonical.proofs.Next.{AreLeft, all_left, member_here, member_named, member_refused}
use Rattle.fp_canonical.proofs.Next.{members_next, members_over}
use Rattle.fp_canonical.proofs.Read.{AreReadBehind, no-member-read, read-behind, sorted-on}
use Rattle.fp_definition.specs.Beside.{in_place, members_with, targeting_in}
use Rattle.fp_definition.specs.Numbers.{DEEPEST_DEFINITION}
use Rattle.fp_definition.specs.Spelled.{AreNoted}
use Rattle.fp_definition.proofs.Passed.{name_text, past, past_name, same_passed}
use Rattle.fp_definition.proofs.Beside.{front_on, told_first, told_on, with-more}
use Rattle.fp_definition.proofs.Spelled.{none_noted_yet, noted_more}
use Rattle.fp_definition.proofs.reading.read_members.Goals as goal

pub members-init : goal.members-init
members-init c =
    let none = c.in_ok-found.ensures.items in
    let text = c.args.cursor.now in (
      subst (λ es. AreReadBehind (DEEPEST_DEFINITION - 1) (is_some_there es) (members_with None es) text text) (sym none)
          (λ more left r. r),
      subst (λ es. IsSorted (tree_members es)) (sym none) tt,
      omega arith,
      λ ms left alone reads sorted.
          subst (λ es. AreLeft (DEEPEST_DEFINITION - 1) es text left) (sym none)
          (all_left (DEEPEST_DEFINITION - 1) ms text left reads sorted),
      λ before len. (
        before,
        refl,
        λ more.
            subst (λ es. AreNoted before None (c.none.result) more (members_with None es more)) (sym none)
            (none_noted_yet before more c.none.result c.none.ensures),
      ),
      inl refl,
      λ alone. refl,
    )

pub members-preserved : goal.members-preserved
members-preserved c =
    let l = c.members in
    let ms = l.found.items in
    let m : Entry = (c.in-Some.name, c.in_ok-value.value) in
    let one = c.next_name.new.self in
    let two = c.read_member.new.cursor in
    let noted = c.read_member.new.noted in
    let t = targeting_in noted.other in
    let d = in_place t m.0.now (tree_view m.1) in
    let pushed = c.in_ok-push.ensures.items in
    let all = c.push.new.self.items in
    let named : l.cursor ≡ comma_if (is_some_there ms) ++ (quoted m.0.now ++ 58 ∷ one) = search rules in
    let behind : AreBefore m.0.now ms = search rules in
    let read = c.in_ok-value.ensures.read in
    let before = members_with (targeting_in l.noted.other) ms in
    let front : (more : Members) → members_with t ms more ≡ before more =
    λ more. front_on l.noted.other noted.other ms m.0.now more behind c.in_ok-value.ensures.on in
    let with : (more : Members) → members_with t all more ≡ before (member m.0.now d more) =
    λ more. ap (λ es. members_with t es more) pushed ∙ with-more t ms m more ∙ front (member m.0.now d more) in
    let vs = option_map (λ v. v.items) l.noted.variants in (
      read-behind (DEEPEST_DEFINITION - 1) ms before (members_with t all)
          c.args.cursor.now l.cursor one two m d all l.invariant.0 pushed with named read,
      sorted-on ms m all l.invariant.1 behind pushed,
      omega (arith, c.in_ok-value.ensures.shorter, c.in_ok-name.ensures.shorter, l.invariant.2),
      λ ns left alone reads sorted.
          let some : c.next_name.result ≡ Ok (Some m.0) = search rules in
          let n = member_here (DEEPEST_DEFINITION - 1) ms l.cursor left c.next_name.result m.0 some c.next_name.ensures.ended
          (members_next (DEEPEST_DEFINITION - 1) ms l.cursor left (l.invariant.3 ns left alone reads sorted)) in
          let name = member_named (DEEPEST_DEFINITION - 1) ms l.cursor left c.next_name.result
          (λ k rest found. (found.now ≡ k) × (one ≡ rest)) c.as_slice.result.now c.as_slice.ensures.value
          c.next_name.ensures.taken m.0 some n in
          let end = c.in_ok-value.ensures.taken n.d n.to alone
          (subst (λ xs. Reads (DEEPEST_DEFINITION - 1) n.d xs n.to) (sym name.1) n.reads) n.ends in
          subst (λ es. AreLeft (DEEPEST_DEFINITION - 1) es two left) (sym pushed)
          (subst (λ xs. AreLeft (DEEPEST_DEFINITION - 1) (ms ++ m ∷ []) xs left) (sym end) (n.on m name.0)),
      λ front len.
          let h = l.invariant.4 front len in
          let whole = front ++ c.args.cursor.now in
          let name = name_text (is_some_there ms) m.0.now in
          let behind_name = past_name whole h.0 l.cursor one (is_some_there ms) m.0.now h.1 named in
          let behind_value = past whole (h.0 ++ name) one (compact_text d) two behind_name read.spelled in (
            (h.0 ++ name) ++ compact_text d,
            behind_value,
            λ more.
                subst (AreNoted ((h.0 ++ name) ++ compact_text d) (option_map (λ v. v.items) noted.variants) noted.places more)
                (sym (with more))
                (c.in_ok-value.ensures.noted (h.0 ++ name) (len ∙ ap length behind_name) more
                (before (member m.0.now d more))
                (noted_more h.0 name vs l.noted.places (member m.0.now d more) (before (member m.0.now d more))
                (h.2 (member m.0.now d more)))),
          ),
      told_on l.noted.other noted.other ms m all pushed l.invariant.5 c.in_ok-value.ensures.on,
      λ alone. c.in_ok-value.ensures.alone alone ∙ l.invariant.6 alone,
    )

pub read_member-requires-clause-first : goal.read_member-requires-clause-first
read_member-requires-clause-first c =
    let l = c.members in
    let behind : AreBefore c.in-Some.name.now l.found.items = search rules in
    told_first l.noted.other l.found.items c.in-Some.name.now l.invariant.5 behind

pub returns-clause-read : goal.returns-clause-read
returns-clause-read c =
    let l = c.members in
    let left = c.next_name.new.self in
    let end : l.cursor ≡ 125 ∷ left = search rules in
    subst (λ es. ReadsMembers (DEEPEST_DEFINITION - 1) false
    (members_with (targeting_in l.noted.other) es no_members) c.args.cursor.now left) (sym c.into_bump_slice.ensures)
    (l.invariant.0 no_members left (no-member-read (DEEPEST_DEFINITION - 1) (is_some_there l.found.items) l.cursor left end))

pub returns-clause-noted : goal.returns-clause-noted
returns-clause-noted c = λ before len.
    let l = c.members in
    let left = c.next_name.new.self in
    let end : l.cursor ≡ 125 ∷ left = search rules in
    let h = l.invariant.4 before len in
    let all = members_with (targeting_in l.noted.other) l.found.items no_members in
    let vs = option_map (λ v. v.items) l.noted.variants in
    let read = l.invariant.0 no_members left (no-member-read (DEEPEST_DEFINITION - 1) (is_some_there l.found.items) l.cursor left end) in
    let same = same_passed before (members_text false all) left c.args.cursor.now h.0 (125 ∷ []) read.spelled
    (h.1 ∙ ap (λ xs. h.0 ++ xs) end) in
    subst (λ es. AreNoted (before ++ members_text false (members_with (targeting_in l.noted.other) es no_members)) vs
    l.noted.places no_members (members_with (targeting_in l.noted.other) es no_members)) (sym c.into_bump_slice.ensures)
    (subst (λ xs. AreNoted xs vs l.noted.places no_members all) (sym same)
    (noted_more h.0 (125 ∷ []) vs l.noted.places no_members all (h.2 no_members)))

-- ---- what is taken

pub returns-in_err-name-clause-taken : goal.returns-in_err-name-clause-taken
returns-in_err-name-clause-taken c = λ all left alone reads sorted.
    let l = c.members in
    let ms = l.found.items in
    let not : c.next_name.result ≡ Err c.in_err-name.field-0.0 = search rules in
    absurd (member_refused (DEEPEST_DEFINITION - 1) ms l.cursor left c.next_name.result
    (λ k rest found. (found.now ≡ k) × (c.next_name.new.self ≡ rest)) c.as_slice.result.now c.as_slice.ensures.value
    c.next_name.ensures.taken c.in_err-name.field-0.0 not c.next_name.ensures.ended
    (members_next (DEEPEST_DEFINITION - 1) ms l.cursor left (l.invariant.3 all left alone reads sorted)))

pub returns-in_err-value-clause-taken : goal.returns-in_err-value-clause-taken
returns-in_err-value-clause-taken c = λ all left alone reads sorted.
    let l = c.members in
    let ms = l.found.items in
    let name = c.in-Some.name in
    let some : c.next_name.result ≡ Ok (Some name) = search rules in
    let n = member_here (DEEPEST_DEFINITION - 1) ms l.cursor left c.next_name.result name some c.next_name.ensures.ended
    (members_next (DEEPEST_DEFINITION - 1) ms l.cursor left (l.invariant.3 all left alone reads sorted)) in
    let so = member_named (DEEPEST_DEFINITION - 1) ms l.cursor left c.next_name.result
    (λ k rest found. (found.now ≡ k) × (c.next_name.new.self ≡ rest)) c.as_slice.result.now c.as_slice.ensures.value
    c.next_name.ensures.taken name some n in
    let is = c.in_err-value.ensures.taken n.d n.to alone
    (subst (λ xs. Reads (DEEPEST_DEFINITION - 1) n.d xs n.to) (sym so.1) n.reads) n.ends in search rules

pub returns-clause-taken : goal.returns-clause-taken
returns-clause-taken c = λ all left alone reads sorted.
    let l = c.members in
    let ms = l.found.items in
    let none : c.next_name.result ≡ Ok None = search rules in
    let end = members_over (DEEPEST_DEFINITION - 1) ms l.cursor left c.next_name.result
    (λ k rest found. (found.now ≡ k) × (c.next_name.new.self ≡ rest)) c.as_slice.result.now c.as_slice.ensures.value
    c.next_name.ensures.taken none
    (members_next (DEEPEST_DEFINITION - 1) ms l.cursor left (l.invariant.3 all left alone reads sorted)) in
    let ended : l.cursor ≡ 125 ∷ c.next_name.new.self = search rules in
    ap (drop 1) (sym ended ∙ end)

use Rattle.std.proofs.Common.{sym, ap, subst, ◌∙◌, arith}
use Rattle.std.specs.FinMap as map
use Rattle.std.specs.Prelude.{All}
use Rattle.std.specs.Str.{IsUtf8}
use Rattle.fp_definition.specs.declared.key.FlagKey.{FlagKey}
use Rattle.fp_documents.specs.Entries.{entries_of}
use Rattle.fp_documents.specs.declared.flags.Flag.{Flag}
use Rattle.fp_edit.specs.Flags.{IsChangedBy}
use Rattle.fp_shown.specs.Sets.{IsFlag}
use Rattle.fp_shown.proofs.Walked.{changed_behind, decided, none_left}
use Rattle.fp_shown.proofs.lawful.every_set_is_lawful.Goals as goal

pub loop-key-init : goal.loop-key-init
loop-key-init c =
    let s = c.args.set.now in
    let same = c.into_iter-key-iterator.ensures.into_iter_gives in (
      λ all.
          subst (All (IsFlag s.revision)) (ap entries_of same ∙ c.iter-key-items.ensures.entries) all,
      subst (All (λ (e : FlagKey × Flag). IsChangedBy s.revision e.1)) (sym same)
          c.iter-key-items.ensures.changed,
    )

pub loop-key-preserved : goal.loop-key-preserved
loop-key-preserved c =
    let s = c.args.set.now in
    let left = c.loop-key.key-iterator in
    let next = c.in-Some.ensures.steps in
    let utf8 = subst IsUtf8 c.as_str-key.ensures c.as_str-key.utf8 in
    let text = c.text-text.ensures.canonical in
    let key = c.in-Some.key.now in
    let flag = c.in-Some.flag.now in
    let rest = c.next.new.self in
    let decide = c.loop-key.invariant.0 in
    let changed = c.loop-key.invariant.1 in (
      decided s.revision (map.entries s.flags) left rest key flag next decide changed utf8 text,
      changed_behind s.revision left rest key flag next changed,
    )

pub returns : goal.returns
returns c =
    let s = c.args.set.now in
    let revision = c.revision-revision.ensures.revision in
    let bounded = c.revision-revision.ensures.bounded in
    let len = c.len-count.ensures.len in
    let few = c.len-count.ensures.bounded in
    none_left s c.loop-key.key-iterator c.in-None.ensures.steps.0 c.loop-key.invariant.0
    (omega (arith, revision, bounded)) (omega (arith, len, few))

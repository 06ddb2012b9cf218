use Rattle.std.proofs.Common.{◌∷◌, [], ◌++◌, true, ℕ, List, append_assoc, sym, ap, ◌∙◌}
use Rattle.serde_json.specs.Written.{members_text}
use Rattle.fp_definition.specs.Key.{key_bytes}
use Rattle.fp_documents.specs.Document.{members_of}
use Rattle.fp_documents.specs.Entries.{entries_of}
use Rattle.fp_documents.specs.Outline.{part, part_lengths}
use Rattle.fp_documents.specs.declared.flags.Flag.{Flag}
use Rattle.fp_documents.proofs.Patched.{first_member}
use Rattle.fp_documents.proofs.document.put_members.Goals as goal

pub loop-key-preserved : goal.loop-key-preserved
loop-key-preserved c =
    let flag = c.in-Some.flag.now in
    let e : List ℕ × Flag = (key_bytes c.in-Some.key.now, flag) in
    let es = entries_of c.next.new.self in
    let later = c.loop-key.later in
    let out = c.loop-key.out.items in
    let lengths = c.loop-key.lengths.items in
    let steps = sym c.in-Some.ensures.steps in record {
      members =
          ap (λ l. l ++ members_text true (members_of es)) (c.in_ok-len.ensures.part flag.changed)
          ∙ append_assoc out (part later e) (members_text true (members_of es))
          ∙ ap (λ l. out ++ l) (sym (first_member later e es))
          ∙ ap (λ xs. out ++ members_text later (members_of (entries_of xs))) steps
          ∙ c.loop-key.invariant.members;
      lengths =
          ap (λ l. l ++ part_lengths true es) c.in_ok-push.ensures.items
          ∙ append_assoc lengths (c.in_ok-len.len ∷ []) (part_lengths true es)
          ∙ ap (λ n. lengths ++ n ∷ part_lengths true es) (c.in_ok-len.ensures.length flag.changed)
          ∙ ap (λ xs. lengths ++ part_lengths later (entries_of xs)) steps
          ∙ c.loop-key.invariant.lengths;
    }

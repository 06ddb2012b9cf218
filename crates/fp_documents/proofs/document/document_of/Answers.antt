use Rattle.std.proofs.Common.{◌≡◌, ◌∷◌, [], ◌++◌, false, codes, append_assoc, refl, ap, ◌∙◌}
use Rattle.serde_json.specs.Written.{members_text}
use Rattle.fp_documents.specs.Document.{members_of}
use Rattle.fp_documents.specs.Entries.{entries_of}
use Rattle.fp_documents.specs.Outline.{part_lengths}
use Rattle.fp_documents.proofs.document.document_of.Goals as goal

pub returns : goal.returns
returns c =
    let es = entries_of c.args.flags.now.entries in
    let head = codes "{\"flags\":{" in
    let start : c.extend_from_slice.new.self.items ≡ [] ++ head = c.in_ok-extend_from_slice.ensures.items ∙
    ap (λ l. l ++ head) c.in_ok-text.ensures.items in (
      record {
        text =
            c.in_ok-push.ensures.items
            ∙ ap (λ l. l ++ 125 ∷ []) (c.in_ok-put_members.ensures.members ∙ ap (λ l. l ++ members_text false (members_of es)) start)
            ∙ append_assoc head (members_text false (members_of es)) (125 ∷ []);
        lengths = c.in_ok-put_members.ensures.lengths ∙ ap (λ l. l ++ part_lengths false es) c.in_ok-lengths.ensures.items;
      },
      refl,
    )

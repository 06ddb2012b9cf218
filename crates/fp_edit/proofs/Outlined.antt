-- Documents of the sets that a map's entries make.
use Rattle.std.proofs.Common.{◌≡◌, ℕ, false, List, length, sym, refl, ap, subst, ◌∙◌}
use Rattle.std.specs.List.Sorted.{IsStrictlySortedBy}
use Rattle.std.specs.Map.{keys_of}
use Rattle.std.specs.FinMap as fin
use Rattle.serde_json.proofs.OnLiterals.{serde_json_on_literals}
use Rattle.fp_definition.specs.Key.{flag_cmp}
use Rattle.fp_definition.specs.declared.key.FlagKey.{FlagKey}
use Rattle.fp_documents.specs.Document.{document}
use Rattle.fp_documents.specs.Entries.{entries_of, flags_of}
use Rattle.fp_edit.specs.Edits.{Change}
use Rattle.fp_edit.specs.Flags.{Flags, State}
use Rattle.fp_edit.specs.Log.{after_all}
use Rattle.fp_documents.specs.Outline.{Outlines, IsAlike, IsDocumentOf, HasAsMany, whole_text}
use Rattle.fp_documents.specs.declared.document.Document.{Document}
use Rattle.fp_documents.specs.declared.flags.Flag.{Flag}
use Rattle.fp_edit.proofs.Changed.{AreChangedBy}
use Rattle.fp_documents.proofs.Maps.{entries-flags_of}
use Rattle.fp_documents.proofs.Patched.{length-part_lengths}
use Rattle.fp_edit.proofs.Since.{none_after, as_many_before}

whole_is_document : (flags : Flags) → whole_text (fin.entries flags) ≡ document flags
unfolding serde_json_on_literals
whole_is_document flags = refl

pub is_document_of : (d : Document) (es : List (FlagKey × Flag)) (revision limit : ℕ) →
    IsStrictlySortedBy flag_cmp (keys_of es) → AreChangedBy revision (flags_of es)
    → Outlines d (entries_of es) → d.revision ≡ revision →
    IsDocumentOf d (record { flags = flags_of es; revision = revision; limit = limit })
is_document_of d es revision limit ordered changed o at =
    let same = sym (entries-flags_of es ordered) in record {
      outlines = subst (Outlines d) same o;
      shows = o.text ∙ ap whole_text same ∙ whole_is_document (flags_of es);
      revision = at;
      changed = none_after revision (flags_of es) changed;
    }

-- flags that a later set has, where it has as many as a document shows
pub as_many_shown : (d : Document) (s t : State) (log : List Change) → IsDocumentOf d s → t ≡ after_all s log →
    length d.lengths.items ≡ fin.len t.flags
    → HasAsMany d.revision (fin.entries s.flags) (fin.entries t.flags)
as_many_shown d s t log doc leads count =
    let shown = ap length doc.outlines.lengths ∙ length-part_lengths false (fin.entries s.flags) ∙ sym (fin.len-entries s.flags) in
    rw doc.revision (as_many_before s t log leads (sym count ∙ shown))

-- one that is alike is the document of the same sets
pub alike_document : (d e : Document) (s : State) → IsAlike d e → IsDocumentOf d s → IsDocumentOf e s
alike_document d e s same doc = record {
  outlines = record { text = same.0 ∙ doc.outlines.text; lengths = same.1 ∙ doc.outlines.lengths };
  shows = same.0 ∙ doc.shows;
  revision = same.2 ∙ doc.revision;
  changed = doc.changed;
}

use Rattle.std.proofs.Common.{◌≡◌, ◌++◌, false}
use Rattle.serde_json.specs.Written.{members_text}
use Rattle.fp_documents.specs.Document.{members_of}
use Rattle.fp_documents.specs.Entries.{entries_of}
use Rattle.fp_documents.specs.Outline.{part_lengths}
use Rattle.fp_documents.proofs.document.put_members.Given as goal

-- what is written, and the text of what is left, are the text of all; and so are the lengths
abbrev pub invariant-loop-key : goal.invariant-loop-key
invariant-loop-key l = record {
  members : l.out.items ++ members_text l.later (members_of (entries_of l.key-iterator)) ≡ l.initial.out.items ++
      members_text false (members_of (entries_of l.flags.entries));
  lengths : l.lengths.items ++ part_lengths l.later (entries_of l.key-iterator) ≡ l.initial.lengths.items ++
      part_lengths false (entries_of l.flags.entries);
}

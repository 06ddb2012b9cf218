use Rattle.std.proofs.Common.{sym}
use Rattle.fp_definition.specs.Key.{key_bytes}
use Rattle.fp_edit.specs.Parts.{put, delete, parts_of}
use Rattle.fp_record.proofs.Lengths.{length-one, length-set}
use Rattle.fp_record.proofs.batch.encoded_len.Goals as goal

pub returns-in-Put-clause-len : goal.returns-in-Put-clause-len
returns-in-Put-clause-len c = rw (c.in-Put.is, c.put_len.ensures) (sym (length-one (put (key_bytes c.in-Put.key) c.in-Put.flag)))

pub returns-in-Delete-clause-len : goal.returns-in-Delete-clause-len
returns-in-Delete-clause-len c = rw (c.in-Delete.is, c.delete_len.ensures) (sym (length-one (delete (key_bytes c.in-Delete.key))))

pub returns-in-Set-clause-len : goal.returns-in-Set-clause-len
returns-in-Set-clause-len c = rw (c.in-Set.is, c.encoded_len.ensures.len) (sym (length-set (parts_of c.in-Set.changes)))

use Rattle.std.proofs.Common.{List, get_or, All, sym, ap, subst, ◌∙◌}
use Rattle.fp_definition.specs.Key.{key_bytes}
use Rattle.fp_definition.specs.declared.key.FlagKey.{FlagKey}
use Rattle.fp_documents.specs.Entries.{entries_of}
use Rattle.fp_edit.specs.Flags.{IsChangedBy}
use Rattle.fp_documents.specs.declared.flags.Flag.{Flag}
use Rattle.fp_documents.proofs.Maps.{entries-flags_of, get-flags_of}
use Rattle.fp_edit.proofs.flag_set.FlagSet.iter.Goals as goal

pub returns-clause-entries : goal.returns-clause-entries
returns-clause-entries c = rw (← c.self.view_is)
    (ap entries_of c.iter.ensures.rest ∙ sym (entries-flags_of c.self.inside.flags.entries c.iter.ensures.ordered))

pub returns-clause-changed : goal.returns-clause-changed
returns-clause-changed c =
    let es = c.self.inside.flags.entries in
    rw (← c.self.view_is) (subst (λ (xs : List (FlagKey × Flag)). All (λ e. IsChangedBy c.self.inside.revision e.1)
    xs) (sym c.iter.ensures.rest)
    (λ i d h. let e = get_or es i d in
    c.self.invariant.1.changed (key_bytes e.0) e.1
    (get-flags_of es (key_bytes e.0) ∙ c.iter.ensures.found i d h)))

use Rattle.std.proofs.Common.{◌≡◌, length, sym, ◌∙◌}
use Rattle.std.specs.FinMap as fin
use Rattle.std.proofs.lemmas.Bool.{eqb-true}
use Rattle.fp_edit.specs.Flags.{State}
use Rattle.fp_edit.proofs.Outlined.{as_many_shown}
use Rattle.fp_edit.proofs.flag_set.FlagSet.has_as_many_as.Goals as goal

pub returns : goal.returns
returns c seen =
    let before = c.args.before.now in
    let t : State = c.args.self.now in
    let s : State = c.requires.0 in
    let count : length before.lengths.items ≡ fin.len t.flags = sym c.count.ensures ∙ eqb-true _ _ seen ∙ c.len.ensures.len in
    (fin.entries s.flags, c.requires.1.outlines, as_many_shown before s t c.requires.2.0 c.requires.1 c.requires.2.1 count)

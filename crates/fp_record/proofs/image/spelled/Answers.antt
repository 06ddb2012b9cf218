use Rattle.std.proofs.Common.{◌≡◌, ◌++◌, List, ℕ, ap, sym, ◌∙◌, length, take}
use Rattle.std.specs.Int.{w32, to_be_bytes}
use Rattle.std.specs.List.{flat_map}
use Rattle.std.proofs.lemmas.List.{take_all, length-map}
use Rattle.fp_definition.specs.declared.key.FlagKey.{FlagKey}
use Rattle.fp_documents.specs.Entries.{entry_of, entries_of}
use Rattle.fp_documents.specs.declared.flags.Flag.{Flag}
use Rattle.fp_record.specs.Encoding.{encoding_of_flag, encoding_of_image}
use Rattle.fp_record.proofs.image.spelled.Goals as goal

pub returns-clause-spelled : goal.returns-clause-spelled
unfolding encoding_of_image
returns-clause-spelled c =
    let flags = c.args.flags.now in
    let all : take c.loop-flag.flag-index flags ≡ flags = take_all _ _ c.loop-flag-test.false in
    c.loop-flag.invariant.0
    ∙ ap (λ (done : List (FlagKey × Flag)). to_be_bytes w32 (length flags) ++ flat_map encoding_of_flag (entries_of done)) all
    ∙ ap (λ (n : ℕ). to_be_bytes w32 n ++ flat_map encoding_of_flag (entries_of flags)) (sym (length-map flags entry_of))

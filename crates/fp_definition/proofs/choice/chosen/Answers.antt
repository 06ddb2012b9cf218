use Rattle.std.proofs.Common.{codes, option_map, refl, sym, ap, ap₂, subst, ◌∙◌}
use Rattle.serde_json.specs.Data.{no_members}
use Rattle.fp_definition.specs.Resolving.{data_of, is_disabled}
use Rattle.fp_definition.specs.Spelled.{AreNoted}
use Rattle.fp_definition.specs.Valid.{names_variant}
use Rattle.fp_definition.proofs.Said.{chosen_is}
use Rattle.fp_definition.proofs.choice.chosen.Goals as goal

pub default_of-requires : goal.default_of-requires
default_of-requires c =
    let alike = c.requires.alike.members in
    ap₂ names_variant (alike (codes "defaultVariant") refl) (alike (codes "variants") refl) ∙ c.requires.tested.default

pub returns : goal.returns
returns c =
    let d = data_of c.args.text.now in
    let alike = c.requires.alike.members in
    let is = chosen_is d c.args.text.now c.in-Some.variants.items c.args.places c.requires.tested c.requires.ordered
    (λ ms e. subst (λ o. AreNoted c.args.text.now (option_map (λ v. v.items) o) c.args.places no_members ms)
    c.in-Some.is (c.requires.noted ms e)) in
    record {
      disabled = c.says_disabled.ensures ∙ ap is_disabled (alike (codes "state") refl);
      default = sym (alike (codes "defaultVariant") refl) ∙ c.in_ok-default.ensures;
      members = is.members;
      variants =
          is.variants;
      sorted = is.sorted;
      values = is.values;
      metadata = is.metadata;
      targeting = is.targeting;
    }

use Rattle.std.proofs.Common.{◌≡◌, Some, None, codes, unwrap_or, sym, ap, subst, ◌∙◌, rules}
use Rattle.std.specs.Prelude.{if◌then◌else◌}
use Rattle.serde_json.specs.Data.{null, object}
use Rattle.serde_json.specs.Find.{get}
use Rattle.fp_base.specs.TreeView.{tree_members}
use Rattle.fp_base.proofs.Views.{view-Object}
use Rattle.fp_definition.specs.Beside.{AreAlike, object_with, targeting_in}
use Rattle.fp_definition.specs.Resolving.{data_of}
use Rattle.fp_definition.specs.Valid.{IsValid}
use Rattle.fp_definition.proofs.Beside.{beside_is, with-none, with_alike}
use Rattle.fp_definition.proofs.Canonical.{is_definition_text-compact_text}
use Rattle.fp_definition.proofs.definition.read_through.Goals as goal

pub finished-requires-clause-alike : goal.finished-requires-clause-alike
finished-requires-clause-alike c =
    let ms = c.args.found.members.now in
    let own = c.extend_from_slice.new.self.items in
    let same : own ≡ c.args.text.now = search rules in
    let is = ap data_of same ∙ ap (λ o. unwrap_or o null) c.requires.read.reads in
    subst (λ d. AreAlike d (data_of own)) (sym (view-Object c.args.found.members))
    (subst (AreAlike (object (tree_members ms))) (sym is) (with_alike (targeting_in c.args.found.noted.other) ms))

pub finished-requires-clause-alone : goal.finished-requires-clause-alone
finished-requires-clause-alone c = λ none.
    let ms = c.args.found.members.now in
    let own = c.extend_from_slice.new.self.items in
    let same : own ≡ c.args.text.now = search rules in
    let is = ap data_of same ∙ ap (λ o. unwrap_or o null) c.requires.read.reads in
    view-Object c.args.found.members ∙ ap object (sym (with-none ms)) ∙ ap (λ o. object_with o ms) (sym none) ∙ sym is

pub finished-requires-clause-targeting : goal.finished-requires-clause-targeting
finished-requires-clause-targeting c =
    let own = c.extend_from_slice.new.self.items in
    let same : own ≡ c.args.text.now = search rules in
    let is = ap data_of same ∙ ap (λ o. unwrap_or o null) c.requires.read.reads in
    beside_is c.args.found.noted.other c.args.found.members.now _ (view-Object c.args.found.members) c.requires.told
    ∙ ap (get (codes "targeting")) (sym is)

pub returns-in-Ok : goal.returns-in-Ok
returns-in-Ok c =
    let text = c.args.text.now in
    let own = c.extend_from_slice.new.self.items in
    let same : own ≡ text = search rules in
    let is = ap data_of same ∙ ap (λ o. unwrap_or o null) c.requires.read.reads in
    let canonical = is_definition_text-compact_text text (object_with c.args.found.noted.other c.args.found.members.now)
    c.requires.read.reads (subst IsValid is c.in-Ok.ensures.valid) c.requires.read.spelled in
    ap Some (c.in-Ok.ensures.text ∙ same) ∙ sym (ap (λ b. if b then Some text else None) canonical)

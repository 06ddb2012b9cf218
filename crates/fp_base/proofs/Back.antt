-- What is printed of data as they are read, whose numbers are whole, is read as them.
use Rattle.std.proofs.Common.{◌≡◌, ◌≤◌, ℕ, suc, max, List, [], true, Some, refl, sym, ap, ap₂, ◌∙◌, arith, append-nil}
use Rattle.std.proofs.lemmas.Bool.{and_parts}
use Rattle.std.specs.Prelude.{option_map, option_and_then}
use Rattle.std.specs.Str.{IsUtf8}
use Rattle.json.specs.Json as json
use Rattle.json.specs.Lex.{tokens}
use Rattle.json.specs.Tree as tree
use Rattle.json.specs.Tree.{json_tokens}
use Rattle.json.proofs.Printed.Trees.{value-json_tokens}
use Rattle.serde_json.specs.Data.{Data, null, boolean, number, string, array, object, Items, no_items, item, Members}
use Rattle.serde_json.specs.Data.{no_members, member, depth, items_depth, members_depth}
use Rattle.serde_json.specs.Read.{of_json, of_items}
use Rattle.serde_json.specs.Written.{outline, items_outline, members_outline}
use Rattle.fp_base.specs.Json.{json_of}
use Rattle.fp_base.specs.Ordered.{IsOrdered, AreOrdered, MembersAreOrdered}
use Rattle.fp_base.specs.Whole.{is_whole, items_whole, members_whole}
use Rattle.fp_base.proofs.Reading.{json_of_read}
use Rattle.fp_base.proofs.Sorted.{AreBack, members-read_back}

mutual
  pub read_back : (d : Data) → IsOrdered d → is_whole d ≡ true → of_json (outline d) ≡ Some d
  read_back null o w = refl
  read_back (boolean b) o w = refl
  read_back (number n) o w = ap (option_map number) (o w)
  read_back (string s) o w = refl
  read_back (array ds) o w = ap (option_map array) (items-read_back ds o w)
  read_back (object ms) o w = ap (option_map object) (members-read_back ms o.0 (are_back ms o.1 w))

  items-read_back : (ds : Items) → AreOrdered ds → items_whole ds ≡ true → of_items (items_outline ds) ≡ Some ds
  items-read_back no_items o w = refl
  items-read_back (item d ds) o w =
      let parts = and_parts (is_whole d) (items_whole ds) w in rw (read_back d o.0 parts.0, items-read_back ds o.1 parts.1) refl

  are_back : (ms : Members) → MembersAreOrdered ms → members_whole ms ≡ true → AreBack ms
  are_back no_members o w = tt
  are_back (member k d ms) o w =
      let parts = and_parts (is_whole d) (members_whole ms) w in (read_back d o.0 parts.0, are_back ms o.1 parts.1)

mutual
  depth-outline : (d : Data) → tree.depth (outline d) ≡ depth d
  depth-outline null = refl
  depth-outline (boolean b) = refl
  depth-outline (number n) = refl
  depth-outline (string s) = refl
  depth-outline (array ds) = ap suc (depth-items ds)
  depth-outline (object ms) = ap suc (depth-members ms)

  depth-items : (ds : Items) → tree.items_depth (items_outline ds) ≡ items_depth ds
  depth-items no_items = refl
  depth-items (item d ds) = ap₂ max (depth-outline d) (depth-items ds)

  depth-members : (ms : Members) → tree.members_depth (members_outline ms) ≡ members_depth ms
  depth-members no_members = refl
  depth-members (member k d ms) = ap₂ max (depth-outline d) (depth-members ms)

-- a text that has the tokens of the data
pub print-reads : (text : List ℕ) (d : Data) → tokens text ≡ json_tokens (outline d) → IsUtf8 text → IsOrdered d →
    is_whole d ≡ true → depth d ≤ 127 → json_of text ≡ Some d
print-reads text d spelt utf8 o w flat =
    let whole : json.value 127 (tokens text) ≡ Some (outline d, []) =
    ap (json.value 127) (spelt ∙ sym (append-nil (json_tokens (outline d)))) ∙
    value-json_tokens (outline d) 127 [] (omega (arith, depth-outline d)) in
    json_of_read text d utf8 (ap (λ r. option_and_then of_json (option_and_then (λ q. json.if_last q.0 q.1) r)) whole ∙ read_back d o w)

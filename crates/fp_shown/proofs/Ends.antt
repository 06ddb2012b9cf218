-- Where a scan ends.
use Rattle.std.proofs.Common.{◌≡◌, ◌≤◌, ◌<◌, ◌+◌, ◌++◌, ℕ, List, [], length, drop, get_or, true}
use Rattle.std.proofs.Common.{Option, Some, sym, ap, ◌∙◌, arith}
use Rattle.std.specs.Prelude.{if◌then◌else◌, is_some, unwrap_or}
use Rattle.std.proofs.lemmas.Bool.{false≢true}
use Rattle.std.proofs.lemmas.List.{at_drop_more, drop_all, length-append, length-drop}
use Rattle.json.specs.Print.{quoted}
use Rattle.fp_definition.specs.Valid.{is_definition_text}
use Rattle.fp_shown.specs.Scan.{after, is_done}
use Rattle.fp_shown.specs.declared.members.Scan.{Scan}
use Rattle.fp_shown.proofs.Definitions.{behind-definition}
use Rattle.fp_shown.proofs.Scanning.{behind, behind-quoted, between_at}

pub same_some : {A : Type 0} (a b : A) → Some a ≡ Some b → a ≡ b
same_some a b e = ap (λ o. unwrap_or o a) e

-- it ends at a byte that is done with
pub stops : (s t : Scan) (text : List ℕ) (at : ℕ) → at < length text
    → t ≡ after s.place s.depth (get_or text at 0) → is_done t ≡ true
    → behind s (drop at text) ≡ Some (drop (at + 1) text)
stops s t text at lt by done =
    at_drop_more (behind s) text at 0 lt
    ∙ ap (λ u. if is_done u then Some (drop (at + 1) text) else behind u (drop (at + 1) text))
    (sym by)
    ∙ ap (λ b. if b then Some (drop (at + 1) text) else behind t (drop (at + 1) text)) done

-- it doesn't end in a text that it has passed
pub passed_all : (s : Scan) (text rest : List ℕ) (at : ℕ) (found : Option (List ℕ))
    → length text ≤ at → behind s (drop at text) ≡ found → found ≡ Some rest → ⊥
passed_all s text rest at found all is some =
    let none : drop at text ≡ [] = drop_all at text all in
    absurd (false≢true (ap is_some (ap (behind s) (sym none) ∙ is ∙ some)))

pub ends_at : (text value rest : List ℕ) (end : ℕ) → end ≤ length text → text ≡ value ++ rest
    → Some (drop end text) ≡ Some rest → Some end ≡ Some (length value)
ends_at text value rest end within is left =
    let same = ap length (same_some (drop end text) rest left) in
    let dropped = length-drop end text in
    let whole = ap length is ∙ length-append value rest in
    ap Some (omega (arith, same, dropped, whole, within))

-- a text in quotes, or a definition
pub ends_name : (text key rest : List ℕ) → text ≡ quoted key ++ rest
    → behind (between_at 0) text ≡ Some rest
ends_name text key rest is = ap (behind (between_at 0)) is ∙ behind-quoted key 0 rest

pub ends_value : (text value rest : List ℕ) → is_definition_text value ≡ true → text ≡ value ++ rest
    → behind (between_at 0) text ≡ Some rest
ends_value text value rest h is = ap (behind (between_at 0)) is ∙ behind-definition value rest h

-- a text begins with one definition at most
pub same_end : (text a r b s : List ℕ) → is_definition_text a ≡ true → text ≡ a ++ r → is_definition_text b ≡ true → text ≡ b ++ s →
    length a ≡ length b
same_end text a r b s one is two also =
    let same = same_some r s (sym (ends_value text a r one is) ∙ ends_value text b s two also) in
    omega (arith, ap length is, ap length also, length-append a r, length-append b s, ap length same)

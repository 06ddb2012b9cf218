-- A text that is read, and what of it was passed.
use Rattle.std.proofs.Common.{◌≡◌, ◌-◌, ℕ, List, [], ◌∷◌, ◌++◌, Bool, length, sym, ap, ◌∙◌, arith}
use Rattle.std.proofs.Common.{append-nil, append_assoc, length-append}
use Rattle.std.proofs.lemmas.List.{append_cancel_right}
use Rattle.json.specs.Print.{quoted}
use Rattle.serde_json.specs.Written.{comma_if}

-- a name with its colon, behind others or not
abbrev pub name_text : Bool → List ℕ → List ℕ
name_text later k = comma_if later ++ (quoted k ++ 58 ∷ [])

-- past what comes next
pub past : (text passed one bytes two : List ℕ) → text ≡ passed ++ one → one ≡ bytes ++ two → text ≡ (passed ++ bytes) ++ two
past text passed one bytes two here next = here ∙ ap (λ xs. passed ++ xs) next ∙ sym (append_assoc passed bytes two)

pub past_name : (text passed one two : List ℕ) (later : Bool) (k : List ℕ) → text ≡ passed ++ one →
    one ≡ comma_if later ++ (quoted k ++ 58 ∷ two) → text ≡ (passed ++ name_text later k) ++ two
past_name text passed one two later k here next =
    past text passed one (name_text later k) two here
    (next ∙ ap (λ xs. comma_if later ++ xs) (sym (append_assoc (quoted k) (58 ∷ []) two))
    ∙ sym (append_assoc (comma_if later) (quoted k ++ 58 ∷ []) two))

-- how much was passed, by what is left
pub passed_len : (text passed left : List ℕ) (len n : ℕ) → len ≡ length text → text ≡ passed ++ left → n ≡ length left →
    len - n ≡ length passed
passed_len text passed left len n long here is = omega (arith, long, is, ap length here, length-append passed left)

-- what was passed, where the text is known in two ways
pub same_passed : (before text left all passed end : List ℕ) → all ≡ text ++ left → before ++ all ≡ passed ++ (end ++ left) →
    before ++ text ≡ passed ++ end
same_passed before text left all passed end read here =
    append_cancel_right (before ++ text) (passed ++ end) left
    (append_assoc before text left ∙ ap (λ xs. before ++ xs) (sym read) ∙ here ∙ sym (append_assoc passed end left))

-- where nothing is left
pub none_left : (text bytes left : List ℕ) → text ≡ bytes ++ left → length left ≡ 0 → text ≡ bytes
none_left text bytes [] here none = here ∙ append-nil bytes
none_left text bytes (x ∷ xs) here none = absurd (omega arith)

-- Texts put one behind another.
use Rattle.std.proofs.Common.{◌≡◌, ℕ, List, ◌++◌, append_assoc, ap, ◌∙◌}

-- three of them are one text
pub three_behind : (l a b c : List ℕ) → l ++ a ++ b ++ c ≡ l ++ (a ++ b ++ c)
three_behind l a b c = ap (λ t. t ++ c) (append_assoc l a b) ∙ append_assoc l (a ++ b) c

-- and so are five
pub five_behind : (l a b c d e : List ℕ) → l ++ a ++ b ++ c ++ d ++ e ≡ l ++ (a ++ b ++ c ++ d ++ e)
five_behind l a b c d e =
    ap (λ t. t ++ e) (ap (λ t. t ++ d) (three_behind l a b c) ∙ append_assoc l (a ++ b ++ c) d) ∙
    append_assoc l (a ++ b ++ c ++ d) e

-- What one call writes of the rest of a first text, and of a second behind it.
use Rattle.std.proofs.Common.{◌≡◌, ◌≤◌, ◌+◌, ◌-◌, ℕ, List, [], ◌++◌, length, take, drop, sym, ap, ◌∙◌, subst, arith}
use Rattle.std.proofs.Common.{append_assoc, append-nil, take-append-drop, Option}
use Rattle.std.proofs.lemmas.List.{take-append-le, take_rest}
use Rattle.std.proofs.Math.Seq.{take-append-add}
use Rattle.std.specs.Io.KnownBytes.{Appends}
use Rattle.std.proofs.KnownBytes.{Appends-trans}

-- what is done grew by what went from the rest
pub goes-over : (first done rest : List ℕ) (n : ℕ) → first ≡ done ++ rest
    → first ≡ (done ++ take n rest) ++ take (length rest - n) (drop n rest)
goes-over first done rest n split =
    split ∙ ap (λ l. done ++ l) (sym (take-append-drop n rest)) ∙ sym (append_assoc done (take n rest) (drop n rest))
    ∙ ap (λ l. (done ++ take n rest) ++ l) (sym (take_rest rest n))

module _ (old mid new : Option (List ℕ)) (done rest second x y : List ℕ) (n : ℕ) where
  both : x ≡ rest → y ≡ second → x ++ (y ++ []) ≡ rest ++ second
  both p q = ap (λ l. l ++ (y ++ [])) p ∙ ap (λ l. rest ++ l) (append-nil y ∙ q)

  -- a part of the rest
  pub writes-part : x ≡ rest → y ≡ second → n ≤ length rest → Appends old mid done
      → Appends mid new (take n (x ++ (y ++ []))) → Appends old new (done ++ take n rest)
  writes-part p q short before now =
      let part : take n (x ++ (y ++ [])) ≡ take n rest = ap (take n) (both p q) ∙ take-append-le n rest second short in
      Appends-trans old mid new done (take n rest) before (subst (Appends mid new) part now)

  -- the rest, and a part of the second
  pub writes-past : (first : List ℕ) → first ≡ done ++ rest → x ≡ rest → y ≡ second → length rest ≤ n → Appends old mid done
      → Appends mid new (take n (x ++ (y ++ []))) → Appends old new (first ++ take (n - length rest) second)
  writes-past first split p q long before now =
      let over = take (n - length rest) second in
      let count : n ≡ length rest + (n - length rest) = omega (arith, long) in
      let part : take n (x ++ (y ++ [])) ≡ rest ++ over =
      ap (take n) (both p q) ∙ ap (λ k. take k (rest ++ second)) count ∙ take-append-add rest second (n - length rest) in
      let whole : done ++ (rest ++ over) ≡ first ++ over = sym (append_assoc done rest over) ∙ ap (λ l. l ++ over) (sym split) in
      subst (Appends old new) whole (Appends-trans old mid new done (rest ++ over) before (subst (Appends mid new) part now))

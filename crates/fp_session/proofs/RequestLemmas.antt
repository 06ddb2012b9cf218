-- What is left of the version.
use Rattle.std.proofs.Common.{◌≡◌, ◌≤◌, ◌<◌, ◌+◌, ◌==◌, ◌&&◌, ℕ, List, [], ◌∷◌, length, drop, get_or, ap}
use Rattle.std.proofs.lemmas.List.{at_drop_more, drop_all}
use Rattle.fp_session.specs.Requests.{is_version, version}

module _ (came byte : ℕ) (rest : List ℕ) where
  -- one byte of it more
  pub version_next : came < length version →
      is_version (drop came version) (byte ∷ rest) ≡
      (byte == get_or version came 0 && is_version (drop (came + 1) version) rest)
  version_next below = at_drop_more (λ left. is_version left (byte ∷ rest)) version came 0 below

  -- all of it came
  pub version_over : length version ≤ came → is_version (drop came version) (byte ∷ rest) ≡ is_version [] (byte ∷ rest)
  version_over all = ap (λ left. is_version left (byte ∷ rest)) (drop_all came version all)

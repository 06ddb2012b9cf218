use Rattle.std.proofs.Common.{ℕ, ◌≡◌, ◌≤◌, ◌+◌, length, get_or, inl, inr, arith}
use Rattle.fp_canonical.proofs.Exact.{Stands, plain_of, stands}
use Rattle.fp_canonical.proofs.strings.byte_at.Goals as goal
use Rattle.fp_canonical.proofs.strings.byte_at.Goals.{then-bytes-at-ne92-via-then-bytes-at-ne92}
use Rattle.fp_canonical.proofs.strings.byte_at.Goals.{then-bytes-at-ne92-via-else-bytes-at-ne92+then-bytes-at-lt2}
use Rattle.fp_canonical.proofs.strings.byte_at.Goals.{then-bytes-at-lt6-via-then-bytes-at-lt6}
use Rattle.fp_canonical.proofs.strings.byte_at.Goals.{then-bytes-at-lt6-via-else-bytes-at-lt6+then-bytes-at-ne48}
use Rattle.fp_canonical.proofs.strings.byte_at.Goals.{then-bytes-at-lt6-via-else-bytes-at-lt6+else-bytes-at-ne48+then-bytes-at-ne48-2}

pub returns-then-bytes-at-ne92-clause-taken : goal.returns-then-bytes-at-ne92-clause-taken
returns-then-bytes-at-ne92-clause-taken c = λ x left here slash.
    absurd (go x slash (stands c.args.bytes.now c.args.at x left c.requires here))
  where
    no_escape : c.args.at + 2 ≤ length c.args.bytes.now → get_or c.args.bytes.now c.args.at 0 ≡ 92 → ⊥
    no_escape within is = elim c.then-bytes-at-ne92.branch [
      | then-bytes-at-ne92-via-then-bytes-at-ne92 w ↦ omega (arith, is, w.if-bytes-at-ne92.true)
      | then-bytes-at-ne92-via-else-bytes-at-ne92+then-bytes-at-lt2 w ↦ omega (arith, within, w.if-bytes-at-lt2.true)
    ]

    go : (x : ℕ) → get_or c.args.bytes.now c.args.at 0 ≡ 92 → Stands c.args.bytes.now c.args.at x → ⊥
    go x slash (inl p) = (plain_of (get_or c.args.bytes.now c.args.at 0) p).2 slash
    go x slash (inr (inl p)) = no_escape p.0 p.1
    go x slash (inr (inr p)) = no_escape (omega (arith, p.0)) p.1

pub returns-in_err-short-clause-taken : goal.returns-in_err-short-clause-taken
returns-in_err-short-clause-taken c = λ x left here slash.
    absurd (go x slash (stands c.args.bytes.now c.args.at x left c.requires here))
  where
    go : (x : ℕ) → get_or c.args.bytes.now c.args.at 0 ≡ 92 → Stands c.args.bytes.now c.args.at x → ⊥
    go x slash (inl p) = (plain_of (get_or c.args.bytes.now c.args.at 0) p).2 slash
    go x slash (inr (inl p)) = let is = c.in_err-short.ensures.taken x p.3 in cc
    go x slash (inr (inr p)) = omega (arith, p.2, c.if-bytes-at-ne117.true)

pub returns-then-bytes-at-lt6-clause-taken : goal.returns-then-bytes-at-lt6-clause-taken
returns-then-bytes-at-lt6-clause-taken c = λ x left here slash.
    absurd (go x slash (stands c.args.bytes.now c.args.at x left c.requires here))
  where
    go : (x : ℕ) → get_or c.args.bytes.now c.args.at 0 ≡ 92 → Stands c.args.bytes.now c.args.at x → ⊥
    go x slash (inl p) = (plain_of (get_or c.args.bytes.now c.args.at 0) p).2 slash
    go x slash (inr (inl p)) = p.2 (omega (arith, c.if-bytes-at-ne117.false))
    go x slash (inr (inr p)) = elim c.then-bytes-at-lt6.branch [
      | then-bytes-at-lt6-via-then-bytes-at-lt6 w ↦ omega (arith, p.0, w.if-bytes-at-lt6.true)
      | then-bytes-at-lt6-via-else-bytes-at-lt6+then-bytes-at-ne48 w ↦ omega (arith, p.3, w.if-bytes-at-ne48.true)
      | then-bytes-at-lt6-via-else-bytes-at-lt6+else-bytes-at-ne48+then-bytes-at-ne48-2 w ↦ omega (arith, p.4, w.if-bytes-at-ne48-2.true)
    ]

pub returns-in_err-numbered-clause-taken : goal.returns-in_err-numbered-clause-taken
returns-in_err-numbered-clause-taken c = λ x left here slash.
    absurd (go x slash (stands c.args.bytes.now c.args.at x left c.requires here))
  where
    go : (x : ℕ) → get_or c.args.bytes.now c.args.at 0 ≡ 92 → Stands c.args.bytes.now c.args.at x → ⊥
    go x slash (inl p) = (plain_of (get_or c.args.bytes.now c.args.at 0) p).2 slash
    go x slash (inr (inl p)) = p.2 (omega (arith, c.if-bytes-at-ne117.false))
    go x slash (inr (inr p)) = let is = c.in_err-numbered.ensures.taken x p.5 in cc

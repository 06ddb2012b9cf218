use Rattle.std.proofs.Common.{rules, ◌≡◌, ◌∙◌, false, true, refl, sym, subst, arith, ℕ}
use Rattle.std.specs.Prelude.{slice_index}
use Rattle.std.specs.Int.{w64, to_be_bytes}
use Rattle.fp_journal.specs.Holds.{Holds}
use Rattle.fp_layout.specs.Faults.{bad_size, not_zero, too_short}
use Rattle.fp_layout.specs.Layout.{IsFormatted}
use Rattle.fp_layout.specs.Size.{IsSlotSize}
use Rattle.fp_layout.proofs.Headers.{byte_from, formatted_from, formatted_in, refuses_from, size_from, zeros_from, other_from}
use Rattle.fp_layout.proofs.header.read_header.Goals as goal

pub returns-in-Some-first_other-clause-fault : goal.returns-in-Some-first_other-clause-fault
returns-in-Some-first_other-clause-fault c = λ b first long.
    let bytes = c.args.bytes.now in let n = c.u64_at.result in
    let formatted : IsFormatted bytes = search rules in let version : slice_index bytes 9 ≡ 1 = search rules in
    let allowed : IsSlotSize n = search rules in
    refuses_from b bytes first formatted version n c.u64_at.ensures.fits c.u64_at.ensures.holds _
    (not_zero allowed (other_from b bytes first formatted.long c.in-Some-first_other.at
    c.in-Some-first_other.ensures.some))

pub returns-then-len-bytes-clause-fault : goal.returns-then-len-bytes-clause-fault
returns-then-len-bytes-clause-fault c = λ b first long.
    let bytes = c.args.bytes.now in let n = c.u64_at.result in
    let formatted : IsFormatted bytes = search rules in let version : slice_index bytes 9 ≡ 1 = search rules in
    let allowed : IsSlotSize n = search rules in
    let value = c.in-Some.ensures.value in let size = c.bytes.ensures.bytes in let short = c.if-len-bytes.true in
    refuses_from b bytes first formatted version n c.u64_at.ensures.fits c.u64_at.ensures.holds _
    (too_short allowed (zeros_from b bytes first formatted.long c.in_default-first_other.ensures.none)
    (omega (arith, long, value, size, short)) (sym long))

pub returns-clause-found : goal.returns-clause-found
returns-clause-found c = λ b first long.
    let bytes = c.args.bytes.now in let n = c.u64_at.result in
    let formatted : IsFormatted bytes = search rules in let version : slice_index bytes 9 ≡ 1 = search rules in
    let whole = formatted.long in let size = c.bytes.ensures.bytes in let enough = c.if-len-bytes.false in
    record {
      formatted = formatted_from b bytes first whole formatted;
      version = byte_from b bytes first whole 9 (omega arith) ∙ version;
      size_text = subst (λ (k : ℕ). Holds b 10 (to_be_bytes w64 k)) (sym c.in-Some.ensures.value)
          (size_from b bytes first whole n c.u64_at.ensures.holds);
      allowed = search rules;
      zeros = zeros_from b bytes first whole c.in_default-first_other.ensures.none;
      long = omega (arith, long, size, enough);
    }

pub returns-then-not-is_formatted-clause-fault : goal.returns-then-not-is_formatted-clause-fault
returns-then-not-is_formatted-clause-fault c = λ b first long there.
    let no : IsFormatted c.args.bytes.now → ⊥ = search rules in no (formatted_in b c.args.bytes.now first there)

pub returns-in_default-clause-fault : goal.returns-in_default-clause-fault
returns-in_default-clause-fault c = λ b first long.
    let bytes = c.args.bytes.now in let formatted : IsFormatted bytes = search rules in
    let version : slice_index bytes 9 ≡ 1 = search rules in
    refuses_from b bytes first formatted version c.u64_at.result c.u64_at.ensures.fits c.u64_at.ensures.holds _
    (bad_size (λ allowed. let no : false ≡ true = c.in_default.ensures.allowed.1 allowed in cc no) refl)

pub returns-clause-within : goal.returns-clause-within
returns-clause-within c = let size = c.bytes.ensures.bytes in let enough = c.if-len-bytes.false in rw (← size) enough

use Rattle.std.proofs.Common.{arith, inl, inr, ◌≡◌, ◌^◌, unsigned_abs, ℤ, FitsSigned, w64}
use Rattle.std.specs.Prelude.{neg_ℤ}
use Rattle.std.proofs.lemmas.Bool.{cases_lt}
use Rattle.std.proofs.lemmas.Int.{fits_signed_from_abs, ints, to_z-of_z}
use mir.Val.{SFits}
use Rattle.value_print.proofs.Appending.{greatest}
use Rattle.value_print.proofs.print.push_last.Goals as goal

-- only the least number has a size that doesn't fit
least : (n : ℤ) → SFits w64 n → (FitsSigned w64 (neg_ℤ n) → ⊥) → unsigned_abs n ≡ 2 ^ 63
least n fits none = elim (cases_lt (unsigned_abs n) (2 ^ 63)) [
  | inl low ↦ absurd (none (fits_signed_from_abs w64 (neg_ℤ n) (omega (arith, ints))))
  | inr high ↦ omega (arith, ints)
]

pub returns-clause-ok : goal.returns-clause-ok
returns-clause-ok c =
    let n : SFits w64 c.args.px = c.ranges.px in
    let none = simp to_z-of_z at c.in_default.ensures in
    rw (least c.args.px n none, greatest) c.push_text.ensures.ok

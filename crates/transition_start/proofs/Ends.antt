-- A transition's value at its ends.
use Rattle.std.proofs.Common.{◌≡◌, ◌^◌, refl, ap, ◌∙◌, arith}
use Rattle.std.specs.Prelude.{ℤ, pos, ◌≤ℤ◌, ◌<ℤ◌, int_le, true, false}
use Rattle.std.proofs.lemmas.Int.{ints}
use Rattle.interpolation.proofs.BetweenLemmas.{from_at_0, to_at_1}
use Rattle.interpolation.specs.Interpolation.{value_between}
use Rattle.style_data.specs.declared.transition.Transition.{Transition}
use Rattle.value_types.specs.declared.property.PropertyId.{PropertyId}
use Rattle.transition_start.specs.Sampling.{output_at, sample_of}

le_true : (a b : ℤ) → a ≤ℤ b → int_le a b ≡ true
le_true a b h = grind (arith, ints)

le_false : (a b : ℤ) → b <ℤ a → int_le a b ≡ false
le_false a b h = grind (arith, ints)

output_after : (r : Transition) (t : ℤ) → r.end.0 ≤ℤ t → output_at r t ≡ pos (10 ^ 9)
unfolding output_at
output_after r t h = rw (le_true r.end.0 t h) refl

output_before : (r : Transition) (t : ℤ) → t ≤ℤ r.start.0 → t <ℤ r.end.0 → output_at r t ≡ pos 0
unfolding output_at
output_before r t h k = rw (le_false r.end.0 t k, le_true t r.start.0 h) refl

pub at_end : (p : PropertyId) (r : Transition) (t : ℤ) → r.end.0 ≤ℤ t → sample_of p r t ≡ r.to
at_end p r t h = ap (value_between p r.from r.to) (output_after r t h) ∙ to_at_1 p r.from r.to

pub at_start : (p : PropertyId) (r : Transition) (t : ℤ) → t ≤ℤ r.start.0 → t <ℤ r.end.0 → sample_of p r t ≡ r.from
at_start p r t h k = ap (value_between p r.from r.to) (output_before r t h k) ∙ from_at_0 p r.from r.to

use Rattle.std.proofs.Common.{◌≡◌, ℕ, ◌<◌}
use Rattle.std.specs.Prelude.{length, option_copied, slice_index_or}
use Rattle.value_types.specs.Validity.{IsValid}
use Rattle.value_types.specs.declared.value.Value.TheVariants.{Auto}
use Rattle.computed_style.specs.ComputedStyles.{computed_value, style_sources}
use Rattle.computed_style.proofs.ByIndex.{property_at}
use Rattle.mini_cascade.proofs.values.computed_values.Given as goal

-- the values so far are computed, and valid
abbrev pub invariant-loop-i : goal.invariant-loop-i
invariant-loop-i g l = record {
  count : length l.values ≡ 24;
  value : (k : ℕ) → k < l.i → slice_index_or l.values k Auto ≡ computed_value (style_sources l.d (g.A.Sampling.animated_value l.anims) l.transitions (option_copied l.parent)) (property_at k);
  valid : (k : ℕ) → k < l.i → IsValid (property_at k) (slice_index_or l.values k Auto);
}

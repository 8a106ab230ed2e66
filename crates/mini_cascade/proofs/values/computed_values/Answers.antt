use Rattle.std.proofs.Common.{◌≡◌, ◌∙◌, arith}
use Rattle.std.specs.Prelude.{option_copied}
use Rattle.std.proofs.lemmas.List.{length-set}
use Rattle.value_types.specs.Validity.{IsValid}
use Rattle.value_types.specs.declared.value.Value.TheVariants.{Auto}
use Rattle.computed_style.specs.ComputedStyles.{StyleSources, computed_value, style_sources}
use Rattle.computed_style.proofs.ByIndex.{property_at, set_one_more}
use Rattle.mini_cascade.specs.Sources.{computed_values}
use Rattle.mini_cascade.proofs.ByNumber.{table_of, valid_of}
use Rattle.mini_cascade.proofs.values.computed_values.Goals as goal

pub loop-i-preserved : goal.loop-i-preserved
unfolding property_at
loop-i-preserved g c =
    let x : StyleSources = style_sources c.args.d.now (g.A.Sampling.animated_value c.args.anims.now) c.args.transitions.now (option_copied c.args.parent) in
    record {
      count = length-set c.loop-i.values c.loop-i.i c.value_of_property.result ∙ c.loop-i.invariant.count;
      value = set_one_more (λ k v. v ≡ computed_value x (property_at k)) c.loop-i.values c.loop-i.i c.value_of_property.result Auto c.loop-i.invariant.count c.loop-i-test.true c.loop-i.invariant.value c.value_of_property.ensures.value;
      valid = set_one_more (λ k v. IsValid (property_at k) v) c.loop-i.values c.loop-i.i c.value_of_property.result Auto c.loop-i.invariant.count c.loop-i-test.true c.loop-i.invariant.valid c.value_of_property.ensures.valid;
    }

pub returns-clause-value : goal.returns-clause-value
unfolding computed_values
returns-clause-value g c =
    let x : StyleSources = style_sources c.args.d.now (g.A.Sampling.animated_value c.args.anims.now) c.args.transitions.now (option_copied c.args.parent) in
    table_of (computed_value x) c.loop-i.values c.loop-i.invariant.count (λ k small. c.loop-i.invariant.value k (omega arith))

pub returns-clause-valid : goal.returns-clause-valid
returns-clause-valid g c = valid_of c.loop-i.values c.loop-i.invariant.count (λ k small. c.loop-i.invariant.valid k (omega arith))

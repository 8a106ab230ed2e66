use Rattle.std.proofs.Common.{arith, sym, ◌∙◌, refl, subst}
use Rattle.std.specs.Prelude.{option_copied}
use Rattle.value_types.specs.Properties.{number_of}
use Rattle.computed_style.specs.ComputedStyles.{StyleSources, style_sources}
use Rattle.mini_cascade.specs.Sources.{AreInitial, computed_values}
use Rattle.mini_cascade.proofs.ByNumber.{computed_at, computed_one_more, none_between}
use Rattle.mini_cascade.proofs.style.next_changed.Goals as goal

pub loop-i-init : goal.loop-i-init
loop-i-init g c =
    let x : StyleSources = style_sources c.args.d.now (g.A.Sampling.animated_value c.args.anims.now) c.args.transitions.now (option_copied c.args.parent) in
    none_between (computed_values x) c.args.from

pub loop-i-preserved-then-is_initial : goal.loop-i-preserved-then-is_initial
loop-i-preserved-then-is_initial g c =
    let x : StyleSources = style_sources c.args.d.now (g.A.Sampling.animated_value c.args.anims.now) c.args.transitions.now (option_copied c.args.parent) in
    computed_one_more x c.args.from c.loop-i.i c.property_at-p.result c.property_at-p.ensures (c.if-is_initial.ensures (option_copied c.args.parent)) c.loop-i.invariant

pub loop-i-preserved : goal.loop-i-preserved
loop-i-preserved g c =
    let x : StyleSources = style_sources c.args.d.now (g.A.Sampling.animated_value c.args.anims.now) c.args.transitions.now (option_copied c.args.parent) in
    computed_one_more x c.args.from c.loop-i.i c.property_at-p.result c.property_at-p.ensures
    (sym c.value_of_property-value.ensures.value ∙ c.same.ensures.equal.0 c.if-not-same.false ∙ c.initial_value.ensures) c.loop-i.invariant

pub returns-then-not-same-clause-found : goal.returns-then-not-same-clause-found
returns-then-not-same-clause-found g c =
    let x : StyleSources = style_sources c.args.d.now (g.A.Sampling.animated_value c.args.anims.now) c.args.transitions.now (option_copied c.args.parent) in
    record {
      after = omega (arith, c.property_at-p.ensures);
      value = c.value_of_property-value.ensures.value ∙ computed_at x c.property_at-p.result (number_of c.property_at-p.result) refl;
      valid = c.value_of_property-value.ensures.valid;
      initial = subst (AreInitial (computed_values x) c.args.from) (sym c.property_at-p.ensures) c.loop-i.invariant;
    }

pub returns-clause-none : goal.returns-clause-none
returns-clause-none g c = λ k low high. c.loop-i.invariant k low (omega (arith, high, c.loop-i-test.false))

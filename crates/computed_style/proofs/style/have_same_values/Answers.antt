use Rattle.std.proofs.Common.{◌≡◌, arith, refl}
use borrow.Author.Count.{below_more}
use Rattle.value_types.specs.Properties.{number_of}
use Rattle.value_types.specs.declared.property.PropertyId.{PropertyId}
use Rattle.value_types.specs.declared.value.Value.TheVariants.{Auto}
use Rattle.computed_style.proofs.Tables.{number_small}
use Rattle.computed_style.specs.Styles.{value_of}
use Rattle.computed_style.proofs.ByIndex.{property_at, same_by_property, every_property}
use Rattle.computed_style.proofs.style.have_same_values.Goals as goal

pub loop-p-preserved : goal.loop-p-preserved
unfolding property_at
loop-p-preserved c =
    record {
      each = below_more (λ i. value_of c.args.a.now (property_at i) ≡ value_of c.args.b.now (property_at i)) c.loop-p.p-index c.loop-p.invariant.each (c.have_same_value.ensures.same.0 c.if-not-have_same_value.false);
      all = λ some. c.have_same_value.ensures.all;
    }

pub returns : goal.returns
returns c =
    let all = c.loop-p.invariant.all (omega arith) in
    let each : (p : PropertyId) → value_of c.args.a.now p ≡ value_of c.args.b.now p =
    λ p. every_property (λ q. value_of c.args.a.now q ≡ value_of c.args.b.now q) p (c.loop-p.invariant.each (number_of p) (omega (arith, number_small p, c.loop-p-test.false))) in
    (λ _. same_by_property c.args.a.now.values c.args.b.now.values Auto all.0.count all.1.count each, λ _. refl)

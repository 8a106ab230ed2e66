-- That samples give values of the properties is one fact, so a list of samples can carry it.
use Rattle.std.specs.Prelude.{List, Option, None, Some, IfSome}
use Rattle.std.proofs.Props.{props}
use Rattle.fix_num.specs.declared.units.Fix.{Fix}
use Rattle.value_types.specs.Ranges.{IsInRange}
use Rattle.value_types.specs.Table.{range_of}
use Rattle.value_types.specs.Validity.{IsNumberFor, IsPercentFor, IsValid}
use Rattle.value_types.specs.declared.property.PropertyId.{PropertyId}
use Rattle.value_types.specs.declared.range.ValueRange.{ValueRange}
use Rattle.value_types.specs.declared.range.ValueRange.TheVariants as range
use Rattle.value_types.specs.declared.value.Value.{Value}
use Rattle.value_types.specs.declared.value.Value.TheVariants as value
use Rattle.keyframes.specs.declared.animation_sample.SampleParts.{SampleParts}
use Rattle.keyframes.specs.SampleLists.{GiveValid}

in_range_prop : (r : ValueRange) (n : Fix) → IsProp (IsInRange r n)
in_range_prop range.All n = Prim.hlevel props
in_range_prop range.NotNegative n = Prim.hlevel props
in_range_prop range.ZeroToOne n = Prim.hlevel props
in_range_prop range.Nothing n = Prim.hlevel props

number_prop : (p : PropertyId) (n : Fix) → IsProp (IsNumberFor p n)
number_prop p n = Prim.hlevel (props, in_range_prop (range_of p) n)

percent_prop : (p : PropertyId) (n : Fix) → IsProp (IsPercentFor p n)
percent_prop p n = Prim.hlevel (props, number_prop p n)

valid_prop : (p : PropertyId) (v : Value) → IsProp (IsValid p v)
valid_prop p (value.Number n) = Prim.hlevel (props, number_prop)
valid_prop p (value.Length px pct) = Prim.hlevel (props, number_prop, percent_prop)
valid_prop p value.Auto = Prim.hlevel props
valid_prop p (value.Int i) = Prim.hlevel props
valid_prop p (value.Color r g b a) = Prim.hlevel props
valid_prop p (value.Angle n) = Prim.hlevel (props, number_prop)
valid_prop p (value.Pair x xp y yp) = Prim.hlevel (props, number_prop)
valid_prop p value.Absent = Prim.hlevel props
valid_prop p (value.Visible v) = Prim.hlevel props
valid_prop p (value.Display d) = Prim.hlevel props

some_prop : (p : PropertyId) (o : Option Value) → IsProp (IfSome o (IsValid p))
some_prop p None = Prim.hlevel props
some_prop p (Some v) = valid_prop p v

pub GiveValid-prop : (samples : List SampleParts) → IsProp (GiveValid samples)
GiveValid-prop samples = Prim.hlevel (props, some_prop)

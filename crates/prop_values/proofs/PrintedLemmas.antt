-- Printed values are read back, kind by kind.
use Rattle.value_types.specs.Validity.{IsValid}
use Rattle.value_types.specs.declared.property.PropertyId.{PropertyId}
use Rattle.value_types.specs.declared.value.Value.{Value}
use Rattle.value_types.specs.declared.value.Value.TheVariants as value
use Rattle.value_types.specs.declared.declared.Declared.{Declared}
use Rattle.value_print.specs.Printed.{serialized_value}
use Rattle.prop_values.specs.ReadBack.{IsPrintedWithoutSum, IsReadAs}
use Rattle.prop_values.proofs.BackLemmas.{Back}
use Rattle.prop_values.proofs.KeywordLemmas.{absent_back, auto_back, display_back, visibility_back}
use Rattle.prop_values.proofs.NumberLemmas.{angle_back, integer_back, number_back}
use Rattle.prop_values.proofs.PairLemmas.{pair_back}
use Rattle.prop_values.proofs.PairSumLemmas.{pair_without_sum}
use Rattle.prop_values.proofs.SumLemmas.{length_without_sum}
use Rattle.prop_values.proofs.SizeLemmas.{length_back}
use Rattle.prop_values.proofs.ColorLemmas.{color_back}

pub printed_back : (p : PropertyId) (v : Value) → IsValid p v → IsPrintedWithoutSum v → Back p v
printed_back p (value.Number n) valid single = number_back p n valid.0 valid.1
printed_back p (value.Length px pct) valid single = length_back p px pct valid.0 valid.1 valid.2 single
printed_back p value.Auto valid single = auto_back p valid
printed_back p (value.Int i) valid single = integer_back p i valid.0 valid.1
printed_back p (value.Color r g b a) valid single = color_back p r g b a valid.0 valid.1
printed_back p (value.Angle n) valid single = angle_back p n valid.0 valid.1
printed_back p (value.Pair x_px x_pct y_px y_pct) valid single = pair_back p x_px x_pct y_px y_pct valid.0 valid.1 valid.2 valid.3 valid.4 single.0 single.1
printed_back p value.Absent valid single = absent_back p valid
printed_back p (value.Visible v) valid single = visibility_back p v valid
printed_back p (value.Display d) valid single = display_back p d valid

-- what is read has no sum
pub read_without_sum : (p : PropertyId) (v : Value) (d : Declared) → IsValid p v → IsReadAs p (serialized_value v) d → IsPrintedWithoutSum v
read_without_sum p (value.Length px pct) d valid read = length_without_sum p px pct d valid.0 valid.1 valid.2 read
read_without_sum p (value.Pair x_px x_pct y_px y_pct) d valid read = pair_without_sum p x_px x_pct y_px y_pct d valid.0 valid.1 valid.2 valid.3 valid.4 read
read_without_sum p (value.Number n) d valid read = tt
read_without_sum p value.Auto d valid read = tt
read_without_sum p (value.Int i) d valid read = tt
read_without_sum p (value.Color r g b a) d valid read = tt
read_without_sum p (value.Angle n) d valid read = tt
read_without_sum p value.Absent d valid read = tt
read_without_sum p (value.Visible v) d valid read = tt
read_without_sum p (value.Display k) d valid read = tt

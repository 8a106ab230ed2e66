-- Numbers, integers and angles are read back.
use Rattle.std.proofs.Common.{◌≡◌, true, [], ◌∷◌, ◌++◌, ℤ, pos, refl, sym, ap, ◌∙◌, subst, arith}
use Rattle.std.specs.Prelude.{codes, ◌≤ℤ◌}
use Rattle.std.proofs.lemmas.Int.{ints, clamps}
use Rattle.std.proofs.lemmas.List.{append-nil}
use Rattle.fix_num.specs.Clamping.{clamped_number}
use Rattle.fix_num.specs.Print.{decimal_text}
use Rattle.fix_num.specs.declared.units.Fix.{Fix}
use Rattle.fix_num.specs.declared.units.TheConstants.Fix.{ONE}
use Rattle.token_parts.specs.Parts.{Number, Dimension}
use Rattle.value_types.specs.Ranges.{IsInteger}
use Rattle.value_types.specs.Table.{takes}
use Rattle.value_types.specs.Validity.{IsNumberFor}
use Rattle.value_types.specs.declared.declared.Declared.TheVariants as declared
use Rattle.value_types.specs.declared.property.PropertyId.{PropertyId}
use Rattle.value_types.specs.declared.property.PropertyId.TheVariants as property
use Rattle.value_types.specs.declared.range.ValueRange.TheVariants.{All}
use Rattle.value_types.specs.declared.table.ValueKind.TheVariants as kind
use Rattle.value_types.specs.declared.value.Value.TheVariants as value
use Rattle.value_text.specs.Reading.{reading_map}
use Rattle.computed_value.specs.Absolute.{computed_opacity}
use Rattle.prop_values.proofs.BackLemmas.{Back, back}
use Rattle.prop_values.proofs.DecimalLemmas.{integer_read, number_read, printed_is_number}
use Rattle.prop_values.proofs.FrontLemmas.{end_at_end}
use Rattle.prop_values.proofs.KindLemmas.{only_opacity, only_rotate, only_z_index, read_by_kind}
use Rattle.prop_values.proofs.SayingLemmas.{saying_degrees, saying_nothing, saying_number, saying_same}

-- ---- numbers

computed_same : (n : Fix) → pos 0 ≤ℤ n.0 → n.0 ≤ℤ ONE.0 → computed_opacity n ≡ n
unfolding computed_opacity clamped_number
computed_same n low high = let same : (computed_opacity n).0 ≡ n.0 = omega (arith, ints, clamps) in ap (λ (z : ℤ). let m : Fix = record { 0 = z } in m) same

opacity_back : (n : Fix) → IsNumberFor property.Opacity n → Back property.Opacity (value.Number n)
opacity_back n valid =
    let text = decimal_text 6 n.0 in
    back property.Opacity (value.Number n) (Number text ∷ []) (declared.Number n)
    (saying_number text [] [] (printed_is_number 6 n.0 (let limit = valid.limit in omega arith)) end_at_end saying_nothing)
    (read_by_kind property.Opacity kind.Number (Number text ∷ []) refl refl ∙ ap (reading_map declared.Number) (number_read All n valid.limit tt)) tt
    (λ parent own root. ap value.Number (computed_same n valid.in_range.0 valid.in_range.1))

pub number_back : (p : PropertyId) (n : Fix) → takes p kind.Number ≡ true → IsNumberFor p n → Back p (value.Number n)
number_back p n taken valid =
    let is = only_opacity p taken in
    subst (λ (q : PropertyId). Back q (value.Number n)) (sym is) (opacity_back n (subst (λ (q : PropertyId). IsNumberFor q n) is valid))

-- ---- integers

z_index_back : (i : ℤ) → IsInteger i → Back property.ZIndex (value.Int i)
z_index_back i limit =
    let text = decimal_text 0 i in
    back property.ZIndex (value.Int i) (Number text ∷ []) (declared.Int i)
    (saying_same text (text ++ []) (Number text ∷ []) (sym (append-nil text)) (saying_number text [] [] (printed_is_number 0 i (omega arith)) end_at_end saying_nothing))
    (read_by_kind property.ZIndex kind.Int (Number text ∷ []) refl refl ∙ ap (reading_map declared.Int) (integer_read i limit)) tt
    (λ parent own root. refl)

pub integer_back : (p : PropertyId) (i : ℤ) → takes p kind.Int ≡ true → IsInteger i → Back p (value.Int i)
integer_back p i taken limit = subst (λ (q : PropertyId). Back q (value.Int i)) (sym (only_z_index p taken)) (z_index_back i limit)

-- ---- angles

rotate_back : (n : Fix) → IsNumberFor property.Rotate n → Back property.Rotate (value.Angle n)
rotate_back n valid =
    let text = decimal_text 6 n.0 in
    back property.Rotate (value.Angle n) (Dimension text (codes "deg") ∷ []) (declared.Angle n)
    (saying_same (text ++ codes "deg") (text ++ codes "deg" ++ []) (Dimension text (codes "deg") ∷ []) (sym (append-nil (text ++ codes "deg")))
    (saying_degrees text [] [] (printed_is_number 6 n.0 (let limit = valid.limit in omega arith)) end_at_end saying_nothing))
    (read_by_kind property.Rotate kind.Angle (Dimension text (codes "deg") ∷ []) refl refl ∙ ap (reading_map declared.Angle) (number_read All n valid.limit tt)) tt
    (λ parent own root. refl)

pub angle_back : (p : PropertyId) (n : Fix) → takes p kind.Angle ≡ true → IsNumberFor p n → Back p (value.Angle n)
angle_back p n taken valid =
    let is = only_rotate p taken in
    subst (λ (q : PropertyId). Back q (value.Angle n)) (sym is) (rotate_back n (subst (λ (q : PropertyId). IsNumberFor q n) is valid))

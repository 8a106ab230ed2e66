-- Which transitions may be kept for a property.
use Rattle.std.specs.Prelude.{◌≡◌, ◌⊎◌, IsTrue}
use Rattle.value_types.specs.Validity.{IsValid}
use Rattle.value_types.specs.declared.property.PropertyId.{PropertyId}
use Rattle.interpolation.specs.Interpolation.{is_interpolable}
use Rattle.style_data.specs.declared.transition.Completed.{Completed}
use Rattle.style_data.specs.declared.transition.Transition.{Transition}

-- a running transition of the property: its values are values of the property, and there is a way between its ends
pub record IsKeptFor (p : PropertyId) (r : Transition) : Type 0 where
  pub from : IsValid p r.from
  pub to : IsValid p r.to
  pub adjusted : IsValid p r.adjusted
  pub way : IsTrue (is_interpolable p r.from r.to) ⊎ (r.from ≡ r.to)

-- a completed transition of the property
abbrev pub IsCompletedFor : PropertyId → Completed → Type 0
IsCompletedFor p c = IsValid p c.to

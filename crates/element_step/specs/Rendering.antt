-- Which elements are rendered (CSS Display 3, "Box Generation: the none and contents keywords").
use Rattle.std.specs.Prelude.{Bool, true, false, ◌&&◌, Option}
use Rattle.std.specs.Option.{option_map_or, option_or}
use Rattle.computed_style.specs.Winners.{Declarations, winners_of}
use Rattle.computed_style.specs.declared.inherited.Down.{Down}
use Rattle.value_types.specs.declared.declared.Declared.{Declared}
use Rattle.value_types.specs.declared.declared.Declared.TheVariants as declared
use Rattle.value_types.specs.declared.property.PropertyId.TheVariants as property
use Rattle.value_types.specs.declared.value.Display.TheVariants.{Nothing}

-- the declaration is other than `none`
abbrev pub shows : Declared → Bool
shows (declared.Display Nothing) = false
shows d = true

-- the element's own `display` is other than `none`: that of the winning important declaration, or else of the normal one
abbrev pub is_displayed : Declarations → Bool
is_displayed d = option_map_or shows (option_or (winners_of d property.Display).important (winners_of d property.Display).normal) true

-- so is that of each ancestor, as the parent hands it down; the root has none
abbrev pub is_rendered : Declarations → Option Down → Bool
is_rendered d parent = option_map_or (λ above. above.rendered) parent true && is_displayed d

-- Declarations as they are kept: what is declared alone.
use Rattle.std.specs.Prelude.{◌≡◌, Bool, false, List, All, length, map, slice_index_or}
use Rattle.value_types.specs.ListValues.{IsListValueFor, timing_lists}
use Rattle.value_types.specs.Properties.{all_properties, number_of}
use Rattle.value_types.specs.Validity.{IsDeclaredFor}
use Rattle.value_types.specs.declared.declared.Declared.{Declared}
use Rattle.value_types.specs.declared.list_value.ListName.{ListName}
use Rattle.value_types.specs.declared.list_value.ListValue.{ListValue}
use Rattle.value_types.specs.declared.property.PropertyId.{PropertyId}
use Rattle.computed_style.specs.ByProperty.{kept_for}
use Rattle.computed_style.specs.Winners.{Declarations, ListWinners, declarations, is_declared, kept_for_list}
use Rattle.computed_style.specs.declared.winners.Winners.{Winners}

abbrev pub PropertyDeclarations : Type 0
PropertyDeclarations = List (PropertyId × Declared)

abbrev pub ListDeclarations : Type 0
ListDeclarations = List (ListName × ListValue)

-- the winners of the property, of important and normal declarations
abbrev pub winners_in : PropertyDeclarations → PropertyDeclarations → PropertyId → Winners
winners_in important normal p = record { important = kept_for p important; normal = kept_for p normal }

-- the winners of the timing list
abbrev pub list_winners_in : ListDeclarations → ListDeclarations → ListName → ListWinners
list_winners_in important normal name = record { important = kept_for_list name important; normal = kept_for_list name normal }

-- the winners of each property and of each timing list
unfoldable pub declarations_in : PropertyDeclarations → PropertyDeclarations → ListDeclarations → ListDeclarations → Declarations
declarations_in important normal important_lists normal_lists =
    declarations (map (winners_in important normal) all_properties) (map (list_winners_in important_lists normal_lists) timing_lists)

-- each declares its property
abbrev pub AreDeclared : PropertyDeclarations → Type 0
AreDeclared ds = All (λ d. IsDeclaredFor d.0 d.1) ds

-- each declares its timing list
abbrev pub AreListsDeclared : ListDeclarations → Type 0
AreListsDeclared ds = All (λ d. IsListValueFor d.0 d.1) ds

-- this says, by their numbers, which properties are declared
abbrev pub TellsDeclared : List Bool → PropertyDeclarations → PropertyDeclarations → Type 0
TellsDeclared declares important normal = (p : PropertyId) → slice_index_or declares (number_of p) false ≡ is_declared (winners_in important normal p)

-- all that is kept declares what it stands for, and which properties are declared is told
pub record AreKept (declares : List Bool) (i n : PropertyDeclarations) (il nl : ListDeclarations) : Type 0 where
  pub count : length declares ≡ 24
  pub tells : TellsDeclared declares i n
  pub important : AreDeclared i
  pub normal : AreDeclared n
  pub important_lists : AreListsDeclared il
  pub normal_lists : AreListsDeclared nl

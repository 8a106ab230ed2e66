-- What decides between declarations of one importance (CSS Cascade 5, section 6.1, "Cascade Sorting Order").
use Rattle.std.specs.Prelude.{ℕ, Bool, true, false, List, [], ◌∷◌}
use Rattle.cascade_sort.specs.declared.precedence.Precedence.{Precedence}

-- how many ids, classes and types a selector names
abbrev pub Specificity : Type 0
Specificity = ℕ × ℕ × ℕ

-- its numbers, as they decide
abbrev pub specificity_keys : Specificity → List ℕ
specificity_keys s = s.0 ∷ s.1 ∷ s.2 ∷ []

-- the declarations of the style attribute come after those of rules
abbrev pub attached_key : Bool → ℕ
attached_key true = 1
attached_key false = 0

-- the numbers of a precedence as they decide: whether the declaration is attached to the element ("Element-Attached Styles"), the specificity of its selector ("Specificity"), and its place by sheet, rule and declaration ("Order of Appearance")
abbrev pub keys_of : Precedence → List ℕ
keys_of p = attached_key p.attached ∷ p.specificity.0 ∷ p.specificity.1 ∷ p.specificity.2 ∷ p.sheet ∷ p.rule ∷ p.declaration ∷ []

-- that of the style attribute's block
abbrev pub of_style : Precedence
of_style = record { attached = true; specificity = (0, 0, 0); sheet = 0; rule = 0; declaration = 0 }

-- that of the block of a sheet's rule
abbrev pub of_rule : ℕ → ℕ → Specificity → Precedence
of_rule sheet rule s = record { attached = false; specificity = s; sheet = sheet; rule = rule; declaration = 0 }

-- that of a declaration in the block
abbrev pub of_declaration : Precedence → ℕ → Precedence
of_declaration block at = record block { declaration = at }

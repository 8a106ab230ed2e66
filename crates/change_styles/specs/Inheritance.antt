-- Styles from the root down (CSS Cascade 5, section 7.2 "Inheritance"; CSS Transitions 1, section 3): each element inherits from the
-- style of the same kind of its parent, the before-change style from the before-change style and so on.
use Rattle.std.specs.Prelude.{ℤ, List, [], ◌∷◌, map, Option, None, Some, option_map, if◌then◌else◌}
use Rattle.computed_style.specs.Styles.{ComputedStyle, font_size_of, inherited_of}
use Rattle.computed_style.specs.declared.inherited.InheritedValues.{InheritedValues}
use Rattle.change_styles.specs.ThreeStyles.{ElementChange, OwnSources, after_change_sources, before_change_sources, current_sources, style_over, unrendered_sources}

-- ---- whole styles

-- the styles of the root and of the parent, which an element stands under
pub record Ancestors : Type 0 where
  pub root : ComputedStyle
  pub parent : ComputedStyle

-- what is inherited from them
abbrev pub inherited_from : Ancestors → InheritedValues
inherited_from above = inherited_of above.parent (font_size_of above.root)

-- the style of an element under them; the root stands under none
abbrev pub style_under : Option Ancestors → OwnSources → ComputedStyle
style_under above x = style_over x (option_map inherited_from above)

-- what the children of an element of this style stand under
abbrev pub with_child : Option Ancestors → ComputedStyle → Ancestors
with_child None s = record { root = s; parent = s }
with_child (Some above) s = record above { parent = s }

-- what an element stands under whose ancestors, from below these down, are so
abbrev pub ancestors_along : Option Ancestors → List OwnSources → Option Ancestors
ancestors_along above [] = above
ancestors_along above (x ∷ path) = ancestors_along (Some (with_child above (style_under above x))) path

-- the style of an element whose ancestors, from the root down, are so
abbrev pub style_along : List OwnSources → OwnSources → ComputedStyle
style_along path x = style_under (ancestors_along None path) x

-- ---- the three styles of an element under these, at time t, each by a recursion of its own from the root

-- what each gives its before-change, its after-change and its current style; before the event it was rendered
abbrev pub before_change_of : ℤ → ElementChange → OwnSources
before_change_of t e = before_change_sources e.entry e.old t

abbrev pub after_change_of : ElementChange → OwnSources
after_change_of e = after_change_sources e.declared e.old

abbrev pub current_of : ℤ → ElementChange → OwnSources
current_of t e = (if e.rendered then current_sources e.declared e.new e.running t else unrendered_sources e.declared)

abbrev pub before_change_along : ℤ → List ElementChange → ElementChange → ComputedStyle
before_change_along t path e = style_along (map (before_change_of t) path) (before_change_of t e)

abbrev pub current_along : ℤ → List ElementChange → ElementChange → ComputedStyle
current_along t path e = style_along (map (current_of t) path) (current_of t e)

-- the after-change style of an element that isn't rendered is its current style
abbrev pub after_change_along : ℤ → List ElementChange → ElementChange → ComputedStyle
after_change_along t path e =
    (if e.rendered then style_along (map after_change_of path) (after_change_of e) else current_along t path e)

-- ---- five values in place of whole styles

-- what an element of this style hands down, where it inherits this: its inherited values, and the root's font size
abbrev pub handed_down : Option InheritedValues → ComputedStyle → InheritedValues
handed_down None s = inherited_of s (font_size_of s)
handed_down (Some parent) s = inherited_of s parent.root_size

-- what an element inherits whose ancestors, from below one that hands this down, are so
abbrev pub handed_along : Option InheritedValues → List OwnSources → Option InheritedValues
handed_along parent [] = parent
handed_along parent (x ∷ path) = handed_along (Some (handed_down parent (style_over x parent))) path

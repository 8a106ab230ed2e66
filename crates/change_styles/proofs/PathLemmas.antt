-- What is handed down along a path, and what transitions give.
use Rattle.std.proofs.Common.{◌≡◌, ℕ, ◌<◌, refl, sym, ◌∙◌, ap, subst}
use Rattle.std.specs.Prelude.{ℤ, nat_eq, Bool, true, false, cond, List, [], ◌∷◌, find, map, Option, None, Some, option_map, length, slice_index_or, not, if◌then◌else◌}
use Rattle.value_types.specs.Properties.{number_of}
use Rattle.value_types.specs.declared.property.PropertyId.{PropertyId}
use Rattle.computed_style.specs.ByProperty.{kept_for}
use Rattle.style_data.specs.Kept.{IsKeptFor}
use Rattle.style_data.specs.declared.transition.Transition.{Transition}
use Rattle.transition_start.specs.Sampling.{sample_of}
use Rattle.change_styles.specs.Inheritance.{Ancestors, after_change_along, after_change_of, ancestors_along, current_along, current_of, handed_along, inherited_from, style_along, style_under, with_child}
use Rattle.change_styles.specs.ThreeStyles.{AreRunning, ElementChange, OwnSources, after_change_style, current_sources, current_style, no_animations, style_over, transitioned_at, unrendered_sources, without_running}

-- what is handed down is inherited from the whole styles
handed-ancestors : (above : Option Ancestors) (path : List OwnSources)
    → handed_along (option_map inherited_from above) path ≡ option_map inherited_from (ancestors_along above path)
handed-ancestors above [] = refl
handed-ancestors None (x ∷ path) = handed-ancestors (Some (with_child None (style_under None x))) path
handed-ancestors (Some a) (x ∷ path) = handed-ancestors (Some (with_child (Some a) (style_under (Some a) x))) path

pub style-along : (path : List OwnSources) (x : OwnSources) → style_over x (handed_along None path) ≡ style_along path x
style-along path x = ap (style_over x) (handed-ancestors None path)

-- ---- without running transitions

sources-without : (path : List ElementChange) → map after_change_of (map without_running path) ≡ map after_change_of path
sources-without [] = refl
sources-without (a ∷ path) = ap (λ sources. after_change_of a ∷ sources) (sources-without path)

after-rendered : (t : ℤ) (path : List ElementChange) (e : ElementChange) → e.rendered ≡ true
    → after_change_along t path e ≡ style_along (map after_change_of path) (after_change_of e)
after-rendered t path e is = ap (λ (b : Bool). if b then style_along (map after_change_of path) (after_change_of e) else current_along t path e) is

pub after-without : (t : ℤ) (path : List ElementChange) (e : ElementChange) → e.rendered ≡ true
    → after_change_along t (map without_running path) (without_running e) ≡ after_change_along t path e
after-without t path e is =
    after-rendered t (map without_running path) (without_running e) is
    ∙ ap (λ sources. style_along sources (after_change_of e)) (sources-without path)
    ∙ sym (after-rendered t path e is)

pub after-along : (t : ℤ) (path : List ElementChange) (e : ElementChange) → e.rendered ≡ true
    → after_change_style e.declared e.old (handed_along None (map after_change_of path)) ≡ after_change_along t path e
after-along t path e is = style-along (map after_change_of path) (after_change_of e) ∙ sym (after-rendered t path e is)

-- what an element gives its current style
current-by : (t : ℤ) (path : List ElementChange) (e : ElementChange) (x : OwnSources) → x ≡ current_of t e
    → style_over x (handed_along None (map (current_of t) path)) ≡ current_along t path e
current-by t path e x is =
    ap (λ (y : OwnSources). style_over y (handed_along None (map (current_of t) path))) is ∙ style-along (map (current_of t) path) (current_of t e)

pub current-along : (t : ℤ) (path : List ElementChange) (e : ElementChange) → e.rendered ≡ true
    → current_style e.declared e.new e.running t (handed_along None (map (current_of t) path)) ≡ current_along t path e
current-along t path e is =
    let rendered : OwnSources = current_sources e.declared e.new e.running t in
    current-by t path e rendered (sym (ap (λ (b : Bool). if b then rendered else unrendered_sources e.declared) is))

is_false : (b : Bool) → not b ≡ true → b ≡ false
is_false true e = absurd (cc)
is_false false e = refl

pub unrendered-along : (t : ℤ) (path : List ElementChange) (e : ElementChange) → not e.rendered ≡ true
    → (current_style e.declared no_animations [] t (handed_along None (map (current_of t) path)) ≡ current_along t path e)
    × (after_change_along t path e ≡ current_along t path e)
unrendered-along t path e isnt =
    let is : e.rendered ≡ false = is_false e.rendered isnt in
    let rendered : OwnSources = current_sources e.declared e.new e.running t in
    let not_rendered : OwnSources = unrendered_sources e.declared in (
      current-by t path e not_rendered (sym (ap (λ (b : Bool). if b then rendered else not_rendered) is)),
      ap (λ (b : Bool). if b then style_along (map after_change_of path) (after_change_of e) else current_along t path e) is,
    )

-- ---- what transitions give

none_by : (r : PropertyId × Transition) (rs : List (PropertyId × Transition)) (p : PropertyId) (t : ℤ) (b : Bool)
    → option_map (λ k. k.1) (cond b (Some r) (find (λ k. nat_eq (number_of k.0) (number_of p)) rs)) ≡ None
    → (kept_for p rs ≡ None → kept_for p (transitioned_at rs t) ≡ None)
    → option_map (λ k. k.1) (cond b (Some (r.0, sample_of r.0 r.1 t)) (find (λ k. nat_eq (number_of k.0) (number_of p)) (transitioned_at rs t))) ≡ None
none_by r rs p t true none rest = absurd (cc)
none_by r rs p t false none rest = rest none

-- none runs for the property, and so none gives it a value
pub none_given : (running : List (PropertyId × Transition)) (p : PropertyId) (t : ℤ) → kept_for p running ≡ None → kept_for p (transitioned_at running t) ≡ None
none_given [] p t none = refl
none_given (r ∷ rs) p t none = none_by r rs p t (nat_eq (number_of r.0) (number_of p)) none (none_given rs p t)

-- the running transition at a place of the list is kept for its property
pub kept_at : (running : List (PropertyId × Transition)) (i : ℕ) (r : PropertyId × Transition) → AreRunning running → i < length running
    → r ≡ slice_index_or running i r → IsKeptFor r.0 r.1
kept_at running i r all within is = subst (λ (k : PropertyId × Transition). IsKeptFor k.0 k.1) (sym is) (all i r within)

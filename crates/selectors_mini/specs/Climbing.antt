-- What matching learns as it goes up from an element.
use Rattle.std.specs.Prelude.{◌≡◌, ℕ, ◌<◌, Bool, true, false, List, length, reverse, take, IsTrue, ⊤}
use Rattle.doc_tree.specs.Element.{Element, inclusive_ancestors, is_in}
use Rattle.selectors_mini.specs.Compounds.{CompoundSelector}
use Rattle.selectors_mini.specs.Matching.{any_rest, fits}
use Rattle.selectors_mini.specs.declared.climb.Climb.{Climb}
use Rattle.selectors_mini.specs.declared.climb.Climb.TheVariants.{Fitted, Left, NotHere, Nowhere}

-- the first compounds of a selector, the last of them first
abbrev pub compounds_left : List CompoundSelector → ℕ → List CompoundSelector
compounds_left s left = reverse (take left s)

-- whether so many of the first compounds fit from element n on
abbrev pub fits_at : List CompoundSelector → ℕ → List Element → ℕ → Bool
fits_at s left es n = fits (compounds_left s left) (inclusive_ancestors es n)

-- whether they fit from element n or from one above it
abbrev pub fits_above : List CompoundSelector → ℕ → List Element → ℕ → Bool
fits_above s left es n = any_rest (fits (compounds_left s left)) (inclusive_ancestors es n)

-- what the end of a climb from element n tells
abbrev pub ClimbTells : List CompoundSelector → ℕ → List Element → ℕ → Climb → Type 0
ClimbTells s from es n Fitted = fits_at s from es n ≡ true
ClimbTells s from es n (Left left at) = (fits_at s from es n ≡ fits_above s left es at) × (fits_above s from es n ≡ fits_above s left es at)
ClimbTells s from es n NotHere = fits_at s from es n ≡ false
ClimbTells s from es n Nowhere = fits_above s from es n ≡ false

-- what is left of the compounds are fewer of them, but some, from an element that has fewer ancestors
abbrev pub IsLower : ℕ → List Element → ℕ → Climb → Type 0
IsLower from es n (Left left at) =
    (0 < left) × (left < from) × IsTrue (is_in at es) × (length (inclusive_ancestors es at) < length (inclusive_ancestors es n))
IsLower from es n _ = ⊤

-- The candidates under a key are those selectors that have it.
use Rattle.std.proofs.Common.{◌≡◌, ℕ, zero, suc, ◌+◌, List, [], ◌∷◌, Bool, true, false, get_or, refl, ap, sym, ◌∙◌, subst, arith, ⊎_elim}
use Rattle.std.specs.Prelude.{Contains, slice_get, Option, None, Some}
use Rattle.std.specs.Option.{option_map_or}
use Rattle.std.proofs.lemmas.List.Elements.{Contains-append_cases, Contains-append_left, Contains-append_right}
use Rattle.selectors_mini.specs.Compounds.{CompoundSelector}
use Rattle.sheet_types.specs.declared.rule.Rule.{Rule}
use Rattle.sheet_types.specs.declared.selector_place.SelectorPlace.{SelectorPlace}
use Rattle.sheet_types.specs.Candidates.{IsKeyed, SelectorKey, candidates_from, candidates_of, has_key, place_if, places_in, selector_place}

-- ---- one place

in_one : (place : SelectorPlace) → Contains (place ∷ []) place
in_one place = (0, omega arith, refl)

from_one : (holds : Bool) (place other : SelectorPlace) → Contains (place_if holds place) other → (holds ≡ true) × (other ≡ place)
from_one true place other (k, within, is) = let first : k ≡ 0 = omega (arith, within) in (refl, sym (subst (λ n. get_or (place ∷ []) n other ≡ other) first is))
from_one false place other (k, within, is) = absurd (omega (arith, within))

-- ---- the selectors of a rule

pub in_places : (key : SelectorKey) (rule at i : ℕ) (ss : List (List CompoundSelector)) (s : List CompoundSelector)
    → slice_get ss i ≡ Some s → has_key key s ≡ true → Contains (places_in key rule at ss) (selector_place rule (at + i))
in_places key rule at i [] s stands keyed = absurd (cc)
in_places key rule at zero (t ∷ ts) s stands keyed =
    let same : t ≡ s = cc in
    let holds : has_key key t ≡ true = ap (has_key key) same ∙ keyed in
    Contains-append_left (place_if (has_key key t) (selector_place rule at)) (places_in key rule (at + 1) ts) (selector_place rule (at + 0))
    (rw holds (subst (Contains (selector_place rule at ∷ [])) (ap (selector_place rule) (omega arith)) (in_one (selector_place rule at))))
in_places key rule at (suc i) (t ∷ ts) s stands keyed =
    let there : at + 1 + i ≡ at + suc i = omega arith in
    Contains-append_right (place_if (has_key key t) (selector_place rule at)) (places_in key rule (at + 1) ts) (selector_place rule (at + suc i))
    (subst (λ n. Contains (places_in key rule (at + 1) ts) (selector_place rule n)) there (in_places key rule (at + 1) i ts s stands keyed))

pub record StandsIn (key : SelectorKey) (rule at : ℕ) (ss : List (List CompoundSelector)) (place : SelectorPlace) : Type 0 where
  pub i : ℕ
  pub selector : List CompoundSelector
  pub stands : slice_get ss i ≡ Some selector
  pub keyed : has_key key selector ≡ true
  pub is : place ≡ selector_place rule (at + i)

pub from_places : (key : SelectorKey) (rule at : ℕ) (ss : List (List CompoundSelector)) (place : SelectorPlace) → Contains (places_in key rule at ss) place → StandsIn key rule at ss place
from_places key rule at [] place (k, within, is) = absurd (omega (arith, within))
from_places key rule at (t ∷ ts) place h =
    ⊎_elim
    (λ (here : Contains (place_if (has_key key t) (selector_place rule at)) place).
    let one = from_one (has_key key t) (selector_place rule at) place here in
    record { i = 0; selector = t; stands = refl; keyed = one.0; is = one.1 ∙ ap (selector_place rule) (omega arith) })
    (λ (there : Contains (places_in key rule (at + 1) ts) place).
    let more = from_places key rule (at + 1) ts place there in
    let next : at + 1 + more.i ≡ at + suc more.i = omega arith in
    record { i = suc more.i; selector = more.selector; stands = more.stands; keyed = more.keyed; is = more.is ∙ ap (selector_place rule) next })
    (Contains-append_cases (place_if (has_key key t) (selector_place rule at)) (places_in key rule (at + 1) ts) place h)

-- ---- the rules of a sheet

-- the selector that stands so many rules further
abbrev pub selector_further : ℕ → List Rule → SelectorPlace → Option (List CompoundSelector)
selector_further i rules place = option_map_or (λ r. slice_get r.selectors place.selector) (slice_get rules i) None

in_candidates : (key : SelectorKey) (at i : ℕ) (rules : List Rule) (place : SelectorPlace) (s : List CompoundSelector) → place.rule ≡ at + i
    → selector_further i rules place ≡ Some s → has_key key s ≡ true → Contains (candidates_from key at rules) place
in_candidates key at i [] place s is stands keyed = absurd (cc)
in_candidates key at zero (r ∷ rs) place s is stands keyed =
    let counted : 0 + place.selector ≡ place.selector = omega arith in
    let same : selector_place at (0 + place.selector) ≡ place = ap (selector_place at) counted ∙ ap (λ n. selector_place n place.selector) here in
    Contains-append_left (places_in key at 0 r.selectors) (candidates_from key (at + 1) rs) place
    (subst (Contains (places_in key at 0 r.selectors)) same (in_places key at 0 place.selector r.selectors s stands keyed))
  where
    here : at ≡ place.rule
    here = omega (arith, is)
in_candidates key at (suc i) (r ∷ rs) place s is stands keyed =
    let further : place.rule ≡ at + 1 + i = omega (arith, is) in
    Contains-append_right (places_in key at 0 r.selectors) (candidates_from key (at + 1) rs) place
    (in_candidates key (at + 1) i rs place s further stands keyed)

record StandsFurther (key : SelectorKey) (at : ℕ) (rules : List Rule) (place : SelectorPlace) : Type 0 where
  pub i : ℕ
  pub selector : List CompoundSelector
  pub stands : selector_further i rules place ≡ Some selector
  pub keyed : has_key key selector ≡ true
  pub is : place.rule ≡ at + i

from_candidates : (key : SelectorKey) (at : ℕ) (rules : List Rule) (place : SelectorPlace) → Contains (candidates_from key at rules) place → StandsFurther key at rules place
from_candidates key at [] place (k, within, is) = absurd (omega (arith, within))
from_candidates key at (r ∷ rs) place h =
    ⊎_elim
    (λ (here : Contains (places_in key at 0 r.selectors) place).
    let one = from_places key at 0 r.selectors place here in
    let second : place.selector ≡ one.i = ap (λ p. p.selector) one.is ∙ (omega arith) in
    let first : place.rule ≡ at + 0 = ap (λ p. p.rule) one.is ∙ (omega arith) in
    record { i = 0; selector = one.selector; stands = ap (slice_get r.selectors) second ∙ one.stands; keyed = one.keyed; is = first })
    (λ (there : Contains (candidates_from key (at + 1) rs) place).
    let more = from_candidates key (at + 1) rs place there in
    let is = more.is in
    let next : place.rule ≡ at + suc more.i = omega (arith, is) in
    record { i = suc more.i; selector = more.selector; stands = more.stands; keyed = more.keyed; is = next })
    (Contains-append_cases (places_in key at 0 r.selectors) (candidates_from key (at + 1) rs) place h)

pub keyed_is_candidate : (rules : List Rule) (key : SelectorKey) (place : SelectorPlace) → IsKeyed rules key place → Contains (candidates_of key rules) place
keyed_is_candidate rules key place h = in_candidates key 0 place.rule rules place h.selector (omega arith) h.stands h.keyed

pub candidate_is_keyed : (rules : List Rule) (key : SelectorKey) (place : SelectorPlace) → Contains (candidates_of key rules) place → IsKeyed rules key place
candidate_is_keyed rules key place h =
    let found = from_candidates key 0 rules place h in
    let at = found.is in
    let same : found.i ≡ place.rule = omega (arith, at) in
    record { selector = found.selector; stands = subst (λ n. selector_further n rules place ≡ Some found.selector) same found.stands; keyed = found.keyed }

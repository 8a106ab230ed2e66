-- Plans: the elements of a pass in tree order.
use Rattle.std.specs.Prelude.{ℕ, zero, suc, ◌+◌, ◌==◌, nat_lt, nat_le, Bool, true, false, not, ◌&&◌, ◌||◌, if◌then◌else◌, List, [], ◌∷◌, slice_get, Option}
use Rattle.std.specs.Option.{option_and_then, option_map_or}
use Rattle.std.specs.List.{list_any, find}
use Rattle.pass_core.specs.declared.plan.Place.{Place}

-- the place of the element
abbrev pub planned_place : List Place → ℕ → Option Place
planned_place places e = find (λ p. p.element == e) places

-- no element has two places
abbrev pub differ : List Place → Bool
differ [] = true
differ (p ∷ ps) = not (list_any (λ q. q.element == p.element) ps) && differ ps

-- each parent stands before its children, where the first of these places is place n
abbrev pub parents_stand_before : ℕ → List Place → Bool
parents_stand_before n [] = true
parents_stand_before n (p ∷ ps) = option_map_or (λ i. nat_lt i n) p.parent true && parents_stand_before (n + 1) ps

-- the place of the parent of place i
abbrev pub parent_place : List Place → ℕ → Option ℕ
parent_place places i = option_and_then (λ (p : Place). p.parent) (slice_get places i)

-- place j is place i or lies below it, by at most so many parents
abbrev pub is_below : List Place → ℕ → ℕ → ℕ → Bool
is_below places zero i j = i == j
is_below places (suc most) i j = i == j || option_map_or (is_below places most i) (parent_place places j) false

-- of the places from j on, those before `end` are the ones that are place i or lie below it
abbrev pub end_is_right : List Place → ℕ → ℕ → ℕ → List Place → Bool
end_is_right places i end j [] = nat_le end j
end_is_right places i end j (p ∷ ps) =
    (if is_below places j i j then nat_lt j end else nat_le end j) && end_is_right places i end (j + 1) ps

-- the subtree of each place is the places up to its end, where the first of these places is place i
abbrev pub subtrees_end : List Place → ℕ → List Place → Bool
subtrees_end places i [] = true
subtrees_end places i (p ∷ ps) = end_is_right places i p.end i (p ∷ ps) && subtrees_end places (i + 1) ps

-- a proper plan
abbrev pub is_proper : List Place → Bool
is_proper places = differ places && (parents_stand_before 0 places && subtrees_end places 0 places)

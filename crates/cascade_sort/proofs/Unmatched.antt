-- A rule that matches nothing only moves the rules after it, which changes no winner.
use Rattle.std.proofs.Common.{◌≡◌, ◌≢◌, inl, inr, ℕ, zero, suc, ◌+◌, ◌<◌, ◌≤◌, Bool, true, false, List, [], ◌∷◌, ◌++◌, length, map, set, refl, ap, sym, ◌∙◌, subst, arith, rules, cond, zero-add}
use Rattle.std.specs.Prelude.{All, nat_eq, nat_lt, filter, Option, None, Some, option_map}
use Rattle.std.specs.Option.{option_map_or}
use Rattle.std.proofs.lemmas.Bool.{cases_eq}
use Rattle.std.proofs.lemmas.List.{append_assoc, map-append}
use Rattle.std.proofs.lemmas.List.Elements.{All-head, All-tail}
use Rattle.computed_style.specs.Winners.{place_of}
use Rattle.doc_tree.specs.Element.{Element}
use Rattle.selectors_mini.specs.Compounds.{CompoundSelector, specificity_of}
use Rattle.selectors_mini.specs.Matching.{Matches, matches_of}
use Rattle.selectors_mini.proofs.Fitting.{matches_is}
use Rattle.sheet_types.specs.Sheets.{SheetRules}
use Rattle.sheet_types.specs.declared.declaration.DeclarationParts.{DeclarationParts}
use Rattle.sheet_types.specs.declared.rule.Rule.{Rule}
use Rattle.value_types.specs.Properties.{number_of}
use Rattle.cascade_sort.specs.declared.precedence.Precedence.{Precedence}
use Rattle.cascade_sort.specs.Applying.{Applied, applied, applied_from, applied_in_rule, applied_in_rules, applied_in_sheets, joined_from, matched_specificity, rules_of}
use Rattle.cascade_sort.specs.Lexicographic.{greater_by, greatest_by, is_at_most}
use Rattle.cascade_sort.specs.Precedences.{Specificity, attached_key, keys_of, of_declaration, of_rule, of_style, specificity_keys}
use Rattle.cascade_sort.specs.Winning.{all_winners, is_in_slot, list_in, property_in, slot, winner_in}
use Rattle.cascade_sort.proofs.Orders.{compared, test_less, test_of}
use Rattle.cascade_sort.proofs.Told.{all_applied, same_attached}
use Rattle.cascade_sort.proofs.WinnerLaws.{list_winner, property_winner, same_of_all}

-- ---- moving the rules of a sheet

-- a rule from the m-th on stands one further, where the test says so
abbrev pub moved : Bool → ℕ → ℕ → ℕ
moved true m i = cond (nat_lt i m) i (i + 1)
moved false m i = i

-- the precedence stands in a rule of the k-th sheet
abbrev pub is_in_sheet : ℕ → Precedence → Bool
is_in_sheet k p = cond p.attached false (nat_eq p.sheet k)

abbrev pub move : ℕ → ℕ → Precedence → Precedence
move k m p = record p { rule = moved (is_in_sheet k p) m p.rule }

abbrev pub move_applied : ℕ → ℕ → Applied → Applied
move_applied k m a = record a { precedence = move k m a.precedence }

-- ---- the order stays

same_rest : (x y : ℕ) (rest others : Bool) → (x ≡ y → rest ≡ others) → test_of x y rest ≡ test_of x y others
same_rest x y rest others same =
    elim (cases_eq x y) [
      | inl is ↦ ap (test_of x y) (same is)
      | inr apart ↦ apart_tests x y rest others apart
    ]
  where
    apart_tests : (x y : ℕ) (rest others : Bool) → x ≢ y → test_of x y rest ≡ test_of x y others
    apart_tests x y rest others apart = let no : nat_eq x y ≡ false = grind (arith, rules) in rw no refl

less_is : (x y : ℕ) → nat_lt x y ≡ true → x < y
less_is x y e = grind (arith, rules)

not_less : (x y : ℕ) → nat_lt x y ≡ false → y ≤ x
not_less x y e = grind (arith, rules)

test_more : (x y : ℕ) (rest : Bool) → y < x → test_of x y rest ≡ false
test_more x y rest more = let no : nat_lt x y ≡ false = grind (arith, rules) in let apart : nat_eq x y ≡ false = grind (arith, rules) in rw (no, apart) refl

both_moved : (i j : ℕ) (rest : Bool) → test_of (i + 1) (j + 1) rest ≡ test_of i j rest
both_moved i j rest =
    elim (compared i j) [
      | inl less ↦ test_less (i + 1) (j + 1) rest (omega (arith, less)) ∙ sym (test_less i j rest less)
      | inr more ↦ elim more [
        | inl greater ↦ test_more (i + 1) (j + 1) rest (omega (arith, greater)) ∙ sym (test_more i j rest greater)
        | inr same ↦ ap (λ x. test_of (x + 1) (j + 1) rest) same ∙ equal (j + 1) rest ∙ sym (ap (λ x. test_of x j rest) same ∙ equal j rest)
      ]
    ]
  where
    equal : (x : ℕ) (rest : Bool) → test_of x x rest ≡ rest
    equal x rest = let no : nat_lt x x ≡ false = grind (arith, rules) in let is : nat_eq x x ≡ true = grind (arith, rules) in rw (no, is) refl

moved_tests : (b : Bool) (m i j : ℕ) (rest : Bool) → test_of (moved b m i) (moved b m j) rest ≡ test_of i j rest
moved_tests true m i j rest = by (nat_lt i m) (nat_lt j m) refl refl
  where
    by : (c d : Bool) → nat_lt i m ≡ c → nat_lt j m ≡ d → test_of (cond c i (i + 1)) (cond d j (j + 1)) rest ≡ test_of i j rest
    by true true e f = refl
    by true false e f =
        let low : i < m = less_is i m e in
        let high : m ≤ j = not_less j m f in
        test_less i (j + 1) rest (omega (arith, low, high)) ∙ sym (test_less i j rest (omega (arith, low, high)))
    by false true e f =
        let high : m ≤ i = not_less i m e in
        let low : j < m = less_is j m f in
        test_more (i + 1) j rest (omega (arith, low, high)) ∙ sym (test_more i j rest (omega (arith, low, high)))
    by false false e f = both_moved i j rest
moved_tests false m i j rest = refl

-- the numbers from a place on
abbrev pub after_sheet : Precedence → List ℕ
after_sheet p = p.rule ∷ p.declaration ∷ []

abbrev pub after_types : Precedence → List ℕ
after_types p = p.sheet ∷ after_sheet p

abbrev pub after_classes : Precedence → List ℕ
after_classes p = p.specificity.2 ∷ after_types p

abbrev pub after_ids : Precedence → List ℕ
after_ids p = p.specificity.1 ∷ after_classes p

abbrev pub after_attached : Precedence → List ℕ
after_attached p = p.specificity.0 ∷ after_ids p

-- moving keeps the order of any two
move_keeps : (k m : ℕ) (p q : Precedence) → is_at_most (keys_of (move k m p)) (keys_of (move k m q)) ≡ is_at_most (keys_of p) (keys_of q)
move_keeps k m p q =
    same_rest (attached_key p.attached) (attached_key q.attached) (is_at_most (after_attached (move k m p)) (after_attached (move k m q))) (is_at_most (after_attached p) (after_attached q))
    (λ attached. same_rest p.specificity.0 q.specificity.0 (is_at_most (after_ids (move k m p)) (after_ids (move k m q))) (is_at_most (after_ids p) (after_ids q))
    (λ ids. same_rest p.specificity.1 q.specificity.1 (is_at_most (after_classes (move k m p)) (after_classes (move k m q))) (is_at_most (after_classes p) (after_classes q))
    (λ classes. same_rest p.specificity.2 q.specificity.2 (is_at_most (after_types (move k m p)) (after_types (move k m q))) (is_at_most (after_types p) (after_types q))
    (λ types. same_rest p.sheet q.sheet (is_at_most (after_sheet (move k m p)) (after_sheet (move k m q))) (is_at_most (after_sheet p) (after_sheet q))
    (λ sheet. ap (λ b. test_of (moved (is_in_sheet k p) m p.rule) (moved b m q.rule) (is_at_most (p.declaration ∷ []) (q.declaration ∷ [])))
    (sym (ap (λ s. cond p.attached false (nat_eq s k)) sheet ∙ ap (λ a. cond a false (nat_eq q.sheet k)) (same_attached p.attached q.attached attached)))
    ∙ moved_tests (is_in_sheet k p) m p.rule q.rule (is_at_most (p.declaration ∷ []) (q.declaration ∷ [])))))))

-- ---- the same winners

greater_moved : (k m : ℕ) (a : Applied) (o : Option Applied) → greater_by (λ x. keys_of x.precedence) (move_applied k m a) (option_map (move_applied k m) o) ≡ move_applied k m (greater_by (λ x. keys_of x.precedence) a o)
greater_moved k m a None = refl
greater_moved k m a (Some b) = rw (move_keeps k m a.precedence b.precedence) (by (is_at_most (keys_of a.precedence) (keys_of b.precedence)))
  where
    by : (c : Bool) → cond c (move_applied k m b) (move_applied k m a) ≡ move_applied k m (cond c b a)
    by true = refl
    by false = refl

greatest_moved : (k m : ℕ) (xs : List Applied) → greatest_by (λ x. keys_of x.precedence) (map (move_applied k m) xs) ≡ option_map (move_applied k m) (greatest_by (λ x. keys_of x.precedence) xs)
greatest_moved k m [] = refl
greatest_moved k m (x ∷ xs) =
    ap (λ o. Some (greater_by (λ x. keys_of x.precedence) (move_applied k m x) o)) (greatest_moved k m xs)
    ∙ ap Some (greater_moved k m x (greatest_by (λ x. keys_of x.precedence) xs))

filter_moved : (k m n : ℕ) (xs : List Applied) → filter (is_in_slot n) (map (move_applied k m) xs) ≡ map (move_applied k m) (filter (is_in_slot n) xs)
filter_moved k m n [] = refl
filter_moved k m n (x ∷ xs) = rw (filter_moved k m n xs) (by (is_in_slot n x))
  where
    by : (c : Bool) → cond c (move_applied k m x ∷ map (move_applied k m) (filter (is_in_slot n) xs)) (map (move_applied k m) (filter (is_in_slot n) xs)) ≡ map (move_applied k m) (cond c (x ∷ filter (is_in_slot n) xs) (filter (is_in_slot n) xs))
    by true = refl
    by false = refl

winner_moved : (k m n : ℕ) (xs : List Applied) → winner_in (map (move_applied k m) xs) n ≡ option_map (move_applied k m) (winner_in xs n)
winner_moved k m n xs = ap (greatest_by (λ x. keys_of x.precedence)) (filter_moved k m n xs) ∙ greatest_moved k m (filter (is_in_slot n) xs)

property_moved : (k m : ℕ) (o : Option Applied) → property_in (option_map (move_applied k m) o) ≡ property_in o
property_moved k m None = refl
property_moved k m (Some a) = refl

list_moved : (k m : ℕ) (o : Option Applied) → list_in (option_map (move_applied k m) o) ≡ list_in o
list_moved k m None = refl
list_moved k m (Some a) = refl

winners_moved : (k m : ℕ) (xs : List Applied) → all_winners (map (move_applied k m) xs) ≡ all_winners xs
winners_moved k m xs =
    same_of_all (map (move_applied k m) xs) xs
    (λ p important. property_winner (map (move_applied k m) xs) p important
    ∙ ap property_in (winner_moved k m (slot important (number_of p)) xs) ∙ property_moved k m (winner_in xs (slot important (number_of p)))
    ∙ sym (property_winner xs p important))
    (λ name important. list_winner (map (move_applied k m) xs) name important
    ∙ ap list_in (winner_moved k m (slot important (place_of name + 24)) xs) ∙ list_moved k m (winner_in xs (slot important (place_of name + 24)))
    ∙ sym (list_winner xs name important))

-- ---- the lists are moved

block_moved : (k m : ℕ) (b c : Precedence) (at : ℕ) (ds : List DeclarationParts) → ((i : ℕ) → move k m (of_declaration b i) ≡ of_declaration c i)
    → map (move_applied k m) (applied_from b at ds) ≡ applied_from c at ds
block_moved k m b c at [] is = refl
block_moved k m b c at (d ∷ ds) is =
    ap (λ p. applied d p ∷ map (move_applied k m) (applied_from b (at + 1) ds)) (is at)
    ∙ ap (λ xs. applied d (of_declaration c at) ∷ xs) (block_moved k m b c (at + 1) ds is)

rule_by : (k m sheet i : ℕ) (ds : List DeclarationParts) (o : Option Specificity)
    → map (move_applied k m) (option_map_or (λ s. applied_from (of_rule sheet i s) 0 ds) o []) ≡ option_map_or (λ s. applied_from (of_rule sheet (moved (nat_eq sheet k) m i) s) 0 ds) o []
rule_by k m sheet i ds None = refl
rule_by k m sheet i ds (Some s) = block_moved k m (of_rule sheet i s) (of_rule sheet (moved (nat_eq sheet k) m i) s) 0 ds (λ at. refl)

rule_moved : (chain : List Element) (k m sheet i : ℕ) (r : Rule) → map (move_applied k m) (applied_in_rule chain sheet i r) ≡ applied_in_rule chain sheet (moved (nat_eq sheet k) m i) r
rule_moved chain k m sheet i r = rule_by k m sheet i r.declarations (matched_specificity chain r.selectors)

joined_moved : {A : Type 0} (k m : ℕ) (f g : ℕ → A → List Applied) (at : ℕ) (xs : List A)
    → ((i : ℕ) → i < length xs → (x : A) → map (move_applied k m) (f (at + i) x) ≡ g (at + i) x) → map (move_applied k m) (joined_from f at xs) ≡ joined_from g at xs
joined_moved k m f g at [] is = refl
joined_moved {A} k m f g at (x ∷ xs) is =
    let here : at + 0 ≡ at = omega arith in
    map-append (move_applied k m) (f at x) (joined_from f (at + 1) xs)
    ∙ ap (λ ys. ys ++ map (move_applied k m) (joined_from f (at + 1) xs)) (subst (λ (n : ℕ). map (move_applied k m) (f n x) ≡ g n x) here (is 0 (omega arith) x))
    ∙ ap (λ ys. g at x ++ ys) (joined_moved k m f g (at + 1) xs (λ i within y. subst (λ (n : ℕ). map (move_applied k m) (f n y) ≡ g n y) (next i) (is (suc i) (omega (arith, within)) y)))
  where
    next : (i : ℕ) → at + suc i ≡ at + 1 + i
    next i = omega arith

joined-append : {A B : Type 0} (f : ℕ → A → List B) (at : ℕ) (xs ys : List A) → joined_from f at (xs ++ ys) ≡ joined_from f at xs ++ joined_from f (at + length xs) ys
joined-append f at [] ys = let here : at ≡ at + 0 = omega arith in ap (λ n. joined_from f n ys) here
joined-append f at (x ∷ xs) ys =
    let next : at + 1 + length xs ≡ at + suc (length xs) = omega arith in
    ap (λ zs. f at x ++ zs) (joined-append f (at + 1) xs ys ∙ ap (λ n. joined_from f (at + 1) xs ++ joined_from f n ys) next)
    ∙ sym (append_assoc (f at x) (joined_from f (at + 1) xs) (joined_from f (at + suc (length xs)) ys))

-- those of one number further
joined_further : {A B : Type 0} (f g : ℕ → A → List B) (at : ℕ) (xs : List A) → ((i : ℕ) (x : A) → f i x ≡ g (i + 1) x) → joined_from f at xs ≡ joined_from g (at + 1) xs
joined_further f g at [] is = refl
joined_further f g at (x ∷ xs) is = ap (λ ys. ys ++ joined_from f (at + 1) xs) (is at x) ∙ ap (λ ys. g (at + 1) x ++ ys) (joined_further f g (at + 1) xs is)

-- ---- the rules of the sheet

no_match_by : (chain : List Element) (s : List CompoundSelector) (rest : List (List CompoundSelector)) (b : Bool) → matches_of s chain ≡ b → (Matches s chain → ⊥)
    → filter (λ t. matches_of t chain) rest ≡ [] → cond b (s ∷ filter (λ t. matches_of t chain) rest) (filter (λ t. matches_of t chain) rest) ≡ []
no_match_by chain s rest true is never empty = absurd (never ((matches_is s chain (matches_of s chain) refl).0 is))
no_match_by chain s rest false is never empty = empty

none_matches : (chain : List Element) (selectors : List (List CompoundSelector)) → All (λ s. Matches s chain → ⊥) selectors → filter (λ s. matches_of s chain) selectors ≡ []
none_matches chain [] never = refl
none_matches chain (s ∷ ss) never =
    no_match_by chain s ss (matches_of s chain) refl (All-head (λ t. Matches t chain → ⊥) s ss never) (none_matches chain ss (All-tail (λ t. Matches t chain → ⊥) s ss never))

unmatched_gives_none : (chain : List Element) (sheet i : ℕ) (r : Rule) → All (λ s. Matches s chain → ⊥) r.selectors → applied_in_rule chain sheet i r ≡ []
unmatched_gives_none chain sheet i r never =
    ap (λ ss. option_map_or (λ s. applied_from (of_rule sheet i s) 0 r.declarations) (greatest_by specificity_keys (map specificity_of ss)) []) (none_matches chain r.selectors never)

moved_before : (m i : ℕ) → i < m → moved true m i ≡ i
moved_before m i less = let yes : nat_lt i m ≡ true = grind (arith, rules) in rw yes refl

moved_after : (m i : ℕ) → m ≤ i → moved true m i ≡ i + 1
moved_after m i more = let no : nat_lt i m ≡ false = grind (arith, rules) in rw no refl

is_itself : (k : ℕ) → nat_eq k k ≡ true
is_itself k = grind (arith, rules)

is_other : (j k : ℕ) → j ≢ k → nat_eq j k ≡ false
is_other j k other = grind (arith, rules)

-- the rules with the one that matches nothing are those without it, moved
rules_with : (chain : List Element) (k : ℕ) (before after : List Rule) (r : Rule) → All (λ s. Matches s chain → ⊥) r.selectors
    → map (move_applied k (length before)) (applied_in_rules chain k (before ++ after)) ≡ applied_in_rules chain k (before ++ r ∷ after)
rules_with chain k before after r never =
    let m : ℕ = length before in
    let f : ℕ → Rule → List Applied = applied_in_rule chain k in
    let moving : (i : ℕ) (x : Rule) → map (move_applied k m) (f i x) ≡ f (moved true m i) x =
    λ i x. rule_moved chain k m k i x ∙ ap (λ b. applied_in_rule chain k (moved b m i) x) (is_itself k) in
    let front : map (move_applied k m) (joined_from f 0 before) ≡ joined_from f 0 before =
    joined_moved k m f f 0 before (λ i within x. moving (0 + i) x ∙ ap (λ n. f n x) (moved_before m (0 + i) (omega (arith, within)))) in
    let back : map (move_applied k m) (joined_from f (0 + m) after) ≡ joined_from f (0 + m + 1) after =
    joined_moved k m f (λ i x. f (i + 1) x) (0 + m) after (λ i within x. moving (0 + m + i) x ∙ ap (λ n. f n x) (moved_after m (0 + m + i) (omega arith)))
    ∙ joined_further (λ i x. f (i + 1) x) f (0 + m) after (λ i x. refl) in
    let whole : map (move_applied k m) (joined_from f 0 (before ++ after)) ≡ joined_from f 0 before ++ joined_from f (0 + m + 1) after =
    ap (map (move_applied k m)) (joined-append f 0 before after)
    ∙ map-append (move_applied k m) (joined_from f 0 before) (joined_from f (0 + m) after)
    ∙ ap (λ ys. ys ++ map (move_applied k m) (joined_from f (0 + m) after)) front
    ∙ ap (λ ys. joined_from f 0 before ++ ys) back in
    let with : joined_from f 0 (before ++ r ∷ after) ≡ joined_from f 0 before ++ joined_from f (0 + m + 1) after =
    joined-append f 0 before (r ∷ after)
    ∙ ap (λ ys. joined_from f 0 before ++ (ys ++ joined_from f (0 + m + 1) after)) (unmatched_gives_none chain k (0 + m) r never) in
    whole ∙ sym with

-- those of another sheet stay
rules_stay : (chain : List Element) (k m j : ℕ) (rs : List Rule) → j ≢ k → map (move_applied k m) (applied_in_rules chain j rs) ≡ applied_in_rules chain j rs
rules_stay chain k m j rs other =
    joined_moved k m (applied_in_rule chain j) (applied_in_rule chain j) 0 rs
    (λ i within x. rule_moved chain k m j (0 + i) x ∙ ap (λ b. applied_in_rule chain j (moved b m (0 + i)) x) (is_other j k other))

-- ---- the sheets

abbrev pub in_sheet : List Element → ℕ → Option SheetRules → List Applied
in_sheet chain j s = applied_in_rules chain j (rules_of s)

sheets_after : (chain : List Element) (k m at : ℕ) (ss : List (Option SheetRules)) → k < at → map (move_applied k m) (joined_from (in_sheet chain) at ss) ≡ joined_from (in_sheet chain) at ss
sheets_after chain k m at ss past =
    joined_moved k m (in_sheet chain) (in_sheet chain) at ss (λ i within s. rules_stay chain k m (at + i) (rules_of s) (λ same. omega (arith, past, same)))

sheets_with : (chain : List Element) (at i m : ℕ) (ss : List (Option SheetRules)) (old new : Option SheetRules)
    → map (move_applied (at + i) m) (in_sheet chain (at + i) old) ≡ in_sheet chain (at + i) new
    → map (move_applied (at + i) m) (joined_from (in_sheet chain) at (set ss i old)) ≡ joined_from (in_sheet chain) at (set ss i new)
sheets_with chain at i m [] old new is = refl
sheets_with chain at zero m (s ∷ ss) old new is =
    let here : at + 0 ≡ at = omega arith in
    subst (λ (k : ℕ). map (move_applied k m) (in_sheet chain k old) ≡ in_sheet chain k new → map (move_applied k m) (in_sheet chain at old ++ joined_from (in_sheet chain) (at + 1) ss) ≡ in_sheet chain at new ++ joined_from (in_sheet chain) (at + 1) ss)
    (sym here)
    (λ same. map-append (move_applied at m) (in_sheet chain at old) (joined_from (in_sheet chain) (at + 1) ss)
    ∙ ap (λ ys. ys ++ map (move_applied at m) (joined_from (in_sheet chain) (at + 1) ss)) same
    ∙ ap (λ ys. in_sheet chain at new ++ ys) (sheets_after chain at m (at + 1) ss (omega arith)))
    is
sheets_with chain at (suc i) m (s ∷ ss) old new is =
    let next : at + 1 + i ≡ at + suc i = omega arith in
    let rest : map (move_applied (at + 1 + i) m) (joined_from (in_sheet chain) (at + 1) (set ss i old)) ≡ joined_from (in_sheet chain) (at + 1) (set ss i new) =
    sheets_with chain (at + 1) i m ss old new (subst (λ (k : ℕ). map (move_applied k m) (in_sheet chain k old) ≡ in_sheet chain k new) (sym next) is) in
    map-append (move_applied (at + suc i) m) (in_sheet chain at s) (joined_from (in_sheet chain) (at + 1) (set ss i old))
    ∙ ap (λ ys. ys ++ map (move_applied (at + suc i) m) (joined_from (in_sheet chain) (at + 1) (set ss i old))) (rules_stay chain (at + suc i) m at (rules_of s) (λ same. omega (arith, same)))
    ∙ ap (λ ys. in_sheet chain at s ++ ys) (subst (λ (k : ℕ). map (move_applied k m) (joined_from (in_sheet chain) (at + 1) (set ss i old)) ≡ joined_from (in_sheet chain) (at + 1) (set ss i new)) next rest)

-- ---- all

pub unmatched_rule : (chain : List Element) (sheets : List (Option SheetRules)) (style : List DeclarationParts) (k : ℕ) (before after : List Rule) (r : Rule) (old new : SheetRules)
    → old.rules ≡ before ++ after → new.rules ≡ before ++ r ∷ after → All (λ s. Matches s chain → ⊥) r.selectors
    → all_winners (all_applied chain (set sheets k (Some new)) style) ≡ all_winners (all_applied chain (set sheets k (Some old)) style)
unmatched_rule chain sheets style k before after r old new without with never =
    let m : ℕ = length before in
    let one : map (move_applied k m) (in_sheet chain k (Some old)) ≡ in_sheet chain k (Some new) =
    ap (λ rs. map (move_applied k m) (applied_in_rules chain k rs)) without ∙ rules_with chain k before after r never ∙ ap (applied_in_rules chain k) (sym with) in
    let sheets_moved : map (move_applied k m) (applied_in_sheets chain (set sheets k (Some old))) ≡ applied_in_sheets chain (set sheets k (Some new)) =
    subst (λ (n : ℕ). map (move_applied n m) (in_sheet chain n (Some old)) ≡ in_sheet chain n (Some new) → map (move_applied n m) (applied_in_sheets chain (set sheets k (Some old))) ≡ applied_in_sheets chain (set sheets k (Some new)))
    (zero-add k) (sheets_with chain 0 k m sheets (Some old) (Some new)) one in
    let whole : map (move_applied k m) (all_applied chain (set sheets k (Some old)) style) ≡ all_applied chain (set sheets k (Some new)) style =
    map-append (move_applied k m) (applied_in_sheets chain (set sheets k (Some old))) (applied_from of_style 0 style)
    ∙ ap (λ ys. ys ++ map (move_applied k m) (applied_from of_style 0 style)) sheets_moved
    ∙ ap (λ ys. applied_in_sheets chain (set sheets k (Some new)) ++ ys) (block_moved k m of_style of_style 0 style (λ i. refl)) in
    sym (ap all_winners whole) ∙ winners_moved k m (all_applied chain (set sheets k (Some old)) style)

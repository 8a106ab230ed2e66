-- The winners are those of the relation, which knows no order.
use Rattle.std.proofs.Common.{◌≡◌, ℕ, ◌+◌, ◌<◌, Bool, true, false, List, [], map, refl, ap, sym, ◌∙◌, subst, arith}
use Rattle.std.specs.Prelude.{All, Contains, filter, Option, None, Some, option_map}
use Rattle.std.proofs.lemmas.List.Elements.{All-contains, All-contains_itself, All-weaker}
use Rattle.computed_style.specs.Winners.{Declarations, declarations, list_winner_of, list_winners_of, no_list_winners, no_winners, place_of, winners_of}
use Rattle.computed_style.proofs.ByIndex.{same_by_list, same_by_property}
use Rattle.computed_style.proofs.EveryProperty.{at_list, at_property}
use Rattle.computed_style.proofs.Tables.{number_small, place_small, same_list, same_property}
use Rattle.shorthand_text.specs.Targets.{target_of}
use Rattle.shorthand_text.specs.declared.known_name.KnownName.{KnownName}
use Rattle.shorthand_text.specs.declared.known_name.KnownName.TheVariants as known
use Rattle.shorthand_text.specs.declared.longhand.Longhand.{Longhand}
use Rattle.shorthand_text.specs.declared.longhand.Longhand.TheVariants as given
use Rattle.value_types.specs.ListValues.{timing_lists}
use Rattle.value_types.specs.Properties.{all_properties, number_of}
use Rattle.value_types.specs.declared.declared.Declared.{Declared}
use Rattle.value_types.specs.declared.list_value.ListName.{ListName}
use Rattle.value_types.specs.declared.list_value.ListValue.{ListValue}
use Rattle.value_types.specs.declared.property.PropertyId.{PropertyId}
use Rattle.cascade_sort.specs.Applying.{Applied}
use Rattle.cascade_sort.specs.Lexicographic.{IsGreatestBy, is_at_most}
use Rattle.cascade_sort.specs.Precedences.{keys_of}
use Rattle.cascade_sort.specs.Winning.{AreApart, AreWinners, HaveSameMembers, HaveSameWinners, IsDeclarationOf, IsWinner, Wins, all_winners, given_list, given_property, is_in_slot, list_in, list_winners, longhand_number, property_in, property_winners, slot, slot_of, winner_in, winner_of}
use Rattle.cascade_sort.proofs.KeptWinners.{is_number, number_is, same_list_winners, same_winners, tells}
use Rattle.cascade_sort.proofs.Members.{member_of_filter, member_that_passes, no_member}
use Rattle.cascade_sort.proofs.Orders.{TellsGreatest, at_most_both}
use Rattle.cascade_sort.proofs.Putting.{longhand_small, slot_same}
use Rattle.cascade_sort.proofs.Told.{same_precedence}

-- ---- targets and their numbers

-- the number stands for the target alone
pub record IsNumberOf (target : KnownName) (number : ℕ) : Type 0 where
  pub small : number < 36
  pub gives : (l : Longhand) → target_of l ≡ target → longhand_number l ≡ number
  pub has : (l : Longhand) → longhand_number l ≡ number → target_of l ≡ target

property_gives : (p : PropertyId) (l : Longhand) → target_of l ≡ known.Property p → longhand_number l ≡ number_of p
property_gives p (given.Property q d) is = (let same : q ≡ p = cc in ap number_of same)
property_gives p (given.List name v) is = absurd (cc)

property_has : (p : PropertyId) (l : Longhand) → longhand_number l ≡ number_of p → target_of l ≡ known.Property p
property_has p (given.Property q d) is = ap known.Property (same_property q p is)
property_has p (given.List name v) is = absurd (omega (arith, is, number_small p))

pub number_of_property : (p : PropertyId) → IsNumberOf (known.Property p) (number_of p)
number_of_property p = record { small = omega (arith, number_small p); gives = property_gives p; has = property_has p }

list_gives : (name : ListName) (l : Longhand) → target_of l ≡ known.List name → longhand_number l ≡ place_of name + 24
list_gives name (given.Property q d) is = absurd (cc)
list_gives name (given.List other v) is = (let same : other ≡ name = cc in ap (λ x. place_of x + 24) same)

list_has : (name : ListName) (l : Longhand) → longhand_number l ≡ place_of name + 24 → target_of l ≡ known.List name
list_has name (given.Property q d) is = absurd (omega (arith, is, number_small q))
list_has name (given.List other v) is = (let same : place_of other ≡ place_of name = omega (arith, is) in ap known.List (same_list other name same))

pub number_of_list : (name : ListName) → IsNumberOf (known.List name) (place_of name + 24)
number_of_list name = record { small = omega (arith, place_small name); gives = list_gives name; has = list_has name }

slot_if_of : (target : KnownName) (number : ℕ) (important : Bool) (a : Applied) → IsNumberOf target number → IsDeclarationOf target important a → slot_of a ≡ slot important number
slot_if_of target number important a h is = ap (λ i. slot i (longhand_number a.longhand)) is.of_importance ∙ ap (slot important) (h.gives a.longhand is.of_target)

of_if_slot : (target : KnownName) (number : ℕ) (important : Bool) (a : Applied) → IsNumberOf target number → slot_of a ≡ slot important number → IsDeclarationOf target important a
of_if_slot target number important a h is =
    let (same, at) = slot_same a.important important (longhand_number a.longhand) number (longhand_small a.longhand) h.small is in
    record { of_target = h.has a.longhand at; of_importance = same }

-- ---- the function gives what wins

abbrev pub longhand_in : Option Applied → Option Longhand
longhand_in w = option_map (λ a. a.longhand) w

none_wins : (xs : List Applied) (target : KnownName) (number : ℕ) (important : Bool) → IsNumberOf target number → filter (is_in_slot (slot important number)) xs ≡ []
    → Wins xs target important None
none_wins xs target number important h empty =
    All-weaker (Contains xs) (λ a. IsDeclarationOf target important a → ⊥)
    (λ a among is. no_member a (subst (λ (ys : List Applied). Contains ys a) empty
    (member_that_passes (is_in_slot (slot important number)) xs a among (number_is (slot_of a) (slot important number) (slot_if_of target number important a h is)))))
    xs (All-contains_itself xs)

one_wins : (xs : List Applied) (target : KnownName) (number : ℕ) (important : Bool) (a : Applied) → IsNumberOf target number
    → IsGreatestBy (λ x. keys_of x.precedence) (filter (is_in_slot (slot important number)) xs) a → IsWinner xs target important a
one_wins xs target number important a h greatest =
    let (among, passes) = member_of_filter (is_in_slot (slot important number)) xs a greatest.among in
    record {
      applies = among;
      is_of = of_if_slot target number important a h (is_number (slot_of a) (slot important number) passes);
      most = All-weaker (Contains xs) (λ b. IsDeclarationOf target important b → is_at_most (keys_of b.precedence) (keys_of a.precedence) ≡ true)
          (λ b there is. All-contains (λ x. is_at_most (keys_of x.precedence) (keys_of a.precedence) ≡ true) (filter (is_in_slot (slot important number)) xs) b greatest.most
          (member_that_passes (is_in_slot (slot important number)) xs b there (number_is (slot_of b) (slot important number) (slot_if_of target number important b h is))))
          xs (All-contains_itself xs);
    }

wins_by : (xs : List Applied) (target : KnownName) (number : ℕ) (important : Bool) (w : Option Applied) → IsNumberOf target number
    → TellsGreatest (λ x. keys_of x.precedence) (filter (is_in_slot (slot important number)) xs) w → Wins xs target important (longhand_in w)
wins_by xs target number important None h empty = none_wins xs target number important h empty
wins_by xs target number important (Some a) h greatest = (a, refl, one_wins xs target number important a h greatest)

pub winner_wins : (xs : List Applied) (target : KnownName) (number : ℕ) (important : Bool) → IsNumberOf target number
    → Wins xs target important (longhand_in (winner_in xs (slot important number)))
winner_wins xs target number important h = wins_by xs target number important (winner_in xs (slot important number)) h (tells xs (slot important number))

-- ---- what the function gives, as longhands

property_longhand : (p : PropertyId) (l : Longhand) → target_of l ≡ known.Property p → option_map (given.Property p) (given_property l) ≡ Some l
property_longhand p (given.Property q d) is = (let same : p ≡ q = cc in ap (λ x. Some (given.Property x d)) same)
property_longhand p (given.List name v) is = absurd (cc)

list_longhand : (name : ListName) (l : Longhand) → target_of l ≡ known.List name → option_map (given.List name) (given_list l) ≡ Some l
list_longhand name (given.Property q d) is = absurd (cc)
list_longhand name (given.List other v) is = (let same : name ≡ other = cc in ap (λ x. Some (given.List x v)) same)

property_of_slot : (xs : List Applied) (p : PropertyId) (important : Bool) (w : Option Applied)
    → TellsGreatest (λ x. keys_of x.precedence) (filter (is_in_slot (slot important (number_of p))) xs) w → option_map (given.Property p) (property_in w) ≡ longhand_in w
property_of_slot xs p important None tells = refl
property_of_slot xs p important (Some a) tells =
    property_longhand p a.longhand (one_wins xs (known.Property p) (number_of p) important a (number_of_property p) tells).is_of.of_target

list_of_slot : (xs : List Applied) (name : ListName) (important : Bool) (w : Option Applied)
    → TellsGreatest (λ x. keys_of x.precedence) (filter (is_in_slot (slot important (place_of name + 24))) xs) w → option_map (given.List name) (list_in w) ≡ longhand_in w
list_of_slot xs name important None tells = refl
list_of_slot xs name important (Some a) tells =
    list_longhand name a.longhand (one_wins xs (known.List name) (place_of name + 24) important a (number_of_list name) tells).is_of.of_target

pub property_winner : (xs : List Applied) (p : PropertyId) (important : Bool) → winner_of (all_winners xs) p important ≡ property_in (winner_in xs (slot important (number_of p)))
unfolding all_winners
property_winner xs p true = ap (λ w. w.important) (at_property (property_winners xs) no_winners p)
property_winner xs p false = ap (λ w. w.normal) (at_property (property_winners xs) no_winners p)

pub list_winner : (xs : List Applied) (name : ListName) (important : Bool)
    → list_winner_of (all_winners xs) name important ≡ list_in (winner_in xs (slot important (place_of name + 24)))
unfolding all_winners
list_winner xs name true = ap (λ w. w.important) (at_list (list_winners xs) no_list_winners name)
list_winner xs name false = ap (λ w. w.normal) (at_list (list_winners xs) no_list_winners name)

-- the function gives the winners of the relation
pub are_winners : (xs : List Applied) → AreWinners xs (all_winners xs)
are_winners xs = record {
  properties = λ p important.
      subst (Wins xs (known.Property p) important)
      (sym (ap (option_map (given.Property p)) (property_winner xs p important)
      ∙ property_of_slot xs p important (winner_in xs (slot important (number_of p))) (tells xs (slot important (number_of p)))))
      (winner_wins xs (known.Property p) (number_of p) important (number_of_property p));
  lists = λ name important.
      subst (Wins xs (known.List name) important)
      (sym (ap (option_map (given.List name)) (list_winner xs name important)
      ∙ list_of_slot xs name important (winner_in xs (slot important (place_of name + 24))) (tells xs (slot important (place_of name + 24)))))
      (winner_wins xs (known.List name) (place_of name + 24) important (number_of_list name));
}

-- ---- one answer

pub one_winner : (xs : List Applied) (target : KnownName) (important : Bool) (a b : Applied) → AreApart xs → IsWinner xs target important a → IsWinner xs target important b → a ≡ b
one_winner xs target important a b apart g h =
    let below : is_at_most (keys_of a.precedence) (keys_of b.precedence) ≡ true =
    All-contains (λ x. IsDeclarationOf target important x → is_at_most (keys_of x.precedence) (keys_of b.precedence) ≡ true) xs a h.most g.applies g.is_of in
    let above : is_at_most (keys_of b.precedence) (keys_of a.precedence) ≡ true =
    All-contains (λ x. IsDeclarationOf target important x → is_at_most (keys_of x.precedence) (keys_of a.precedence) ≡ true) xs b g.most h.applies h.is_of in
    apart a b g.applies h.applies
    (same_precedence a.precedence b.precedence (at_most_both (keys_of a.precedence) (keys_of b.precedence) refl below above))

one_answer : (xs : List Applied) (target : KnownName) (important : Bool) (o p : Option Longhand) → AreApart xs → Wins xs target important o → Wins xs target important p → o ≡ p
one_answer xs target important None None apart g h = refl
one_answer xs target important None (Some l) apart g (a, is, wins) = absurd (All-contains (λ x. IsDeclarationOf target important x → ⊥) xs a g wins.applies wins.is_of)
one_answer xs target important (Some l) None apart (a, is, wins) h = absurd (All-contains (λ x. IsDeclarationOf target important x → ⊥) xs a h wins.applies wins.is_of)
one_answer xs target important (Some l) (Some m) apart (a, is, wins) (b, also, too) =
    ap Some (sym is ∙ ap (λ (x : Applied). x.longhand) (one_winner xs target important a b apart wins too) ∙ also)

same_property_value : (p : PropertyId) (o q : Option Declared) → option_map (given.Property p) o ≡ option_map (given.Property p) q → o ≡ q
same_property_value p None None is = refl
same_property_value p None (Some d) is = absurd (cc)
same_property_value p (Some d) None is = absurd (cc)
same_property_value p (Some d) (Some e) is = (let l : given.Property p d ≡ given.Property p e = cc in let same : d ≡ e = cc in ap Some same)

same_list_value : (name : ListName) (o q : Option ListValue) → option_map (given.List name) o ≡ option_map (given.List name) q → o ≡ q
same_list_value name None None is = refl
same_list_value name None (Some d) is = absurd (cc)
same_list_value name (Some d) None is = absurd (cc)
same_list_value name (Some d) (Some e) is = (let l : given.List name d ≡ given.List name e = cc in let same : d ≡ e = cc in ap Some same)

-- two answers have the same winners
pub same_answers : (xs : List Applied) (d e : Declarations) → AreApart xs → AreWinners xs d → AreWinners xs e
    → HaveSameWinners d e
same_answers xs d e apart g h = record {
  properties = λ p important. same_property_value p (winner_of d p important) (winner_of e p important)
      (one_answer xs (known.Property p) important (option_map (given.Property p) (winner_of d p important)) (option_map (given.Property p) (winner_of e p important)) apart (g.properties p important) (h.properties p important));
  lists = λ name important. same_list_value name (list_winner_of d name important) (list_winner_of e name important)
      (one_answer xs (known.List name) important (option_map (given.List name) (list_winner_of d name important)) (option_map (given.List name) (list_winner_of e name important)) apart (g.lists name important) (h.lists name important));
}

pub same_of_all : (xs ys : List Applied) → ((p : PropertyId) (important : Bool) → winner_of (all_winners xs) p important ≡ winner_of (all_winners ys) p important)
    → ((name : ListName) (important : Bool) → list_winner_of (all_winners xs) name important ≡ list_winner_of (all_winners ys) name important) → all_winners xs ≡ all_winners ys
unfolding all_winners
same_of_all xs ys each each_list =
    let properties : map (property_winners xs) all_properties ≡ map (property_winners ys) all_properties =
    same_by_property (map (property_winners xs) all_properties) (map (property_winners ys) all_properties) no_winners refl refl
    (λ p. same_winners (winners_of (all_winners xs) p) (winners_of (all_winners ys) p) (each p true) (each p false)) in
    let lists : map (list_winners xs) timing_lists ≡ map (list_winners ys) timing_lists =
    same_by_list (map (list_winners xs) timing_lists) (map (list_winners ys) timing_lists) no_list_winners refl refl
    (λ name. same_list_winners (list_winners_of (all_winners xs) name) (list_winners_of (all_winners ys) name) (each_list name true) (each_list name false)) in
    ap (λ x. declarations x (map (list_winners xs) timing_lists)) properties ∙ ap (declarations (map (property_winners ys) all_properties)) lists

-- ---- any order

all_of_members : (xs ys : List Applied) (P : Applied → Type 0) → HaveSameMembers xs ys → All P xs → All P ys
all_of_members xs ys P same all = All-weaker (Contains ys) P (λ a among. All-contains P xs a all ((same a).1 among)) ys (All-contains_itself ys)

pub winner_in_any_order : (xs ys : List Applied) (target : KnownName) (important : Bool) (a : Applied) → HaveSameMembers xs ys → IsWinner xs target important a
    → IsWinner ys target important a
winner_in_any_order xs ys target important a same h = record {
  applies = (same a).0 h.applies;
  is_of = h.is_of;
  most = all_of_members xs ys (λ b. IsDeclarationOf target important b → is_at_most (keys_of b.precedence) (keys_of a.precedence) ≡ true) same h.most;
}

wins_in_any_order : (xs ys : List Applied) (target : KnownName) (important : Bool) (o : Option Longhand) → HaveSameMembers xs ys → Wins xs target important o → Wins ys target important o
wins_in_any_order xs ys target important None same h = all_of_members xs ys (λ a. IsDeclarationOf target important a → ⊥) same h
wins_in_any_order xs ys target important (Some l) same (a, is, wins) = (a, is, winner_in_any_order xs ys target important a same wins)

pub winners_in_any_order : (xs ys : List Applied) → AreApart xs → HaveSameMembers xs ys → all_winners xs ≡ all_winners ys
winners_in_any_order xs ys apart same =
    let there : AreApart ys = λ a b among also. apart a b ((same a).1 among) ((same b).1 also) in
    let moved : AreWinners ys (all_winners xs) = record {
      properties = λ p important. wins_in_any_order xs ys (known.Property p) important (option_map (given.Property p) (winner_of (all_winners xs) p important)) same ((are_winners xs).properties p important);
      lists = λ name important. wins_in_any_order xs ys (known.List name) important (option_map (given.List name) (list_winner_of (all_winners xs) name important)) same ((are_winners xs).lists name important);
    } in
    let same = same_answers ys (all_winners xs) (all_winners ys) there moved (are_winners ys) in
    same_of_all xs ys same.properties same.lists

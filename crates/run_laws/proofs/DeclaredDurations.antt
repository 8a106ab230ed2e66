-- No duration that sheets and style attributes declare of transitions is negative, and so none that matches a property.
use Rattle.std.proofs.Common.{◌≡◌, ℕ, zero, suc, ◌+◌, ◌%◌, refl, subst, arith, Bool, true, false, Option, Some, None, List, [], ◌∷◌, filter, length, map, get_or}
use Rattle.std.specs.Prelude.{◌↔◌, ⊤, ◌==◌, option_map, if◌then◌else◌, Result, Ok, Err}
use Rattle.std.specs.List.{AllByRecursion}
use Rattle.std.specs.Option.{option_map_or, option_or}
use Rattle.std.proofs.lemmas.Bool.{false≢true}
use Rattle.std.proofs.lemmas.Int.{ints}
use Rattle.cascade_sort.specs.Applying.{Applied, applied_from, applied_in_rule, applied_in_rules, applied_in_sheets, applied_to, joined_from, matched_specificity, read_or_none, rules_of, style_declarations, style_text}
use Rattle.cascade_sort.specs.Lexicographic.{greater_by, greatest_by, is_at_most}
use Rattle.cascade_sort.specs.Precedences.{Specificity, keys_of, of_rule, of_style}
use Rattle.cascade_sort.specs.Winning.{all_winners, declared_of, is_in_slot, list_in, list_winners, slot, winner_in}
use Rattle.computed_style.specs.ComputedStyles.{list_winner, transition_lists_of}
use Rattle.computed_style.specs.DeclaredItems.{times_or}
use Rattle.computed_style.specs.Winners.{place_of}
use Rattle.css_token.specs.declared.token.Token.{Token}
use Rattle.doc_tree.specs.Element.{Element, inclusive_ancestors}
use Rattle.fix_num.specs.declared.units.Micros.{Micros}
use Rattle.sheet_rules.specs.BlockGrammar.{IsBlock, ended, declaration}
use Rattle.sheet_rules.specs.Declarations.{declarations_of, ends_important, is_dropped, judged, unmarked}
use Rattle.sheet_rules.specs.RuleGrammar.{IsRule, style, keyframes}
use Rattle.sheet_rules.specs.Rules.{declarations_in, sheet_of}
use Rattle.sheet_rules.specs.SheetGrammar.{AreRules, IsSheet, ended as all_ended, rule}
use Rattle.sheet_rules.specs.StyleGrammar.{IsStyle}
use Rattle.sheet_rules.specs.declared.block_kind.BlockKind.{BlockKind}
use Rattle.sheet_rules.specs.declared.fault.CssFault.{CssFault}
use Rattle.sheet_types.specs.Sheets.{SheetRules}
use Rattle.sheet_types.specs.declared.declaration.DeclarationParts.{DeclarationParts}
use Rattle.sheet_types.specs.declared.rule.Rule.{Rule}
use Rattle.shorthand_text.specs.Declaring.{declared_of as longhands_in}
use Rattle.shorthand_text.specs.declared.known_name.KnownName.{KnownName}
use Rattle.shorthand_text.specs.declared.longhand.Longhand.{Longhand}
use Rattle.shorthand_text.specs.declared.longhand.Longhand.TheVariants as given
use Rattle.timing_types.specs.TimingLists.{no_time}
use Rattle.token_parts.specs.Parts.{token_parts_of}
use Rattle.token_parts.specs.declared.fault.ValueFault.{ValueFault}
use Rattle.transition_list.specs.Matching.{last_named, match_at, match_of}
use Rattle.transition_list.specs.declared.matched.MatchedItem.{MatchedItem}
use Rattle.value_types.specs.TransitionLists.{TransitionValues}
use Rattle.value_types.specs.declared.list_value.ListName.{ListName}
use Rattle.value_types.specs.declared.list_value.ListName.TheVariants as list
use Rattle.value_types.specs.declared.list_value.ListValue.{ListValue}
use Rattle.value_types.specs.declared.list_value.ListValue.TheVariants.{Times}
use Rattle.value_types.specs.declared.property.PropertyId.{PropertyId}
use Rattle.run_laws.proofs.Durations.{Given, HoldsIn, IsNotNegative, IsTimely, IsTimelyFor, declared_timely, of_both}

-- what is read is what the grammar says
pub record ReadingLaws : Type 0 where
  pub sheet : (text : List ℕ) (found : SheetRules) → IsSheet text found ↔ (sheet_of text ≡ Ok found)
  pub style : (text : List ℕ) (ds : List DeclarationParts) → IsStyle text ds ↔ (declarations_in text ≡ Ok ds)

-- ---- blocks

abbrev pub AreTimely : List DeclarationParts → Type 0
AreTimely ds = AllByRecursion (λ (d : DeclarationParts). IsTimely d.longhand) ds

abbrev HoldsOfRead : {A : Type 0} → (A → Type 0) → Result A CssFault → Type 0
HoldsOfRead P (Ok x) = P x
HoldsOfRead P (Err fault) = ⊤

declared : (name : KnownName) (at place : ℕ) (important : Bool) (r : Result (List Longhand) ValueFault) → HoldsIn (AllByRecursion IsTimely) r
    → HoldsOfRead AreTimely (declarations_of name at place important r)
declared name at place important (Ok ls) all = each ls all
  where
    each : (ls : List Longhand) → AllByRecursion IsTimely ls → AreTimely (map (λ l. record { longhand = l; important = important; place = place }) ls)
    each [] all = tt
    each (l ∷ ls) all = (all.0, each ls all.1)
declared name at place important (Err fault) all = tt

judged_timely : (block : BlockKind) (place at : ℕ) (text : List ℕ) (ts : List Token) (o : Option KnownName) → HoldsOfRead AreTimely (judged block place at text ts o)
unfolding judged
judged_timely block place at text ts None = tt
judged_timely block place at text ts (Some name) = go (is_dropped block name (ends_important text ts))
  where
    go : (b : Bool)
        → HoldsOfRead AreTimely (if b then Ok [] else declarations_of name at place (ends_important text ts) (longhands_in name (token_parts_of text (unmarked text ts))))
    go true = tt
    go false =
        declared name at place (ends_important text ts) (longhands_in name (token_parts_of text (unmarked text ts)))
        (declared_timely name (token_parts_of text (unmarked text ts)))

block_timely : {block : BlockKind} {text : List ℕ} {place : ℕ} {ts : List Token} {ds : List DeclarationParts} {rest : List Token}
    → IsBlock block text place ts ds rest → AreTimely ds
block_timely (ended place ts rest end) = tt
block_timely {block} {text} (declaration place ts name after first others next rest few named is more) =
    of_both (λ (d : DeclarationParts). IsTimely d.longhand) first others
    (subst (HoldsOfRead AreTimely) is.gives (judged_timely block place name.from text _ _)) (block_timely more)

-- ---- sheets

abbrev pub AreTimelyRules : List Rule → Type 0
AreTimelyRules rules = AllByRecursion (λ (r : Rule). AreTimely r.declarations) rules

rule_timely : {text : List ℕ} {place : ℕ} {sheet : SheetRules} {t : Token} {ts : List Token} {more : SheetRules} {rest : List Token}
    → IsRule text place sheet t ts more rest → AreTimelyRules sheet.rules → AreTimelyRules more.rules
rule_timely {sheet = sheet} (style selectors ds rest at is) all = of_both (λ (r : Rule). AreTimely r.declarations) sheet.rules _ all (block_timely is.is_block, tt)
rule_timely (keyframes name frames rest at word is) all = all

rules_timely : {text : List ℕ} {place : ℕ} {sheet : SheetRules} {ts : List Token} {whole : SheetRules}
    → AreRules text place sheet ts whole → AreTimelyRules sheet.rules → AreTimelyRules whole.rules
rules_timely (all_ended place sheet ts none) all = all
rules_timely (rule place sheet ts t us more next whole few stands is rest) all = rules_timely rest (rule_timely is all)

pub sheet_timely : ReadingLaws → (text : List ℕ) (sheet : SheetRules) → sheet_of text ≡ Ok sheet → AreTimelyRules sheet.rules
sheet_timely laws text sheet read = rules_timely ((laws.sheet text sheet).1 read).rules tt

style_timely : ReadingLaws → (text : List ℕ) → AreTimely (style_declarations text)
unfolding style_declarations
style_timely laws text = go (declarations_in text) refl
  where
    go : (r : Result (List DeclarationParts) CssFault) → declarations_in text ≡ r → AreTimely (read_or_none r)
    go (Ok ds) read = block_timely ((laws.style text ds).1 read).is_block
    go (Err fault) read = tt

-- of the sheets of a document
abbrev pub AreTimelySheets : List (Option SheetRules) → Type 0
AreTimelySheets sheets = AllByRecursion (λ s. AreTimelyRules (rules_of s)) sheets

-- ---- what applies to an element

abbrev AreTimelyApplied : List Applied → Type 0
AreTimelyApplied xs = AllByRecursion (λ (a : Applied). IsTimely a.longhand) xs

from_block : (block : _) (at : ℕ) (ds : List DeclarationParts) → AreTimely ds → AreTimelyApplied (applied_from block at ds)
from_block block at [] all = tt
from_block block at (d ∷ ds) all = (all.0, from_block block (at + 1) ds all.1)

joined : {A B : Type 0} (P : A → Type 0) (Q : B → Type 0) (give : ℕ → A → List B) (at : ℕ) (xs : List A) → ((k : ℕ) (x : A) → P x → AllByRecursion Q (give k x))
    → AllByRecursion P xs → AllByRecursion Q (joined_from give at xs)
joined P Q give at [] each all = tt
joined P Q give at (x ∷ xs) each all = of_both Q (give at x) (joined_from give (at + 1) xs) (each at x all.0) (joined P Q give (at + 1) xs each all.1)

in_rule : (chain : List Element) (sheet at : ℕ) (r : Rule) → AreTimely r.declarations → AreTimelyApplied (applied_in_rule chain sheet at r)
in_rule chain sheet at r timely = go (matched_specificity chain r.selectors)
  where
    go : (o : Option Specificity) → AreTimelyApplied (option_map_or (λ s. applied_from (of_rule sheet at s) 0 r.declarations) o [])
    go None = tt
    go (Some s) = from_block (of_rule sheet at s) 0 r.declarations timely

all_applied : ReadingLaws → (sheets : List (Option SheetRules)) (es : List Element) (n : ℕ) → AreTimelySheets sheets → AreTimelyApplied (applied_to sheets es n)
all_applied laws sheets es n timely =
    of_both (λ (a : Applied). IsTimely a.longhand) (applied_in_sheets (inclusive_ancestors es n) sheets) (applied_from of_style 0 (style_declarations (style_text es n)))
    (joined (λ s. AreTimelyRules (rules_of s)) (λ (a : Applied). IsTimely a.longhand) (λ k s. applied_in_rules (inclusive_ancestors es n) k (rules_of s)) 0 sheets
    (λ k s rules. joined (λ (r : Rule). AreTimely r.declarations) (λ (a : Applied). IsTimely a.longhand) (applied_in_rule (inclusive_ancestors es n) k) 0 (rules_of s)
    (λ at r. in_rule (inclusive_ancestors es n) k at r) rules) timely)
    (from_block of_style 0 (style_declarations (style_text es n)) (style_timely laws (style_text es n)))

-- ---- the winners

-- of the slot of a number, among the important or the normal declarations
abbrev IsIn : ℕ → Applied → Type 0
IsIn k a = IsTimely a.longhand × (is_in_slot k a ≡ true)

in_slot : (k : ℕ) (xs : List Applied) → AreTimelyApplied xs → AllByRecursion (IsIn k) (filter (is_in_slot k) xs)
in_slot k [] all = tt
in_slot k (a ∷ xs) all = go (is_in_slot k a) refl (in_slot k xs all.1)
  where
    go : (b : Bool) → is_in_slot k a ≡ b → AllByRecursion (IsIn k) (filter (is_in_slot k) xs) → AllByRecursion (IsIn k) (filter (is_in_slot k) (a ∷ xs))
    go true is rest = rw is ((all.0, is), rest)
    go false is rest = rw is rest

greatest : {A : Type 0} (P : A → Type 0) (keys : A → List ℕ) (xs : List A) → AllByRecursion P xs → Given P (greatest_by keys xs)
greatest P keys [] all = tt
greatest {A} P keys (x ∷ xs) all = greater (greatest_by keys xs) (greatest P keys xs all.1)
  where
    either : (b : Bool) (y : A) → P y → P (if b then y else x)
    either true y holds = holds
    either false y holds = all.0

    greater : (o : Option A) → Given P o → P (greater_by keys x o)
    greater None holds = all.0
    greater (Some y) holds = either (is_at_most (keys x) (keys y)) y holds

by_name : (i important : Bool) (name : ListName) (v : ListValue) → IsTimelyFor name v → (slot important (place_of name + 24) == slot i 25) ≡ true
    → IsTimelyFor list.TransitionDuration v
by_name i important list.TransitionDuration v timely there = timely
by_name true true name v timely there = absurd (false≢true there)
by_name true false name v timely there = absurd (false≢true there)
by_name false true name v timely there = absurd (false≢true there)
by_name false false name v timely there = absurd (false≢true there)

won : (i : Bool) (o : Option Applied) → Given (IsIn (slot i 25)) o → Given (IsTimelyFor list.TransitionDuration) (list_in o)
won i None holds = tt
won i (Some a) holds = go a.longhand holds
  where
    go : (l : Longhand) → IsTimely l × (is_in_slot (slot i 25) (record a { longhand = l }) ≡ true) → Given (IsTimelyFor list.TransitionDuration) (list_in (Some (record a { longhand = l })))
    go (given.Property p d) is = tt
    go (given.List name v) is = by_name i a.important name v is.0 is.1

either_winner : (first second : Option ListValue) → Given (IsTimelyFor list.TransitionDuration) first → Given (IsTimelyFor list.TransitionDuration) second
    → Given (IsTimelyFor list.TransitionDuration) (option_or first second)
either_winner None second one other = other
either_winner (Some v) second one other = one

or_initial : (o : Option ListValue) → Given (IsTimelyFor list.TransitionDuration) o → AllByRecursion IsNotNegative (times_or (no_time ∷ []) o)
or_initial (Some (Times ts)) holds = holds
or_initial o holds = (omega (arith, ints), tt)

-- the durations of an element's transitions
pub durations_timely : ReadingLaws → (sheets : List (Option SheetRules)) (es : List Element) (n : ℕ) → AreTimelySheets sheets
    → AllByRecursion IsNotNegative (transition_lists_of (declared_of sheets es n)).durations
unfolding all_winners
durations_timely laws sheets es n timely =
    let xs = applied_to sheets es n in
    let all = all_applied laws sheets es n timely in
    or_initial (list_winner (declared_of sheets es n) list.TransitionDuration)
    (either_winner (list_winners xs list.TransitionDuration).important (list_winners xs list.TransitionDuration).normal
    (won true (winner_in xs (slot true 25)) (greatest (IsIn (slot true 25)) (λ a. keys_of a.precedence) (filter (is_in_slot (slot true 25)) xs) (in_slot (slot true 25) xs all)))
    (won false (winner_in xs (slot false 25)) (greatest (IsIn (slot false 25)) (λ a. keys_of a.precedence) (filter (is_in_slot (slot false 25)) xs) (in_slot (slot false 25) xs all))))

-- ---- the match of a property

indexed : (ts : List Micros) (k : ℕ) (t : Micros) → AllByRecursion IsNotNegative ts → IsNotNegative t → IsNotNegative (get_or ts k t)
indexed [] k t all holds = holds
indexed (u ∷ ts) zero t all holds = all.0
indexed (u ∷ ts) (suc k) t all holds = indexed ts k t all.1 holds

-- the duration that the lists match to a property, where they do
abbrev pub HasDuration : Option MatchedItem → Type 0
HasDuration o = Given (λ (m : MatchedItem). IsNotNegative m.duration) o

pub matched_timely : (lists : TransitionValues) (p : PropertyId) → AllByRecursion IsNotNegative lists.durations → HasDuration (match_of lists p)
matched_timely lists p all = go (last_named p lists.items)
  where
    go : (o : Option ℕ) → HasDuration (option_map (match_at lists) o)
    go None = tt
    go (Some i) = indexed lists.durations (i % length lists.durations) no_time all (omega (arith, ints))

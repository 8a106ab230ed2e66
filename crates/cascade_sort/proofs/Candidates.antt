-- Candidates find all declarations that apply, and no stronger ones.
use Rattle.std.proofs.Common.{◌≡◌, ℕ, Bool, true, List, [], ◌∷◌, ◌++◌, map, refl, ap, sym, subst, zero-add}
use Rattle.std.specs.Prelude.{All, Contains, filter, slice_get, Option, None, Some}
use Rattle.std.proofs.lemmas.List.Elements.{All-contains, All-contains_itself, All-weaker, Contains-append_left, Contains-append_right}
use Rattle.doc_tree.specs.Element.{Element}
use Rattle.selectors_mini.specs.Compounds.{CompoundSelector, specificity_of}
use Rattle.selectors_mini.specs.Matching.{Matches, matches_of}
use Rattle.selectors_mini.proofs.Fitting.{matches_is}
use Rattle.sheet_types.specs.Candidates.{ById, ByClass, ByType, ForAny, HasKey, SelectorKey, candidates_of, selector_at, selector_place}
use Rattle.sheet_types.specs.Sheets.{SheetRules}
use Rattle.sheet_types.specs.declared.declaration.DeclarationParts.{DeclarationParts}
use Rattle.sheet_types.specs.declared.rule.Rule.{Rule}
use Rattle.sheet_types.specs.declared.selector_place.SelectorPlace.{SelectorPlace}
use Rattle.sheet_types.proofs.Matched.{matched_is_candidate}
use Rattle.cascade_sort.specs.Applying.{Applied, IsRuleSpecificity, applied, applied_from, applied_in_rule, applied_in_rules, applied_in_sheets, matched_specificity, rules_of}
use Rattle.cascade_sort.specs.Finding.{element_keys, found_at, found_by, found_in_rule, found_in_sheet, found_in_sheets, found_under, id_keys}
use Rattle.cascade_sort.specs.Lexicographic.{is_at_most}
use Rattle.cascade_sort.specs.Precedences.{Specificity, keys_of, of_declaration, of_rule, specificity_keys}
use Rattle.cascade_sort.proofs.Members.{image_of_member, index_of_member, member_after, member_at, member_first, member_of_filter, member_of_map, member_of_parts, member_of_some, member_that_passes, member_where, no_member, part_of_member, some_has_member, where_has_member}
use Rattle.cascade_sort.proofs.Orders.{TellsGreatest, at_most_before, greatest_tells, some_greatest, test_same}
use Rattle.cascade_sort.proofs.Standing.{from_joined, from_whole, in_joined, in_whole}

-- ---- a declaration of a rule

-- where it stands
pub record InRule (sheets : List (Option SheetRules)) (a : Applied) : Type 0 where
  pub k : ℕ
  pub sheet : Option SheetRules
  pub at_sheet : slice_get sheets k ≡ Some sheet
  pub i : ℕ
  pub rule : Rule
  pub at_rule : slice_get (rules_of sheet) i ≡ Some rule
  pub j : ℕ
  pub parts : DeclarationParts
  pub at_parts : slice_get rule.declarations j ≡ Some parts
  pub specificity : Specificity
  pub is : a ≡ applied parts (of_declaration (of_rule k i specificity) j)

-- it applies: its specificity is the rule's
pub record AppliesInRule (chain : List Element) (sheets : List (Option SheetRules)) (a : Applied) : Type 0 where
  pub stands : InRule sheets a
  pub matched : matched_specificity chain stands.rule.selectors ≡ Some stands.specificity

-- it is found: its specificity is that of a selector that matches
pub record FoundInRule (chain : List Element) (sheets : List (Option SheetRules)) (a : Applied) : Type 0 where
  pub stands : InRule sheets a
  pub m : ℕ
  pub selector : List CompoundSelector
  pub at_selector : slice_get stands.rule.selectors m ≡ Some selector
  pub matches : matches_of selector chain ≡ true
  pub counts : stands.specificity ≡ specificity_of selector

-- ---- what the two say of one another

pub found_if_applies : (chain : List Element) (sheets : List (Option SheetRules)) (a : Applied) → AppliesInRule chain sheets a → FoundInRule chain sheets a
found_if_applies chain sheets a h =
    let test : List CompoundSelector → Bool = λ s. matches_of s chain in
    let all : List Specificity = map specificity_of (filter test h.stands.rule.selectors) in
    let greatest = subst (TellsGreatest specificity_keys all) h.matched (greatest_tells specificity_keys all) in
    let image = member_of_map specificity_of (filter test h.stands.rule.selectors) h.stands.specificity greatest.among in
    let passes = member_of_filter test h.stands.rule.selectors image.item image.among in
    let at = index_of_member h.stands.rule.selectors image.item passes.0 in
    record { stands = h.stands; m = at.i; selector = image.item; at_selector = at.stands; matches = passes.1; counts = sym image.is }

-- of a rule, one of whose selectors matches, the declaration applies with a specificity as great
pub record AppliesToo (chain : List Element) (sheets : List (Option SheetRules)) (a : Applied) : Type 0 where
  pub other : Applied
  pub applies : AppliesInRule chain sheets other
  pub longhand : other.longhand ≡ a.longhand
  pub important : other.important ≡ a.important
  pub most : is_at_most (keys_of a.precedence) (keys_of other.precedence) ≡ true

lower_specificity : (k i j : ℕ) (s g : Specificity) → is_at_most (specificity_keys s) (specificity_keys g) ≡ true
    → is_at_most (keys_of (of_declaration (of_rule k i s) j)) (keys_of (of_declaration (of_rule k i g) j)) ≡ true
lower_specificity k i j s g most =
    at_most_before (0 ∷ specificity_keys s) (0 ∷ specificity_keys g) (k ∷ i ∷ j ∷ []) refl
    (test_same 0 0 (is_at_most (specificity_keys s) (specificity_keys g)) refl most)

pub applies_if_found : (chain : List Element) (sheets : List (Option SheetRules)) (a : Applied) → FoundInRule chain sheets a → AppliesToo chain sheets a
applies_if_found chain sheets a h =
    let test : List CompoundSelector → Bool = λ s. matches_of s chain in
    let all : List Specificity = map specificity_of (filter test h.stands.rule.selectors) in
    let passes = member_that_passes test h.stands.rule.selectors h.selector (member_at h.stands.rule.selectors h.m h.selector h.at_selector) h.matches in
    let among = image_of_member specificity_of (filter test h.stands.rule.selectors) h.selector passes in
    let (g, is, greatest) = some_greatest specificity_keys all (specificity_of h.selector) among in
    let lower = All-contains (λ s. is_at_most (specificity_keys s) (specificity_keys g) ≡ true) all (specificity_of h.selector) greatest.most among in
    record {
      other = applied h.stands.parts (of_declaration (of_rule h.stands.k h.stands.i g) h.stands.j);
      applies = record {
        stands = record {
          k = h.stands.k;
          sheet = h.stands.sheet;
          at_sheet = h.stands.at_sheet;
          i = h.stands.i;
          rule = h.stands.rule;
          at_rule = h.stands.at_rule;
          j = h.stands.j;
          parts = h.stands.parts;
          at_parts = h.stands.at_parts;
          specificity = g;
          is = refl;
        };
        matched = is;
      };
      longhand = sym (ap (λ x. x.longhand) h.stands.is);
      important = sym (ap (λ x. x.important) h.stands.is);
      most = rw (h.stands.is, h.counts) (lower_specificity h.stands.k h.stands.i h.stands.j (specificity_of h.selector) g lower);
    }

-- ---- found in the sheets

found_in_block : (chain : List Element) (sheets : List (Option SheetRules)) (k : ℕ) (s : SheetRules) (place : SelectorPlace) (r : Rule) (selector : List CompoundSelector) (a : Applied)
    → slice_get sheets k ≡ Some (Some s) → slice_get s.rules place.rule ≡ Some r → slice_get r.selectors place.selector ≡ Some selector
    → Contains (found_by chain k place.rule r.declarations selector) a → FoundInRule chain sheets a
found_in_block chain sheets k s place r selector a at_sheet at_rule at_selector h =
    let (matches, among) = member_where (matches_of selector chain) (applied_from (of_rule k place.rule (specificity_of selector)) 0 r.declarations) a h in
    let block = from_whole (of_rule k place.rule (specificity_of selector)) r.declarations a among in
    record {
      stands = record {
        k = k;
        sheet = Some s;
        at_sheet = at_sheet;
        i = place.rule;
        rule = r;
        at_rule = at_rule;
        j = block.i;
        parts = block.parts;
        at_parts = block.stands;
        specificity = specificity_of selector;
        is = block.is;
      };
      m = place.selector;
      selector = selector;
      at_selector = at_selector;
      matches = matches;
      counts = refl;
    }

found_in_one : (chain : List Element) (e : Element) (sheets : List (Option SheetRules)) (k : ℕ) (sheet : Option SheetRules) (a : Applied)
    → slice_get sheets k ≡ Some sheet → Contains (found_in_sheet chain k e sheet) a → FoundInRule chain sheets a
found_in_one chain e sheets k None a at_sheet h = no_member a h
found_in_one chain e sheets k (Some s) a at_sheet h =
    let under = member_of_parts (found_under chain k s.rules) (element_keys e) a h in
    let at = member_of_parts (found_at chain k s.rules) (candidates_of under.item s.rules) a under.has in
    let rule = member_of_some (found_in_rule chain k at.item) (slice_get s.rules at.item.rule) a at.has in
    let by = member_of_some (found_by chain k at.item.rule rule.item.declarations) (slice_get rule.item.selectors at.item.selector) a rule.has in
    found_in_block chain sheets k s at.item rule.item by.item a at_sheet rule.is by.is by.has

pub from_found : (chain : List Element) (e : Element) (sheets : List (Option SheetRules)) (a : Applied) → Contains (found_in_sheets chain e sheets) a → FoundInRule chain sheets a
from_found chain e sheets a h =
    let part = from_joined (λ at s. found_in_sheet chain at e s) 0 sheets a h in
    found_in_one chain e sheets part.i part.item a part.stands
    (subst (λ (n : ℕ). Contains (found_in_sheet chain n e part.item) a) (zero-add part.i) part.has)

-- the element's keys are those that it has
key_among : (e : Element) (key : SelectorKey) → HasKey e key → Contains (element_keys e) key
key_among e (ById id) has =
    Contains-append_left (id_keys e.id) (map ByClass e.classes ++ ByType e.tag ∷ ForAny ∷ []) (ById id)
    (subst (λ (o : Option (List ℕ)). Contains (id_keys o) (ById id)) (sym has) (member_first (ById id) []))
key_among e (ByClass class) has =
    Contains-append_right (id_keys e.id) (map ByClass e.classes ++ ByType e.tag ∷ ForAny ∷ []) (ByClass class)
    (Contains-append_left (map ByClass e.classes) (ByType e.tag ∷ ForAny ∷ []) (ByClass class) (image_of_member ByClass e.classes class has))
key_among e (ByType tag) has =
    Contains-append_right (id_keys e.id) (map ByClass e.classes ++ ByType e.tag ∷ ForAny ∷ []) (ByType tag)
    (Contains-append_right (map ByClass e.classes) (ByType e.tag ∷ ForAny ∷ []) (ByType tag)
    (subst (λ (t : List ℕ). Contains (ByType e.tag ∷ ForAny ∷ []) (ByType t)) has (member_first (ByType e.tag) (ForAny ∷ []))))
key_among e ForAny has =
    Contains-append_right (id_keys e.id) (map ByClass e.classes ++ ByType e.tag ∷ ForAny ∷ []) ForAny
    (Contains-append_right (map ByClass e.classes) (ByType e.tag ∷ ForAny ∷ []) ForAny (member_after (ByType e.tag) (ForAny ∷ []) ForAny (member_first ForAny [])))

in_one : (e : Element) (above : List Element) (sheets : List (Option SheetRules)) (a : Applied) (h : FoundInRule (e ∷ above) sheets a) (sheet : Option SheetRules)
    → h.stands.sheet ≡ sheet → Contains (found_in_sheet (e ∷ above) h.stands.k e sheet) a
in_one e above sheets a h None is = absurd (let none = subst (λ (s : Option SheetRules). slice_get (rules_of s) h.stands.i ≡ Some h.stands.rule) is h.stands.at_rule in cc)
in_one e above sheets a h (Some s) is =
    let at_rule : slice_get s.rules h.stands.i ≡ Some h.stands.rule = subst (λ (s : Option SheetRules). slice_get (rules_of s) h.stands.i ≡ Some h.stands.rule) is h.stands.at_rule in
    let place : SelectorPlace = selector_place h.stands.i h.m in
    let stands : selector_at s.rules place ≡ Some h.selector = rw at_rule h.at_selector in
    let matches : Matches h.selector (e ∷ above) = (matches_is h.selector (e ∷ above) (matches_of h.selector (e ∷ above)) refl).0 h.matches in
    let (key, has, candidate) = matched_is_candidate s.rules place h.selector e above stands matches in
    let block : Contains (applied_from (of_rule h.stands.k h.stands.i (specificity_of h.selector)) 0 h.stands.rule.declarations) a =
    in_whole (of_rule h.stands.k h.stands.i (specificity_of h.selector)) h.stands.j h.stands.rule.declarations h.stands.parts a h.stands.at_parts
    (subst (λ (g : Specificity). a ≡ applied h.stands.parts (of_declaration (of_rule h.stands.k h.stands.i g) h.stands.j)) h.counts h.stands.is) in
    part_of_member (found_under (e ∷ above) h.stands.k s.rules) (element_keys e) key a (key_among e key has)
    (part_of_member (found_at (e ∷ above) h.stands.k s.rules) (candidates_of key s.rules) place a candidate
    (some_has_member (found_in_rule (e ∷ above) h.stands.k place) (slice_get s.rules h.stands.i) h.stands.rule a at_rule
    (some_has_member (found_by (e ∷ above) h.stands.k h.stands.i h.stands.rule.declarations) (slice_get h.stands.rule.selectors h.m) h.selector a h.at_selector
    (where_has_member (matches_of h.selector (e ∷ above)) (applied_from (of_rule h.stands.k h.stands.i (specificity_of h.selector)) 0 h.stands.rule.declarations) a h.matches block))))

pub in_found : (e : Element) (above : List Element) (sheets : List (Option SheetRules)) (a : Applied) → FoundInRule (e ∷ above) sheets a
    → Contains (found_in_sheets (e ∷ above) e sheets) a
in_found e above sheets a h =
    in_joined (λ at s. found_in_sheet (e ∷ above) at e s) 0 h.stands.k sheets h.stands.sheet a h.stands.at_sheet
    (subst (λ (n : ℕ). Contains (found_in_sheet (e ∷ above) n e h.stands.sheet) a) (sym (zero-add h.stands.k)) (in_one e above sheets a h h.stands.sheet refl))

-- ---- applying in the sheets

pub from_applied : (chain : List Element) (sheets : List (Option SheetRules)) (a : Applied) → Contains (applied_in_sheets chain sheets) a → AppliesInRule chain sheets a
from_applied chain sheets a h =
    let one = from_joined (λ k s. applied_in_rules chain k (rules_of s)) 0 sheets a h in
    let k : ℕ = one.i in
    let rules : List Rule = rules_of one.item in
    let two = from_joined (applied_in_rule chain k) 0 rules a (subst (λ (n : ℕ). Contains (applied_in_rules chain n rules) a) (zero-add k) one.has) in
    let i : ℕ = two.i in
    let rule : Contains (applied_in_rule chain k i two.item) a = subst (λ (n : ℕ). Contains (applied_in_rule chain k n two.item) a) (zero-add i) two.has in
    let matched = member_of_some (λ s. applied_from (of_rule k i s) 0 two.item.declarations) (matched_specificity chain two.item.selectors) a rule in
    let block = from_whole (of_rule k i matched.item) two.item.declarations a matched.has in
    record {
      stands = record {
        k = k;
        sheet = one.item;
        at_sheet = one.stands;
        i = i;
        rule = two.item;
        at_rule = two.stands;
        j = block.i;
        parts = block.parts;
        at_parts = block.stands;
        specificity = matched.item;
        is = block.is;
      };
      matched = matched.is;
    }

pub in_applied : (chain : List Element) (sheets : List (Option SheetRules)) (a : Applied) → AppliesInRule chain sheets a → Contains (applied_in_sheets chain sheets) a
in_applied chain sheets a h =
    let s : InRule sheets a = h.stands in
    let block : Contains (applied_from (of_rule s.k s.i s.specificity) 0 s.rule.declarations) a =
    in_whole (of_rule s.k s.i s.specificity) s.j s.rule.declarations s.parts a s.at_parts s.is in
    let rule : Contains (applied_in_rule chain s.k s.i s.rule) a =
    some_has_member (λ g. applied_from (of_rule s.k s.i g) 0 s.rule.declarations) (matched_specificity chain s.rule.selectors) s.specificity a h.matched block in
    let rules : Contains (applied_in_rules chain s.k (rules_of s.sheet)) a =
    in_joined (applied_in_rule chain s.k) 0 s.i (rules_of s.sheet) s.rule a s.at_rule
    (subst (λ (n : ℕ). Contains (applied_in_rule chain s.k n s.rule) a) (sym (zero-add s.i)) rule) in
    in_joined (λ k t. applied_in_rules chain k (rules_of t)) 0 s.k sheets s.sheet a s.at_sheet
    (subst (λ (n : ℕ). Contains (applied_in_rules chain n (rules_of s.sheet)) a) (sym (zero-add s.k)) rules)

-- ---- the specificity of a rule

tests_as : (s : List CompoundSelector) (chain : List Element) → Matches s chain → matches_of s chain ≡ true
tests_as s chain matches = (matches_is s chain (matches_of s chain) refl).1 matches

pub rule_specificity : (chain : List Element) (selectors : List (List CompoundSelector)) (g : Specificity) → matched_specificity chain selectors ≡ Some g
    → IsRuleSpecificity chain selectors g
rule_specificity chain selectors g is =
    let test : List CompoundSelector → Bool = λ s. matches_of s chain in
    let all : List Specificity = map specificity_of (filter test selectors) in
    let greatest = subst (TellsGreatest specificity_keys all) is (greatest_tells specificity_keys all) in
    let image = member_of_map specificity_of (filter test selectors) g greatest.among in
    let passes = member_of_filter test selectors image.item image.among in
    record {
      selector = image.item;
      among = passes.0;
      matches = (matches_is image.item chain (matches_of image.item chain) refl).0 passes.1;
      counts = image.is;
      most = All-weaker (Contains selectors) (λ s. Matches s chain → is_at_most (specificity_keys (specificity_of s)) (specificity_keys g) ≡ true)
          (λ s among matches. All-contains (λ t. is_at_most (specificity_keys t) (specificity_keys g) ≡ true) all (specificity_of s) greatest.most
          (image_of_member specificity_of (filter test selectors) s (member_that_passes test selectors s among (tests_as s chain matches))))
          selectors (All-contains_itself selectors);
    }

pub no_specificity : (chain : List Element) (selectors : List (List CompoundSelector)) → matched_specificity chain selectors ≡ None → All (λ s. Matches s chain → ⊥) selectors
no_specificity chain selectors is =
    let test : List CompoundSelector → Bool = λ s. matches_of s chain in
    let all : List Specificity = map specificity_of (filter test selectors) in
    let empty : all ≡ [] = subst (TellsGreatest specificity_keys all) is (greatest_tells specificity_keys all) in
    All-weaker (Contains selectors) (λ s. Matches s chain → ⊥)
    (λ s among matches. no_member (specificity_of s) (subst (λ (xs : List Specificity). Contains xs (specificity_of s)) empty
    (image_of_member specificity_of (filter test selectors) s (member_that_passes test selectors s among (tests_as s chain matches)))))
    selectors (All-contains_itself selectors)

use Rattle.std.proofs.Common.{◌≡◌, ℕ, Bool, true, List, [], length, refl, ap, sym, ◌∙◌, cond}
use Rattle.std.specs.Prelude.{slice_get, Option, Some}
use Rattle.std.specs.Option.{option_map_or}
use Rattle.std.proofs.lemmas.Option.{slice_get_read}
use Rattle.doc_tree.specs.Element.{Element, inclusive_ancestors}
use Rattle.selectors_mini.specs.Compounds.{CompoundSelector, specificity_of}
use Rattle.selectors_mini.specs.Matching.{matches_of}
use Rattle.sheet_types.specs.declared.declaration.DeclarationParts.{DeclarationParts}
use Rattle.sheet_types.specs.declared.rule.Rule.{Rule}
use Rattle.sheet_types.specs.declared.selector_place.SelectorPlace.{SelectorPlace}
use Rattle.cascade_sort.specs.Applying.{applied_from}
use Rattle.cascade_sort.specs.Finding.{found_at, found_by, found_in_rule, with_offers}
use Rattle.cascade_sort.specs.Precedences.{Specificity, of_rule}
use Rattle.cascade_sort.proofs.finding.offer_at.Goals as goal

-- what a selector that matches finds
found_here : (chain : List Element) (sheet : ℕ) (rules : List Rule) (place : SelectorPlace) (r : Rule) (s : List CompoundSelector)
    → slice_get rules place.rule ≡ Some r → slice_get r.selectors place.selector ≡ Some s → matches_of s chain ≡ true
    → found_at chain sheet rules place ≡ applied_from (of_rule sheet place.rule (specificity_of s)) 0 r.declarations
found_here chain sheet rules place r s at_rule at_selector matches =
    ap (λ (o : Option Rule). option_map_or (found_in_rule chain sheet place) o []) at_rule
    ∙ ap (λ (o : Option (List CompoundSelector)). option_map_or (found_by chain sheet place.rule r.declarations) o []) at_selector
    ∙ ap (λ (b : Bool). cond b (applied_from (of_rule sheet place.rule (specificity_of s)) 0 r.declarations) []) matches

pub returns-then-matches : goal.returns-then-matches
returns-then-matches c =
    c.offer_block.ensures
    ∙ ap (λ (s : Specificity). with_offers c.args.strongest.now (applied_from (of_rule c.args.sheet c.args.place.rule s) 0 c.as_slice.result.now)) c.specificity.ensures
    ∙ ap (λ (ds : List DeclarationParts). with_offers c.args.strongest.now (applied_from (of_rule c.args.sheet c.args.place.rule (specificity_of c.in-Some-get.selector.now)) 0 ds)) c.as_slice.ensures
    ∙ sym (ap (with_offers c.args.strongest.now)
    (found_here (inclusive_ancestors c.args.tree.now.elements c.args.n) c.args.sheet c.args.rules.now c.args.place c.in-Some.rule.now c.in-Some-get.selector.now
    (slice_get_read c.args.rules.now (length c.args.rules.now) c.args.place.rule c.in-Some.rule.now refl c.in-Some.ensures.lookup.3.0 c.in-Some.ensures.lookup.1) (sym c.in-Some-get.ensures) (sym c.matches.ensures.value ∙ c.if-matches.true)))

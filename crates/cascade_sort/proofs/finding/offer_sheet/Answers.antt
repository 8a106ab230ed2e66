use Rattle.std.proofs.Common.{◌≡◌, ℕ, List, [], ◌∷◌, ◌++◌, map, ap, sym, ◌∙◌}
use Rattle.std.specs.Prelude.{flat_map, Option}
use Rattle.std.proofs.lemmas.List.{append-nil}
use Rattle.std.proofs.lemmas.List.Concat.{flat_map-append}
use Rattle.std.proofs.lemmas.List.Sums.{fold-append}
use Rattle.doc_tree.specs.Element.{Element, inclusive_ancestors}
use Rattle.sheet_types.specs.Candidates.{ByClass, ById, ByType, ForAny, SelectorKey}
use Rattle.sheet_types.specs.declared.rule.Rule.{Rule}
use Rattle.sheet_types.specs.declared.selector_place.SelectorPlace.{SelectorPlace}
use Rattle.cascade_sort.specs.Applying.{Applied}
use Rattle.cascade_sort.specs.Finding.{Slots, found_at, found_under, id_keys, with_offer, with_offers}
use Rattle.cascade_sort.specs.Winning.{slot_of}
use Rattle.cascade_sort.proofs.finding.offer_sheet.Goals as goal
use Rattle.cascade_sort.proofs.finding.offer_sheet.Goals.{in-Some, in_default}

-- offers of two lists
offers_of_two : (kept : Slots) (xs ys : List Applied) → with_offers kept (xs ++ ys) ≡ with_offers (with_offers kept xs) ys
offers_of_two kept xs ys = fold-append (λ k a. with_offer k (slot_of a) a.precedence) kept xs ys

-- what a sheet offers, key by key
by_keys : (under : SelectorKey → List Applied) (kept : Slots) (ids classes : List SelectorKey) (type any : SelectorKey)
    → with_offers kept (flat_map under (ids ++ (classes ++ type ∷ any ∷ [])))
    ≡ with_offers (with_offers (with_offers (with_offers kept (flat_map under ids)) (flat_map under classes)) (under type)) (under any)
by_keys under kept ids classes type any =
    ap (with_offers kept) (flat_map-append under ids (classes ++ type ∷ any ∷ []))
    ∙ offers_of_two kept (flat_map under ids) (flat_map under (classes ++ type ∷ any ∷ []))
    ∙ ap (with_offers (with_offers kept (flat_map under ids))) (flat_map-append under classes (type ∷ any ∷ []))
    ∙ offers_of_two (with_offers kept (flat_map under ids)) (flat_map under classes) (under type ++ (under any ++ []))
    ∙ offers_of_two (with_offers (with_offers kept (flat_map under ids)) (flat_map under classes)) (under type) (under any ++ [])
    ∙ ap (with_offers (with_offers (with_offers (with_offers kept (flat_map under ids)) (flat_map under classes)) (under type))) (append-nil (under any))

-- the selectors of the id, where there is one
by_id : (c : goal.After-offer_all-3)
    → c.match-id.strongest ≡ with_offers c.args.strongest.now (flat_map (found_under (inclusive_ancestors c.args.tree.now.elements c.args.n) c.args.at c.args.sheet.now.rules) (id_keys c.args.element.now.id))
by_id c = elim c.match-id.branch [
  | in-Some w ↦ (
      let chain : List Element = inclusive_ancestors c.args.tree.now.elements c.args.n in
      let at : ℕ = c.args.at in
      let rules : List Rule = c.args.sheet.now.rules in
      w.strongest-is ∙ w.offer_all.ensures
      ∙ ap (λ (rs : List Rule). with_offers c.args.strongest.now (flat_map (found_at chain at rs) w.by_id.result.now)) c.rules-rules.ensures
      ∙ ap (λ (ps : List SelectorPlace). with_offers c.args.strongest.now (flat_map (found_at chain at rules) ps)) w.by_id.ensures
      ∙ ap (λ (name : List ℕ). with_offers c.args.strongest.now (found_under chain at rules (ById name))) w.as_bytes.ensures.value
      ∙ sym (ap (with_offers c.args.strongest.now) (append-nil (found_under chain at rules (ById w.in-Some.id.now))))
      ∙ ap (λ (o : Option (List ℕ)). with_offers c.args.strongest.now (flat_map (found_under chain at rules) (id_keys o))) w.in-Some.ensures)
  | in_default w ↦
      w.strongest-is
      ∙ ap (λ (o : Option (List ℕ)). with_offers c.args.strongest.now (flat_map (found_under (inclusive_ancestors c.args.tree.now.elements c.args.n) c.args.at c.args.sheet.now.rules) (id_keys o))) w.in_default.ensures
]

pub returns : goal.returns
returns c =
    let chain : List Element = inclusive_ancestors c.args.tree.now.elements c.args.n in
    let at : ℕ = c.args.at in
    let rules : List Rule = c.args.sheet.now.rules in
    let e : Element = c.args.element.now in
    let id : Slots = with_offers c.args.strongest.now (flat_map (found_under chain at rules) (id_keys e.id)) in
    let classes : Slots = with_offers id (flat_map (found_under chain at rules) (map ByClass e.classes)) in
    let by_classes : c.offer_by_classes.new.strongest ≡ classes =
    c.offer_by_classes.ensures
    ∙ ap (λ (names : List (List ℕ)). with_offers c.match-id.strongest (flat_map (found_under chain at rules) (map ByClass names))) c.classes.ensures
    ∙ ap (λ (k : Slots). with_offers k (flat_map (found_under chain at rules) (map ByClass e.classes))) (by_id c) in
    let by_type : c.offer_all-2.new.strongest ≡ with_offers classes (found_under chain at rules (ByType e.tag)) =
    c.offer_all-2.ensures
    ∙ ap (λ (rs : List Rule). with_offers c.offer_by_classes.new.strongest (flat_map (found_at chain at rs) c.by_type-by_type.result.now)) c.rules-rules.ensures
    ∙ ap (λ (ps : List SelectorPlace). with_offers c.offer_by_classes.new.strongest (flat_map (found_at chain at rules) ps)) c.by_type-by_type.ensures
    ∙ ap (λ (name : List ℕ). with_offers c.offer_by_classes.new.strongest (found_under chain at rules (ByType name))) (c.as_bytes-2.ensures.value ∙ c.tag.ensures)
    ∙ ap (λ (k : Slots). with_offers k (found_under chain at rules (ByType e.tag))) by_classes in
    c.offer_all-3.ensures
    ∙ ap (λ (rs : List Rule). with_offers c.offer_all-2.new.strongest (flat_map (found_at chain at rs) c.for_any-any.result.now)) c.rules-rules.ensures
    ∙ ap (λ (ps : List SelectorPlace). with_offers c.offer_all-2.new.strongest (flat_map (found_at chain at rules) ps)) c.for_any-any.ensures
    ∙ ap (λ (k : Slots). with_offers k (found_under chain at rules ForAny)) by_type
    ∙ sym (by_keys (found_under chain at rules) c.args.strongest.now (id_keys e.id) (map ByClass e.classes) (ByType e.tag) ForAny)

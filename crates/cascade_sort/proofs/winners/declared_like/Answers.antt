use Rattle.std.proofs.Common.{◌≡◌, List, [], ap, sym, ◌∙◌, subst}
use Rattle.std.specs.Prelude.{Option}
use Rattle.std.specs.Option.{option_map_or}
use Rattle.std.proofs.lemmas.Result.{IfOk-weaker}
use Rattle.doc_tree.specs.Element.{inclusive_ancestors}
use Rattle.sheet_types.specs.Sheets.{SheetRules}
use Rattle.sheet_types.specs.declared.declaration.DeclarationParts.{DeclarationParts}
use Rattle.cascade_sort.specs.Applying.{applied_from, applied_to, style_declarations}
use Rattle.cascade_sort.specs.Finding.{Slots, collected, declaration_by, found_in_sheets, no_offers, with_offers}
use Rattle.cascade_sort.specs.Precedences.{of_style}
use Rattle.cascade_sort.specs.Winning.{AreWinners, declared_of}
use Rattle.cascade_sort.proofs.KeptWinners.{declared_is}
use Rattle.cascade_sort.proofs.WinnerLaws.{are_winners}
use Rattle.cascade_sort.proofs.winners.declared_like.Goals as goal

-- what all that was offered comes to
all_offered : (c : goal.After-drop-style) → c.offer_block.new.self
    ≡ with_offers (with_offers no_offers (found_in_sheets (inclusive_ancestors c.args.tree.now.elements c.args.n) c.in-Some.element.now c.args.sheets.now)) (applied_from of_style 0 c.in_ok-style.style.items)
all_offered c =
    c.offer_block.ensures
    ∙ ap (λ (k : Slots). with_offers k (applied_from of_style 0 c.deref.result.now))
    (c.offer_sheets.ensures
    ∙ ap (λ (k : Slots). with_offers k (found_in_sheets (inclusive_ancestors c.args.tree.now.elements c.args.n) c.in-Some.element.now c.as_slice.result.now)) c.none-strongest.ensures
    ∙ ap (λ (s : List (Option SheetRules)). with_offers no_offers (found_in_sheets (inclusive_ancestors c.args.tree.now.elements c.args.n) c.in-Some.element.now s)) c.as_slice.ensures.value)
    ∙ ap (λ (ds : List DeclarationParts). with_offers (with_offers no_offers (found_in_sheets (inclusive_ancestors c.args.tree.now.elements c.args.n) c.in-Some.element.now c.args.sheets.now)) (applied_from of_style 0 ds)) c.deref.ensures.value

-- what is collected are the winning declarations
winners_collected : (c : goal.After-drop-style) → collected (declaration_by c.as_slice-2.result.now c.deref-2.result.now) c.offer_block.new.self ≡ declared_of c.args.sheets.now c.args.tree.now.elements c.args.n
winners_collected c =
    ap (λ (s : List (Option SheetRules)). collected (declaration_by s c.deref-2.result.now) c.offer_block.new.self) c.as_slice-2.ensures.value
    ∙ ap (λ (ds : List DeclarationParts). collected (declaration_by c.args.sheets.now ds) c.offer_block.new.self) c.deref-2.ensures.value
    ∙ declared_is c.args.sheets.now c.args.tree.now.elements c.args.n c.in-Some.element.now
    (option_map_or (inclusive_ancestors c.args.tree.now.elements) c.in-Some.element.now.parent []) c.in_ok-style.style.items c.offer_block.new.self
    (sym c.in-Some.ensures.value) c.in-Some.ensures.ancestors (c.in_ok-style.ensures ∙ ap style_declarations c.style.ensures) (all_offered c)

pub returns-clause-value : goal.returns-clause-value
returns-clause-value c =
    IfOk-weaker c.collected.result (λ d. d ≡ collected (declaration_by c.as_slice-2.result.now c.deref-2.result.now) c.offer_block.new.self)
    (λ d. d ≡ declared_of c.args.sheets.now c.args.tree.now.elements c.args.n) (λ d is. is ∙ winners_collected c) c.collected.ensures

pub returns-clause-winners : goal.returns-clause-winners
returns-clause-winners c =
    IfOk-weaker c.collected.result (λ d. d ≡ collected (declaration_by c.as_slice-2.result.now c.deref-2.result.now) c.offer_block.new.self)
    (AreWinners (applied_to c.args.sheets.now c.args.tree.now.elements c.args.n))
    (λ d is. subst (AreWinners (applied_to c.args.sheets.now c.args.tree.now.elements c.args.n)) (sym (is ∙ winners_collected c)) (are_winners (applied_to c.args.sheets.now c.args.tree.now.elements c.args.n)))
    c.collected.ensures

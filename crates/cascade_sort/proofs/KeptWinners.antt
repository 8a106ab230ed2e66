-- What the slots keep are the winners.
use Rattle.std.proofs.Common.{◌≡◌, ◌≢◌, ℕ, ◌+◌, ◌-◌, ◌<◌, Bool, true, false, List, [], ◌∷◌, length, get_or, map, refl, ap, sym, ◌∙◌, subst, arith, rules, zero-add}
use Rattle.std.specs.Prelude.{Contains, nat_eq, filter, replicate, Option, None, Some, option_map}
use Rattle.std.specs.Option.{option_map_or}
use Rattle.std.proofs.lemmas.List.Elements.{All-contains}
use Rattle.std.proofs.lemmas.List.Sums.{fold-append}
use Rattle.computed_style.specs.Winners.{Declarations, ListWinners, declarations, list_winner_of, list_winners_of, no_declarations, no_list_winners, no_winners, place_of, winners_of}
use Rattle.computed_style.specs.declared.winners.Winners.{Winners}
use Rattle.computed_style.proofs.ByIndex.{same_by_list, same_by_property}
use Rattle.computed_style.proofs.EveryProperty.{at_list, at_property}
use Rattle.computed_style.proofs.Tables.{number_small, place_small}
use Rattle.doc_tree.specs.Element.{Element, element_of, inclusive_ancestors}
use Rattle.sheet_types.specs.Sheets.{SheetRules}
use Rattle.sheet_types.specs.declared.declaration.DeclarationParts.{DeclarationParts}
use Rattle.value_types.specs.ListValues.{timing_lists}
use Rattle.value_types.specs.Properties.{all_properties, number_of}
use Rattle.value_types.specs.declared.list_value.ListName.{ListName}
use Rattle.value_types.specs.declared.property.PropertyId.{PropertyId}
use Rattle.cascade_sort.specs.declared.precedence.Precedence.{Precedence}
use Rattle.cascade_sort.specs.Applying.{Applied, applied_from, style_declarations, style_text}
use Rattle.cascade_sort.specs.Finding.{Slots, all_found, no_offers, collected, declaration_by, found_in_sheets, with_found, with_kept, with_longhand, with_offer, with_offers}
use Rattle.cascade_sort.specs.Lexicographic.{IsGreatestBy, is_at_most}
use Rattle.cascade_sort.specs.Precedences.{keys_of, of_style}
use Rattle.cascade_sort.specs.Winning.{all_winners, declared_of, is_in_slot, list_in, list_winners, longhand_number, property_in, property_winners, slot, slot_of, winner_in, winner_of}
use Rattle.cascade_sort.proofs.Collecting.{ChangesAt, all_keep, collected_at}
use Rattle.cascade_sort.proofs.Keeping.{AreStrongest, IsStrongest, none_offered, offered_all}
use Rattle.cascade_sort.proofs.Members.{member_of_filter, member_that_passes, no_member}
use Rattle.cascade_sort.proofs.Orders.{TellsGreatest, at_most_both, at_most_trans, greatest_tells}
use Rattle.cascade_sort.proofs.Putting.{IsWhole, list_kept, list_put, longhand_small, property_kept, property_put, slot_small, with_longhand-whole}
use Rattle.cascade_sort.proofs.Told.{IsCovered, IsTold, all_applied, applied_is_found, applied_is_told, found_is_covered, same_precedence}

abbrev pub key_of : Applied → Precedence
key_of a = a.precedence

-- ---- one slot

pub is_number : (m n : ℕ) → nat_eq m n ≡ true → m ≡ n
is_number m n e = grind (arith, rules)

pub number_is : (m n : ℕ) → m ≡ n → nat_eq m n ≡ true
number_is m n e = grind (arith, rules)

-- a list of what is found has the strongest of a list of what applies, slot by slot
pub record FindsStrongest (finding applying : List Applied) : Type 0 where
  pub finds : (a : Applied) → Contains applying a → Contains finding a
  pub covered : (a : Applied) → Contains finding a → IsCovered applying a

covered_in_slot : (finding applying : List Applied) (n : ℕ) (a : Applied) → FindsStrongest finding applying → Contains finding a → slot_of a ≡ n
    → (b : Applied) × Contains (filter (is_in_slot n) applying) b × (is_at_most (keys_of a.precedence) (keys_of b.precedence) ≡ true)
covered_in_slot finding applying n a h among stands =
    let c = h.covered a among in
    let same : slot_of c.other ≡ n = ap (λ i. slot i (longhand_number c.other.longhand)) c.important ∙ ap (λ l. slot a.important (longhand_number l)) c.longhand ∙ stands in
    (c.other, member_that_passes (is_in_slot n) applying c.other c.applies (number_is (slot_of c.other) n same), c.most)

-- what is kept of a slot without a winner
kept_of_none : (finding applying : List Applied) (n : ℕ) (o : Option Precedence) → FindsStrongest finding applying → IsStrongest slot_of key_of finding n o
    → filter (is_in_slot n) applying ≡ [] → o ≡ None
kept_of_none finding applying n None h strongest empty = refl
kept_of_none finding applying n (Some p) h strongest empty =
    let offer = strongest.offered p refl in
    let (b, among, most) = covered_in_slot finding applying n offer.item h offer.among offer.stands in
    no_member b (subst (λ (xs : List Applied). Contains xs b) empty among)

-- and of one with a winner
kept_of_some : (finding applying : List Applied) (n : ℕ) (o : Option Precedence) (c : Applied) → FindsStrongest finding applying → IsStrongest slot_of key_of finding n o
    → IsGreatestBy (λ a. keys_of a.precedence) (filter (is_in_slot n) applying) c → o ≡ Some c.precedence
kept_of_some finding applying n None c h strongest greatest =
    let (among, passes) = member_of_filter (is_in_slot n) applying c greatest.among in
    absurd (All-contains (λ a. slot_of a ≡ n → ⊥) finding c strongest.most (h.finds c among) (is_number (slot_of c) n passes))
kept_of_some finding applying n (Some p) c h strongest greatest =
    let (among, passes) = member_of_filter (is_in_slot n) applying c greatest.among in
    let above : is_at_most (keys_of c.precedence) (keys_of p) ≡ true =
    All-contains (λ a. slot_of a ≡ n → is_at_most (keys_of a.precedence) (keys_of p) ≡ true) finding c strongest.most (h.finds c among) (is_number (slot_of c) n passes) in
    let offer = strongest.offered p refl in
    let (b, there, most) = covered_in_slot finding applying n offer.item h offer.among offer.stands in
    let below : is_at_most (keys_of b.precedence) (keys_of c.precedence) ≡ true =
    All-contains (λ a. is_at_most (keys_of a.precedence) (keys_of c.precedence) ≡ true) (filter (is_in_slot n) applying) b greatest.most there in
    let offered : is_at_most (keys_of p) (keys_of b.precedence) ≡ true = subst (λ (q : Precedence). is_at_most (keys_of q) (keys_of b.precedence) ≡ true) offer.is most in
    let under : is_at_most (keys_of p) (keys_of c.precedence) ≡ true = at_most_trans (keys_of p) (keys_of b.precedence) (keys_of c.precedence) offered below in
    ap Some (same_precedence p c.precedence (at_most_both (keys_of p) (keys_of c.precedence) refl under above))

kept_by : (finding applying : List Applied) (n : ℕ) (o : Option Precedence) (w : Option Applied) → FindsStrongest finding applying → IsStrongest slot_of key_of finding n o
    → TellsGreatest (λ a. keys_of a.precedence) (filter (is_in_slot n) applying) w → o ≡ option_map key_of w
kept_by finding applying n o None h strongest empty = kept_of_none finding applying n o h strongest empty
kept_by finding applying n o (Some c) h strongest greatest = kept_of_some finding applying n o c h strongest greatest

-- a slot keeps the precedence of its winner
pub kept_is : (finding applying : List Applied) (n : ℕ) (o : Option Precedence) → FindsStrongest finding applying → IsStrongest slot_of key_of finding n o
    → o ≡ option_map key_of (winner_in applying n)
kept_is finding applying n o h strongest =
    kept_by finding applying n o (winner_in applying n) h strongest (greatest_tells (λ a. keys_of a.precedence) (filter (is_in_slot n) applying))

-- ---- all slots

slot_of_small : (a : Applied) → slot_of a < 72
slot_of_small a = slot_small a.important (longhand_number a.longhand) (longhand_small a.longhand)

-- each slot keeps the precedence of its winner, which tells it
pub record KeepsWinners (find : Precedence → Option DeclarationParts) (applying : List Applied) (kept : Slots) : Type 0 where
  pub long : length kept ≡ 72
  pub each : (n : ℕ) → n < 72 → get_or kept n None ≡ option_map key_of (winner_in applying n)
  pub told : (a : Applied) → Contains applying a → IsTold find a

pub keeps_winners : (find : Precedence → Option DeclarationParts) (finding applying : List Applied) → FindsStrongest finding applying
    → ((a : Applied) → Contains applying a → IsTold find a) → KeepsWinners find applying (with_offers (replicate 72 None) finding)
keeps_winners find finding applying h told =
    let all : AreStrongest slot_of key_of finding 72 (with_offers (replicate 72 None) finding) =
    offered_all slot_of key_of 72 slot_of_small [] finding (replicate 72 None) (none_offered slot_of key_of 72) in
    record {
      long = all.long;
      each = λ n within. kept_is finding applying n (get_or (with_offers (replicate 72 None) finding) n None) h (all.each n within);
      told = told;
    }

-- ---- what a slot puts

-- the winner of the slot is put, where there is one
abbrev pub with_winner_of : Declarations → Option Applied → Declarations
with_winner_of d None = d
with_winner_of d (Some a) = with_longhand d a.important a.longhand

put_by : (find : Precedence → Option DeclarationParts) (applying : List Applied) (n : ℕ) (d : Declarations) (w : Option Applied)
    → ((a : Applied) → Contains applying a → IsTold find a) → TellsGreatest (λ a. keys_of a.precedence) (filter (is_in_slot n) applying) w
    → with_kept find d (option_map key_of w) ≡ with_winner_of d w
put_by find applying n d None told greatest = refl
put_by find applying n d (Some a) told greatest =
    let (among, passes) = member_of_filter (is_in_slot n) applying a greatest.among in
    let t = told a among in
    ap (with_found d) t.found ∙ ap (λ (x : Applied). with_longhand d x.important x.longhand) (sym t.is)

slot_puts : (find : Precedence → Option DeclarationParts) (applying : List Applied) (kept : Slots) (n : ℕ) (d : Declarations) → n < 72 → KeepsWinners find applying kept
    → with_kept find d (get_or kept n None) ≡ with_winner_of d (winner_in applying n)
slot_puts find applying kept n d within h =
    ap (with_kept find d) (h.each n within)
    ∙ put_by find applying n d (winner_in applying n) h.told (greatest_tells (λ a. keys_of a.precedence) (filter (is_in_slot n) applying))

-- a winner of a slot stands in it
stands_in : (applying : List Applied) (n : ℕ) (a : Applied) → TellsGreatest (λ x. keys_of x.precedence) (filter (is_in_slot n) applying) (Some a) → slot_of a ≡ n
stands_in applying n a greatest =
    let (among, passes) = member_of_filter (is_in_slot n) applying a greatest.among in is_number (slot_of a) n passes

winner_whole : (d : Declarations) (w : Option Applied) → IsWhole d → IsWhole (with_winner_of d w)
winner_whole d None whole = whole
winner_whole d (Some a) whole = with_longhand-whole d a.important a.longhand whole

property_elsewhere : (applying : List Applied) (p : PropertyId) (c : Bool) (k : ℕ) (d : Declarations) (w : Option Applied) → IsWhole d → k ≢ slot c (number_of p)
    → TellsGreatest (λ x. keys_of x.precedence) (filter (is_in_slot k) applying) w → winner_of (with_winner_of d w) p c ≡ winner_of d p c
property_elsewhere applying p c k d None whole other greatest = refl
property_elsewhere applying p c k d (Some a) whole other greatest =
    property_kept d p a.important c a.longhand whole (λ same. other (sym (stands_in applying k a greatest) ∙ same))

property_here : (applying : List Applied) (p : PropertyId) (c : Bool) (d : Declarations) (w : Option Applied) → IsWhole d → winner_of d p c ≡ None
    → TellsGreatest (λ x. keys_of x.precedence) (filter (is_in_slot (slot c (number_of p))) applying) w → winner_of (with_winner_of d w) p c ≡ property_in w
property_here applying p c d None whole none greatest = none
property_here applying p c d (Some a) whole none greatest =
    property_put d p a.important c a.longhand whole (stands_in applying (slot c (number_of p)) a greatest)

list_elsewhere : (applying : List Applied) (name : ListName) (c : Bool) (k : ℕ) (d : Declarations) (w : Option Applied) → IsWhole d → k ≢ slot c (place_of name + 24)
    → TellsGreatest (λ x. keys_of x.precedence) (filter (is_in_slot k) applying) w → list_winner_of (with_winner_of d w) name c ≡ list_winner_of d name c
list_elsewhere applying name c k d None whole other greatest = refl
list_elsewhere applying name c k d (Some a) whole other greatest =
    list_kept d name a.important c a.longhand whole (λ same. other (sym (stands_in applying k a greatest) ∙ same))

list_here : (applying : List Applied) (name : ListName) (c : Bool) (d : Declarations) (w : Option Applied) → IsWhole d → list_winner_of d name c ≡ None
    → TellsGreatest (λ x. keys_of x.precedence) (filter (is_in_slot (slot c (place_of name + 24))) applying) w → list_winner_of (with_winner_of d w) name c ≡ list_in w
list_here applying name c d None whole none greatest = none
list_here applying name c d (Some a) whole none greatest =
    list_put d name a.important c a.longhand whole (stands_in applying (slot c (place_of name + 24)) a greatest)

-- ---- all slots put together

whole_none : IsWhole no_declarations
whole_none = record { count = refl; list_count = refl }

none_of_property : (p : PropertyId) (c : Bool) → winner_of no_declarations p c ≡ None
none_of_property p true = ap (λ w. w.important) (at_property (λ q. no_winners) no_winners p)
none_of_property p false = ap (λ w. w.normal) (at_property (λ q. no_winners) no_winners p)

none_of_list : (name : ListName) (c : Bool) → list_winner_of no_declarations name c ≡ None
none_of_list name true = ap (λ w. w.important) (at_list (λ q. no_list_winners) no_list_winners name)
none_of_list name false = ap (λ w. w.normal) (at_list (λ q. no_list_winners) no_list_winners name)

pub tells : (applying : List Applied) (n : ℕ) → TellsGreatest (λ x. keys_of x.precedence) (filter (is_in_slot n) applying) (winner_in applying n)
tells applying n = greatest_tells (λ a. keys_of a.precedence) (filter (is_in_slot n) applying)

slot_keeps_whole : (find : Precedence → Option DeclarationParts) (applying : List Applied) (kept : Slots) (k : ℕ) (d : Declarations) → k < length kept → KeepsWinners find applying kept
    → IsWhole d → IsWhole (with_kept find d (get_or kept k None))
slot_keeps_whole find applying kept k d within h whole =
    subst IsWhole (sym (slot_puts find applying kept k d (subst (λ (n : ℕ). k < n) h.long within) h)) (winner_whole d (winner_in applying k) whole)

properties_change : (find : Precedence → Option DeclarationParts) (applying : List Applied) (kept : Slots) (p : PropertyId) (c : Bool) → KeepsWinners find applying kept
    → ChangesAt (with_kept find) (λ d. winner_of d p c) IsWhole None (slot c (number_of p)) 0 kept
properties_change find applying kept p c h = record {
  keeps = λ k within d whole. slot_keeps_whole find applying kept k d within h whole;
  others = λ k within other d whole.
      ap (λ x. winner_of x p c) (slot_puts find applying kept k d (subst (λ (n : ℕ). k < n) h.long within) h)
      ∙ property_elsewhere applying p c k d (winner_in applying k) whole (λ same. other (zero-add k ∙ same)) (tells applying k);
}

lists_change : (find : Precedence → Option DeclarationParts) (applying : List Applied) (kept : Slots) (name : ListName) (c : Bool) → KeepsWinners find applying kept
    → ChangesAt (with_kept find) (λ d. list_winner_of d name c) IsWhole None (slot c (place_of name + 24)) 0 kept
lists_change find applying kept name c h = record {
  keeps = λ k within d whole. slot_keeps_whole find applying kept k d within h whole;
  others = λ k within other d whole.
      ap (λ x. list_winner_of x name c) (slot_puts find applying kept k d (subst (λ (n : ℕ). k < n) h.long within) h)
      ∙ list_elsewhere applying name c k d (winner_in applying k) whole (λ same. other (zero-add k ∙ same)) (tells applying k);
}

property_number : (p : PropertyId) → number_of p < 36
property_number p = omega (arith, number_small p)

list_number : (name : ListName) → place_of name + 24 < 36
list_number name = omega (arith, place_small name)

collected_property : (find : Precedence → Option DeclarationParts) (applying : List Applied) (kept : Slots) (p : PropertyId) (c : Bool) → KeepsWinners find applying kept
    → winner_of (collected find kept) p c ≡ property_in (winner_in applying (slot c (number_of p)))
collected_property find applying kept p c h =
    let n : ℕ = slot c (number_of p) in
    let small : n < 72 = slot_small c (number_of p) (property_number p) in
    let within : n < 0 + length kept = rw h.long (rw (zero-add 72) small) in
    collected_at (with_kept find) (λ d. winner_of d p c) IsWhole None n 0 kept no_declarations (property_in (winner_in applying n)) (properties_change find applying kept p c h) whole_none (omega arith) within
    (λ e whole is. subst (λ (k : ℕ). winner_of (with_kept find e (get_or kept k None)) p c ≡ property_in (winner_in applying n)) (sym (sub_zero n))
    (ap (λ x. winner_of x p c) (slot_puts find applying kept n e small h)
    ∙ property_here applying p c e (winner_in applying n) whole (is ∙ none_of_property p c) (tells applying n)))
  where
    sub_zero : (n : ℕ) → n - 0 ≡ n
    sub_zero n = omega arith

collected_list : (find : Precedence → Option DeclarationParts) (applying : List Applied) (kept : Slots) (name : ListName) (c : Bool) → KeepsWinners find applying kept
    → list_winner_of (collected find kept) name c ≡ list_in (winner_in applying (slot c (place_of name + 24)))
collected_list find applying kept name c h =
    let n : ℕ = slot c (place_of name + 24) in
    let small : n < 72 = slot_small c (place_of name + 24) (list_number name) in
    let within : n < 0 + length kept = rw h.long (rw (zero-add 72) small) in
    collected_at (with_kept find) (λ d. list_winner_of d name c) IsWhole None n 0 kept no_declarations (list_in (winner_in applying n)) (lists_change find applying kept name c h) whole_none (omega arith) within
    (λ e whole is. subst (λ (k : ℕ). list_winner_of (with_kept find e (get_or kept k None)) name c ≡ list_in (winner_in applying n)) (sym (sub_zero n))
    (ap (λ x. list_winner_of x name c) (slot_puts find applying kept n e small h)
    ∙ list_here applying name c e (winner_in applying n) whole (is ∙ none_of_list name c) (tells applying n)))
  where
    sub_zero : (n : ℕ) → n - 0 ≡ n
    sub_zero n = omega arith

pub same_winners : (v w : Winners) → v.important ≡ w.important → v.normal ≡ w.normal → v ≡ w
same_winners v w i n = ap (λ x. let r : Winners = record { important = x; normal = v.normal } in r) i ∙ ap (λ x. let r : Winners = record { important = w.important; normal = x } in r) n

pub same_list_winners : (v w : ListWinners) → v.important ≡ w.important → v.normal ≡ w.normal → v ≡ w
same_list_winners v w i n = ap (λ x. let r : ListWinners = record { important = x; normal = v.normal } in r) i ∙ ap (λ x. let r : ListWinners = record { important = w.important; normal = x } in r) n

-- what the slots keep, put together, are the winners
pub collected_winners : (find : Precedence → Option DeclarationParts) (applying : List Applied) (kept : Slots) → KeepsWinners find applying kept → collected find kept ≡ all_winners applying
unfolding all_winners
collected_winners find applying kept h =
    let d : Declarations = collected find kept in
    let whole : IsWhole d = all_keep (with_kept find) IsWhole None kept no_declarations (λ k within e. slot_keeps_whole find applying kept k e within h) whole_none in
    let properties : d.properties ≡ map (property_winners applying) all_properties =
    same_by_property d.properties (map (property_winners applying) all_properties) no_winners whole.count refl
    (λ p. same_winners (winners_of d p) (property_winners applying p) (collected_property find applying kept p true h) (collected_property find applying kept p false h)
    ∙ sym (at_property (property_winners applying) no_winners p)) in
    let lists : d.lists ≡ map (list_winners applying) timing_lists =
    same_by_list d.lists (map (list_winners applying) timing_lists) no_list_winners whole.list_count refl
    (λ name. same_list_winners (list_winners_of d name) (list_winners applying name) (collected_list find applying kept name true h) (collected_list find applying kept name false h)
    ∙ sym (at_list (list_winners applying) no_list_winners name)) in
    ap (λ x. declarations x d.lists) properties ∙ ap (declarations (map (property_winners applying) all_properties)) lists

-- ---- what applies to an element

pub finds_strongest : (e : Element) (above : List Element) (sheets : List (Option SheetRules)) (style : List DeclarationParts)
    → FindsStrongest (all_found (e ∷ above) e sheets style) (all_applied (e ∷ above) sheets style)
finds_strongest e above sheets style = record {
  finds = applied_is_found e above sheets style;
  covered = found_is_covered (e ∷ above) e sheets style;
}

-- offers of the same members find the same winners
pub offers_find_winners : (e : Element) (above : List Element) (sheets : List (Option SheetRules)) (style : List DeclarationParts) (offers : List Applied)
    → ((a : Applied) → Contains (all_found (e ∷ above) e sheets style) a → Contains offers a) → ((a : Applied) → Contains offers a → Contains (all_found (e ∷ above) e sheets style) a)
    → collected (declaration_by sheets style) (with_offers no_offers offers) ≡ all_winners (all_applied (e ∷ above) sheets style)
offers_find_winners e above sheets style offers there back =
    let h : FindsStrongest (all_found (e ∷ above) e sheets style) (all_applied (e ∷ above) sheets style) = finds_strongest e above sheets style in
    collected_winners (declaration_by sheets style) (all_applied (e ∷ above) sheets style) (with_offers no_offers offers)
    (keeps_winners (declaration_by sheets style) offers (all_applied (e ∷ above) sheets style)
    (record { finds = λ a among. there a (h.finds a among); covered = λ a among. h.covered a (back a among) })
    (applied_is_told (e ∷ above) sheets style))

-- what the slots keep after all that was offered, put together, are the winning declarations
pub declared_is : (sheets : List (Option SheetRules)) (es : List Element) (n : ℕ) (e : Element) (above : List Element) (style : List DeclarationParts) (kept : Slots)
    → element_of n es ≡ Some e → inclusive_ancestors es n ≡ e ∷ above → style ≡ style_declarations e.style
    → kept ≡ with_offers (with_offers no_offers (found_in_sheets (inclusive_ancestors es n) e sheets)) (applied_from of_style 0 style)
    → collected (declaration_by sheets style) kept ≡ declared_of sheets es n
declared_is sheets es n e above style kept stands chain reads offered =
    let text : style ≡ style_declarations (style_text es n) = reads ∙ ap (λ o. style_declarations (option_map_or (λ x. x.style) o [])) (sym stands) in
    let all : kept ≡ with_offers no_offers (all_found (e ∷ above) e sheets style) =
    offered
    ∙ sym (fold-append (λ k a. with_offer k (slot_of a) a.precedence) no_offers (found_in_sheets (inclusive_ancestors es n) e sheets) (applied_from of_style 0 style))
    ∙ ap (λ up. with_offers no_offers (all_found up e sheets style)) chain in
    ap (collected (declaration_by sheets style)) all
    ∙ offers_find_winners e above sheets style (all_found (e ∷ above) e sheets style) (λ a among. among) (λ a among. among)
    ∙ ap (λ up. all_winners (all_applied up sheets style)) (sym chain)
    ∙ ap (λ ds. all_winners (all_applied (inclusive_ancestors es n) sheets ds)) text

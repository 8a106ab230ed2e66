-- How what a tree keeps stands for a document: marks in one linked list.
use Rattle.std.specs.Prelude.{◌≡◌, ℕ, ◌+◌, ◌*◌, ◌-◌, ◌/◌, ◌%◌, ◌<◌, ◌≤◌, ◌==◌, nat_eq, nat_lt, Bool, true, false, List, [], ◌∷◌, ◌++◌, map, length, drop, take, is_some, IsTrue, IfSome, ⊤, Option, Some, None, slice_index_or, slice_set, if◌then◌else◌, zero, suc}
use Rattle.std.specs.Option.{option_map, option_map_or}
use Rattle.std.specs.List.{list_any, list_all}
use Rattle.std.specs.Vec.{vec_capacity}
use Rattle.indexmap.specs.IndexSet.{spare}
use Rattle.doc_tree.specs.declared.node.Node.{Node}
use Rattle.doc_tree.specs.declared.nodes.Nodes.{Nodes}
use Rattle.doc_tree.specs.declared.limits.TheConstants.{MAX_CLASSES, MAX_DEPTH, MAX_ELEMENTS, MAX_SLOTS, MAX_STYLE_BYTES}
use Rattle.doc_tree.specs.Element.{Element, Document, depth_of, element_of, inclusive_ancestors, is_in}
use Rattle.doc_tree.specs.Change.{new_element}
use Rattle.doc_tree.specs.Shape.{is_bounded}

-- what a tree keeps, as lists
pub record Kept : Type 0 where
  pub keys : List ℕ
  pub slots : List (Option Node)
  pub next : List ℕ
  pub previous : List ℕ
  pub ranks : List ℕ
  pub order : List ℕ
  pub len : ℕ
  pub fresh : Bool

abbrev pub kept_of : Nodes → Kept
kept_of t = record { keys = t.used.keys; slots = t.slots.items; next = t.next.items; previous = t.previous.items; ranks = t.ranks.items; order = t.order.items; len = t.len; fresh = t.fresh }

-- there is room for one more node
pub record HasRoom (t : Nodes) : Type 0 where
  pub used : 1 ≤ spare t.used
  pub slots : length t.slots.items + 1 ≤ vec_capacity t.slots
  pub next : length t.next.items + 2 ≤ vec_capacity t.next
  pub previous : length t.previous.items + 2 ≤ vec_capacity t.previous
  pub ranks : length t.ranks.items + 2 ≤ vec_capacity t.ranks
  pub order : length t.order.items + 1 ≤ vec_capacity t.order

-- what the empty tree keeps: the list of marks goes from the start to the end
abbrev pub empty_kept : Kept
empty_kept = record { keys = []; slots = []; next = 1 ∷ 1 ∷ []; previous = 0 ∷ 0 ∷ []; ranks = 0 ∷ 0 ∷ []; order = []; len = 0; fresh = true }

-- at index i of the list stands v
pub record IsAt (xs : List ℕ) (i v : ℕ) : Type 0 where
  pub within : i < length xs
  pub is : slice_index_or xs i 0 ≡ v

-- n is one of the numbers
abbrev pub has : ℕ → List ℕ → Bool
has n xs = list_any (nat_eq n) xs

-- no number stands twice
abbrev pub AreDifferent : List ℕ → Type 0
AreDifferent [] = ⊤
AreDifferent (x ∷ xs) = (has x xs ≡ false) × AreDifferent xs

-- a mark of a slot
pub data Mark : Type 0 where
  Open : ℕ → Mark
  Close : ℕ → Mark

-- its number in the list of marks
abbrev pub code : Mark → ℕ
code (Open s) = 2 * s + 2
code (Close s) = 2 * s + 3

-- the slots that are opened, in order
abbrev pub opened : List Mark → List ℕ
opened [] = []
opened (Open s ∷ ms) = s ∷ opened ms
opened (Close s ∷ ms) = opened ms

-- the marks from m on until `last`, at most k of them
abbrev pub marks_until : List ℕ → ℕ → ℕ → ℕ → List ℕ
marks_until next last zero m = []
marks_until next last (suc k) m = if m == last then [] else m ∷ marks_until next last k (slice_index_or next m 0)

-- the slots that these marks open
abbrev pub slots_of : List ℕ → List ℕ
slots_of [] = []
slots_of (m ∷ ms) = if m % 2 == 0 then (m / 2 - 1) ∷ slots_of ms else slots_of ms

-- an element that stands for none
abbrev pub no_element : Element
no_element = new_element 0 None []

-- the element in a slot
abbrev pub element_at : List (Option Node) → ℕ → Element
element_at slots s = option_map_or (λ x. x.element) (slice_index_or slots s None) no_element

-- how deep it lies
abbrev pub depth_at : List (Option Node) → ℕ → ℕ
depth_at slots s = option_map_or (λ x. x.depth) (slice_index_or slots s None) 0

-- there is an element in the slot
abbrev pub is_live : List (Option Node) → ℕ → Bool
is_live slots s = is_some (slice_index_or slots s None)

-- the slots of all elements, in tree order
abbrev pub slots_in : Kept → List ℕ
slots_in k = slots_of (marks_until k.next 1 (2 * k.len) (slice_index_or k.next 0 0))

-- the document that it stands for
abbrev pub document_of : Kept → Document
document_of k = record { elements = map (element_at k.slots) (slots_in k); used = k.keys }

-- how many elements are opened before the mark
abbrev pub rank_in : Kept → ℕ → ℕ
rank_in k m = if k.fresh then slice_index_or k.ranks m 0 else length (slots_of (marks_until k.next m (2 * k.len) (slice_index_or k.next 0 0)))

-- from a, through the marks, to b lead the links of both directions
abbrev pub Leads : List ℕ → List ℕ → ℕ → List ℕ → ℕ → Type 0
Leads next previous a [] b = IsAt next a b × IsAt previous b a
Leads next previous a (m ∷ ms) b = IsAt next a m × IsAt previous m a × Leads next previous m ms b

-- the number of the element that is open last
abbrev pub number_above : (ℕ → Element) → List ℕ → Option ℕ
number_above el [] = None
number_above el (q ∷ stack) = Some (el q).number

-- the element of slot s is a child of the last of those that are open
pub record IsBelow (el : ℕ → Element) (dep : ℕ → ℕ) (stack : List ℕ) (s : ℕ) : Type 0 where
  pub parent : (el s).parent ≡ number_above el stack
  pub depth : dep s ≡ length stack + 1

-- the marks nest: where they begin, the slots `stack` are open, the last first, and where they end, the slots `end`
abbrev pub Nests : (ℕ → Element) → (ℕ → ℕ) → List Mark → List ℕ → List ℕ → Type 0
Nests el dep [] stack end = stack ≡ end
Nests el dep (Open s ∷ ms) stack end = IsBelow el dep stack s × Nests el dep ms (s ∷ stack) end
Nests el dep (Close s ∷ ms) [] end = ⊥
Nests el dep (Close s ∷ ms) (q ∷ stack) end = (q ≡ s) × Nests el dep ms stack end

-- the ranks are how many elements open before each mark, from k on
abbrev pub AreRanks : List ℕ → ℕ → List Mark → Type 0
AreRanks ranks k [] = ⊤
AreRanks ranks k (Open s ∷ ms) = IsAt ranks (2 * s + 2) k × AreRanks ranks (k + 1) ms
AreRanks ranks k (Close s ∷ ms) = IsAt ranks (2 * s + 3) k × AreRanks ranks k ms

-- positions were counted since the last edit
pub record IsCounted (k : Kept) (marks : List Mark) : Type 0 where
  pub ranks : AreRanks k.ranks 0 marks
  pub order : take k.len k.order ≡ opened marks

-- there is a slot for each number used, and there are marks for each slot
pub record IsSized (k : Kept) : Type 0 where
  pub few : length k.keys ≤ MAX_SLOTS
  pub slots : length k.slots ≡ length k.keys
  pub next : length k.next ≡ 2 * length k.keys + 2
  pub previous : length k.previous ≡ 2 * length k.keys + 2
  pub ranks : length k.ranks ≡ 2 * length k.keys + 2
  pub order : length k.order ≡ length k.keys
  pub links : IsTrue (list_all (λ m. nat_lt m (length k.next)) k.next)
  pub back_links : IsTrue (list_all (λ m. nat_lt m (length k.next)) k.previous)

-- the element in a slot keeps its number, and its limits
pub record IsFit (k : Kept) (s : ℕ) : Type 0 where
  pub key : IsAt k.keys s (element_at k.slots s).number
  pub depth : depth_at k.slots s ≤ MAX_DEPTH
  pub bounded : IsTrue (is_bounded (element_at k.slots s))

-- these marks are those of a tree, and the elements are in the slots that they open
pub record IsTour (k : Kept) (marks : List Mark) : Type 0 where
  pub linked : Leads k.next k.previous 0 (map code marks) 1
  pub many : length marks ≡ 2 * k.len
  pub nests : Nests (element_at k.slots) (depth_at k.slots) marks [] []
  pub different : AreDifferent (map code marks)
  pub rooted : IsTrue (list_all (λ s. is_some (element_at k.slots s).parent) (drop 1 (opened marks)))
  pub live : (s : ℕ) → has s (opened marks) ≡ is_live k.slots s
  pub counted : k.fresh ≡ true → IsCounted k marks

-- what a tree keeps is sound
pub record AreMarksOfTree (k : Kept) : Type 0 where
  pub marks : List Mark
  pub tour : IsTour k marks
  pub sized : IsSized k
  pub fit : (s : ℕ) → is_live k.slots s ≡ true → IsFit k s
  pub different : AreDifferent k.keys
  pub limit : k.len ≤ MAX_ELEMENTS

-- element n is in slot s
pub record IsSlotOf (k : Kept) (n s : ℕ) : Type 0 where
  pub within : s < length k.slots
  pub live : is_live k.slots s ≡ true
  pub number : (element_at k.slots s).number ≡ n

-- x is the node of element n
pub record IsNodeOf (d : Document) (n : ℕ) (x : Node) : Type 0 where
  pub element : element_of n d.elements ≡ Some x.element
  pub number : x.element.number ≡ n
  pub there : is_in n d.elements ≡ true
  pub depth : depth_of d.elements n ≡ x.depth
  pub parent : IfSome x.element.parent (λ p. IsTrue (is_in p d.elements))
  pub ancestors : inclusive_ancestors d.elements n ≡ x.element ∷ option_map_or (inclusive_ancestors d.elements) x.element.parent []
  pub style : length x.element.style ≤ MAX_STYLE_BYTES
  pub classes : length x.element.classes ≤ MAX_CLASSES

-- what is kept with one more node, of number n, whose marks stand directly before mark m
abbrev pub with_node : Kept → ℕ → Node → ℕ → Kept
with_node k n x m = record {
  keys = k.keys ++ n ∷ [];
  slots = k.slots ++ Some x ∷ [];
  next = slice_set (k.next ++ (2 * length k.slots + 3) ∷ m ∷ []) (slice_index_or k.previous m 0) (2 * length k.slots + 2);
  previous = slice_set (k.previous ++ slice_index_or k.previous m 0 ∷ (2 * length k.slots + 2) ∷ []) m (2 * length k.slots + 3);
  ranks = k.ranks ++ 0 ∷ 0 ∷ [];
  order = k.order ++ 0 ∷ [];
  len = k.len + 1;
  fresh = false;
}

-- the nodes with none in these slots
abbrev pub cleared : List (Option Node) → List ℕ → List (Option Node)
cleared slots [] = slots
cleared slots (s ∷ ss) = cleared (slice_set slots s None) ss

-- the slots that the marks of s, and those between them, open
abbrev pub slots_below : Kept → ℕ → List ℕ
slots_below k s = s ∷ slots_of (marks_until k.next (2 * s + 3) (2 * k.len) (slice_index_or k.next (2 * s + 2) 0))

-- what is kept without the element of slot s and those below it
abbrev pub without_slot : Kept → ℕ → Kept
without_slot k s =
    let before = slice_index_or k.previous (2 * s + 2) 0 in
    let after = slice_index_or k.next (2 * s + 3) 0 in
    record k { slots = cleared k.slots (slots_below k s); next = slice_set k.next before after; previous = slice_set k.previous after before; len = k.len - length (slots_below k s); fresh = false }

-- what is kept with another element in slot s
abbrev pub with_element : Kept → ℕ → (Element → Element) → Kept
with_element k s change = record k { slots = slice_set k.slots s (option_map {T = Node} (λ x. record x { element = change x.element }) (slice_index_or k.slots s None)) }

-- the ranks with those of these marks, from k on
abbrev pub with_ranks : List ℕ → ℕ → List ℕ → List ℕ
with_ranks [] k ranks = ranks
with_ranks (m ∷ ms) k ranks = with_ranks ms (if m % 2 == 0 then k + 1 else k) (slice_set ranks m k)

-- the slots in tree order with those that these marks open, from place k on
abbrev pub with_order : List ℕ → ℕ → List ℕ → List ℕ
with_order [] k order = order
with_order (m ∷ ms) k order = if m % 2 == 0 then with_order ms (k + 1) (slice_set order k (m / 2 - 1)) else with_order ms k order

-- what is kept with positions counted
abbrev pub with_positions : Kept → Kept
with_positions k =
    let ms = marks_until k.next 1 (2 * k.len) (slice_index_or k.next 0 0) in
    record k { ranks = with_ranks ms 0 k.ranks; order = with_order ms 0 k.order; fresh = true }

-- a last child of the parent goes directly before this mark, below this parent, and lies this deep; a root goes before the end
pub record IsLastOf (k : Kept) (p mark : ℕ) (parent : Option ℕ) (depth : ℕ) : Type 0 where
  pub slot : ℕ
  pub of : IsSlotOf k p slot
  pub mark_is : mark ≡ 2 * slot + 3
  pub parent_is : parent ≡ Some p
  pub depth_is : depth ≡ depth_at k.slots slot + 1

pub record IsEnd (mark : ℕ) (parent : Option ℕ) (depth : ℕ) : Type 0 where
  pub mark_is : mark ≡ 1
  pub parent_is : parent ≡ None
  pub depth_is : depth ≡ 1

abbrev pub IsPlaceBelow : Kept → Option ℕ → ℕ → Option ℕ → ℕ → Type 0
IsPlaceBelow k None mark parent depth = IsEnd mark parent depth
IsPlaceBelow k (Some p) mark parent depth = IsLastOf k p mark parent depth

-- what goes directly before the sibling goes before this mark, below this parent, and lies this deep
pub record IsPlaceBefore (k : Kept) (sibling mark : ℕ) (parent : Option ℕ) (depth : ℕ) : Type 0 where
  pub slot : ℕ
  pub of : IsSlotOf k sibling slot
  pub mark_is : mark ≡ 2 * slot + 2
  pub parent_is : parent ≡ (element_at k.slots slot).parent
  pub depth_is : depth ≡ depth_at k.slots slot

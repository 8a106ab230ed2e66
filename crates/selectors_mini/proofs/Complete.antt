-- What is spelled as a selector is read so.
use Rattle.std.proofs.Common.{◌≡◌, refl, ap, subst, sym, ◌∙◌, List, ◌∷◌, [], ◌++◌, false, Option, Some, None, append_assoc}
use Rattle.std.specs.Prelude.{option_map, option_to_list}
use Rattle.std.specs.Option.{option_and_then}
use Rattle.selectors_mini.specs.Compounds.{CompoundSelector, any_element, compound_with_id, compound_with_class, followed_by}
use Rattle.selectors_mini.specs.Parts.{SelectorPart, Word, Hash, Dot, Star, Greater}
use Rattle.selectors_mini.specs.Spelling.{Continues, IsCompound, AreSpaces, IsCombinator, AreCompounds, IsSelector}
use Rattle.selectors_mini.specs.Spelling as spelling
use Rattle.selectors_mini.specs.Reading.{begin, compounds_from, compounds_of, is_greater, is_space}
use Rattle.selectors_mini.specs.declared.combinator.Combinator.{Combinator}
use Rattle.selectors_mini.specs.declared.combinator.Combinator.TheVariants.{Child, Descendant}
use Rattle.selectors_mini.specs.declared.reader.Place.TheVariants.{Start, Inside, Point, Spaced, Below}

-- what is read after a step that ends no compound
none_ended : (o : Option (List CompoundSelector)) → option_map (λ cs. [] ++ cs) o ≡ o
none_ended None = refl
none_ended (Some cs) = refl

-- ---- spaces

spaces_start : (c : CompoundSelector) {front : List SelectorPart} (parts : List SelectorPart) → AreSpaces front → compounds_from Start c (front ++ parts) ≡ compounds_from Start c parts
spaces_start c parts spelling.none = refl
spaces_start c parts (spelling.some rest s) = none_ended (compounds_from Start c (rest ++ parts)) ∙ spaces_start c parts s

spaces_spaced : (c : CompoundSelector) {front : List SelectorPart} (parts : List SelectorPart) → AreSpaces front → compounds_from Spaced c (front ++ parts) ≡ compounds_from Spaced c parts
spaces_spaced c parts spelling.none = refl
spaces_spaced c parts (spelling.some rest s) = none_ended (compounds_from Spaced c (rest ++ parts)) ∙ spaces_spaced c parts s

spaces_below : (c : CompoundSelector) {front : List SelectorPart} (parts : List SelectorPart) → AreSpaces front → compounds_from Below c (front ++ parts) ≡ compounds_from Below c parts
spaces_below c parts spelling.none = refl
spaces_below c parts (spelling.some rest s) = none_ended (compounds_from Below c (rest ++ parts)) ∙ spaces_below c parts s

only_spaces_spaced : (c : CompoundSelector) {after : List SelectorPart} → AreSpaces after → compounds_from Spaced c after ≡ Some (c ∷ [])
only_spaces_spaced c spelling.none = refl
only_spaces_spaced c (spelling.some rest s) = none_ended (compounds_from Spaced c rest) ∙ only_spaces_spaced c s

only_spaces : (c : CompoundSelector) {after : List SelectorPart} → AreSpaces after → compounds_from Inside c after ≡ Some (c ∷ [])
only_spaces c spelling.none = refl
only_spaces c (spelling.some rest s) = none_ended (compounds_from Spaced c rest) ∙ only_spaces_spaced c s

-- ---- compounds

continued : {c d : CompoundSelector} {front : List SelectorPart} (parts : List SelectorPart) → Continues c front d → compounds_from Inside c (front ++ parts) ≡ compounds_from Inside d parts
continued parts (spelling.end c) = refl
continued parts (spelling.class c d name rest on) =
    none_ended (compounds_from Point c (Word name ∷ (rest ++ parts))) ∙ none_ended (compounds_from Inside (compound_with_class c name) (rest ++ parts)) ∙ continued parts on
continued parts (spelling.id c d name rest on) = none_ended (compounds_from Inside (compound_with_id c name) (rest ++ parts)) ∙ continued parts on

-- where a compound begins, which ends another
abbrev from_begin : Option CompoundSelector → List SelectorPart → Option (List CompoundSelector)
from_begin ended [] = None
from_begin ended (part ∷ parts) =
    option_and_then (λ s. option_map (λ cs. option_to_list s.ended ++ cs) (compounds_from s.place s.compound parts)) (begin ended part)

-- the compounds with the one that was ended before them
abbrev with_ended : Option CompoundSelector → Option (List CompoundSelector) → Option (List CompoundSelector)
with_ended ended o = option_map (λ cs. option_to_list ended ++ cs) o

compound_begins : (ended : Option CompoundSelector) {d : CompoundSelector} {front : List SelectorPart} (parts : List SelectorPart) → IsCompound front d
    → from_begin ended (front ++ parts) ≡ with_ended ended (compounds_from Inside d parts)
compound_begins ended parts (spelling.type d name rest on) = ap (with_ended ended) (continued parts on)
compound_begins ended parts (spelling.universal d rest on) = ap (with_ended ended) (continued parts on)
compound_begins ended parts (spelling.class d name rest on) =
    ap (with_ended ended) (none_ended (compounds_from Inside (compound_with_class any_element name) (rest ++ parts)) ∙ continued parts on)
compound_begins ended parts (spelling.id d name rest on) = ap (with_ended ended) (continued parts on)

-- the parts begin with one that begins a compound
data IsBegun : List SelectorPart → Type 0 where
  first : (part : SelectorPart) (rest : List SelectorPart) → is_space part ≡ false → is_greater part ≡ false → IsBegun (part ∷ rest)

compound_is_begun : {d : CompoundSelector} {front : List SelectorPart} (parts : List SelectorPart) → IsCompound front d → IsBegun (front ++ parts)
compound_is_begun parts (spelling.type d name rest on) = first (Word name) (rest ++ parts) refl refl
compound_is_begun parts (spelling.universal d rest on) = first Star (rest ++ parts) refl refl
compound_is_begun parts (spelling.class d name rest on) = first Dot (Word name ∷ (rest ++ parts)) refl refl
compound_is_begun parts (spelling.id d name rest on) = first (Hash name) (rest ++ parts) refl refl

begun_at_start : (c : CompoundSelector) {parts : List SelectorPart} → IsBegun parts → compounds_from Start c parts ≡ from_begin None parts
begun_at_start c (first part rest no_space no_greater) = rw no_space refl

begun_spaced : (c : CompoundSelector) {parts : List SelectorPart} → IsBegun parts → compounds_from Spaced c parts ≡ from_begin (Some (followed_by c Descendant)) parts
begun_spaced c (first part rest no_space no_greater) = rw (no_space, no_greater) refl

begun_below : (c : CompoundSelector) {parts : List SelectorPart} → IsBegun parts → compounds_from Below c parts ≡ from_begin (Some (followed_by c Child)) parts
begun_below c (first part rest no_space no_greater) = rw no_space refl

compounds_are_begun : {inside : List SelectorPart} {cs : List CompoundSelector} (parts : List SelectorPart) → AreCompounds inside cs → IsBegun (inside ++ parts)
compounds_are_begun parts (spelling.last front c is) = compound_is_begun parts is
compounds_are_begun parts (spelling.more front between rest c k cs is by others) =
    subst IsBegun (sym (append_assoc (front ++ between) rest parts ∙ append_assoc front between (rest ++ parts))) (compound_is_begun (between ++ (rest ++ parts)) is)

-- a combinator, and then compounds
combined : (c : CompoundSelector) {k : Combinator} {between : List SelectorPart} (parts : List SelectorPart) → IsCombinator between k → IsBegun parts
    → compounds_from Inside c (between ++ parts) ≡ from_begin (Some (followed_by c k)) parts
combined c parts (spelling.descendant rest s) begun = none_ended (compounds_from Spaced c (rest ++ parts)) ∙ spaces_spaced c parts s ∙ begun_spaced c begun
combined c parts (spelling.child before after x y) begun =
    ap (compounds_from Inside c) (append_assoc before (Greater ∷ after) parts) ∙ tail c (after ++ parts) x ∙ spaces_below c parts y ∙ begun_below c begun
  where
    tail : (c : CompoundSelector) {before : List SelectorPart} (parts : List SelectorPart) → AreSpaces before
        → compounds_from Inside c (before ++ Greater ∷ parts) ≡ compounds_from Below c parts
    tail c parts spelling.none = none_ended (compounds_from Below c parts)
    tail c parts (spelling.some rest s) =
        none_ended (compounds_from Spaced c (rest ++ Greater ∷ parts)) ∙ spaces_spaced c (Greater ∷ parts) s ∙ none_ended (compounds_from Below c parts)

compounds_complete : (ended : Option CompoundSelector) {inside after : List SelectorPart} {cs : List CompoundSelector} → AreCompounds inside cs → AreSpaces after
    → from_begin ended (inside ++ after) ≡ Some (option_to_list ended ++ cs)
compounds_complete ended {after = after} (spelling.last front c is) s = compound_begins ended after is ∙ ap (with_ended ended) (only_spaces c s)
compounds_complete ended {after = after} (spelling.more front between rest c k cs is by others) s =
    ap (from_begin ended) (append_assoc (front ++ between) rest after ∙ append_assoc front between (rest ++ after))
    ∙ compound_begins ended (between ++ (rest ++ after)) is
    ∙ ap (with_ended ended) (combined c (rest ++ after) by (compounds_are_begun after others) ∙ compounds_complete (Some (followed_by c k)) others s)

pub selector_complete : {parts : List SelectorPart} {cs : List CompoundSelector} → IsSelector parts cs → compounds_of parts ≡ Some cs
selector_complete (spelling.spaced before inside after cs b i s) =
    ap compounds_of (append_assoc before inside after) ∙ spaces_start any_element (inside ++ after) b
    ∙ begun_at_start any_element (compounds_are_begun after i) ∙ compounds_complete None i s

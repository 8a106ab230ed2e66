-- What the reader of a selector reads is spelled so.
use Rattle.std.proofs.Common.{◌≡◌, ℕ, refl, ap, subst, sym, ◌∙◌, List, ◌∷◌, [], ◌++◌, Some, append_assoc}
use Rattle.std.specs.Prelude.{IfSome, option_map, option_to_list}
use Rattle.selectors_mini.specs.Compounds.{CompoundSelector, any_element, of_type, compound_with_id, compound_with_class, followed_by}
use Rattle.selectors_mini.specs.Parts.{SelectorPart, Word, Hash, Dot, Star, Greater, Comma, Space, Other}
use Rattle.selectors_mini.specs.Spelling.{Continues, IsCompound, AreSpaces, IsCombinator, AreCompounds, IsSelector}
use Rattle.selectors_mini.specs.Spelling as spelling
use Rattle.selectors_mini.specs.Reading.{compounds_from, compounds_of, ending, step_from}
use Rattle.selectors_mini.specs.declared.combinator.Combinator.{Combinator}
use Rattle.selectors_mini.specs.declared.combinator.Combinator.TheVariants.{Child, Descendant}
use Rattle.selectors_mini.specs.declared.reader.Place.{Place}
use Rattle.selectors_mini.specs.declared.reader.Place.TheVariants.{Start, Inside, Point, Spaced, Below}
use Rattle.selectors_mini.specs.declared.reader.Advance.{Advance}
use Rattle.selectors_mini.proofs.Lists.{and_then_some, map_some}

-- after the compound d the parts end a selector, which with d has these compounds
data IsTail (d : CompoundSelector) : List SelectorPart → List CompoundSelector → Type 0 where
  stop : (after : List SelectorPart) → AreSpaces after → IsTail d after (d ∷ [])
  go : (between inside after : List SelectorPart) (k : Combinator) (cs : List CompoundSelector) → IsCombinator between k
      → AreCompounds inside cs → AreSpaces after → IsTail d (between ++ inside ++ after) (followed_by d k ∷ cs)

-- inside the compound c
record InsideTail (c : CompoundSelector) (parts : List SelectorPart) (cs : List CompoundSelector) : Type 0 where
  pub front : List SelectorPart
  pub rest : List SelectorPart
  pub whole : CompoundSelector
  pub parts_are : front ++ rest ≡ parts
  pub on : Continues c front whole
  pub tail : IsTail whole rest cs

-- after the `.` of a class
abbrev PointTail : CompoundSelector → List SelectorPart → List CompoundSelector → Type 0
PointTail c parts cs = (name : List ℕ) × (rest : List SelectorPart) × (Word name ∷ rest ≡ parts) × InsideTail (compound_with_class c name) rest cs

-- compounds begin, and only spaces follow them
record Begins (parts : List SelectorPart) (cs : List CompoundSelector) : Type 0 where
  pub inside : List SelectorPart
  pub after : List SelectorPart
  pub parts_are : inside ++ after ≡ parts
  pub compounds : AreCompounds inside cs
  pub spaces : AreSpaces after

-- what the reader has found from its place on
abbrev Sound : Place → CompoundSelector → List SelectorPart → List CompoundSelector → Type 0
Sound Start c parts cs = IsSelector parts cs
Sound Inside c parts cs = InsideTail c parts cs
Sound Point c parts cs = PointTail c parts cs
Sound Spaced c parts cs = IsTail c (Space ∷ parts) cs
Sound Below c parts cs = (rest : List CompoundSelector) × IsSelector parts rest × (cs ≡ followed_by c Child ∷ rest)

-- ---- one space more

space_before : {between : List SelectorPart} {k : Combinator} → IsCombinator between k → IsCombinator (Space ∷ between) k
space_before (spelling.descendant rest r) = spelling.descendant (Space ∷ rest) (spelling.some rest r)
space_before (spelling.child before after x y) = spelling.child (Space ∷ before) after (spelling.some before x) y

tail_space : {d : CompoundSelector} {rest : List SelectorPart} {cs : List CompoundSelector} → IsTail d rest cs → IsTail d (Space ∷ rest) cs
tail_space (stop after s) = stop (Space ∷ after) (spelling.some after s)
tail_space (go between inside after k cs b i s) = go (Space ∷ between) inside after k cs (space_before b) i s

selector_space : {parts : List SelectorPart} {cs : List CompoundSelector} → IsSelector parts cs → IsSelector (Space ∷ parts) cs
selector_space (spelling.spaced before inside after cs b i s) = spelling.spaced (Space ∷ before) inside after cs (spelling.some before b) i s

-- ---- a compound begins

-- its first parts, and what goes on inside it
begun : (first : List SelectorPart) (d : CompoundSelector) (rest : List SelectorPart) (cs : List CompoundSelector) → IsCompound first d → IsTail d rest cs
    → Begins (first ++ rest) cs
begun first d rest cs is (stop after s) = record {
  inside = first;
  after = after;
  parts_are = refl;
  compounds = spelling.last first d is;
  spaces = s;
}
begun first d rest cs is (go between inside after k more b i s) = record {
  inside = (first ++ between) ++ inside;
  after = after;
  parts_are = append_assoc (first ++ between) inside after ∙ append_assoc first between (inside ++ after) ∙ ap (λ l. first ++ l) (sym (append_assoc between inside after));
  compounds = spelling.more first between inside d k more is b i;
  spaces = s;
}

begins_as : {parts others : List SelectorPart} {cs : List CompoundSelector} → parts ≡ others → Begins parts cs → Begins others cs
begins_as {cs = cs} same b = subst (λ l. Begins l cs) same b

word_begins : (name : List ℕ) (parts : List SelectorPart) (cs : List CompoundSelector) → InsideTail (of_type name) parts cs → Begins (Word name ∷ parts) cs
word_begins name parts cs t =
    begins_as (ap (λ l. Word name ∷ l) t.parts_are) (begun (Word name ∷ t.front) t.whole t.rest cs (spelling.type t.whole name t.front t.on) t.tail)

hash_begins : (name : List ℕ) (parts : List SelectorPart) (cs : List CompoundSelector) → InsideTail (compound_with_id any_element name) parts cs → Begins (Hash name ∷ parts) cs
hash_begins name parts cs t =
    begins_as (ap (λ l. Hash name ∷ l) t.parts_are) (begun (Hash name ∷ t.front) t.whole t.rest cs (spelling.id t.whole name t.front t.on) t.tail)

star_begins : (parts : List SelectorPart) (cs : List CompoundSelector) → InsideTail any_element parts cs → Begins (Star ∷ parts) cs
star_begins parts cs t =
    begins_as (ap (λ l. Star ∷ l) t.parts_are) (begun (Star ∷ t.front) t.whole t.rest cs (spelling.universal t.whole t.front t.on) t.tail)

dot_begins : (parts : List SelectorPart) (cs : List CompoundSelector) → PointTail any_element parts cs → Begins (Dot ∷ parts) cs
dot_begins parts cs (name, rest, are, t) =
    begins_as (ap (λ l. Dot ∷ Word name ∷ l) t.parts_are ∙ ap (λ l. Dot ∷ l) are)
    (begun (Dot ∷ Word name ∷ t.front) t.whole t.rest cs (spelling.class t.whole name t.front t.on) t.tail)

-- where compounds may begin
at_start : {parts : List SelectorPart} {cs : List CompoundSelector} → Begins parts cs → IsSelector parts cs
at_start {cs = cs} b = subst (λ l. IsSelector l cs) b.parts_are (spelling.spaced [] b.inside b.after cs spelling.none b.compounds b.spaces)

at_spaced : (c : CompoundSelector) {parts : List SelectorPart} {cs : List CompoundSelector} → Begins parts cs → IsTail c (Space ∷ parts) (followed_by c Descendant ∷ cs)
at_spaced c {cs = cs} b =
    subst (λ l. IsTail c (Space ∷ l) (followed_by c Descendant ∷ cs)) b.parts_are
    (go (Space ∷ []) b.inside b.after Descendant cs (spelling.descendant [] spelling.none) b.compounds b.spaces)

at_below : (c : CompoundSelector) {parts : List SelectorPart} {cs : List CompoundSelector} → Begins parts cs → Sound Below c parts (followed_by c Child ∷ cs)
at_below c {cs = cs} b = (cs, at_start b, refl)

-- `>` after a compound
below_tail : (c : CompoundSelector) (parts : List SelectorPart) (cs : List CompoundSelector) → Sound Below c parts cs → IsTail c (Greater ∷ parts) cs
below_tail c parts cs (rest, selector, are) = subst (IsTail c (Greater ∷ parts)) (sym are) (by_selector selector)
  where
    by_selector : {parts : List SelectorPart} {rest : List CompoundSelector} → IsSelector parts rest → IsTail c (Greater ∷ parts) (followed_by c Child ∷ rest)
    by_selector (spelling.spaced before inside after cs b i s) = go (Greater ∷ before) inside after Child cs (spelling.child [] before spelling.none b) i s

-- ---- a part of a compound

more_id : (c : CompoundSelector) (name : List ℕ) (parts : List SelectorPart) (cs : List CompoundSelector) → InsideTail (compound_with_id c name) parts cs → InsideTail c (Hash name ∷ parts) cs
more_id c name parts cs t = record {
  front = Hash name ∷ t.front;
  rest = t.rest;
  whole = t.whole;
  parts_are = ap (λ l. Hash name ∷ l) t.parts_are;
  on = spelling.id c t.whole name t.front t.on;
  tail = t.tail;
}

more_class : (c : CompoundSelector) (parts : List SelectorPart) (cs : List CompoundSelector) → PointTail c parts cs → InsideTail c (Dot ∷ parts) cs
more_class c parts cs (name, rest, are, t) = record {
  front = Dot ∷ Word name ∷ t.front;
  rest = t.rest;
  whole = t.whole;
  parts_are = ap (λ l. Dot ∷ Word name ∷ l) t.parts_are ∙ ap (λ l. Dot ∷ l) are;
  on = spelling.class c t.whole name t.front t.on;
  tail = t.tail;
}

ends_here : (c : CompoundSelector) (parts : List SelectorPart) (cs : List CompoundSelector) → IsTail c parts cs → InsideTail c parts cs
ends_here c parts cs tail = record { front = []; rest = parts; whole = c; parts_are = refl; on = spelling.end c; tail = tail }

-- ---- steps

-- where the part leads, and from there on, is sound
abbrev Leads : Place → CompoundSelector → SelectorPart → Advance → Type 0
Leads place c part s = (parts : List SelectorPart) (cs : List CompoundSelector) → Sound s.place s.compound parts cs
    → Sound place c (part ∷ parts) (option_to_list s.ended ++ cs)

leads : (place : Place) (c : CompoundSelector) (part : SelectorPart) → IfSome (step_from place c part) (Leads place c part)
leads Start c (Word name) = λ parts cs t. at_start (word_begins name parts cs t)
leads Start c (Hash name) = λ parts cs t. at_start (hash_begins name parts cs t)
leads Start c Dot = λ parts cs t. at_start (dot_begins parts cs t)
leads Start c Star = λ parts cs t. at_start (star_begins parts cs t)
leads Start c Greater = tt
leads Start c Comma = tt
leads Start c Space = λ parts cs t. selector_space t
leads Start c Other = tt
leads Inside c (Word name) = tt
leads Inside c (Hash name) = λ parts cs t. more_id c name parts cs t
leads Inside c Dot = λ parts cs t. more_class c parts cs t
leads Inside c Star = tt
leads Inside c Greater = λ parts cs t. ends_here c (Greater ∷ parts) cs (below_tail c parts cs t)
leads Inside c Comma = tt
leads Inside c Space = λ parts cs t. ends_here c (Space ∷ parts) cs t
leads Inside c Other = tt
leads Point c (Word name) = λ parts cs t. (name, parts, refl, t)
leads Point c (Hash name) = tt
leads Point c Dot = tt
leads Point c Star = tt
leads Point c Greater = tt
leads Point c Comma = tt
leads Point c Space = tt
leads Point c Other = tt
leads Spaced c (Word name) = λ parts cs t. at_spaced c (word_begins name parts cs t)
leads Spaced c (Hash name) = λ parts cs t. at_spaced c (hash_begins name parts cs t)
leads Spaced c Dot = λ parts cs t. at_spaced c (dot_begins parts cs t)
leads Spaced c Star = λ parts cs t. at_spaced c (star_begins parts cs t)
leads Spaced c Greater = λ parts cs t. tail_space (below_tail c parts cs t)
leads Spaced c Comma = tt
leads Spaced c Space = λ parts cs t. tail_space t
leads Spaced c Other = tt
leads Below c (Word name) = λ parts cs t. at_below c (word_begins name parts cs t)
leads Below c (Hash name) = λ parts cs t. at_below c (hash_begins name parts cs t)
leads Below c Dot = λ parts cs t. at_below c (dot_begins parts cs t)
leads Below c Star = λ parts cs t. at_below c (star_begins parts cs t)
leads Below c Greater = tt
leads Below c Comma = tt
leads Below c Space = λ parts cs (rest, selector, are). (rest, selector_space selector, are)
leads Below c Other = tt

ends : (place : Place) (c : CompoundSelector) → IfSome (ending place c) (Sound place c [])
ends Start c = tt
ends Inside c = ends_here c [] (c ∷ []) (stop [] spelling.none)
ends Point c = tt
ends Spaced c = stop (Space ∷ []) (spelling.some [] spelling.none)
ends Below c = tt

sound_from : (place : Place) (c : CompoundSelector) (parts : List SelectorPart) (cs : List CompoundSelector) → compounds_from place c parts ≡ Some cs
    → Sound place c parts cs
sound_from place c [] cs is = subst (λ o. IfSome o (Sound place c [])) is (ends place c)
sound_from place c (part ∷ parts) cs is =
    let s = and_then_some (λ s. option_map (λ cs. option_to_list s.ended ++ cs) (compounds_from s.place s.compound parts)) (step_from place c part) cs is in
    let rest = map_some (λ cs. option_to_list (s.0).ended ++ cs) (compounds_from (s.0).place (s.0).compound parts) cs s.2 in
    let step : Leads place c part s.0 = subst (λ o. IfSome o (Leads place c part)) s.1 (leads place c part) in
    subst (Sound place c (part ∷ parts)) rest.2 (step parts rest.0 (sound_from (s.0).place (s.0).compound parts rest.0 rest.1))

-- what is read is a selector
pub selector_sound : (parts : List SelectorPart) (cs : List CompoundSelector) → compounds_of parts ≡ Some cs → IsSelector parts cs
selector_sound parts cs is = sound_from Start any_element parts cs is

-- The reading of a property's value.
use Rattle.std.proofs.Common.{◌≡◌, ℕ, suc, ◌≤◌, refl, ap, subst, sym, ◌∙◌, arith, List, ◌∷◌, [], cond, Bool, true, false, IsTrue, Option, Some, None, Result, Ok, Err, ◌⊎◌, inl, inr}
use Rattle.std.specs.Prelude.{if◌then◌else◌, find}
use Rattle.token_parts.specs.Parts.{TokenPart, Ident, Function, Hash, Number, Percent, Dimension, Comma, Close, Other}
use Rattle.token_parts.specs.declared.fault.ValueFault.{ValueFault}
use Rattle.token_parts.specs.declared.fault.ValueFault.TheVariants.{Unsupported, BoundItems, Bound, NoMemory}
use Rattle.value_types.specs.Table.{is_inherited, takes}
use Rattle.value_types.specs.declared.declared.Declared.{Declared}
use Rattle.value_types.specs.declared.declared.Size.{Size}
use Rattle.value_types.specs.declared.property.PropertyId.{PropertyId}
use Rattle.value_types.specs.declared.property.PropertyId.TheVariants.{BackgroundColor}
use Rattle.value_types.specs.declared.table.ValueKind.{ValueKind}
use Rattle.value_types.specs.declared.table.ValueKind.TheVariants as kind
use Rattle.value_types.specs.declared.range.ValueRange.{ValueRange}
use Rattle.value_text.specs.declared.cascade.Keyword.{Keyword}
use Rattle.value_text.specs.declared.color.Rgba.{Rgba}
use Rattle.value_text.specs.Colors.{IsColor}
use Rattle.value_text.specs.Colors as colors
use Rattle.value_text.specs.Reading.{declared_in, declared_reading, kind_in, kinds_at, read_of, value_in}
use Rattle.value_text.specs.Sizes.{IsLength, IsPercent}
use Rattle.value_text.specs.Sizes as sizes
use Rattle.value_text.specs.Spelling.{IsValueAnswer, IsPart, IsSpelled, IsSpelling, cascade_keyword, declared_by}
use Rattle.value_text.specs.Spelling as spelling
use Rattle.value_text.proofs.KindLemmas.{Kind, kind_is}
use Rattle.value_text.proofs.Readings.{IsReading, nothing, same_is, supported_is}

-- ---- the one kind

abbrev pub Has : ValueKind → List ValueKind → Type 0
Has k [] = ⊥
Has k (j ∷ js) = (k ≡ j) ⊎ Has k js

abbrev pub count : (ValueKind → Bool) → List ValueKind → ℕ
count q [] = 0
count q (j ∷ js) = (if q j then suc (count q js) else count q js)

none_left : (b : Bool) (n : ℕ) → cond b (suc n) n ≡ 0 → (b ≡ false) × (n ≡ 0)
none_left true n h = absurd (omega arith)
none_left false n h = (refl, h)

some_counted : (q : ValueKind → Bool) (ks : List ValueKind) (k : ValueKind) → Has k ks → q k ≡ true → count q ks ≡ 0 → ⊥
some_counted q [] k has met none = has
some_counted q (j ∷ js) k (inl same) met none = let other = (none_left (q j) (count q js) none).0 in let equal = ap q same in cc
some_counted q (j ∷ js) k (inr has) met none = some_counted q js k has met (none_left (q j) (count q js) none).1

find_at : (q : ValueKind → Bool) (j k : ValueKind) (js : List ValueKind) (b : Bool) → q j ≡ b → (k ≡ j) ⊎ Has k js → q k ≡ true
    → cond b (suc (count q js)) (count q js) ≤ 1 → (count q js ≤ 1 → Has k js → find q js ≡ Some k) → cond b (Some j) (find q js) ≡ Some k
find_at q j k js true e (inl same) met few rest = ap Some (sym same)
find_at q j k js true e (inr has) met few rest = absurd (some_counted q js k has met (omega arith))
find_at q j k js false e (inl same) met few rest = let other = ap q same in cc
find_at q j k js false e (inr has) met few rest = rest few has

find_only : (q : ValueKind → Bool) (ks : List ValueKind) (k : ValueKind) → Has k ks → q k ≡ true → count q ks ≤ 1 → find q ks ≡ Some k
find_only q [] k has met few = absurd has
find_only q (j ∷ js) k has met few = find_at q j k js (q j) refl has met few (λ less more. find_only q js k more met less)

found_at : (q : ValueKind → Bool) (j k : ValueKind) (js : List ValueKind) (b : Bool) → q j ≡ b → (find q js ≡ Some k → q k ≡ true) → cond b (Some j) (find q js) ≡ Some k → q k ≡ true
found_at q j k js true e rest h = let same : j ≡ k = cc in ap q (sym same) ∙ e
found_at q j k js false e rest h = rest h

found_true : (q : ValueKind → Bool) (ks : List ValueKind) (k : ValueKind) → find q ks ≡ Some k → q k ≡ true
found_true q [] k h = absurd (cc)
found_true q (j ∷ js) k h = found_at q j k js (q j) refl (found_true q js k) h

-- a row names at most one kind of values that begin with a word, and so on
few_words : (p : PropertyId) (w : List ℕ) → count (takes p) (kinds_at (Ident w)) ≤ 1
few_words BackgroundColor w = omega arith
few_words p w = omega arith

few_numbers : (p : PropertyId) (w : List ℕ) → count (takes p) (kinds_at (Number w)) ≤ 1
few_numbers BackgroundColor w = omega arith
few_numbers p w = omega arith

few_percents : (p : PropertyId) (w : List ℕ) → count (takes p) (kinds_at (Percent w)) ≤ 1
few_percents BackgroundColor w = omega arith
few_percents p w = omega arith

few_dimensions : (p : PropertyId) (t w : List ℕ) → count (takes p) (kinds_at (Dimension t w)) ≤ 1
few_dimensions BackgroundColor t w = omega arith
few_dimensions p t w = omega arith

few_colors : (p : PropertyId) → count (takes p) (kind.Color ∷ []) ≤ 1
few_colors BackgroundColor = omega arith
few_colors p = omega arith

few : (p : PropertyId) (part : TokenPart) → count (takes p) (kinds_at part) ≤ 1
few p (Ident w) = few_words p w
few p (Function w) = few_colors p
few p (Hash w) = few_colors p
few p (Number w) = few_numbers p w
few p (Percent w) = few_percents p w
few p (Dimension t w) = few_dimensions p t w
few p Comma = omega arith
few p Close = omega arith
few p Other = omega arith

-- ---- how values begin

length_begins : (held : Bool) (r : ValueRange) (part : TokenPart) (s : Size) → IsLength held r part s → Has kind.Length (kinds_at part) × Has kind.Pair (kinds_at part)
length_begins held r part s (sizes.with_unit t w z d n) = (inl refl, inr (inr (inl refl)))
length_begins held r part s (sizes.zero t z n e) = (inr (inl refl), inr (inr (inr (inl refl))))

percent_begins : (held : Bool) (r : ValueRange) (part : TokenPart) (s : Size) → IsPercent held r part s → Has kind.Percent (kinds_at part) × Has kind.Pair (kinds_at part)
percent_begins held r part s (sizes.percent t z u n) = (inl refl, inr (inl refl))

part_begins : (held : Bool) (part : TokenPart) (s : Size) → IsPart held part s → Has kind.Pair (kinds_at part)
part_begins held part s (spelling.length h) = (length_begins held _ part s h).1
part_begins held part s (spelling.percent h) = (percent_begins held _ part s h).1

-- the first part's kinds have the kind; there is a first part
abbrev pub Begins : ValueKind → List TokenPart → Type 0
Begins k [] = ⊥
Begins k (part ∷ ps) = Has k (kinds_at part)

color_begins : (parts : List TokenPart) (c : Rgba) → IsColor parts c → Begins kind.Color parts
color_begins parts c (colors.named w d e) = inr (inr (inl refl))
color_begins parts c (colors.hexadecimal w d e) = inl refl
color_begins parts c (colors.channels name r g b d f x y z a) = inl refl
color_begins parts c (colors.channels_and_alpha name r g b a d f x y z h) = inl refl

begins : (held : Bool) (p : PropertyId) (k : ValueKind) (parts : List TokenPart) (d : Declared) → IsSpelling held p k parts d → Begins k parts
begins held p k parts d (spelling.number t n h) = inl refl
begins held p k parts d (spelling.length part s h) = (length_begins held _ part s h).0
begins held p k parts d (spelling.percent part s e h is) = (percent_begins held _ part s h).0
begins held p k parts d (spelling.auto w h) = inl refl
begins held p k parts d (spelling.normal w h) = inr (inl refl)
begins held p k parts d (spelling.integer t i h) = inr (inr (inl refl))
begins held p k parts d (spelling.color ps c h) = color_begins ps c h
begins held p k parts d (spelling.angle t w n u h) = inr (inl refl)
begins held p k parts d (spelling.one_part part x h) = part_begins held part x h
begins held p k parts d (spelling.two_parts first second x y h j) = part_begins held first x h
begins held p k parts d (spelling.absent w h) = inr (inr (inr (inl refl)))
begins held p k parts d (spelling.visibility w v h) = inr (inr (inr (inr (inl refl))))
begins held p k parts d (spelling.display w v h) = inr (inr (inr (inr (inr (inl refl)))))

-- ---- values

abbrev pub IsValue : PropertyId → List TokenPart → Bool → Declared → Type 0
IsValue p parts held d = (k : ValueKind) × IsTrue (takes p k) × IsSpelling held p k parts d

kind_found : (held : Bool) (p : PropertyId) (part : TokenPart) (ps : List TokenPart) (d : Declared) → (v : IsValue p (part ∷ ps) held d) → find (takes p) (kinds_at part) ≡ Some v.0
kind_found held p part ps d v = find_only (takes p) (kinds_at part) v.0 (begins held p v.0 (part ∷ ps) d v.2) v.1 (few p part)

value_at : (p : PropertyId) (part : TokenPart) (ps : List TokenPart) (o : Option ValueKind) → find (takes p) (kinds_at part) ≡ o
    → IsReading (IsValue p (part ∷ ps)) (read_of (λ k. kind_in p k (part ∷ ps)) o)
value_at p part ps (Some k) e = same_is (Kind p k (part ∷ ps)) (IsValue p (part ∷ ps)) _ (kind_is p k (part ∷ ps))
    (λ held d h. (k, found_true (takes p) (kinds_at part) k e, h))
    (λ held d v. let is = kind_found held p part ps d v in let same : v.0 ≡ k = cc in subst (λ j. IsSpelling held p j (part ∷ ps) d) same v.2)
value_at p part ps None e = nothing _ (λ held d v. let is = kind_found held p part ps d v in cc)

value_is : (p : PropertyId) (parts : List TokenPart) → IsReading (IsValue p parts) (value_in p parts)
unfolding value_in
value_is p [] = nothing _ (λ held d v. begins held p v.0 [] d v.2)
value_is p (part ∷ ps) = value_at p part ps (find (takes p) (kinds_at part)) refl

-- ---- what is declared

by_keyword : (held : Bool) (p : PropertyId) (parts : List TokenPart) (d : Declared) (k : Keyword) → cascade_keyword parts ≡ Some k → IsSpelled held p parts d
    → declared_by (is_inherited p) k ≡ Some d
by_keyword held p parts d k e (spelling.keyword j is h) = let same : j ≡ k = cc in subst (λ w. declared_by (is_inherited p) w ≡ Some d) same h
by_keyword held p parts d k e (spelling.value j is t h) = absurd (cc)

by_value : (held : Bool) (p : PropertyId) (parts : List TokenPart) (d : Declared) → cascade_keyword parts ≡ None → IsSpelled held p parts d → IsValue p parts held d
by_value held p parts d e (spelling.keyword j is h) = absurd (cc)
by_value held p parts d e (spelling.value j is t h) = (j, t, h)

declared_is : (p : PropertyId) (parts : List TokenPart) (o : Option Keyword) → cascade_keyword parts ≡ o
    → IsReading (λ held d. IsSpelled held p parts d) (declared_in p parts o)
declared_is p parts (Some k) e = supported_is _ (declared_by (is_inherited p) k) (λ held d h. by_keyword held p parts d k e h) (λ held d h. spelling.keyword k e h)
declared_is p parts None e = same_is (IsValue p parts) _ _ (value_is p parts) (λ held d v. spelling.value v.0 e v.1 v.2) (λ held d h. by_value held p parts d e h)

pub reading_is : (p : PropertyId) (parts : List TokenPart) → IsReading (λ held d. IsSpelled held p parts d) (declared_reading p parts)
unfolding declared_reading
reading_is p parts = declared_is p parts (cascade_keyword parts) refl

-- ---- answers

pub answer_is : (p : PropertyId) (parts : List TokenPart) (r : Result Declared ValueFault) → IsReading (λ held d. IsSpelled held p parts d) r → IsValueAnswer p parts r
answer_is p parts (Ok d) h = h.found d refl
answer_is p parts (Err Unsupported) h = λ d s. h.some d s refl
answer_is p parts (Err BoundItems) h = h.no_items refl
answer_is p parts (Err Bound) h = (h.bound refl, λ d s. let e = h.given d s in cc)
answer_is p parts (Err NoMemory) h = tt

pub answer_from : (p : PropertyId) (parts : List TokenPart) (r : Result Declared ValueFault) → r ≡ declared_reading p parts → IsValueAnswer p parts r
answer_from p parts r e = subst (λ x. IsValueAnswer p parts x) (sym e) (answer_is p parts (declared_reading p parts) (reading_is p parts))

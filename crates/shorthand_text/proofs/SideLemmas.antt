-- What the shorthands of properties declare may be declared there.
use Rattle.std.proofs.Common.{◌≡◌, refl, ap, sym, subst, List, [], ◌∷◌, ◌++◌, length, nat_lt, map, cond, Bool, true, false, Option, Some, None, Ok, Err}
use Rattle.std.specs.Prelude.{All, IsTrue, option_map}
use Rattle.std.proofs.lemmas.List.Elements.{All-append, All-cons, All-head, All-nil, All-tail}
use Rattle.token_parts.specs.Parts.{TokenPart}
use Rattle.token_parts.specs.declared.fault.ValueFault.TheVariants.{Unsupported}
use Rattle.value_types.specs.Shorthands.{longhands_of}
use Rattle.fix_num.specs.declared.units.Fix.{Fix}
use Rattle.value_types.specs.Ranges.{IsInRange}
use Rattle.value_types.specs.Table.{is_inherited, takes}
use Rattle.value_types.specs.Validity.{IsDeclaredFor, IsDeclaredNumberFor, declared_range_of, kind_of_unit}
use Rattle.value_types.specs.declared.declared.Declared.{Declared}
use Rattle.value_types.specs.declared.declared.Declared.TheVariants as declared
use Rattle.value_types.specs.declared.list_value.ListName.{ListName}
use Rattle.value_types.specs.declared.list_value.ListValue.TheVariants.{Initial}
use Rattle.value_types.specs.declared.property.PropertyId.{PropertyId}
use Rattle.value_types.specs.declared.property.PropertyId.TheVariants as property
use Rattle.value_types.specs.declared.shorthand.Shorthand.{Shorthand}
use Rattle.value_types.specs.declared.shorthand.Shorthand.TheVariants as short
use Rattle.value_types.specs.declared.table.ValueKind.{ValueKind}
use Rattle.value_types.specs.declared.table.ValueKind.TheVariants as kind
use Rattle.value_text.specs.Reading.{declared_reading, or_unsupported, value_in}
use Rattle.value_text.specs.Spelling.{cascade_keyword, declared_by}
use Rattle.value_text.specs.declared.cascade.Keyword.{Keyword}
use Rattle.value_text.proofs.DeclaredLemmas.{answer_declared, keyword_declared}
use Rattle.value_text.proofs.ValueLemmas.{answer_from}
use Rattle.shorthand_text.specs.Longhands.{IsLonghand}
use Rattle.shorthand_text.specs.Outcomes.{all_given, outcome_then}
use Rattle.shorthand_text.specs.Sides.{box_in, initial_lists, keyword_in_all, lists_in, property_by, shorthand_from, shorthand_in, side_from, side_in, sides_in, sides_of, value_in_all}
use Rattle.shorthand_text.specs.declared.longhand.Longhand.{Longhand}
use Rattle.shorthand_text.specs.declared.longhand.Longhand.TheVariants as given
use Rattle.shorthand_text.specs.declared.sides.Sides.{Sides}
use Rattle.shorthand_text.proofs.OutcomeLemmas.{given_each, map_given, then_given}

-- ---- keywords of the cascade

pub supported : {A B : Type 0} (f : A → B) (o : Option A) (y : B) → or_unsupported (option_map f o) ≡ Ok y → (x : A) × (o ≡ Some x) × (f x ≡ y)
supported f None y h = absurd (cc)
supported f (Some x) y h = let e : f x ≡ y = cc in (x, refl, e)

by_keyword : (k : Keyword) (p : PropertyId) (x : Longhand) → property_by k p ≡ Ok x → IsLonghand x
by_keyword k p x h =
    let found = supported (given.Property p) (declared_by (is_inherited p) k) x h in
    subst IsLonghand found.2 (keyword_declared p (is_inherited p) k found.0 refl found.1)

pub initial_valid : (names : List ListName) → All IsLonghand (initial_lists names)
initial_valid [] = All-nil IsLonghand
initial_valid (n ∷ ns) = All-cons IsLonghand (given.List n Initial) (initial_lists ns) tt (initial_valid ns)

keyword_valid : (s : Shorthand) (k : Keyword) (ls : List Longhand) → keyword_in_all s k ≡ Ok ls → All IsLonghand ls
unfolding keyword_in_all
keyword_valid s k ls h =
    let found = map_given (λ xs. xs ++ initial_lists (lists_in s)) (all_given (map (property_by k) (longhands_of s))) ls h in
    subst (All IsLonghand) found.2
    (All-append IsLonghand found.0 (initial_lists (lists_in s)) (given_each IsLonghand (property_by k) (by_keyword k) (longhands_of s) found.0 found.1) (initial_valid (lists_in s)))

-- ---- values

value_declared : (p : PropertyId) (parts : List TokenPart) (d : Declared) → cascade_keyword parts ≡ None → value_in p parts ≡ Ok d → IsDeclaredFor p d
unfolding declared_reading
value_declared p parts d none h =
    let whole : declared_reading p parts ≡ Ok d = rw none h in
    answer_declared p parts (Ok d) (answer_from p parts (Ok d) (sym whole))

side_at : (p : PropertyId) (part : TokenPart) (k : Option Keyword) (d : Declared) → cascade_keyword (part ∷ []) ≡ k → side_from p part k ≡ Ok d → IsDeclaredFor p d
side_at p part (Some k) d e h = absurd (cc)
side_at p part None d e h = value_declared p (part ∷ []) d e h

side_declared : (p : PropertyId) (part : TokenPart) (d : Declared) → side_in p part ≡ Ok d → IsDeclaredFor p d
side_declared p part d h = side_at p part (cascade_keyword (part ∷ [])) d refl h

-- ---- the sides of a box

-- each side may be declared so
pub record AreSides (P : Declared → Type 0) (s : Sides) : Type 0 where
  pub bottom : P s.bottom
  pub left : P s.left
  pub right : P s.right
  pub top : P s.top

injected : {s t : Sides} → Some s ≡ Some t → s ≡ t
injected e = cc

some_is : (o : Option Sides) (s : Sides) → or_unsupported o ≡ Ok s → o ≡ Some s
some_is None s h = absurd (cc)
some_is (Some t) s h = let e : t ≡ s = cc in ap Some e

box_sides : (P : Declared → Type 0) (ds : List Declared) (s : Sides) → All P ds → sides_of ds ≡ Some s → AreSides P s
box_sides P [] s h e = absurd (cc)
box_sides P (a ∷ []) s h e =
    let one = All-head P a [] h in
    subst (AreSides P) (injected e) (record { bottom = one; left = one; right = one; top = one })
box_sides P (v ∷ h ∷ []) s hs e =
    let first = All-head P v (h ∷ []) hs in
    let second = All-head P h [] (All-tail P v (h ∷ []) hs) in
    subst (AreSides P) (injected e) (record { bottom = first; left = second; right = second; top = first })
box_sides P (t ∷ h ∷ b ∷ []) s hs e =
    let first = All-head P t (h ∷ b ∷ []) hs in
    let rest = All-tail P t (h ∷ b ∷ []) hs in
    let second = All-head P h (b ∷ []) rest in
    let third = All-head P b [] (All-tail P h (b ∷ []) rest) in
    subst (AreSides P) (injected e) (record { bottom = third; left = second; right = second; top = first })
box_sides P (t ∷ r ∷ b ∷ l ∷ []) s hs e =
    let first = All-head P t (r ∷ b ∷ l ∷ []) hs in
    let rest = All-tail P t (r ∷ b ∷ l ∷ []) hs in
    let second = All-head P r (b ∷ l ∷ []) rest in
    let more = All-tail P r (b ∷ l ∷ []) rest in
    let third = All-head P b (l ∷ []) more in
    let fourth = All-head P l [] (All-tail P b (l ∷ []) more) in
    subst (AreSides P) (injected e) (record { bottom = third; left = fourth; right = second; top = first })
box_sides P (a ∷ b ∷ c ∷ d ∷ x ∷ xs) s hs e = absurd (cc)

sides_at : (p : PropertyId) (parts : List TokenPart) (many : Bool) (s : Sides)
    → cond many (Err Unsupported) (outcome_then (all_given (map (side_in p) parts)) (λ ds. or_unsupported (sides_of ds))) ≡ Ok s → AreSides (IsDeclaredFor p) s
sides_at p parts true s h = absurd (cc)
sides_at p parts false s h =
    let found = then_given (all_given (map (side_in p) parts)) (λ ds. or_unsupported (sides_of ds)) s h in
    box_sides (IsDeclaredFor p) found.0 s (given_each (IsDeclaredFor p) (side_in p) (side_declared p) parts found.0 found.1) (some_is (sides_of found.0) s found.2)

sides_declared : (p : PropertyId) (parts : List TokenPart) (s : Sides) → sides_in p parts ≡ Ok s → AreSides (IsDeclaredFor p) s
unfolding sides_in
sides_declared p parts s h = sides_at p parts (nat_lt 4 (length parts)) s h

-- the properties have one row of the table
pub record HasRowOf (p q : PropertyId) : Type 0 where
  pub inherited : is_inherited p ≡ is_inherited q
  pub kinds : (k : ValueKind) → takes p k ≡ takes q k
  pub range : declared_range_of p ≡ declared_range_of q

number_moves : (p q : PropertyId) (n : Fix) → HasRowOf p q → IsDeclaredNumberFor p n → IsDeclaredNumberFor q n
number_moves p q n r h = record { limit = h.limit; in_range = subst (λ range. IsInRange range n) r.range h.in_range }

kind_moves : (p q : PropertyId) (k : ValueKind) → HasRowOf p q → IsTrue (takes p k) → IsTrue (takes q k)
kind_moves p q k r h = subst IsTrue (r.kinds k) h

-- what may be declared of one may be declared of the other
declared_moves : (p q : PropertyId) (d : Declared) → HasRowOf p q → IsDeclaredFor p d → IsDeclaredFor q d
declared_moves p q declared.Inherit r h = subst IsTrue r.inherited h
declared_moves p q declared.Initial r h = tt
declared_moves p q (declared.Number n) r h = (kind_moves p q kind.Number r h.0, number_moves p q n r h.1)
declared_moves p q (declared.Length s) r h = (kind_moves p q kind.Length r h.0, kind_moves p q (kind_of_unit s.unit) r h.1, number_moves p q s.amount r h.2)
declared_moves p q declared.Auto r h = kind_moves p q kind.Auto r h
declared_moves p q (declared.Int i) r h = (kind_moves p q kind.Int r h.0, h.1)
declared_moves p q (declared.Color red green blue a) r h = (kind_moves p q kind.Color r h.0, h.1)
declared_moves p q (declared.Angle n) r h = (kind_moves p q kind.Angle r h.0, number_moves p q n r h.1)
declared_moves p q (declared.Pair x y) r h = (kind_moves p q kind.Pair r h.0, number_moves p q x.amount r h.1, number_moves p q y.amount r h.2)
declared_moves p q declared.Absent r h = kind_moves p q kind.Absent r h
declared_moves p q (declared.Visible v) r h = kind_moves p q kind.Visibility r h
declared_moves p q (declared.Display v) r h = kind_moves p q kind.Display r h

pub all_four : (a b c d : Longhand) → IsLonghand a → IsLonghand b → IsLonghand c → IsLonghand d → All IsLonghand (a ∷ b ∷ c ∷ d ∷ [])
all_four a b c d first second third fourth =
    All-cons IsLonghand a (b ∷ c ∷ d ∷ []) first
    (All-cons IsLonghand b (c ∷ d ∷ []) second (All-cons IsLonghand c (d ∷ []) third (All-cons IsLonghand d [] fourth (All-nil IsLonghand))))

-- the four longhands of a box may be declared so
box_valid : (bottom left right top : PropertyId) (parts : List TokenPart) (ls : List Longhand) → HasRowOf top bottom → HasRowOf top left → HasRowOf top right
    → box_in (bottom ∷ left ∷ right ∷ top ∷ []) parts ≡ Ok ls → All IsLonghand ls
box_valid bottom left right top parts ls b l r h =
    let found = map_given (λ (s : Sides). given.Property bottom s.bottom ∷ given.Property left s.left ∷ given.Property right s.right ∷ given.Property top s.top ∷ []) (sides_in top parts) ls h in
    let s : Sides = found.0 in
    let sides = sides_declared top parts s found.1 in
    subst (All IsLonghand) found.2
    (all_four (given.Property bottom s.bottom) (given.Property left s.left) (given.Property right s.right) (given.Property top s.top)
    (declared_moves top bottom s.bottom b sides.bottom) (declared_moves top left s.left l sides.left) (declared_moves top right s.right r sides.right) sides.top)

value_valid : (s : Shorthand) (parts : List TokenPart) (ls : List Longhand) → cascade_keyword parts ≡ None → value_in_all s parts ≡ Ok ls → All IsLonghand ls
value_valid short.All parts ls none h = absurd (cc)
value_valid short.Background parts ls none h =
    let found = map_given (λ d. given.Property property.BackgroundColor d ∷ []) (value_in property.BackgroundColor parts) ls h in
    subst (All IsLonghand) found.2
    (All-cons IsLonghand (given.Property property.BackgroundColor found.0) [] (value_declared property.BackgroundColor parts found.0 none found.1) (All-nil IsLonghand))
value_valid short.Inset parts ls none h =
    box_valid property.Bottom property.Left property.Right property.Top parts ls (record { inherited = refl; kinds = λ k. refl; range = refl })
    (record { inherited = refl; kinds = λ k. refl; range = refl }) (record { inherited = refl; kinds = λ k. refl; range = refl }) h
value_valid short.Margin parts ls none h =
    box_valid property.MarginBottom property.MarginLeft property.MarginRight property.MarginTop parts ls (record { inherited = refl; kinds = λ k. refl; range = refl })
    (record { inherited = refl; kinds = λ k. refl; range = refl }) (record { inherited = refl; kinds = λ k. refl; range = refl }) h
value_valid short.Padding parts ls none h =
    box_valid property.PaddingBottom property.PaddingLeft property.PaddingRight property.PaddingTop parts ls (record { inherited = refl; kinds = λ k. refl; range = refl })
    (record { inherited = refl; kinds = λ k. refl; range = refl }) (record { inherited = refl; kinds = λ k. refl; range = refl }) h

from_valid : (s : Shorthand) (parts : List TokenPart) (k : Option Keyword) (ls : List Longhand) → cascade_keyword parts ≡ k → shorthand_from s parts k ≡ Ok ls → All IsLonghand ls
from_valid s parts (Some k) ls e h = keyword_valid s k ls h
from_valid s parts None ls e h = value_valid s parts ls e h

pub shorthand_valid : (s : Shorthand) (parts : List TokenPart) (ls : List Longhand) → shorthand_in s parts ≡ Ok ls → All IsLonghand ls
unfolding shorthand_in
shorthand_valid s parts ls h = from_valid s parts (cascade_keyword parts) ls refl h

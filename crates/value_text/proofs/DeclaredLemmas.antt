-- A value that is spelled within its limits is a declared value of the property.
use Rattle.std.proofs.Common.{◌≡◌, ℕ, ◌<◌, ◌≤◌, nat_le, ◌&&◌, leb-true, length, get_or, refl, arith, ap, subst, sym, List, ◌∷◌, [], cond, Bool, true, false, IsTrue, Option, Some, None, Result, Ok, Err, pos}
use Rattle.std.specs.Prelude.{IfOk, option_map}
use Rattle.std.specs.List.{list_all}
use Rattle.std.specs.Char.{is_ascii_hexdigit}
use Rattle.std.proofs.lemmas.Bool.{and_parts}
use Rattle.std.proofs.lemmas.Bool.Decides.{nat_tests}
use Rattle.std.proofs.lemmas.Int.{ints}
use Rattle.fix_num.specs.Rounding.{rounded_quotient}
use Rattle.fix_num.specs.declared.units.Fix.{Fix}
use Rattle.fix_num.proofs.RoundingLemmas.{rounded_size}
use Rattle.token_parts.specs.Keywords.{look_up}
use Rattle.token_parts.specs.Parts.{TokenPart}
use Rattle.token_parts.proofs.KeywordLemmas.{row_passes}
use Rattle.token_parts.specs.declared.fault.ValueFault.{ValueFault}
use Rattle.value_types.specs.Table.{is_inherited, takes}
use Rattle.value_types.specs.Ranges.{IsInRange, IsWithinLimit}
use Rattle.value_types.specs.Validity.{IsAlpha, IsDeclaredFor, IsDeclaredNumberFor, IsRgba, IsSizeFor, declared_range_of, kind_of_unit}
use Rattle.value_types.specs.declared.declared.Declared.{Declared}
use Rattle.value_types.specs.declared.declared.Declared.TheVariants as declared
use Rattle.value_types.specs.declared.declared.Size.{Size}
use Rattle.value_types.specs.declared.declared.Unit.{«Unit»}
use Rattle.value_types.specs.declared.declared.Unit.TheVariants as unit
use Rattle.value_types.specs.declared.property.PropertyId.{PropertyId}
use Rattle.value_types.specs.declared.property.PropertyId.TheVariants as property
use Rattle.value_types.specs.declared.table.ValueKind.{ValueKind}
use Rattle.value_types.specs.declared.table.ValueKind.TheVariants as kind
use Rattle.value_types.specs.declared.range.ValueRange.{ValueRange}
use Rattle.value_types.specs.declared.range.ValueRange.TheVariants as range
use Rattle.value_text.specs.declared.cascade.Keyword.{Keyword}
use Rattle.value_text.specs.declared.cascade.Keyword.TheVariants as cascade
use Rattle.value_text.specs.declared.color.Rgba.{Rgba}
use Rattle.value_text.specs.Colors.{IsColor, alpha_of, color_named, color_words, digit_of, double_of, hex_color, hex_digits, opaque, pair_of, rgba}
use Rattle.value_text.specs.Colors as colors
use Rattle.value_text.specs.Numbers.{IsNumberText}
use Rattle.value_text.specs.Sizes.{IsLength, IsPercent, length_units, zero_pixels}
use Rattle.value_text.specs.Sizes as sizes
use Rattle.value_text.specs.Spelling.{IsValueAnswer, IsPart, IsSpelled, IsSpelling, cascade_keyword, declared_color, declared_by, declared_percent}
use Rattle.value_text.specs.Spelling as spelling
use Rattle.value_text.proofs.HexLemmas.{hex_at}

-- ---- numbers

in_limits : (p : PropertyId) (text : List ℕ) (n : Fix) → IsNumberText true (declared_range_of p) text n → IsDeclaredNumberFor p n
in_limits p text n h = record { limit = h.limit refl; in_range = h.in_range }

none_in_range : (r : ValueRange) → IsInRange r (record { 0 = pos 0 })
none_in_range range.All = tt
none_in_range range.NotNegative = omega (arith, ints)
none_in_range range.ZeroToOne = (omega (arith, ints), omega (arith, ints))
none_in_range range.Nothing = tt

none_in_limits : (p : PropertyId) → IsDeclaredNumberFor p (record { 0 = pos 0 })
none_in_limits p = record { limit = omega (arith, ints); in_range = none_in_range (declared_range_of p) }

-- ---- lengths and percents

units_at : (a b c : Bool) (u : «Unit») → cond a (Some unit.Px) (cond b (Some unit.Em) (cond c (Some unit.Rem) None)) ≡ Some u → kind_of_unit u ≡ kind.Length
units_at true b c u h = let same : unit.Px ≡ u = cc in ap kind_of_unit (sym same)
units_at false true c u h = let same : unit.Em ≡ u = cc in ap kind_of_unit (sym same)
units_at false false true u h = let same : unit.Rem ≡ u = cc in ap kind_of_unit (sym same)
units_at false false false u h = absurd (cc)

unit_of_length : (word : List ℕ) (u : «Unit») → look_up length_units word ≡ Some u → kind_of_unit u ≡ kind.Length
unit_of_length word u h = units_at _ _ _ u h

length_size : (p : PropertyId) (part : TokenPart) (s : Size) → IsTrue (takes p kind.Length) → IsLength true (declared_range_of p) part s → IsSizeFor p s
length_size p part s t (sizes.with_unit text word z u n) =
    (t, subst (λ k. IsTrue (takes p k)) (sym (unit_of_length word z.unit u)) t, in_limits p text z.amount n)
length_size p part s t (sizes.zero text z n is) = subst (IsSizeFor p) (sym is) (t, t, none_in_limits p)

never : {A : Type 0} → false ≡ true → A
never h = absurd (cc)

-- a percent of opacity is no greater as a number
hundredth_in_limits : (n : Fix) → IsWithinLimit n → IsDeclaredNumberFor property.Opacity (record { 0 = rounded_quotient n.0 (pos 100) })
hundredth_in_limits n h = let size = rounded_size n.0 100 (omega arith) in record { limit = omega (arith, size); in_range = tt }

percent_size : (p : PropertyId) (s : Size) → s.unit ≡ unit.Percent → IsTrue (takes p kind.Percent) → IsDeclaredNumberFor p s.amount → IsDeclaredFor p (declared_percent p s)
percent_size property.Opacity s u t n = (refl, hundredth_in_limits s.amount n.limit)
percent_size property.BackgroundColor s u t n = never t
percent_size property.Color s u t n = never t
percent_size property.Display s u t n = never t
percent_size property.LetterSpacing s u t n = never t
percent_size property.Rotate s u t n = never t
percent_size property.Translate s u t n = never t
percent_size property.Visibility s u t n = never t
percent_size property.ZIndex s u t n = never t
percent_size p s u t n = (refl, subst (λ v. IsTrue (takes p (kind_of_unit v))) (sym u) t, n)

percent_declared : (p : PropertyId) (part : TokenPart) (s : Size) → IsTrue (takes p kind.Percent) → IsPercent true (declared_range_of p) part s → IsDeclaredFor p (declared_percent p s)
percent_declared p part s t (sizes.percent text z u n) = percent_size p z u t (in_limits p text z.amount n)

normal_size : (p : PropertyId) → IsTrue (takes p kind.Normal) → IsSizeFor p zero_pixels
normal_size property.LetterSpacing t = (refl, refl, none_in_limits property.LetterSpacing)
normal_size p t = never t

-- ---- pairs

length_in_all : (part : TokenPart) (s : Size) → IsLength true range.All part s → IsWithinLimit s.amount
length_in_all part s (sizes.with_unit text word z u n) = n.limit refl
length_in_all part s (sizes.zero text z n is) = subst (λ (y : Size). IsWithinLimit y.amount) (sym is) (omega (arith, ints))

percent_in_all : (part : TokenPart) (s : Size) → IsPercent true range.All part s → IsWithinLimit s.amount
percent_in_all part s (sizes.percent text z u n) = n.limit refl

pair_in_range : (p : PropertyId) (n : Fix) → IsTrue (takes p kind.Pair) → IsInRange (declared_range_of p) n
pair_in_range property.Translate n t = tt
pair_in_range p n t = never t

part_in_limits : (p : PropertyId) (part : TokenPart) (s : Size) → IsTrue (takes p kind.Pair) → IsPart true part s → IsDeclaredNumberFor p s.amount
part_in_limits p part s t (spelling.length h) = record { limit = length_in_all part s h; in_range = pair_in_range p s.amount t }
part_in_limits p part s t (spelling.percent h) = record { limit = percent_in_all part s h; in_range = pair_in_range p s.amount t }

-- ---- colours

-- the colour's channels and its alpha are in their ranges
abbrev pub IsInside : Rgba → Type 0
IsInside c = IsRgba c.r c.g c.b c.a

alpha_of_one : (n : ℕ) → n ≤ 1000000 → IsAlpha (record { 0 = pos n })
alpha_of_one n h = (omega (arith, ints), omega (arith, ints))

-- named channels
are_channels : ℕ × ℕ × ℕ → Bool
are_channels c = nat_le c.0 255 && nat_le c.1 255 && nat_le c.2 255

named_channels : (word : List ℕ) (c : ℕ × ℕ × ℕ) → look_up color_words word ≡ Some c → are_channels c ≡ true
unfolding are_channels
named_channels word c h = row_passes are_channels color_words word c refl h

opaque_inside : (c : ℕ × ℕ × ℕ) → are_channels c ≡ true → IsInside (opaque c)
unfolding are_channels
opaque_inside c h =
    let both = and_parts (nat_le c.0 255 && nat_le c.1 255) _ h in
    let first = and_parts (nat_le c.0 255) _ both.0 in
    record { red = leb-true c.0 255 first.0; green = leb-true c.1 255 first.1; blue = leb-true c.2 255 both.1; alpha = alpha_of_one 1000000 (omega arith) }

named_inside : (word : List ℕ) (b : Bool) (o : Option (ℕ × ℕ × ℕ)) (c : Rgba) → look_up color_words word ≡ o
    → cond b (Some (rgba 0 0 0 (pos 0))) (option_map opaque o) ≡ Some c → IsInside c
named_inside word true o c e h =
    let same : rgba 0 0 0 (pos 0) ≡ c = cc in
    subst IsInside same (record { red = omega arith; green = omega arith; blue = omega arith; alpha = alpha_of_one 0 (omega arith) })
named_inside word false (Some x) c e h = let same : opaque x ≡ c = cc in subst IsInside same (opaque_inside x (named_channels word x e))
named_inside word false None c e h = absurd (cc)

digit_below : (c : ℕ) → IsTrue (is_ascii_hexdigit c) → digit_of c < 16
digit_below c h = grind (arith, nat_tests)

pair_below : (c d : ℕ) → IsTrue (is_ascii_hexdigit c) → IsTrue (is_ascii_hexdigit d) → pair_of c d ≤ 255
pair_below c d h k = let high = digit_below c h in let low = digit_below d k in omega (arith, high, low)

part_of_255 : (h : ℕ) → h ≤ 255 → IsAlpha (record { 0 = alpha_of h })
unfolding rounded_quotient
part_of_255 h small = (omega (arith, ints), omega (arith, ints))

-- the pair of digits at two places
pair_at : (text : List ℕ) (i j : ℕ) → IsTrue (list_all is_ascii_hexdigit text) → i < length text → j < length text → pair_of (get_or text i 0) (get_or text j 0) ≤ 255
pair_at text i j all h k = pair_below (get_or text i 0) (get_or text j 0) (hex_at text i all h) (hex_at text j all k)

hex_digits_inside : (text : List ℕ) (c : Rgba) → IsTrue (list_all is_ascii_hexdigit text) → hex_digits text ≡ Some c → IsInside c
hex_digits_inside (r ∷ g ∷ b ∷ []) c all h =
    let same : rgba (double_of r) (double_of g) (double_of b) (pos 1000000) ≡ c = cc in
    let at = pair_at (r ∷ g ∷ b ∷ []) in
    subst IsInside same (record {
      red = at 0 0 all (omega arith) (omega arith);
      green = at 1 1 all (omega arith) (omega arith);
      blue = at 2 2 all (omega arith) (omega arith);
      alpha = alpha_of_one 1000000 (omega arith);
    })
hex_digits_inside (r ∷ g ∷ b ∷ a ∷ []) c all h =
    let same : rgba (double_of r) (double_of g) (double_of b) (alpha_of (double_of a)) ≡ c = cc in
    let at = pair_at (r ∷ g ∷ b ∷ a ∷ []) in
    subst IsInside same (record {
      red = at 0 0 all (omega arith) (omega arith);
      green = at 1 1 all (omega arith) (omega arith);
      blue = at 2 2 all (omega arith) (omega arith);
      alpha = part_of_255 (double_of a) (at 3 3 all (omega arith) (omega arith));
    })
hex_digits_inside (r ∷ r2 ∷ g ∷ g2 ∷ b ∷ b2 ∷ []) c all h =
    let same : rgba (pair_of r r2) (pair_of g g2) (pair_of b b2) (pos 1000000) ≡ c = cc in
    let at = pair_at (r ∷ r2 ∷ g ∷ g2 ∷ b ∷ b2 ∷ []) in
    subst IsInside same (record {
      red = at 0 1 all (omega arith) (omega arith);
      green = at 2 3 all (omega arith) (omega arith);
      blue = at 4 5 all (omega arith) (omega arith);
      alpha = alpha_of_one 1000000 (omega arith);
    })
hex_digits_inside (r ∷ r2 ∷ g ∷ g2 ∷ b ∷ b2 ∷ a ∷ a2 ∷ []) c all h =
    let same : rgba (pair_of r r2) (pair_of g g2) (pair_of b b2) (alpha_of (pair_of a a2)) ≡ c = cc in
    let at = pair_at (r ∷ r2 ∷ g ∷ g2 ∷ b ∷ b2 ∷ a ∷ a2 ∷ []) in
    subst IsInside same (record {
      red = at 0 1 all (omega arith) (omega arith);
      green = at 2 3 all (omega arith) (omega arith);
      blue = at 4 5 all (omega arith) (omega arith);
      alpha = part_of_255 (pair_of a a2) (at 6 7 all (omega arith) (omega arith));
    })
hex_digits_inside text c all h = absurd (cc)

hex_chosen : (text : List ℕ) (c : Rgba) (b : Bool) → list_all is_ascii_hexdigit text ≡ b → cond b (hex_digits text) None ≡ Some c → IsInside c
hex_chosen text c true all h = hex_digits_inside text c all h
hex_chosen text c false all h = absurd (cc)

color_inside : (parts : List TokenPart) (c : Rgba) → IsColor parts c → IsInside c
unfolding color_named hex_color
color_inside parts c (colors.named word d e) = named_inside word _ (look_up color_words word) d refl e
color_inside parts c (colors.hexadecimal digits d e) = hex_chosen digits d (list_all is_ascii_hexdigit digits) refl e
color_inside parts c (colors.channels name r g b d f x y z a) =
    record { red = x.high; green = y.high; blue = z.high; alpha = subst IsAlpha (sym a) (alpha_of_one 1000000 (omega arith)) }
color_inside parts c (colors.channels_and_alpha name r g b a d f x y z h) = record { red = x.high; green = y.high; blue = z.high; alpha = h.in_range }

-- ---- declared values

value_declared : (p : PropertyId) (k : ValueKind) (parts : List TokenPart) (d : Declared) → IsTrue (takes p k) → IsSpelling true p k parts d → IsDeclaredFor p d
value_declared p k parts d t (spelling.number text n h) = (t, in_limits p text n h)
value_declared p k parts d t (spelling.length part s h) = length_size p part s t h
value_declared p k parts d t (spelling.percent part s e h is) = subst (IsDeclaredFor p) (sym is) (percent_declared p part s t h)
value_declared p k parts d t (spelling.auto word h) = t
value_declared p k parts d t (spelling.normal word h) = normal_size p t
value_declared p k parts d t (spelling.integer text i h) = (t, h.limit refl)
value_declared p k parts d t (spelling.color ps c h) = (t, color_inside ps c h)
value_declared p k parts d t (spelling.angle text word n u h) = (t, in_limits p text n h)
value_declared p k parts d t (spelling.one_part part x h) = (t, part_in_limits p part x t h, none_in_limits p)
value_declared p k parts d t (spelling.two_parts first second x y h j) = (t, part_in_limits p first x t h, part_in_limits p second y t j)
value_declared p k parts d t (spelling.absent word h) = t
value_declared p k parts d t (spelling.visibility word v h) = t
value_declared p k parts d t (spelling.display word v h) = t

pub keyword_declared : (p : PropertyId) (b : Bool) (k : Keyword) (d : Declared) → is_inherited p ≡ b → declared_by b k ≡ Some d → IsDeclaredFor p d
keyword_declared p b cascade.Initial d e h = let same : declared.Initial ≡ d = cc in subst (IsDeclaredFor p) same tt
keyword_declared p true cascade.Inherit d e h = let same : declared.Inherit ≡ d = cc in subst (IsDeclaredFor p) same e
keyword_declared p false cascade.Inherit d e h = absurd (cc)
keyword_declared p true cascade.Unset d e h = let same : declared.Inherit ≡ d = cc in subst (IsDeclaredFor p) same e
keyword_declared p false cascade.Unset d e h = let same : declared.Initial ≡ d = cc in subst (IsDeclaredFor p) same tt

pub spelled_declared : (p : PropertyId) (parts : List TokenPart) (d : Declared) → IsSpelled true p parts d → IsDeclaredFor p d
spelled_declared p parts d (spelling.keyword k is h) = keyword_declared p (is_inherited p) k d refl h
spelled_declared p parts d (spelling.value k none t h) = value_declared p k parts d t h

pub answer_declared : (p : PropertyId) (parts : List TokenPart) (r : Result Declared ValueFault) → IsValueAnswer p parts r → IfOk r (IsDeclaredFor p)
answer_declared p parts (Ok d) h = spelled_declared p parts d h
answer_declared p parts (Err fault) h = tt

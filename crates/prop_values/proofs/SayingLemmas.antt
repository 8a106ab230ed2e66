-- What printed pieces say, before whatever follows them.
use Rattle.std.proofs.Common.{◌≡◌, ℕ, ◌+◌, ◌-◌, ◌<◌, false, List, [], ◌∷◌, ◌++◌, length, Some, None, eqb, refl, sym, ap, ◌∙◌, subst, arith, append_assoc, length-append}
use Rattle.std.specs.Prelude.{codes}
use Rattle.std.specs.Char.{is_ascii_digit, is_ascii_whitespace}
use Rattle.css_token.specs.Productions.{IsNumber}
use Rattle.css_token.specs.Fronts.{fraction_len, unsigned_len, identifier_len, number_len, lone_piece, name_piece, mark_piece}
use Rattle.css_token.specs.Reading.{tokens_at_piece}
use Rattle.css_token.specs.declared.token.Kind.{Kind}
use Rattle.css_token.specs.declared.token.Kind.TheVariants as kind
use Rattle.css_token.proofs.Fronts.{at_mark, at_name}
use Rattle.css_token.proofs.Numbers.{number_some}
use Rattle.token_parts.specs.Parts.{TokenPart, Function, Number, Percent, Dimension, Comma, Close, Other}
use Rattle.prop_values.proofs.FrontLemmas.{IsEnd, at_dimension, at_lone_number, at_one_space, at_percent, degrees_unit, first_byte, number_no_space, pixels_unit}
use Rattle.prop_values.proofs.PartLemmas.{IsFirst, Says, says_next, says_nothing, slice_is}

-- the text says these parts wherever it stands
abbrev pub Saying : List ℕ → List TokenPart → Type 0
Saying rest parts = (front : List ℕ) → Says front rest parts

pub saying_same : (text other : List ℕ) (parts : List TokenPart) → text ≡ other → Saying other parts → Saying text parts
saying_same text other parts is says = subst (λ l. Saying l parts) (sym is) says

-- the same text and length
first_same : (at : ℕ) (text other : List ℕ) (kind : Kind) (len more : ℕ) → text ≡ other → len ≡ more → IsFirst at other kind more → IsFirst at text kind len
first_same at text other kind len more is same first = subst (λ l. IsFirst at l kind len) (sym is) (subst (IsFirst at other kind) (sym same) first)

-- ---- numbers

pub saying_number : (number rest : List ℕ) (parts : List TokenPart) → IsNumber number → IsEnd rest → Saying rest parts → Saying (number ++ rest) (Number number ∷ parts)
saying_number number rest parts is end more front =
    says_next front number rest kind.Number (Some (Number number)) parts (number_some number is) (at_lone_number (length front) number rest is end)
    (ap (λ l. Some (Number l)) (slice_is (front ++ (number ++ rest)) front number rest (length front) (length front + length number) refl refl refl)) (more (front ++ number))

pub saying_percent : (number rest : List ℕ) (parts : List TokenPart) → IsNumber number → Saying rest parts → Saying (number ++ codes "%" ++ rest) (Percent number ∷ parts)
saying_percent number rest parts is more front =
    let bytes = number ++ 37 ∷ [] in
    let size : length (number ++ 37 ∷ []) ≡ length number + 1 = length-append number (37 ∷ []) in
    let regrouped : number ++ 37 ∷ [] ++ rest ≡ number ++ 37 ∷ rest = append_assoc number (37 ∷ []) rest in
    says_next front bytes rest kind.Percent (Some (Percent number)) parts (omega (arith, size))
    (first_same (length front) (bytes ++ rest) (number ++ 37 ∷ rest) kind.Percent _ _ regrouped size (at_percent (length front) number rest is))
    (ap (λ l. Some (Percent l))
    (slice_is (front ++ (bytes ++ rest)) front number (37 ∷ rest) (length front) (length front + length bytes - 1) (ap (λ l. front ++ l) regrouped) refl (omega (arith, size))))
    (more (front ++ bytes))

saying_dimension : (number unit rest : List ℕ) (parts : List TokenPart) → IsNumber number → is_ascii_digit (first_byte unit) ≡ false → eqb (first_byte unit) 46 ≡ false → eqb (first_byte unit) 37 ≡ false
    → first_byte (unit ++ rest) ≡ first_byte unit → identifier_len (unit ++ rest) ≡ length unit → 0 < length unit
    → Saying rest parts → Saying (number ++ unit ++ rest) (Dimension number unit ∷ parts)
saying_dimension number unit rest parts is digit point percent same name some more front =
    let bytes = number ++ unit in
    let size : length (number ++ unit) ≡ length number + length unit = length-append number unit in
    let regrouped : number ++ unit ++ rest ≡ number ++ (unit ++ rest) = append_assoc number unit rest in
    let text = front ++ (bytes ++ rest) in
    let from = length front in
    let at = length front + length number in
    let to = length front + length bytes in
    let whole : front ++ (number ++ unit ++ rest) ≡ front ++ (number ++ (unit ++ rest)) = ap (λ l. front ++ l) regrouped in
    let first = slice_is text front number (unit ++ rest) from at whole refl refl in
    let second = slice_is text (front ++ number) unit rest at to (whole ∙ sym (append_assoc front number (unit ++ rest))) (sym (length-append front number)) (omega (arith, size, length-append front number)) in
    says_next front bytes rest (kind.Dimension at) (Some (Dimension number unit)) parts (omega (arith, size))
    (first_same from (bytes ++ rest) (number ++ (unit ++ rest)) (kind.Dimension at) _ _ regrouped size (at_dimension from number unit rest is digit point percent same name some))
    (λ i. Some (Dimension (first i) (second i))) (more (front ++ bytes))

pub saying_pixels : (number rest : List ℕ) (parts : List TokenPart) → IsNumber number → IsEnd rest → Saying rest parts → Saying (number ++ codes "px" ++ rest) (Dimension number (codes "px") ∷ parts)
saying_pixels number rest parts is end more = saying_dimension number (codes "px") rest parts is refl refl refl refl (pixels_unit rest end) (omega arith) more

pub saying_degrees : (number rest : List ℕ) (parts : List TokenPart) → IsNumber number → IsEnd rest → Saying rest parts → Saying (number ++ codes "deg" ++ rest) (Dimension number (codes "deg") ∷ parts)
saying_degrees number rest parts is end more = saying_dimension number (codes "deg") rest parts is refl refl refl refl (degrees_unit rest end) (omega arith) more

-- ---- what stands between them

pub saying_blank : (rest : List ℕ) (parts : List TokenPart) → is_ascii_whitespace (first_byte rest) ≡ false → Saying rest parts → Saying (32 ∷ rest) parts
saying_blank rest parts none more front =
    says_next front (32 ∷ []) rest kind.Space None parts (omega arith) (at_one_space (length front) rest none) refl (more (front ++ 32 ∷ []))

pub saying_space : (number rest : List ℕ) (parts : List TokenPart) → IsNumber number → Saying (number ++ rest) parts → Saying (32 ∷ (number ++ rest)) parts
saying_space number rest parts is more = saying_blank (number ++ rest) parts (number_no_space number rest is) more

-- a sign between two spaces
pub saying_plus : (rest : List ℕ) (parts : List TokenPart) → Saying (32 ∷ rest) parts → Saying (43 ∷ 32 ∷ rest) (Other ∷ parts)
unfolding number_len unsigned_len fraction_len mark_piece lone_piece
saying_plus rest parts more front =
    says_next front (43 ∷ []) (32 ∷ rest) kind.Delim (Some Other) parts (omega arith)
    (λ tail. ap (λ piece. tokens_at_piece (length front) piece tail) (at_mark (length front) (43 ∷ 32 ∷ rest) refl refl refl refl refl)) refl (more (front ++ 43 ∷ []))

pub saying_minus : (rest : List ℕ) (parts : List TokenPart) → Saying (32 ∷ rest) parts → Saying (45 ∷ 32 ∷ rest) (Other ∷ parts)
unfolding number_len unsigned_len fraction_len mark_piece lone_piece
saying_minus rest parts more front =
    says_next front (45 ∷ []) (32 ∷ rest) kind.Delim (Some Other) parts (omega arith)
    (λ tail. ap (λ piece. tokens_at_piece (length front) piece tail) (at_mark (length front) (45 ∷ 32 ∷ rest) refl refl refl refl refl)) refl (more (front ++ 45 ∷ []))

pub saying_comma : (rest : List ℕ) (parts : List TokenPart) → Saying rest parts → Saying (44 ∷ rest) (Comma ∷ parts)
unfolding number_len unsigned_len fraction_len mark_piece lone_piece
saying_comma rest parts more front =
    says_next front (44 ∷ []) rest kind.Comma (Some Comma) parts (omega arith) (λ tail. ap (λ piece. tokens_at_piece (length front) piece tail) (at_mark (length front) (44 ∷ rest) refl refl refl refl refl)) refl (more (front ++ 44 ∷ []))

pub saying_close : (rest : List ℕ) (parts : List TokenPart) → Saying rest parts → Saying (41 ∷ rest) (Close ∷ parts)
unfolding number_len unsigned_len fraction_len mark_piece lone_piece
saying_close rest parts more front =
    says_next front (41 ∷ []) rest kind.RoundClose (Some Close) parts (omega arith) (λ tail. ap (λ piece. tokens_at_piece (length front) piece tail) (at_mark (length front) (41 ∷ rest) refl refl refl refl refl)) refl (more (front ++ 41 ∷ []))

pub saying_nothing : Saying [] []
saying_nothing front = says_nothing front

-- ---- functions

pub saying_rgb : (rest : List ℕ) (parts : List TokenPart) → Saying rest parts → Saying (codes "rgb(" ++ rest) (Function (codes "rgb") ∷ parts)
unfolding name_piece identifier_len
saying_rgb rest parts more front =
    says_next front (codes "rgb(") rest kind.Function (Some (Function (codes "rgb"))) parts (omega arith) (λ tail. ap (λ piece. tokens_at_piece (length front) piece tail) (at_name (length front) (codes "rgb(" ++ rest) refl refl))
    (ap (λ l. Some (Function l)) (slice_is (front ++ (codes "rgb(" ++ rest)) front (codes "rgb") (40 ∷ rest) (length front) (length front + 4 - 1) refl refl (omega arith))) (more (front ++ codes "rgb("))

pub saying_rgba : (rest : List ℕ) (parts : List TokenPart) → Saying rest parts → Saying (codes "rgba(" ++ rest) (Function (codes "rgba") ∷ parts)
unfolding name_piece identifier_len
saying_rgba rest parts more front =
    says_next front (codes "rgba(") rest kind.Function (Some (Function (codes "rgba"))) parts (omega arith) (λ tail. ap (λ piece. tokens_at_piece (length front) piece tail) (at_name (length front) (codes "rgba(" ++ rest) refl refl))
    (ap (λ l. Some (Function l)) (slice_is (front ++ (codes "rgba(" ++ rest)) front (codes "rgba") (40 ∷ rest) (length front) (length front + 5 - 1) refl refl (omega arith))) (more (front ++ codes "rgba("))

pub saying_calc : (rest : List ℕ) (parts : List TokenPart) → Saying rest parts → Saying (codes "calc(" ++ rest) (Function (codes "calc") ∷ parts)
unfolding name_piece identifier_len
saying_calc rest parts more front =
    says_next front (codes "calc(") rest kind.Function (Some (Function (codes "calc"))) parts (omega arith)
    (λ tail. ap (λ piece. tokens_at_piece (length front) piece tail) (at_name (length front) (codes "calc(" ++ rest) refl refl))
    (ap (λ l. Some (Function l)) (slice_is (front ++ (codes "calc(" ++ rest)) front (codes "calc") (40 ∷ rest) (length front) (length front + 5 - 1) refl refl (omega arith)))
    (more (front ++ codes "calc("))

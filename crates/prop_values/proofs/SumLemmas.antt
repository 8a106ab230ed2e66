-- A sum of a length and a percent is not read.
use Rattle.std.proofs.Common.{◌≡◌, ℕ, ◌^◌, ◌<◌, true, false, List, [], ◌∷◌, ◌++◌, inl, inr, None, Some, Err, ℤ, pos, negsuc, unsigned_abs, refl, sym, ap, ◌∙◌, append_assoc}
use Rattle.std.specs.Prelude.{codes}
use Rattle.std.specs.Ordering.{int_eq}
use Rattle.std.proofs.lemmas.Bool.{cases_Bool, cond-false, false≢true}
use Rattle.std.proofs.lemmas.Bool.Decides.{Decides-int_eq}
use Rattle.std.proofs.lemmas.List.{append-nil}
use Rattle.css_token.specs.Productions.{IsNumber}
use Rattle.css_token.proofs.Lists.{tokens_are_one}
use Rattle.fix_num.specs.Print.{decimal_text}
use Rattle.fix_num.specs.declared.units.Fix.{Fix}
use Rattle.token_parts.specs.Parts.{TokenPart, Function, Percent, Dimension, Close, Other, token_parts_of}
use Rattle.token_parts.specs.declared.fault.ValueFault.TheVariants.{Unsupported}
use Rattle.value_types.specs.Table.{takes}
use Rattle.value_types.specs.Validity.{IsNumberFor, IsPercentFor}
use Rattle.value_types.specs.declared.declared.Declared.{Declared}
use Rattle.value_types.specs.declared.property.PropertyId.{PropertyId}
use Rattle.value_types.specs.declared.property.PropertyId.TheVariants as property
use Rattle.value_types.specs.declared.table.ValueKind.{ValueKind}
use Rattle.value_types.specs.declared.table.ValueKind.TheVariants as kind
use Rattle.value_text.specs.Reading.{declared_reading, kind_in, read_of, value_in}
use Rattle.value_print.specs.Printed.{sign_text, size_text, sum_text}
use Rattle.prop_values.specs.ReadBack.{IsOneUnit, IsReadAs}
use Rattle.prop_values.proofs.DecimalLemmas.{printed_is_number}
use Rattle.prop_values.proofs.FrontLemmas.{end_at_close}
use Rattle.prop_values.proofs.PartLemmas.{whole_text}
use Rattle.prop_values.proofs.SayingLemmas.{Saying, saying_blank, saying_calc, saying_close, saying_minus, saying_nothing, saying_percent, saying_pixels, saying_plus, saying_same, saying_space}
use Rattle.prop_values.proofs.SizeLemmas.{is_number, percent_kept}

-- ---- what a sum says

-- the parts of a sum, and those after it
abbrev pub sum_parts : List ℕ → List ℕ → List TokenPart → List TokenPart
sum_parts pct px parts = Function (codes "calc") ∷ Percent pct ∷ Other ∷ Dimension px (codes "px") ∷ Close ∷ parts

saying_last : (n : List ℕ) (rest : List ℕ) (parts : List TokenPart) → IsNumber n → Saying rest parts → Saying (32 ∷ (n ++ (codes "px)" ++ rest))) (Dimension n (codes "px") ∷ Close ∷ parts)
saying_last n rest parts is more =
    saying_space n (codes "px)" ++ rest) (Dimension n (codes "px") ∷ Close ∷ parts) is
    (saying_same (n ++ (codes "px)" ++ rest)) (n ++ codes "px" ++ (41 ∷ rest)) (Dimension n (codes "px") ∷ Close ∷ parts) (sym (append_assoc n (codes "px") (41 ∷ rest)))
    (saying_pixels n (41 ∷ rest) (Close ∷ parts) is (end_at_close rest) (saying_close rest parts more)))

saying_signed : (z : ℤ) (m rest : List ℕ) (parts : List TokenPart) → IsNumber m → Saying (32 ∷ rest) parts → Saying (m ++ (sign_text z ++ rest)) (Percent m ∷ Other ∷ parts)
saying_signed (pos n) m rest parts is more =
    saying_same (m ++ (codes "% + " ++ rest)) (m ++ codes "%" ++ (32 ∷ 43 ∷ 32 ∷ rest)) (Percent m ∷ Other ∷ parts) (sym (append_assoc m (codes "%") (32 ∷ 43 ∷ 32 ∷ rest)))
    (saying_percent m (32 ∷ 43 ∷ 32 ∷ rest) (Other ∷ parts) is (saying_blank (43 ∷ 32 ∷ rest) (Other ∷ parts) refl (saying_plus rest parts more)))
saying_signed (negsuc n) m rest parts is more =
    saying_same (m ++ (codes "% - " ++ rest)) (m ++ codes "%" ++ (32 ∷ 45 ∷ 32 ∷ rest)) (Percent m ∷ Other ∷ parts) (sym (append_assoc m (codes "%") (32 ∷ 45 ∷ 32 ∷ rest)))
    (saying_percent m (32 ∷ 45 ∷ 32 ∷ rest) (Other ∷ parts) is (saying_blank (45 ∷ 32 ∷ rest) (Other ∷ parts) refl (saying_minus rest parts more)))

regrouped : (name m sign n close rest : List ℕ) → name ++ (m ++ sign) ++ (n ++ close) ++ rest ≡ name ++ (m ++ (sign ++ (n ++ (close ++ rest))))
regrouped name m sign n close rest = simp append_assoc

-- a sum: neither is 0
pub record IsSum (px pct : Fix) : Type 0 where
  pub px_some : int_eq px.0 (pos 0) ≡ false
  pub pct_some : int_eq pct.0 (pos 0) ≡ false
  pub px_small : unsigned_abs px.0 < 2 ^ 64
  pub pct_small : unsigned_abs pct.0 < 2 ^ 64

-- its numbers
abbrev pub percent_number : Fix → List ℕ
percent_number pct = decimal_text 6 pct.0

abbrev pub pixels_number : Fix → List ℕ
pixels_number px = decimal_text 6 (pos (unsigned_abs px.0))

-- its text begins with the function's name
pub sum_rest : (px pct : Fix) → IsSum px pct → (rest : List ℕ) × (size_text px pct ≡ codes "calc(" ++ rest)
unfolding size_text sum_text
sum_rest px pct sum =
    let rest : List ℕ = percent_number pct ++ sign_text px.0 ++ (pixels_number px ++ codes "px)") in (
      rest,
      cond-false (int_eq pct.0 (pos 0)) _ _ sum.pct_some ∙ cond-false (int_eq px.0 (pos 0)) _ _ sum.px_some
          ∙ append_assoc (codes "calc(") (percent_number pct ++ sign_text px.0) (pixels_number px ++ codes "px)"),
    )

pub saying_sum : (px pct : Fix) (rest : List ℕ) (parts : List TokenPart) → IsSum px pct → Saying rest parts → Saying (size_text px pct ++ rest) (sum_parts (percent_number pct) (pixels_number px) parts)
unfolding size_text sum_text
saying_sum px pct rest parts sum more =
    let m = percent_number pct in
    let n = pixels_number px in
    let last : List TokenPart = Dimension n (codes "px") ∷ Close ∷ parts in
    let text : size_text px pct ≡ codes "calc(" ++ (m ++ sign_text px.0) ++ (n ++ codes "px)") = cond-false (int_eq pct.0 (pos 0)) _ _ sum.pct_some ∙ cond-false (int_eq px.0 (pos 0)) _ _ sum.px_some in
    saying_same (size_text px pct ++ rest) (codes "calc(" ++ (m ++ (sign_text px.0 ++ (n ++ (codes "px)" ++ rest))))) (sum_parts m n parts)
    (ap (λ l. l ++ rest) text ∙ regrouped (codes "calc(") m (sign_text px.0) n (codes "px)") rest)
    (saying_calc (m ++ (sign_text px.0 ++ (n ++ (codes "px)" ++ rest)))) (Percent m ∷ Other ∷ last)
    (saying_signed px.0 m (n ++ (codes "px)" ++ rest)) last (printed_is_number 6 pct.0 sum.pct_small)
    (saying_last n rest parts (printed_is_number 6 (pos (unsigned_abs px.0)) sum.px_small) more)))

pub saying_lone_sum : (px pct : Fix) → IsSum px pct → Saying (size_text px pct) (sum_parts (percent_number pct) (pixels_number px) [])
saying_lone_sum px pct sum =
    saying_same (size_text px pct) (size_text px pct ++ []) (sum_parts (percent_number pct) (pixels_number px) []) (sym (append-nil (size_text px pct))) (saying_sum px pct [] [] sum saying_nothing)

-- ---- what isn't read

pub not_read : (p : PropertyId) (text : List ℕ) (parts : List TokenPart) (d : Declared) → Saying text parts → declared_reading p parts ≡ Err Unsupported → IsReadAs p text d → ⊥
not_read p text parts d says unsupported read =
    let whole = whole_text text parts (says []) in
    let same : read.tokens ≡ whole.0 = tokens_are_one text read.tokens whole.0 read.are_tokens whole.1 in
    let e : declared_reading p (token_parts_of text read.tokens) ≡ Err Unsupported = ap (λ ts. declared_reading p (token_parts_of text ts)) same ∙ ap (declared_reading p) whole.2 ∙ unsupported in
    let r = read.reading in cc

-- where no colour is wanted, no function is read
pub no_function : (p : PropertyId) (name : List ℕ) (parts : List TokenPart) → takes p kind.Color ≡ false → declared_reading p (Function name ∷ parts) ≡ Err Unsupported
unfolding declared_reading value_in
no_function p name parts none = ap (read_of (λ (k : ValueKind). kind_in p k (Function name ∷ parts))) (cond-false (takes p kind.Color) (Some kind.Color) None none)

length_no_color : (p : PropertyId) → takes p kind.Length ≡ true → takes p kind.Color ≡ false
length_no_color property.BackgroundColor h = absurd (false≢true h)
length_no_color property.Color h = absurd (false≢true h)
length_no_color p h = refl

length_sum_not_read : (p : PropertyId) (px pct : Fix) (d : Declared) → takes p kind.Length ≡ true → IsSum px pct → IsReadAs p (size_text px pct) d → ⊥
length_sum_not_read p px pct d taken sum =
    let m = percent_number pct in
    let n = pixels_number px in
    not_read p (size_text px pct) (sum_parts m n []) d (saying_lone_sum px pct sum)
    (no_function p (codes "calc") (Percent m ∷ Other ∷ Dimension n (codes "px") ∷ Close ∷ []) (length_no_color p taken))

pub length_without_sum : (p : PropertyId) (px pct : Fix) (d : Declared) → takes p kind.Length ≡ true → IsNumberFor p px → IsPercentFor p pct → IsReadAs p (size_text px pct) d → IsOneUnit px pct
length_without_sum p px pct d taken valid percent read = elim (cases_Bool (int_eq pct.0 (pos 0))) [
  | inl none ↦ inr ((Decides-int_eq pct.0 (pos 0)).0 none)
  | inr some ↦ elim (cases_Bool (int_eq px.0 (pos 0))) [
    | inl none ↦ inl ((Decides-int_eq px.0 (pos 0)).0 none)
    | inr more ↦
        let kept = percent_kept p pct percent some in
        let sum : IsSum px pct = record { px_some = more; pct_some = some; px_small = is_number px valid.limit; pct_small = is_number pct kept.1.limit } in
        absurd (length_sum_not_read p px pct d taken sum read)
  ]
]

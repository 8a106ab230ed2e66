-- A translation of which a part is a sum is not read.
use Rattle.std.proofs.Common.{◌≡◌, ℕ, true, false, ◌&&◌, List, [], ◌∷◌, ◌++◌, inl, inr, ◌⊎◌, pos, refl, sym, ap, ◌∙◌, subst, append_assoc}
use Rattle.std.specs.Prelude.{codes}
use Rattle.std.specs.Ordering.{int_eq}
use Rattle.std.proofs.lemmas.Bool.{and_left, cases_Bool, cond-true, cond-false}
use Rattle.std.proofs.lemmas.Bool.Decides.{Decides-int_eq}
use Rattle.std.proofs.lemmas.List.{append-nil}
use Rattle.fix_num.specs.declared.units.Fix.{Fix}
use Rattle.token_parts.specs.Parts.{TokenPart, Percent, Dimension, Close, Other}
use Rattle.value_types.specs.Ranges.{IsWithinLimit}
use Rattle.value_types.specs.Table.{takes}
use Rattle.value_types.specs.Validity.{IsNumberFor}
use Rattle.value_types.specs.declared.declared.Declared.{Declared}
use Rattle.value_types.specs.declared.property.PropertyId.{PropertyId}
use Rattle.value_types.specs.declared.property.PropertyId.TheVariants as property
use Rattle.value_types.specs.declared.table.ValueKind.TheVariants as kind
use Rattle.value_print.specs.Printed.{pair_text, size_text}
use Rattle.prop_values.specs.ReadBack.{IsOneUnit, IsReadAs}
use Rattle.prop_values.proofs.FrontLemmas.{end_at_end, end_at_space}
use Rattle.prop_values.proofs.KindLemmas.{only_translate, read_by_kind}
use Rattle.prop_values.proofs.PairLemmas.{PartBack, part_back}
use Rattle.prop_values.proofs.SayingLemmas.{Saying, saying_blank, saying_nothing, saying_same}
use Rattle.prop_values.proofs.SizeLemmas.{is_number}
use Rattle.prop_values.proofs.SumLemmas.{IsSum, no_function, not_read, percent_number, pixels_number, saying_sum, sum_parts, sum_rest}

one_or_sum : (px pct : Fix) → IsWithinLimit px → IsWithinLimit pct → IsOneUnit px pct ⊎ IsSum px pct
one_or_sum px pct px_limit pct_limit = elim (cases_Bool (int_eq pct.0 (pos 0))) [
  | inl none ↦ inl (inr ((Decides-int_eq pct.0 (pos 0)).0 none))
  | inr some ↦ elim (cases_Bool (int_eq px.0 (pos 0))) [
    | inl none ↦ inl (inl ((Decides-int_eq px.0 (pos 0)).0 none))
    | inr more ↦ inr (record { px_some = more; pct_some = some; px_small = is_number px px_limit; pct_small = is_number pct pct_limit })
  ]
]

-- what a size says after a space, at the end of the text
record LastSize (px pct : Fix) : Type 0 where
  parts : List TokenPart
  says : Saying (32 ∷ (size_text px pct ++ [])) parts

calc_after_space : (text rest : List ℕ) (parts : List TokenPart) → text ≡ codes "calc(" ++ rest → Saying text parts → Saying (32 ∷ text) parts
calc_after_space text rest parts is says =
    saying_same (32 ∷ text) (32 ∷ (codes "calc(" ++ rest)) parts (ap (λ l. 32 ∷ l) is)
    (saying_blank (codes "calc(" ++ rest) parts refl (saying_same (codes "calc(" ++ rest) text parts (sym is) says))

last_sum : (px pct : Fix) → IsSum px pct → Saying (32 ∷ (size_text px pct ++ [])) (sum_parts (percent_number pct) (pixels_number px) [])
last_sum px pct sum =
    let rest = sum_rest px pct sum in
    calc_after_space (size_text px pct ++ []) (rest.0 ++ []) (sum_parts (percent_number pct) (pixels_number px) []) (ap (λ l. l ++ []) rest.1 ∙ append_assoc (codes "calc(") rest.0 []) (saying_sum px pct [] [] sum saying_nothing)

last_size : (px pct : Fix) → IsWithinLimit px → IsWithinLimit pct → LastSize px pct
last_size px pct px_limit pct_limit = elim (one_or_sum px pct px_limit pct_limit) [
  | inl single ↦
      let part = part_back px pct px_limit pct_limit single in
      record { parts = part.part ∷ []; says = part.after_space [] [] end_at_end saying_nothing }
  | inr sum ↦ record { parts = sum_parts (percent_number pct) (pixels_number px) []; says = last_sum px pct sum }
]

-- ---- the text of two parts, and of one

two_texts : (x_px x_pct y_px y_pct : Fix) → (int_eq y_px.0 (pos 0) && int_eq y_pct.0 (pos 0)) ≡ false → pair_text x_px x_pct y_px y_pct ≡ size_text x_px x_pct ++ (32 ∷ (size_text y_px y_pct ++ []))
unfolding pair_text
two_texts x_px x_pct y_px y_pct some =
    let first = size_text x_px x_pct in
    let second = size_text y_px y_pct in
    cond-false (int_eq y_px.0 (pos 0) && int_eq y_pct.0 (pos 0)) _ _ some ∙ append_assoc first (codes " ") second ∙ ap (λ l. first ++ (32 ∷ l)) (sym (append-nil second))

one_text : (x_px x_pct y_px y_pct : Fix) → (int_eq y_px.0 (pos 0) && int_eq y_pct.0 (pos 0)) ≡ true → pair_text x_px x_pct y_px y_pct ≡ size_text x_px x_pct ++ []
unfolding pair_text
one_text x_px x_pct y_px y_pct none = cond-true (int_eq y_px.0 (pos 0) && int_eq y_pct.0 (pos 0)) _ _ none ∙ sym (append-nil (size_text x_px x_pct))

-- ---- what isn't read

sum_first : (text rest : List ℕ) (px pct : Fix) (parts : List TokenPart) (d : Declared) → text ≡ size_text px pct ++ rest → IsSum px pct → Saying rest parts → IsReadAs property.Translate text d → ⊥
sum_first text rest px pct parts d is sum more =
    let m = percent_number pct in
    let n = pixels_number px in
    not_read property.Translate text (sum_parts m n parts) d (saying_same text (size_text px pct ++ rest) (sum_parts m n parts) is (saying_sum px pct rest parts sum more))
    (no_function property.Translate (codes "calc") (Percent m ∷ Other ∷ Dimension n (codes "px") ∷ Close ∷ parts) refl)

first_is_no_sum : (x_px x_pct y_px y_pct : Fix) (d : Declared) → IsWithinLimit y_px → IsWithinLimit y_pct → IsSum x_px x_pct → IsReadAs property.Translate (pair_text x_px x_pct y_px y_pct) d → ⊥
first_is_no_sum x_px x_pct y_px y_pct d px_limit pct_limit sum read = elim (cases_Bool (int_eq y_px.0 (pos 0) && int_eq y_pct.0 (pos 0))) [
  | inl none ↦ sum_first (pair_text x_px x_pct y_px y_pct) [] x_px x_pct [] d (one_text x_px x_pct y_px y_pct none) sum saying_nothing read
  | inr some ↦
      let last = last_size y_px y_pct px_limit pct_limit in
      sum_first (pair_text x_px x_pct y_px y_pct) (32 ∷ (size_text y_px y_pct ++ [])) x_px x_pct last.parts d (two_texts x_px x_pct y_px y_pct some) sum last.says read
]

second_is_no_sum : (x_px x_pct y_px y_pct : Fix) (d : Declared) → PartBack x_px x_pct → IsSum y_px y_pct → IsReadAs property.Translate (pair_text x_px x_pct y_px y_pct) d → ⊥
second_is_no_sum x_px x_pct y_px y_pct d x sum =
    let after : List TokenPart = sum_parts (percent_number y_pct) (pixels_number y_px) [] in
    let text = pair_text x_px x_pct y_px y_pct in
    let rest : List ℕ = 32 ∷ (size_text y_px y_pct ++ []) in
    not_read property.Translate text (x.part ∷ after) d
    (saying_same text (size_text x_px x_pct ++ rest) (x.part ∷ after) (two_texts x_px x_pct y_px y_pct (and_left (int_eq y_px.0 (pos 0)) (int_eq y_pct.0 (pos 0)) sum.px_some))
    (x.says rest after (end_at_space (size_text y_px y_pct ++ [])) (last_sum y_px y_pct sum)))
    (read_by_kind property.Translate kind.Pair (x.part ∷ after) (x.no_keyword after) (x.one_kind after))

translate_without_sum : (x_px x_pct y_px y_pct : Fix) (d : Declared) → IsWithinLimit x_px → IsWithinLimit x_pct → IsWithinLimit y_px → IsWithinLimit y_pct
    → IsReadAs property.Translate (pair_text x_px x_pct y_px y_pct) d → IsOneUnit x_px x_pct × IsOneUnit y_px y_pct
translate_without_sum x_px x_pct y_px y_pct d a b c e read = elim (one_or_sum x_px x_pct a b) [
  | inr sum ↦ absurd (first_is_no_sum x_px x_pct y_px y_pct d c e sum read)
  | inl first ↦ elim (one_or_sum y_px y_pct c e) [
    | inr sum ↦ absurd (second_is_no_sum x_px x_pct y_px y_pct d (part_back x_px x_pct a b first) sum read)
    | inl second ↦ (first, second)
  ]
]

pub pair_without_sum : (p : PropertyId) (x_px x_pct y_px y_pct : Fix) (d : Declared) → takes p kind.Pair ≡ true → IsNumberFor p x_px → IsNumberFor p x_pct → IsNumberFor p y_px → IsNumberFor p y_pct
    → IsReadAs p (pair_text x_px x_pct y_px y_pct) d → IsOneUnit x_px x_pct × IsOneUnit y_px y_pct
pair_without_sum p x_px x_pct y_px y_pct d taken a b c e read =
    translate_without_sum x_px x_pct y_px y_pct d a.limit b.limit c.limit e.limit (subst (λ (q : PropertyId). IsReadAs q (pair_text x_px x_pct y_px y_pct) d) (only_translate p taken) read)

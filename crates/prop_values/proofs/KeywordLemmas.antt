-- Keywords are read back.
use Rattle.std.proofs.Common.{◌≡◌, ℕ, ◌<◌, true, false, List, [], ◌∷◌, ◌++◌, length, Some, Ok, ◌+◌, refl, sym, ap, ◌∙◌, subst, arith}
use Rattle.std.specs.Prelude.{codes, Result}
use Rattle.std.proofs.lemmas.List.{append-nil}
use Rattle.css_token.specs.Productions.{begins_identifier, begins_comment}
use Rattle.css_token.specs.Fronts.{identifier_len, name_piece}
use Rattle.css_token.specs.Reading.{with_token, tokens_at_piece}
use Rattle.css_token.specs.TokenLists.{token}
use Rattle.css_token.specs.declared.token.Kind.TheVariants as kind
use Rattle.css_token.specs.declared.token.Token.{Token}
use Rattle.css_token.proofs.Fronts.{at_name}
use Rattle.token_parts.specs.Parts.{Ident}
use Rattle.value_types.specs.Table.{takes}
use Rattle.value_types.specs.Keywords.{keyword_of_display, keyword_of_visibility}
use Rattle.value_types.specs.declared.declared.Declared.TheVariants as declared
use Rattle.value_types.specs.declared.property.PropertyId.{PropertyId}
use Rattle.value_types.specs.declared.property.PropertyId.TheVariants as property
use Rattle.value_types.specs.declared.table.ValueKind.TheVariants as value_kind
use Rattle.value_types.specs.declared.value.Display.{Display}
use Rattle.value_types.specs.declared.value.Display.TheVariants as display
use Rattle.value_types.specs.declared.value.Value.TheVariants as value
use Rattle.value_types.specs.declared.value.Visibility.{Visibility}
use Rattle.value_types.specs.declared.value.Visibility.TheVariants as visibility
use Rattle.value_text.specs.Reading.{declared_reading, value_in}
use Rattle.prop_values.proofs.BackLemmas.{Back, back}
use Rattle.prop_values.proofs.KindLemmas.{absent_kind, first_kind, only_display, only_visibility, read_by_kind}
use Rattle.prop_values.proofs.PartLemmas.{IsFirst, Says, says_next, slice_is}
use Rattle.prop_values.proofs.SayingLemmas.{Saying, saying_nothing}

-- the piece of a word alone is all of it
abbrev IsWhole : List ℕ → Type 0
IsWhole word = (at : ℕ) (tail : ℕ → Result (List Token) ℕ) → tokens_at_piece at (name_piece word) tail ≡ with_token (token kind.Ident at (at + length word)) (tail (length word))

first_word : (at : ℕ) (word : List ℕ) → begins_comment word ≡ false → begins_identifier word ≡ true → IsWhole word → IsFirst at word kind.Ident (length word)
first_word at word comment name piece tail = ap (λ piece. tokens_at_piece at piece tail) (at_name at word comment name) ∙ piece at tail

-- a word alone
saying_word : (word : List ℕ) → 0 < length word → begins_comment word ≡ false → begins_identifier word ≡ true → IsWhole word → Saying word (Ident word ∷ [])
saying_word word some comment name piece front =
    let none : word ++ [] ≡ word = append-nil word in
    subst (λ l. Says front l (Ident word ∷ [])) none
    (says_next front word [] kind.Ident (Some (Ident word)) [] some
    (subst (λ l. IsFirst (length front) l kind.Ident (length word)) (sym none) (first_word (length front) word comment name piece))
    (ap (λ l. Some (Ident l)) (slice_is (front ++ (word ++ [])) front word [] (length front) (length front + length word) refl refl refl))
    (saying_nothing (front ++ word)))

pub auto_back : (p : PropertyId) → takes p value_kind.Auto ≡ true → Back p value.Auto
unfolding name_piece identifier_len
auto_back p taken =
    back p value.Auto (Ident (codes "auto") ∷ []) declared.Auto (saying_word (codes "auto") (omega arith) refl refl (λ at tail. refl))
    (read_by_kind p value_kind.Auto (Ident (codes "auto") ∷ []) refl (first_kind p value_kind.Auto (value_kind.Normal ∷ value_kind.Color ∷ value_kind.Absent ∷ value_kind.Visibility ∷ value_kind.Display ∷ []) taken)) tt (λ parent own root. refl)

pub absent_back : (p : PropertyId) → takes p value_kind.Absent ≡ true → Back p value.Absent
unfolding name_piece identifier_len
absent_back p taken =
    back p value.Absent (Ident (codes "none") ∷ []) declared.Absent (saying_word (codes "none") (omega arith) refl refl (λ at tail. refl))
    (read_by_kind p value_kind.Absent (Ident (codes "none") ∷ []) refl (absent_kind p taken)) tt (λ parent own root. refl)

-- ---- visibility

saying_visibility : (v : Visibility) → Saying (keyword_of_visibility v) (Ident (keyword_of_visibility v) ∷ [])
unfolding name_piece identifier_len
saying_visibility visibility.Visible = saying_word (codes "visible") (omega arith) refl refl (λ at tail. refl)
saying_visibility visibility.Hidden = saying_word (codes "hidden") (omega arith) refl refl (λ at tail. refl)
saying_visibility visibility.Collapse = saying_word (codes "collapse") (omega arith) refl refl (λ at tail. refl)

visibility_read : (v : Visibility) → declared_reading property.Visibility (Ident (keyword_of_visibility v) ∷ []) ≡ Ok (declared.Visible v)
unfolding declared_reading value_in
visibility_read visibility.Visible = refl
visibility_read visibility.Hidden = refl
visibility_read visibility.Collapse = refl

pub visibility_back : (p : PropertyId) (v : Visibility) → takes p value_kind.Visibility ≡ true → Back p (value.Visible v)
visibility_back p v taken = subst (λ (q : PropertyId). Back q (value.Visible v)) (sym (only_visibility p taken))
    (back property.Visibility (value.Visible v) (Ident (keyword_of_visibility v) ∷ []) (declared.Visible v) (saying_visibility v) (visibility_read v) tt (λ parent own root. refl))

-- ---- display

saying_display : (d : Display) → Saying (keyword_of_display d) (Ident (keyword_of_display d) ∷ [])
unfolding name_piece identifier_len
saying_display display.Nothing = saying_word (codes "none") (omega arith) refl refl (λ at tail. refl)
saying_display display.Block = saying_word (codes "block") (omega arith) refl refl (λ at tail. refl)
saying_display display.Inline = saying_word (codes "inline") (omega arith) refl refl (λ at tail. refl)
saying_display display.InlineBlock = saying_word (codes "inline-block") (omega arith) refl refl (λ at tail. refl)
saying_display display.FlowRoot = saying_word (codes "flow-root") (omega arith) refl refl (λ at tail. refl)
saying_display display.ListItem = saying_word (codes "list-item") (omega arith) refl refl (λ at tail. refl)
saying_display display.Flex = saying_word (codes "flex") (omega arith) refl refl (λ at tail. refl)
saying_display display.InlineFlex = saying_word (codes "inline-flex") (omega arith) refl refl (λ at tail. refl)
saying_display display.Grid = saying_word (codes "grid") (omega arith) refl refl (λ at tail. refl)
saying_display display.InlineGrid = saying_word (codes "inline-grid") (omega arith) refl refl (λ at tail. refl)
saying_display display.Table = saying_word (codes "table") (omega arith) refl refl (λ at tail. refl)
saying_display display.Contents = saying_word (codes "contents") (omega arith) refl refl (λ at tail. refl)

display_read : (d : Display) → declared_reading property.Display (Ident (keyword_of_display d) ∷ []) ≡ Ok (declared.Display d)
unfolding declared_reading value_in
display_read display.Nothing = refl
display_read display.Block = refl
display_read display.Inline = refl
display_read display.InlineBlock = refl
display_read display.FlowRoot = refl
display_read display.ListItem = refl
display_read display.Flex = refl
display_read display.InlineFlex = refl
display_read display.Grid = refl
display_read display.InlineGrid = refl
display_read display.Table = refl
display_read display.Contents = refl

pub display_back : (p : PropertyId) (d : Display) → takes p value_kind.Display ≡ true → Back p (value.Display d)
display_back p d taken = subst (λ (q : PropertyId). Back q (value.Display d)) (sym (only_display p taken))
    (back property.Display (value.Display d) (Ident (keyword_of_display d) ∷ []) (declared.Display d) (saying_display d) (display_read d) tt (λ parent own root. refl))

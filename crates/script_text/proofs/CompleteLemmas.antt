-- What the grammar says of a line is what the function finds in it.
use Rattle.std.proofs.Common.{◌≡◌, ℕ, Bool, true, false, List, [], ◌∷◌, ◌++◌, length, refl, ap, sym, subst, ◌∙◌, inl, inr, arith}
use Rattle.std.specs.Prelude.{◌⊎◌, ◌&&◌, ◌==◌, reverse, slice_index, if◌then◌else◌, Option, Some, None, option_map, codes}
use Rattle.std.specs.List.{list_all}
use Rattle.std.specs.Str.{bytes_eq, is_utf8}
use Rattle.std.specs.Str.Parse.{digits_value}
use Rattle.std.proofs.lemmas.Bool.{and_from, and_parts, cases_Bool, eq-eqb, ne_eqb, or_from, or_right}
use Rattle.std.proofs.lemmas.List.{append-nil, append_assoc, reverse-reverse}
use Rattle.std.proofs.lemmas.Slice.Eq.{bytes_eq-Decides}
use Rattle.std.proofs.lemmas.Str.{is_utf8-from_IsUtf8}
use Rattle.value_types.specs.Properties.{property_named}
use Rattle.value_types.specs.declared.property.PropertyId.{PropertyId}
use Rattle.fix_num.specs.Decimal.{Decimal}
use Rattle.script_text.specs.Forms.{IsNumeral, IsParentWord, IsTimeWord, is_numeral, is_parent_word, is_script_name, parent_of_word}
use Rattle.script_text.specs.Reading.{id_said, is_blank_body, names_of, otherwise_said_by, said_by, said_by_body, statement_of}
use Rattle.script_text.specs.Statements.{IsBlank, IsStatement, Says, Statement, Nothing, Add, Insert, Remove, Id, Class, Style, Sheet, At, Frame, Get, Listing}
use Rattle.script_text.specs.Words.{AreInOrder, AreSpaceBytes, IsSolid, after_word, begins_with_space, ends_with_space, first_word, is_space_byte, trimmed, without_back, words_of}
use Rattle.script_text.proofs.OrderLemmas.{after_ends, order_after, order_first, words_are}
use Rattle.script_text.proofs.TimeLemmas.{time_is}
use Rattle.script_text.proofs.TrimLemmas.{all-reverse, back_split, ends_of_back, no_body, trimmed_is}
use Rattle.script_text.proofs.WordLemmas.{rest_is}

-- ---- the last word of a line

all_spaces : (xs : List ℕ) → list_all is_space_byte xs ≡ true → begins_with_space xs ≡ false → xs ≡ []
all_spaces [] h f = refl
all_spaces (x ∷ xs) h f = let no : true ≡ false = sym (and_parts _ _ h).0 ∙ f in cc

no_spaces : (gap : List ℕ) → AreSpaceBytes gap → ends_with_space gap ≡ false → gap ≡ []
no_spaces gap h f = sym (reverse-reverse gap) ∙ ap reverse (all_spaces (reverse gap) (all-reverse is_space_byte gap h) f)

last_word : (rest word : List ℕ) → ends_with_space rest ≡ false → AreInOrder rest (word ∷ []) [] → rest ≡ word
last_word rest word f h =
    let gap = h.1.0 in
    let all : rest ≡ word ++ gap = h.1.2 ∙ ap (λ after. (word ++ gap) ++ after) h.1.4 ∙ append-nil (word ++ gap) in
    let none : gap ≡ [] = no_spaces gap h.1.3.spaces (ends_of_back word gap (ap ends_with_space (sym all) ∙ f)) in
    all ∙ ap (λ spaces. word ++ spaces) none ∙ append-nil word

-- ---- tests

if_is : {T : Type 0} (b : Bool) (x s : T) → b ≡ true → x ≡ s → (if b then Some x else None) ≡ Some s
if_is {T} b x s t e = ap (λ c. let none : Option T = None in if c then Some x else none) t ∙ ap Some e

if_option_is : {T : Type 0} (b : Bool) (o : Option T) (s : T) → b ≡ true → o ≡ Some s → (if b then o else None) ≡ Some s
if_option_is {T} b o s t e = ap (λ c. let none : Option T = None in if c then o else none) t ∙ e

empty_is : (xs : List ℕ) → xs ≡ [] → (length xs == 0) ≡ true
empty_is xs e = ap (λ ys. length ys == 0) e

no_dash : (word : List ℕ) → is_numeral word ≡ true → bytes_eq word (codes "-") ≡ false
no_dash word h = elim (cases_Bool (bytes_eq word (codes "-"))) [
  | inl dash ↦ let no : false ≡ true = ap is_numeral (sym ((bytes_eq-Decides word (codes "-")).0 dash)) ∙ h in cc
  | inr other ↦ other
]

parent_word : (word : List ℕ) (parent : Option ℕ) → IsParentWord word parent → is_parent_word word ≡ true
parent_word word None h = ap is_parent_word h
parent_word word (Some n) h = or_right _ _ h.digits

parent_is : (word : List ℕ) (parent : Option ℕ) → IsParentWord word parent → parent_of_word word ≡ parent
parent_is word None h = ap parent_of_word h
parent_is word (Some n) h =
    ap (λ b. let none : Option ℕ = None in if b then none else Some (digits_value 10 word)) (no_dash word h.digits) ∙ ap Some h.value

-- ---- a line by its words

said_at : (body word second rest : List ℕ) → first_word body ≡ word → first_word (after_word body) ≡ second → after_word (after_word body) ≡ rest
    → said_by_body body ≡ said_by word second rest
said_at body word second rest w n r =
    ap (λ x. said_by x (first_word (after_word body)) (after_word (after_word body))) w
    ∙ ap (λ x. said_by word x (after_word (after_word body))) n ∙ ap (said_by word second) r

-- what follows the second word
abbrev pub rest_of : List ℕ → List ℕ
rest_of body = after_word (after_word body)

pub two_words : (body word second : List ℕ) (more : List (List ℕ)) (text : List ℕ) → AreInOrder body (word ∷ second ∷ more) text
    → said_by_body body ≡ said_by word second (rest_of body)
two_words body word second more text o =
    said_at body word second (rest_of body) (order_first body word (second ∷ more) text o)
    (order_first (after_word body) second more text (order_after body word (second ∷ more) text o)) refl

pub rest_in_order : (body word second : List ℕ) (more : List (List ℕ)) (text : List ℕ) → AreInOrder body (word ∷ second ∷ more) text → AreInOrder (rest_of body) more text
rest_in_order body word second more text o = order_after (after_word body) second more text (order_after body word (second ∷ more) text o)

rest_ends : (body : List ℕ) → ends_with_space body ≡ false → ends_with_space (rest_of body) ≡ false
rest_ends body f = after_ends (after_word body) (after_ends body f)

not_blank : (word more : List ℕ) → IsSolid word → (slice_index word 0 == 35) ≡ false → is_blank_body (word ++ more) ≡ false
not_blank [] more h f = let some = h.some in absurd (omega arith)
not_blank (w ∷ ws) more h f = or_from _ _ (ne_eqb (length (w ∷ (ws ++ more))) 0 (λ e. omega arith)) f

order_not_blank : (body word : List ℕ) (words : List (List ℕ)) (text : List ℕ) → AreInOrder body (word ∷ words) text → (slice_index word 0 == 35) ≡ false → is_blank_body body ≡ false
order_not_blank body word words text o f =
    ap is_blank_body (o.1.2 ∙ append_assoc word o.1.0 o.1.1) ∙ not_blank word (o.1.0 ++ o.1.1) o.0 f

-- the body says that, and is not blank
abbrev IsSaid : List ℕ → Statement → Type 0
IsSaid body s = (said_by_body body ≡ Some s) × (is_blank_body body ≡ false)

-- ---- each kind

said_add : (body number above tag : List ℕ) (n : ℕ) (parent : Option ℕ) → ends_with_space body ≡ false
    → AreInOrder body (codes "add" ∷ number ∷ above ∷ tag ∷ []) [] → IsNumeral number n → IsParentWord above parent → is_script_name tag ≡ true
    → IsSaid body (Add n parent tag)
unfolding said_by
said_add body number above tag n parent f o digits p named =
    let rest = rest_of body in
    let order = rest_in_order body (codes "add") number (above ∷ tag ∷ []) [] o in
    let first = order_first rest above (tag ∷ []) [] order in
    let last : after_word rest ≡ tag = last_word (after_word rest) tag (after_ends rest (rest_ends body f)) (order_after rest above (tag ∷ []) [] order) in (
      two_words body (codes "add") number (above ∷ tag ∷ []) [] o
          ∙ if_is _ _ _ (and_from _ _ (and_from _ _ digits.digits (ap is_parent_word first ∙ parent_word above parent p)) (ap is_script_name last ∙ named))
          (ap (λ v. Add v (parent_of_word (first_word rest)) (after_word rest)) digits.value
          ∙ ap (λ x. Add n x (after_word rest)) (ap parent_of_word first ∙ parent_is above parent p) ∙ ap (Add n parent) last),
      order_not_blank body (codes "add") (number ∷ above ∷ tag ∷ []) [] o refl,
    )

said_insert : (body number next tag : List ℕ) (n sibling : ℕ) → ends_with_space body ≡ false
    → AreInOrder body (codes "insert" ∷ number ∷ next ∷ tag ∷ []) [] → IsNumeral number n → IsNumeral next sibling → is_script_name tag ≡ true
    → IsSaid body (Insert n sibling tag)
unfolding said_by
said_insert body number next tag n sibling f o digits p named =
    let rest = rest_of body in
    let order = rest_in_order body (codes "insert") number (next ∷ tag ∷ []) [] o in
    let first = order_first rest next (tag ∷ []) [] order in
    let last : after_word rest ≡ tag = last_word (after_word rest) tag (after_ends rest (rest_ends body f)) (order_after rest next (tag ∷ []) [] order) in (
      two_words body (codes "insert") number (next ∷ tag ∷ []) [] o
          ∙ if_is _ _ _ (and_from _ _ (and_from _ _ digits.digits (ap is_numeral first ∙ p.digits)) (ap is_script_name last ∙ named))
          (ap (λ v. Insert v (digits_value 10 (first_word rest)) (after_word rest)) digits.value
          ∙ ap (λ x. Insert n x (after_word rest)) (ap (digits_value 10) first ∙ p.value) ∙ ap (Insert n sibling) last),
      order_not_blank body (codes "insert") (number ∷ next ∷ tag ∷ []) [] o refl,
    )

said_remove : (body number : List ℕ) (n : ℕ) → AreInOrder body (codes "remove" ∷ number ∷ []) [] → IsNumeral number n → IsSaid body (Remove n)
unfolding said_by
said_remove body number n o digits = (
  two_words body (codes "remove") number [] [] o
      ∙ if_is _ _ _ (and_from _ _ digits.digits (empty_is (rest_of body) (rest_in_order body (codes "remove") number [] [] o))) (ap Remove digits.value),
  order_not_blank body (codes "remove") (number ∷ []) [] o refl,
)

said_list : (body number : List ℕ) (n : ℕ) → AreInOrder body (codes "list" ∷ number ∷ []) [] → IsNumeral number n → IsSaid body (Listing n)
unfolding said_by otherwise_said_by
said_list body number n o digits = (
  two_words body (codes "list") number [] [] o
      ∙ if_is _ _ _ (and_from _ _ digits.digits (empty_is (rest_of body) (rest_in_order body (codes "list") number [] [] o))) (ap Listing digits.value),
  order_not_blank body (codes "list") (number ∷ []) [] o refl,
)

id_none : (number rest : List ℕ) (n : ℕ) → rest ≡ [] → IsNumeral number n → id_said number rest ≡ Some (Id n None)
id_none number rest n e digits = ap (id_said number) e ∙ if_is _ _ _ digits.digits (ap (λ v. Id v None) digits.value)

id_some : (number rest name : List ℕ) (n : ℕ) → rest ≡ name → IsNumeral number n → is_script_name name ≡ true → id_said number rest ≡ Some (Id n (Some name))
id_some number rest [] n e digits named = let no : false ≡ true = named in cc
id_some number rest (x ∷ xs) n e digits named =
    ap (id_said number) e
    ∙ ap (λ b. if b then (if is_numeral number then Some (Id (digits_value 10 number) None) else None)
    else if is_numeral number && is_script_name (x ∷ xs) then Some (Id (digits_value 10 number) (Some (x ∷ xs))) else None)
    (ne_eqb (length (x ∷ xs)) 0 (λ z. omega arith))
    ∙ if_is _ _ _ (and_from _ _ digits.digits named) (ap (λ v. Id v (Some (x ∷ xs))) digits.value)

said_no_id : (body number : List ℕ) (n : ℕ) → AreInOrder body (codes "id" ∷ number ∷ []) [] → IsNumeral number n → IsSaid body (Id n None)
unfolding said_by
said_no_id body number n o digits = (
  two_words body (codes "id") number [] [] o ∙ id_none number (rest_of body) n (rest_in_order body (codes "id") number [] [] o) digits,
  order_not_blank body (codes "id") (number ∷ []) [] o refl,
)

said_id : (body number name : List ℕ) (n : ℕ) → ends_with_space body ≡ false → AreInOrder body (codes "id" ∷ number ∷ name ∷ []) [] → IsNumeral number n
    → is_script_name name ≡ true → IsSaid body (Id n (Some name))
unfolding said_by
said_id body number name n f o digits named = (
  two_words body (codes "id") number (name ∷ []) [] o
      ∙ id_some number (rest_of body) name n (last_word (rest_of body) name (rest_ends body f) (rest_in_order body (codes "id") number (name ∷ []) [] o)) digits named,
  order_not_blank body (codes "id") (number ∷ name ∷ []) [] o refl,
)

names_are : (text : List ℕ) (names : List (List ℕ)) → words_of text ≡ names → list_all is_script_name names ≡ true → names_of text ≡ Some names
names_are text names e named = if_is _ _ _ (ap (list_all is_script_name) e ∙ named) e

said_class : (body number : List ℕ) (n : ℕ) (names : List (List ℕ)) → AreInOrder body (codes "class" ∷ number ∷ names) [] → IsNumeral number n
    → list_all is_script_name names ≡ true → IsSaid body (Class n names)
unfolding said_by
said_class body number n names o digits named =
    let words = words_are names (rest_of body) (rest_in_order body (codes "class") number names [] o) in (
      two_words body (codes "class") number names [] o
          ∙ if_option_is _ _ _ digits.digits (ap (option_map (Class (digits_value 10 number))) (names_are (rest_of body) names words named) ∙ ap (λ v. Some (Class v names)) digits.value),
      order_not_blank body (codes "class") (number ∷ names) [] o refl,
    )

said_style : (body number text : List ℕ) (n : ℕ) → AreInOrder body (codes "style" ∷ number ∷ []) text → IsNumeral number n → IsSaid body (Style n text)
unfolding said_by otherwise_said_by
said_style body number text n o digits = (
  two_words body (codes "style") number [] text o
      ∙ if_is _ _ _ digits.digits (ap (λ v. Style v (rest_of body)) digits.value ∙ ap (Style n) (rest_in_order body (codes "style") number [] text o)),
  order_not_blank body (codes "style") (number ∷ []) text o refl,
)

said_sheet : (body number text : List ℕ) (k : ℕ) → AreInOrder body (codes "sheet" ∷ number ∷ []) text → IsNumeral number k → IsSaid body (Sheet k text)
unfolding said_by otherwise_said_by
said_sheet body number text k o digits = (
  two_words body (codes "sheet") number [] text o
      ∙ if_is _ _ _ digits.digits (ap (λ v. Sheet v (rest_of body)) digits.value ∙ ap (Sheet k) (rest_in_order body (codes "sheet") number [] text o)),
  order_not_blank body (codes "sheet") (number ∷ []) text o refl,
)

said_time : (body word : List ℕ) (time : Decimal) → AreInOrder body (codes "at" ∷ word ∷ []) [] → IsTimeWord word time → IsSaid body (At time)
unfolding said_by otherwise_said_by
said_time body word time o h = (
  two_words body (codes "at") word [] [] o
      ∙ if_option_is _ _ _ (empty_is (rest_of body) (rest_in_order body (codes "at") word [] [] o)) (ap (option_map At) (time_is word time h)),
  order_not_blank body (codes "at") (word ∷ []) [] o refl,
)

said_frame : (body : List ℕ) → AreInOrder body (codes "frame" ∷ []) [] → IsSaid body Frame
unfolding said_by otherwise_said_by
said_frame body o =
    let none : after_word body ≡ [] = order_after body (codes "frame") [] [] o in (
      said_at body (codes "frame") [] [] (order_first body (codes "frame") [] [] o) (ap first_word none) (ap after_word none),
      order_not_blank body (codes "frame") [] [] o refl,
    )

said_get : (body number name : List ℕ) (n : ℕ) (p : PropertyId) → ends_with_space body ≡ false → AreInOrder body (codes "get" ∷ number ∷ name ∷ []) [] → IsNumeral number n
    → property_named name ≡ Some p → IsSaid body (Get n p)
unfolding said_by otherwise_said_by
said_get body number name n p f o digits named =
    let last = last_word (rest_of body) name (rest_ends body f) (rest_in_order body (codes "get") number (name ∷ []) [] o) in (
      two_words body (codes "get") number (name ∷ []) [] o
          ∙ if_option_is _ _ _ digits.digits (ap (option_map (Get (digits_value 10 number))) (ap property_named last ∙ named) ∙ ap (λ v. Some (Get v p)) digits.value),
      order_not_blank body (codes "get") (number ∷ name ∷ []) [] o refl,
    )

-- ---- a line as a whole

ordered : (body : List ℕ) (words others : List (List ℕ)) (text rest : List ℕ) → words ≡ others → text ≡ rest → AreInOrder body words text → AreInOrder body others rest
ordered body words others text rest e t o =
    let P : List (List ℕ) → Type 0 = λ ws. AreInOrder body ws rest in
    let Q : List ℕ → Type 0 = λ xs. AreInOrder body words xs in
    subst P e (subst Q t o)

body_said : (body : List ℕ) (words : List (List ℕ)) (text : List ℕ) (s : Statement) → ends_with_space body ≡ false → AreInOrder body words text → Says words text s → IsSaid body s
body_said body words text Nothing f o h = absurd h
body_said body words text (Add n parent tag) f o h =
    said_add body h.0 h.1 tag n parent f (ordered body words (codes "add" ∷ h.0 ∷ h.1 ∷ tag ∷ []) text [] h.2 h.3 o) h.4 h.5 h.6
body_said body words text (Insert n sibling tag) f o h =
    said_insert body h.0 h.1 tag n sibling f (ordered body words (codes "insert" ∷ h.0 ∷ h.1 ∷ tag ∷ []) text [] h.2 h.3 o) h.4 h.5 h.6
body_said body words text (Remove n) f o h = said_remove body h.0 n (ordered body words (codes "remove" ∷ h.0 ∷ []) text [] h.1 h.2 o) h.3
body_said body words text (Id n None) f o h = said_no_id body h.0 n (ordered body words (codes "id" ∷ h.0 ∷ []) text [] h.1 h.2 o) h.3
body_said body words text (Id n (Some name)) f o h =
    said_id body h.0 name n f (ordered body words (codes "id" ∷ h.0 ∷ name ∷ []) text [] h.1 h.2 o) h.3 h.4
body_said body words text (Class n names) f o h = said_class body h.0 n names (ordered body words (codes "class" ∷ h.0 ∷ names) text [] h.1 h.2 o) h.3 h.4
body_said body words text (Style n style) f o h = said_style body h.0 style n (ordered body words (codes "style" ∷ h.0 ∷ []) text style h.1 h.2 o) h.3
body_said body words text (Sheet k sheet) f o h = said_sheet body h.0 sheet k (ordered body words (codes "sheet" ∷ h.0 ∷ []) text sheet h.1 h.2 o) h.3
body_said body words text (At time) f o h = said_time body h.0 time (ordered body words (codes "at" ∷ h.0 ∷ []) text [] h.1 h.2 o) h.3
body_said body words text Frame f o h = said_frame body (ordered body words (codes "frame" ∷ []) text [] h.0 h.1 o)
body_said body words text (Get n p) f o h =
    said_get body h.0 h.1 n p f (ordered body words (codes "get" ∷ h.0 ∷ h.1 ∷ []) text [] h.2 h.3 o) h.4 h.5
body_said body words text (Listing n) f o h = said_list body h.0 n (ordered body words (codes "list" ∷ h.0 ∷ []) text [] h.1 h.2 o) h.3

hash_body : (comment body back : List ℕ) → 35 ∷ comment ≡ body ++ back → is_blank_body body ≡ true
hash_body comment [] back e = refl
hash_body comment (x ∷ xs) back e = let same : 35 ≡ x = ap (λ l. slice_index l 0) e in or_right _ _ (eq-eqb x 35 (sym same))

pub blank_is : (line : List ℕ) → IsBlank line → is_blank_body (trimmed line) ≡ true
unfolding trimmed
blank_is line h = by_case h.4 where
  by_case : (h.1 ≡ []) ⊎ ((comment : List ℕ) × (h.1 ≡ 35 ∷ comment)) → is_blank_body (trimmed line) ≡ true
  by_case (inl none) =
      let spaces : AreSpaceBytes line = ap (list_all is_space_byte) (h.3 ∙ ap (λ rest. h.0 ++ rest) none ∙ append-nil h.0) ∙ h.2 in
      ap is_blank_body (no_body line spaces)
  by_case (inr some) =
      let whole : line ≡ h.0 ++ (35 ∷ some.0) = h.3 ∙ ap (λ rest. h.0 ++ rest) some.1 in
      let back = back_split (35 ∷ some.0) in
      ap (λ bytes. is_blank_body (trimmed bytes)) whole
      ∙ ap (λ bytes. is_blank_body (without_back bytes)) (rest_is is_space_byte h.0 (35 ∷ some.0) h.2 refl)
      ∙ hash_body some.0 (without_back (35 ∷ some.0)) _ back

-- the function finds all that the grammar has
pub statement_is : (line : List ℕ) (s : Statement) → IsStatement line s → statement_of line ≡ Some s
unfolding statement_of
statement_is line s (inl blank) =
    ap (λ b. if b then Some Nothing else if is_utf8 line then said_by_body (trimmed line) else None) (blank_is line blank.0) ∙ ap Some (sym blank.1)
statement_is line s (inr h) =
    let body = h.1.2.0 in
    let t = trimmed_is line body h.1.2.1 in
    let said = body_said body h.1.0 h.1.1 s h.1.2.1.back h.1.2.2 h.1.3 in
    ap (λ b. if b then Some Nothing else if is_utf8 line then said_by_body (trimmed line) else None) (ap is_blank_body t ∙ said.1)
    ∙ ap (λ b. let none : Option Statement = None in if b then said_by_body (trimmed line) else none) (is_utf8-from_IsUtf8 line h.0)
    ∙ ap said_by_body t ∙ said.0

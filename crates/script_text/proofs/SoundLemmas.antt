-- What the function finds in a line is what the grammar says of it.
use Rattle.std.proofs.Common.{◌≡◌, ℕ, ◌<◌, Bool, true, false, List, [], ◌∷◌, ◌++◌, length, drop, refl, ap, sym, subst, ◌∙◌, inl, inr, arith}
use Rattle.std.specs.Prelude.{◌⊎◌, ◌&&◌, ◌||◌, ◌==◌, if◌then◌else◌, Option, Some, None, option_map, codes}
use Rattle.std.specs.Str.{IsUtf8, bytes_eq, is_utf8}
use Rattle.std.specs.Str.Parse.{digits_value}
use Rattle.std.proofs.lemmas.Bool.{and_parts, eqb-true, or_cases, or_parts}
use Rattle.std.proofs.lemmas.Bool.Decides.{nat_tests}
use Rattle.std.proofs.lemmas.List.{append-nil, append_assoc, nil_from_length}
use Rattle.std.proofs.lemmas.Slice.Eq.{bytes_eq-Decides}
use Rattle.std.proofs.lemmas.Str.{IsUtf8-from_is_utf8}
use Rattle.value_types.specs.Properties.{property_named}
use Rattle.script_text.specs.Forms.{IsNumeral, IsParentWord, is_numeral, is_parent_word, is_script_name, parent_of_word, time_of_word}
use Rattle.script_text.specs.Reading.{add_said, at_said, class_said, get_said, id_said, insert_said, is_blank_body, list_said, names_of, otherwise_said_by, remove_said, said_by, said_by_body, sheet_said, statement_of, style_said}
use Rattle.script_text.specs.Statements.{IsBlank, IsStatement, Says, Statement, Nothing, Id, Class, At, Frame, Get}
use Rattle.script_text.specs.Words.{AreInOrder, IsSolid, IsTrimmed, after_word, begins_with_space, first_word, is_space_byte, trimmed, words_of}
use Rattle.script_text.proofs.OrderLemmas.{order_more, words_in_order}
use Rattle.script_text.proofs.SolidLemmas.{alone, name_solid, named_solid, numeral_solid}
use Rattle.script_text.proofs.TimeLemmas.{time_found}
use Rattle.script_text.proofs.TrimLemmas.{all-join, trimmed_spelled}
use Rattle.script_text.proofs.WordLemmas.{first_word-cons, front_dropped, some_bytes}

-- ---- tests

pub if_told : {T : Type 0} (b : Bool) (x s : T) → (if b then Some x else None) ≡ Some s → (b ≡ true) × (x ≡ s)
if_told true x s e = (refl, cc)
if_told false x s e = cc

pub map_told : {T : Type 0} (f : T → Statement) (o : Option T) (s : Statement) → option_map f o ≡ Some s → (x : T) × (o ≡ Some x) × (f x ≡ s)
map_told f None s e = cc
map_told f (Some x) s e = (x, refl, cc)

empty_told : (xs : List ℕ) → (length xs == 0) ≡ true → xs ≡ []
empty_told xs h = nil_from_length xs (grind (arith, nat_tests))

-- ---- a line by its second word and what follows

-- what follows gives more words and a text, which say that
pub record Found (word second rest : List ℕ) (s : Statement) : Type 0 where
  pub words : (more : List (List ℕ)) × (text : List ℕ) × AreInOrder rest more text × Says (word ∷ second ∷ more) text s
  pub solid : IsSolid second

numeral_read : (word : List ℕ) → is_numeral word ≡ true → IsNumeral word (digits_value 10 word)
numeral_read word h = record { digits = h; value = refl }

parent_solid : (word : List ℕ) → is_parent_word word ≡ true → IsSolid word
parent_solid word h = elim (or_cases _ _ h) [
  | inl dash ↦ subst (λ (w : List ℕ). IsSolid w) (sym ((bytes_eq-Decides word (codes "-")).0 dash)) (record { some = omega arith; solid = refl })
  | inr digits ↦ numeral_solid word digits
]

parent_read : (word : List ℕ) → is_parent_word word ≡ true → IsParentWord word (parent_of_word word)
parent_read word h = by_test (bytes_eq word (codes "-")) refl h where
  by_test : (b : Bool) → bytes_eq word (codes "-") ≡ b → (b || is_numeral word) ≡ true → IsParentWord word (if b then None else Some (digits_value 10 word))
  by_test true e t = (bytes_eq-Decides word (codes "-")).0 e
  by_test false e t = numeral_read word t

-- the rest begins with a word, where that is solid
first_some : (rest : List ℕ) → IsSolid (first_word rest) → 0 < length rest
first_some [] h = let some = h.some in some
first_some (x ∷ xs) h = omega arith

-- two words that are the rest
two : (rest : List ℕ) → begins_with_space rest ≡ false → IsSolid (first_word rest) → IsSolid (after_word rest)
    → AreInOrder rest (first_word rest ∷ after_word rest ∷ []) []
two rest f first second = order_more rest (after_word rest ∷ []) [] f (first_some rest first) (alone (after_word rest) second)

found_add : (number rest : List ℕ) (s : Statement) → begins_with_space rest ≡ false → add_said number rest ≡ Some s → Found (codes "add") number rest s
found_add number rest s f e =
    let t = if_told _ _ s e in
    let named = (and_parts _ _ t.0).1 in
    let others = and_parts _ _ (and_parts _ _ t.0).0 in
    subst (Found (codes "add") number rest) t.1 (record {
      words = (
        first_word rest ∷ after_word rest ∷ [],
        [],
        two rest f (parent_solid (first_word rest) others.1) (name_solid (after_word rest) named),
        (number, first_word rest, refl, refl, numeral_read number others.0, parent_read (first_word rest) others.1, named),
      );
      solid = numeral_solid number others.0;
    })

found_insert : (number rest : List ℕ) (s : Statement) → begins_with_space rest ≡ false → insert_said number rest ≡ Some s → Found (codes "insert") number rest s
found_insert number rest s f e =
    let t = if_told _ _ s e in
    let named = (and_parts _ _ t.0).1 in
    let others = and_parts _ _ (and_parts _ _ t.0).0 in
    subst (Found (codes "insert") number rest) t.1 (record {
      words = (
        first_word rest ∷ after_word rest ∷ [],
        [],
        two rest f (numeral_solid (first_word rest) others.1) (name_solid (after_word rest) named),
        (number, first_word rest, refl, refl, numeral_read number others.0, numeral_read (first_word rest) others.1, named),
      );
      solid = numeral_solid number others.0;
    })

found_remove : (number rest : List ℕ) (s : Statement) → remove_said number rest ≡ Some s → Found (codes "remove") number rest s
found_remove number rest s e =
    let t = if_told _ _ s e in
    let digits = (and_parts _ _ t.0).0 in
    subst (Found (codes "remove") number rest) t.1 (record {
      words = ([], [], empty_told rest (and_parts _ _ t.0).1, (number, refl, refl, numeral_read number digits));
      solid = numeral_solid number digits;
    })

found_list : (number rest : List ℕ) (s : Statement) → list_said number rest ≡ Some s → Found (codes "list") number rest s
found_list number rest s e =
    let t = if_told _ _ s e in
    let digits = (and_parts _ _ t.0).0 in
    subst (Found (codes "list") number rest) t.1 (record {
      words = ([], [], empty_told rest (and_parts _ _ t.0).1, (number, refl, refl, numeral_read number digits));
      solid = numeral_solid number digits;
    })

found_id : (number rest : List ℕ) (s : Statement) → id_said number rest ≡ Some s → Found (codes "id") number rest s
found_id number rest s e = by_test (length rest == 0) refl e where
  by_test : (b : Bool) → (length rest == 0) ≡ b
      → (if b then (if is_numeral number then Some (Id (digits_value 10 number) None) else None)
      else if is_numeral number && is_script_name rest then Some (Id (digits_value 10 number) (Some rest)) else None) ≡ Some s
      → Found (codes "id") number rest s
  by_test true none h =
      let t = if_told _ _ s h in
      subst (Found (codes "id") number rest) t.1 (record {
        words = ([], [], empty_told rest none, (number, refl, refl, numeral_read number t.0));
        solid = numeral_solid number t.0;
      })
  by_test false some h =
      let t = if_told _ _ s h in
      let named = (and_parts _ _ t.0).1 in
      subst (Found (codes "id") number rest) t.1 (record {
        words = (rest ∷ [], [], alone rest (name_solid rest named), (number, refl, refl, numeral_read number (and_parts _ _ t.0).0, named));
        solid = numeral_solid number (and_parts _ _ t.0).0;
      })

if_option_told : {T : Type 0} (b : Bool) (o : Option T) (s : T) → (if b then o else None) ≡ Some s → (b ≡ true) × (o ≡ Some s)
if_option_told true o s e = (refl, e)
if_option_told false o s e = cc

found_class : (number rest : List ℕ) (s : Statement) → begins_with_space rest ≡ false → class_said number rest ≡ Some s → Found (codes "class") number rest s
found_class number rest s f e =
    let t = if_option_told _ _ s e in
    let m = map_told (Class (digits_value 10 number)) (names_of rest) s t.1 in
    let n = if_told _ _ m.0 m.1 in
    subst (Found (codes "class") number rest) (ap (Class (digits_value 10 number)) n.1 ∙ m.2) (record {
      words = (words_of rest, [], words_in_order rest f, (number, refl, refl, numeral_read number t.0, n.0));
      solid = numeral_solid number t.0;
    })

found_style : (number rest : List ℕ) (s : Statement) → style_said number rest ≡ Some s → Found (codes "style") number rest s
found_style number rest s e =
    let t = if_told _ _ s e in
    subst (Found (codes "style") number rest) t.1 (record {
      words = ([], rest, refl, (number, refl, refl, numeral_read number t.0));
      solid = numeral_solid number t.0;
    })

found_sheet : (number rest : List ℕ) (s : Statement) → sheet_said number rest ≡ Some s → Found (codes "sheet") number rest s
found_sheet number rest s e =
    let t = if_told _ _ s e in
    subst (Found (codes "sheet") number rest) t.1 (record {
      words = ([], rest, refl, (number, refl, refl, numeral_read number t.0));
      solid = numeral_solid number t.0;
    })

found_at : (word rest : List ℕ) (s : Statement) → at_said word rest ≡ Some s → Found (codes "at") word rest s
found_at word rest s e =
    let t = if_option_told _ _ s e in
    let m = map_told At (time_of_word word) s t.1 in
    let found = time_found word m.0 m.1 in
    subst (Found (codes "at") word rest) m.2 (record {
      words = ([], [], empty_told rest t.0, (word, refl, refl, found.0));
      solid = found.1;
    })

found_get : (number rest : List ℕ) (s : Statement) → get_said number rest ≡ Some s → Found (codes "get") number rest s
found_get number rest s e =
    let t = if_option_told _ _ s e in
    let m = map_told (Get (digits_value 10 number)) (property_named rest) s t.1 in
    subst (Found (codes "get") number rest) m.2 (record {
      words = (rest ∷ [], [], alone rest (named_solid rest m.0 m.1), (number, rest, refl, refl, numeral_read number t.0, m.1));
      solid = numeral_solid number t.0;
    })

-- ---- a line by its words

choose : (b : Bool) (x y : Option Statement) (s : Statement) → (if b then x else y) ≡ Some s → ((b ≡ true) × (x ≡ Some s)) ⊎ (y ≡ Some s)
choose true x y s h = inl (refl, h)
choose false x y s h = inr h

at_word : (word keyword second rest : List ℕ) (s : Statement) → bytes_eq word keyword ≡ true → Found keyword second rest s → Found word second rest s
at_word word keyword second rest s t found = subst (λ (w : List ℕ). Found w second rest s) (sym ((bytes_eq-Decides word keyword).0 t)) found

-- a frame, which is one word
abbrev IsFrameLine : List ℕ → List ℕ → Statement → Type 0
IsFrameLine word second s = (word ≡ codes "frame") × (second ≡ []) × (s ≡ Frame)

frame_told : (word second : List ℕ) (s : Statement) → bytes_eq word (codes "frame") ≡ true → (if length second == 0 then Some Frame else None) ≡ Some s → IsFrameLine word second s
frame_told word second s t e =
    let told = if_told _ _ s e in
    ((bytes_eq-Decides word (codes "frame")).0 t, empty_told second told.0, sym told.1)

-- the tests that are left after each
abbrev from_list : List ℕ → List ℕ → List ℕ → Option Statement
from_list word second rest = if bytes_eq word (codes "list") then list_said second rest else None

abbrev from_get : List ℕ → List ℕ → List ℕ → Option Statement
from_get word second rest = if bytes_eq word (codes "get") then get_said second rest else from_list word second rest

abbrev from_frame : List ℕ → List ℕ → List ℕ → Option Statement
from_frame word second rest = if bytes_eq word (codes "frame") then (if length second == 0 then Some Frame else None) else from_get word second rest

abbrev from_at : List ℕ → List ℕ → List ℕ → Option Statement
from_at word second rest = if bytes_eq word (codes "at") then at_said second rest else from_frame word second rest

abbrev from_sheet : List ℕ → List ℕ → List ℕ → Option Statement
from_sheet word second rest = if bytes_eq word (codes "sheet") then sheet_said second rest else from_at word second rest

otherwise_found : (word second rest : List ℕ) (s : Statement) → otherwise_said_by word second rest ≡ Some s → Found word second rest s ⊎ IsFrameLine word second s
unfolding otherwise_said_by
otherwise_found word second rest s e = elim (choose (bytes_eq word (codes "style")) (style_said second rest) (from_sheet word second rest) s e) [
  | inl h ↦ inl (at_word word (codes "style") second rest s h.0 (found_style second rest s h.1))
  | inr others ↦ elim (choose (bytes_eq word (codes "sheet")) (sheet_said second rest) (from_at word second rest) s others) [
    | inl h ↦ inl (at_word word (codes "sheet") second rest s h.0 (found_sheet second rest s h.1))
    | inr others ↦ elim (choose (bytes_eq word (codes "at")) (at_said second rest) (from_frame word second rest) s others) [
      | inl h ↦ inl (at_word word (codes "at") second rest s h.0 (found_at second rest s h.1))
      | inr others ↦ elim (choose (bytes_eq word (codes "frame")) (if length second == 0 then Some Frame else None) (from_get word second rest) s others) [
        | inl h ↦ inr (frame_told word second s h.0 h.1)
        | inr others ↦ elim (choose (bytes_eq word (codes "get")) (get_said second rest) (from_list word second rest) s others) [
          | inl h ↦ inl (at_word word (codes "get") second rest s h.0 (found_get second rest s h.1))
          | inr others ↦ elim (choose (bytes_eq word (codes "list")) (list_said second rest) None s others) [
            | inl h ↦ inl (at_word word (codes "list") second rest s h.0 (found_list second rest s h.1))
            | inr others ↦ cc
          ]
        ]
      ]
    ]
  ]
]

abbrev from_class : List ℕ → List ℕ → List ℕ → Option Statement
from_class word second rest = if bytes_eq word (codes "class") then class_said second rest else otherwise_said_by word second rest

abbrev from_id : List ℕ → List ℕ → List ℕ → Option Statement
from_id word second rest = if bytes_eq word (codes "id") then id_said second rest else from_class word second rest

abbrev from_remove : List ℕ → List ℕ → List ℕ → Option Statement
from_remove word second rest = if bytes_eq word (codes "remove") then remove_said second rest else from_id word second rest

abbrev from_insert : List ℕ → List ℕ → List ℕ → Option Statement
from_insert word second rest = if bytes_eq word (codes "insert") then insert_said second rest else from_remove word second rest

said_found : (word second rest : List ℕ) (s : Statement) → begins_with_space rest ≡ false → said_by word second rest ≡ Some s → Found word second rest s ⊎ IsFrameLine word second s
unfolding said_by
said_found word second rest s f e = elim (choose (bytes_eq word (codes "add")) (add_said second rest) (from_insert word second rest) s e) [
  | inl h ↦ inl (at_word word (codes "add") second rest s h.0 (found_add second rest s f h.1))
  | inr others ↦ elim (choose (bytes_eq word (codes "insert")) (insert_said second rest) (from_remove word second rest) s others) [
    | inl h ↦ inl (at_word word (codes "insert") second rest s h.0 (found_insert second rest s f h.1))
    | inr others ↦ elim (choose (bytes_eq word (codes "remove")) (remove_said second rest) (from_id word second rest) s others) [
      | inl h ↦ inl (at_word word (codes "remove") second rest s h.0 (found_remove second rest s h.1))
      | inr others ↦ elim (choose (bytes_eq word (codes "id")) (id_said second rest) (from_class word second rest) s others) [
        | inl h ↦ inl (at_word word (codes "id") second rest s h.0 (found_id second rest s h.1))
        | inr others ↦ elim (choose (bytes_eq word (codes "class")) (class_said second rest) (otherwise_said_by word second rest) s others) [
          | inl h ↦ inl (at_word word (codes "class") second rest s h.0 (found_class second rest s f h.1))
          | inr others ↦ otherwise_found word second rest s others
        ]
      ]
    ]
  ]
]

-- ---- a line as a whole

after_begins : (body : List ℕ) → begins_with_space (after_word body) ≡ false
after_begins body = front_dropped (drop (length (first_word body)) body)

body_found : (line body : List ℕ) (s : Statement) → IsTrimmed line body → 0 < length body → IsUtf8 line
    → Found (first_word body) (first_word (after_word body)) (after_word (after_word body)) s → IsStatement line s
body_found line body s h some u found =
    let after = after_word body in
    let order = order_more after found.words.0 found.words.1 (after_begins body) (first_some after found.solid) found.words.2 in
    inr (
      u,
      (
        first_word body ∷ first_word after ∷ found.words.0,
        found.words.1,
        (body, h, order_more body (first_word after ∷ found.words.0) found.words.1 h.front some order),
        found.words.3,
      ),
    )

no_word_after : (body : List ℕ) → first_word (after_word body) ≡ [] → after_word body ≡ []
no_word_after body e = by_bytes (after_word body) (after_begins body) e where
  by_bytes : (after : List ℕ) → begins_with_space after ≡ false → first_word after ≡ [] → after ≡ []
  by_bytes [] f none = refl
  by_bytes (x ∷ xs) f none = let some = first_word-cons x xs f in let no : x ∷ first_word xs ≡ [] = sym some ∙ none in cc

frame_found : (line body : List ℕ) (s : Statement) → IsTrimmed line body → 0 < length body → IsUtf8 line
    → IsFrameLine (first_word body) (first_word (after_word body)) s → IsStatement line s
frame_found line body s h some u frame =
    inr (
      u,
      (
        first_word body ∷ [],
        [],
        (body, h, order_more body [] [] h.front some (no_word_after body frame.1)),
        subst (λ (x : Statement). Says (first_word body ∷ []) [] x) (sym frame.2) (ap (λ w. w ∷ []) frame.0, refl),
      ),
    )

body_read : (line body : List ℕ) (s : Statement) → IsTrimmed line body → 0 < length body → IsUtf8 line → said_by_body body ≡ Some s → IsStatement line s
body_read line body s h some u e = elim (said_found (first_word body) (first_word (after_word body)) (after_word (after_word body)) s (after_begins (after_word body)) e) [
  | inl found ↦ body_found line body s h some u found
  | inr frame ↦ frame_found line body s h some u frame
]

-- a comment or nothing
comment_or_nothing : (body : List ℕ) → is_blank_body body ≡ true → (body ≡ []) ⊎ ((comment : List ℕ) × (body ≡ 35 ∷ comment))
comment_or_nothing [] h = inl refl
comment_or_nothing (x ∷ xs) h = elim (or_cases _ _ h) [
  | inl none ↦ let no : length (x ∷ xs) ≡ 0 = eqb-true (length (x ∷ xs)) 0 none in absurd (omega arith)
  | inr hash ↦ inr (xs, ap (λ b. b ∷ xs) (eqb-true x 35 hash))
]

blank_found : (line body : List ℕ) → IsTrimmed line body → is_blank_body body ≡ true → IsBlank line
blank_found line body h blank = by_case (comment_or_nothing body blank) where
  front : List ℕ
  front = h.spelled.0

  back : List ℕ
  back = h.spelled.1

  by_case : (body ≡ []) ⊎ ((comment : List ℕ) × (body ≡ 35 ∷ comment)) → IsBlank line
  by_case (inl e) = (
    front ++ back,
    [],
    all-join is_space_byte front back h.spelled.2 h.spelled.3,
    h.spelled.4 ∙ ap (λ b. (front ++ b) ++ back) e ∙ ap (λ f. f ++ back) (append-nil front) ∙ sym (append-nil (front ++ back)),
    inl refl,
  )
  by_case (inr e) = (front, body ++ back, h.spelled.2, h.spelled.4 ∙ append_assoc front body back, inr (e.0 ++ back, ap (λ b. b ++ back) e.1))

not_blank_some : (body : List ℕ) → is_blank_body body ≡ false → 0 < length body
not_blank_some body h = some_bytes body (or_parts _ _ h).0

-- the function finds no more than the grammar has
pub statement_told : (line : List ℕ) (s : Statement) → statement_of line ≡ Some s → IsStatement line s
unfolding statement_of
statement_told line s e = by_test (is_blank_body (trimmed line)) refl e where
  by_utf8 : (c : Bool) → is_utf8 line ≡ c → is_blank_body (trimmed line) ≡ false → (if c then said_by_body (trimmed line) else None) ≡ Some s → IsStatement line s
  by_utf8 true u b h = body_read line (trimmed line) s (trimmed_spelled line) (not_blank_some (trimmed line) b) (IsUtf8-from_is_utf8 line u) h
  by_utf8 false u b h = cc

  by_test : (b : Bool) → is_blank_body (trimmed line) ≡ b → (if b then Some Nothing else if is_utf8 line then said_by_body (trimmed line) else None) ≡ Some s → IsStatement line s
  by_test true b h = let same : Nothing ≡ s = cc in inl (blank_found line (trimmed line) (trimmed_spelled line) b, sym same)
  by_test false b h = by_utf8 (is_utf8 line) refl b h

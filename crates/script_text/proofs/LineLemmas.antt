-- Lines of the same words, and lines with more spaces.
use Rattle.std.proofs.Common.{◌≡◌, ℕ, ◌<◌, ◌≤◌, Bool, true, false, List, [], ◌∷◌, ◌++◌, length, refl, ap, sym, subst, ◌∙◌, inl, inr, arith}
use Rattle.std.specs.Prelude.{◌||◌, ◌==◌, if◌then◌else◌, Option, Some, None}
use Rattle.std.specs.List.{list_all}
use Rattle.std.specs.Char.{is_ascii_digit}
use Rattle.std.specs.Str.{IsAscii, IsUtf8, is_utf8}
use Rattle.std.proofs.lemmas.Bool.{and_parts, ne_eqb}
use Rattle.std.proofs.lemmas.Bool.Decides.{nat_tests}
use Rattle.std.proofs.lemmas.List.{append_assoc, length-append}
use Rattle.std.proofs.lemmas.Str.{IsUtf8-append, IsUtf8-from_ascii, IsUtf8-from_is_utf8, is_utf8-from_IsUtf8}
use Rattle.std.proofs.lemmas.Str.Ascii.{IsAscii-cons, IsAscii-nil}
use Rattle.script_text.specs.declared.command.Command.TheVariants as command
use Rattle.script_text.specs.Commands.{IsNoLongerThan, command_from}
use Rattle.script_text.specs.Forms.{is_numeral}
use Rattle.script_text.specs.Reading.{is_blank_body, said_by, said_by_body, statement_of}
use Rattle.script_text.specs.Statements.{IsStatement, Says, Statement, Nothing, Add, Insert, Remove, Id, Class, Style, Sheet, At, Frame, Get, Listing}
use Rattle.script_text.specs.Words.{AreInOrder, AreSpaceBytes, HasWords, IsSolid, IsTrimmed, is_space_byte, trimmed}
use Rattle.script_text.proofs.CompleteLemmas.{rest_in_order, statement_is, two_words}
use Rattle.script_text.proofs.OrderLemmas.{after_gap}
use Rattle.script_text.proofs.TextLemmas.{after_spaces_is_utf8, body_is_utf8, front_is_utf8, no_word_begins, spaces_are_utf8, spaces_begin, tail_is_utf8}
use Rattle.script_text.proofs.TrimLemmas.{all-join, trimmed_is, trimmed_spelled}

-- ---- texts

-- each word is a text
abbrev pub AreTexts : List (List ℕ) → Type 0
AreTexts [] = Unit {0}
AreTexts (word ∷ words) = IsUtf8 word × AreTexts words

words_are_texts : (words : List (List ℕ)) (body text : List ℕ) → AreInOrder body words text → IsUtf8 body → AreTexts words × IsUtf8 text
words_are_texts [] body text o u = let P : List ℕ → Type 0 = λ bs. IsUtf8 bs in (tt, subst P o u)
words_are_texts (word ∷ words) body text o u =
    let P : List ℕ → Type 0 = λ bs. IsUtf8 bs in
    let gap = o.1.0 in
    let rest = o.1.1 in
    let whole : IsUtf8 (word ++ (gap ++ rest)) = subst P (o.1.2 ∙ append_assoc word gap rest) u in
    let ascii = no_word_begins (gap ++ rest) (after_gap gap rest o.1.3) in
    let more = words_are_texts words rest text o.1.4 (after_spaces_is_utf8 gap rest o.1.3.spaces (tail_is_utf8 word (gap ++ rest) whole ascii)) in
    ((front_is_utf8 word (gap ++ rest) whole ascii, more.0), more.1)

texts_are_one : (words : List (List ℕ)) (body text : List ℕ) → AreInOrder body words text → AreTexts words → IsUtf8 text → IsUtf8 body
texts_are_one [] body text o h u = let P : List ℕ → Type 0 = λ bs. IsUtf8 bs in subst P (sym o) u
texts_are_one (word ∷ words) body text o h u =
    let P : List ℕ → Type 0 = λ bs. IsUtf8 bs in
    let gap = o.1.0 in
    let rest = o.1.1 in
    subst P (sym o.1.2) (IsUtf8-append (word ++ gap) rest (IsUtf8-append word gap h.0 (spaces_are_utf8 gap o.1.3.spaces)) (texts_are_one words rest text o.1.4 h.1 u))

line_is_utf8 : (line body : List ℕ) → IsTrimmed line body → IsUtf8 body → IsUtf8 line
line_is_utf8 line body h u =
    let P : List ℕ → Type 0 = λ bs. IsUtf8 bs in
    let front = h.spelled.0 in
    let back = h.spelled.1 in
    subst P (sym h.spelled.4) (IsUtf8-append (front ++ body) back (IsUtf8-append front body (spaces_are_utf8 front h.spelled.2) u) (spaces_are_utf8 back h.spelled.3))

-- a line is a text where its words and its text are
pub line_of_texts : (line : List ℕ) (words : List (List ℕ)) (text : List ℕ) → HasWords line words text → AreTexts words → IsUtf8 text → IsUtf8 line
line_of_texts line words text h w u = line_is_utf8 line h.0 h.1 (texts_are_one words h.0 text h.2 w u)

pub same_texts : (line other : List ℕ) (words : List (List ℕ)) (text : List ℕ) → HasWords line words text → HasWords other words text → IsUtf8 line → IsUtf8 other
same_texts line other words text h k u =
    let parts = words_are_texts words h.0 text h.2 (body_is_utf8 line h.0 h.1 u) in
    line_of_texts other words text k parts.0 parts.1

same_test : (a b : Bool) → (a ≡ true → b ≡ true) → (b ≡ true → a ≡ true) → a ≡ b
same_test true b f g = sym (f refl)
same_test false true f g = g refl
same_test false false f g = refl

same_utf8 : (xs ys : List ℕ) → (IsUtf8 xs → IsUtf8 ys) → (IsUtf8 ys → IsUtf8 xs) → is_utf8 xs ≡ is_utf8 ys
same_utf8 xs ys f g =
    same_test (is_utf8 xs) (is_utf8 ys) (λ u. is_utf8-from_IsUtf8 ys (f (IsUtf8-from_is_utf8 xs u))) (λ u. is_utf8-from_IsUtf8 xs (g (IsUtf8-from_is_utf8 ys u)))

digits_are_ascii : (word : List ℕ) → list_all is_ascii_digit word ≡ true → IsAscii word
digits_are_ascii [] h = IsAscii-nil
digits_are_ascii (b ∷ bs) h = IsAscii-cons b bs (small b (and_parts _ _ h).0) (digits_are_ascii bs (and_parts _ _ h).1) where
  small : (c : ℕ) → is_ascii_digit c ≡ true → c < 128
  small c d = grind (arith, nat_tests)

pub numeral_is_utf8 : (word : List ℕ) → is_numeral word ≡ true → IsUtf8 word
numeral_is_utf8 word h = IsUtf8-from_ascii word (digits_are_ascii word (and_parts _ _ h).1)

-- ---- what a line says, by three tests

abbrev said_from : Bool → Bool → Option Statement → Option Statement
said_from blank utf8 said = if blank then Some Nothing else if utf8 then said else None

statement_by : (line : List ℕ) (blank utf8 : Bool) (said : Option Statement) → is_blank_body (trimmed line) ≡ blank → is_utf8 line ≡ utf8 → said_by_body (trimmed line) ≡ said
    → statement_of line ≡ said_from blank utf8 said
unfolding statement_of
statement_by line blank utf8 said b u s =
    ap (λ x. said_from x (is_utf8 line) (said_by_body (trimmed line))) b ∙ ap (λ x. said_from blank x (said_by_body (trimmed line))) u ∙ ap (said_from blank utf8) s

-- ---- spaces at the ends

more_spaces : (front line back : List ℕ) → AreSpaceBytes front → AreSpaceBytes back → trimmed (front ++ line ++ back) ≡ trimmed line
more_spaces front line back f b =
    let h = trimmed_spelled line in
    let first = h.spelled.0 in
    let last = h.spelled.1 in
    trimmed_is (front ++ line ++ back) (trimmed line) (record {
      spelled = (
        front ++ first,
        last ++ back,
        all-join is_space_byte front first f h.spelled.2,
        all-join is_space_byte last back h.spelled.3 b,
        ap (λ xs. (front ++ xs) ++ back) h.spelled.4 ∙ simp append_assoc,
      );
      front = h.front;
      back = h.back;
    })

spaces_utf8 : (front line back : List ℕ) → AreSpaceBytes front → AreSpaceBytes back → is_utf8 (front ++ line ++ back) ≡ is_utf8 line
spaces_utf8 front line back f b =
    same_utf8 (front ++ line ++ back) line
    (λ u. after_spaces_is_utf8 front line f (front_is_utf8 (front ++ line) back u (spaces_begin back b)))
    (λ u. IsUtf8-append (front ++ line) back (IsUtf8-append front line (spaces_are_utf8 front f) u) (spaces_are_utf8 back b))

pub ends_dropped : (front line back : List ℕ) → AreSpaceBytes front → AreSpaceBytes back → statement_of (front ++ line ++ back) ≡ statement_of line
ends_dropped front line back f b =
    let t = more_spaces front line back f b in
    statement_by (front ++ line ++ back) _ _ _ (ap is_blank_body t) (spaces_utf8 front line back f b) (ap said_by_body t)
    ∙ sym (statement_by line _ _ _ refl refl refl)

-- ---- spaces between words

pub words_alike : (line other : List ℕ) (words : List (List ℕ)) (text : List ℕ) (s : Statement) → HasWords line words text → HasWords other words text → IsUtf8 line
    → Says words text s → statement_of other ≡ statement_of line
words_alike line other words text s h k u says =
    statement_is other s (inr (same_texts line other words text h k u, (words, text, k, says))) ∙ sym (statement_is line s (inr (u, (words, text, h, says))))

blank_first : (word more : List ℕ) → IsSolid word → is_blank_body (word ++ more) ≡ is_blank_body word
blank_first [] more h = let some = h.some in absurd (omega arith)
blank_first (w ∷ ws) more h =
    ap (λ b. b || w == 35) (ne_eqb (length (w ∷ (ws ++ more))) 0 (λ e. omega arith) ∙ sym (ne_eqb (length (w ∷ ws)) 0 (λ e. omega arith)))

blank_by_first : (line word : List ℕ) (words : List (List ℕ)) (text : List ℕ) → HasWords line (word ∷ words) text → is_blank_body (trimmed line) ≡ is_blank_body word
blank_by_first line word words text h =
    let o = h.2 in
    ap is_blank_body (trimmed_is line h.0 h.1 ∙ o.1.2 ∙ append_assoc word o.1.0 o.1.1) ∙ blank_first word (o.1.0 ++ o.1.1) o.0

said_by_two : (line first second text : List ℕ) → HasWords line (first ∷ second ∷ []) text → said_by_body (trimmed line) ≡ said_by first second text
said_by_two line first second text h =
    ap said_by_body (trimmed_is line h.0 h.1) ∙ two_words h.0 first second [] text h.2 ∙ ap (said_by first second) (rest_in_order h.0 first second [] text h.2)

pub two_alike : (line other first second text : List ℕ) → HasWords line (first ∷ second ∷ []) text → HasWords other (first ∷ second ∷ []) text
    → statement_of other ≡ statement_of line
two_alike line other first second text h k =
    let words : List (List ℕ) = first ∷ second ∷ [] in
    statement_by other _ _ _ (blank_by_first other first (second ∷ []) text k)
    (same_utf8 other line (same_texts other line words text k h) (same_texts line other words text h k)) (said_by_two other first second text k)
    ∙ sym (statement_by line _ _ _ (blank_by_first line first (second ∷ []) text h) refl (said_by_two line first second text h))

-- ---- what is blank, and how long a text is

pub nothing_said : (words : List (List ℕ)) (text : List ℕ) (s : Statement) → Says words text s → command.Blank ≡ command_from s → ⊥
nothing_said words text Nothing h e = h
nothing_said words text (Add n parent tag) h e = cc
nothing_said words text (Insert n sibling tag) h e = cc
nothing_said words text (Remove n) h e = cc
nothing_said words text (Id n name) h e = cc
nothing_said words text (Class n names) h e = cc
nothing_said words text (Style n style) h e = cc
nothing_said words text (Sheet k sheet) h e = cc
nothing_said words text (At time) h e = cc
nothing_said words text Frame h e = cc
nothing_said words text (Get n p) h e = cc
nothing_said words text (Listing n) h e = cc

text_in_body : (words : List (List ℕ)) (body text : List ℕ) → AreInOrder body words text → length text ≤ length body
text_in_body [] body text o = let e = ap length o in omega arith
text_in_body (word ∷ words) body text o =
    let e = ap length o.1.2 ∙ length-append (word ++ o.1.0) o.1.1 in
    let more = text_in_body words o.1.1 text o.1.4 in
    omega arith

text_in_line : (line : List ℕ) (words : List (List ℕ)) (text : List ℕ) → HasWords line words text → length text ≤ length line
text_in_line line words text h =
    let front = h.1.spelled.0 in
    let e = ap length h.1.spelled.4 ∙ length-append (front ++ h.0) h.1.spelled.1 in
    let f = length-append front h.0 in
    let within = text_in_body words h.0 text h.2 in
    omega arith

said_within : (line : List ℕ) (words : List (List ℕ)) (text : List ℕ) (s : Statement) → HasWords line words text → Says words text s → IsNoLongerThan (length line) (command_from s)
said_within line words text Nothing h says = absurd says
said_within line words text (Add n parent tag) h says = tt
said_within line words text (Insert n sibling tag) h says = tt
said_within line words text (Remove n) h says = tt
said_within line words text (Id n name) h says = tt
said_within line words text (Class n names) h says = tt
said_within line words text (Style n style) h says = let e = ap length says.2 in let within = text_in_line line words text h in omega arith
said_within line words text (Sheet k sheet) h says = let e = ap length says.2 in let within = text_in_line line words text h in omega arith
said_within line words text (At time) h says = tt
said_within line words text Frame h says = tt
said_within line words text (Get n p) h says = tt
said_within line words text (Listing n) h says = tt

pub text_within : (line : List ℕ) (s : Statement) → IsStatement line s → IsNoLongerThan (length line) (command_from s)
text_within line s (inl blank) = subst (λ (x : Statement). IsNoLongerThan (length line) (command_from x)) (sym blank.1) tt
text_within line s (inr h) = said_within line h.1.0 h.1.1 s h.1.2 h.1.3

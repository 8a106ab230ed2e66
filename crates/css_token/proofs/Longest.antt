-- No token that may begin a text is longer than the one that the function answers, and one as long is of its kind.
use Rattle.std.proofs.Common.{◌≡◌, ℕ, ◌+◌, ◌<◌, ◌≤◌, Bool, true, false, ◌&&◌, ◌||◌, List, [], ◌∷◌, ◌++◌, length, get_or, take, drop, map, eqb, inl, inr, refl, sym, ap, ◌∙◌, subst, arith, append_assoc, length-append, take-append-drop}
use Rattle.std.specs.Prelude.{codes}
use Rattle.std.specs.List.{list_all, list_any, AllByRecursion}
use Rattle.std.specs.Char.{is_ascii_digit, is_ascii_whitespace, to_ascii_lowercase}
use Rattle.std.proofs.lemmas.Bool.{and_parts, or_cases, or_parts, false≢true, eqb-true, eqb-false, eq-eqb, ne_eqb, cases_lt, cases_Bool, cond-true, cond-false, cond_both, false_from_ne_true}
use Rattle.std.proofs.lemmas.List.{length-take-le, get_or_at, drop_at}
use Rattle.css_token.specs.Characters.{is_name_start, is_name, is_quote, is_text, is_url, is_delim}
use Rattle.css_token.specs.Productions.{IsRun, IsLexeme, IsComment, IsNumber, IsIdentifier, begins_identifier, begins_comment, begins_url}
use Rattle.css_token.specs.TokenLists.{Begins}
use Rattle.css_token.specs.Fronts.{fraction_len, unsigned_len, identifier_len, number_len, text_len, url_len, comment_len, closed_piece, lone_piece, numeric_piece, name_piece, mark_piece, piece_at}
use Rattle.css_token.specs.declared.token.Kind.{Kind}
use Rattle.css_token.specs.declared.token.Kind.TheVariants.{Space, Ident, Function, AtWord, Hash, Text, Url, Number, Percent, Dimension, Colon, Semicolon, Comma, RoundOpen, RoundClose, SquareOpen, SquareClose, CurlyOpen, CurlyClose, Delim}
use Rattle.css_token.specs.declared.pieces.Piece.{Piece}
use Rattle.css_token.specs.declared.pieces.Piece.TheVariants.{Token, Comment, Bad}
use Rattle.css_token.proofs.Runs.{run_reaches, some_run}
use Rattle.css_token.proofs.Names.{begins-append, begins_with_name, identifier_front, identifier_len_is, identifier_reaches, identifier_stops}
use Rattle.css_token.proofs.Numbers.{begins_number, number_first, number_some, number_reaches, number_stops, number_sound, unsigned_some}
use Rattle.css_token.proofs.Texts.{text_at, url_at, url_word_begins, url_begins_identifier}
use Rattle.css_token.proofs.Comments.{comment_at}
use Rattle.css_token.proofs.Fronts.{at_space, at_quote, at_comment, at_number, at_name, at_mark}

-- the piece is a token of at least this length, and of this kind if it is as long
abbrev pub Reaches : Piece → Kind → ℕ → Type 0
Reaches (Token other more) kind len = (len ≤ more) × (len ≡ more → kind ≡ other)
Reaches (Comment more) kind len = ⊥
Reaches Bad kind len = ⊥

-- a longer token reaches, and so does the same one
longer : (other kind : Kind) (more len : ℕ) → len < more → Reaches (Token other more) kind len
longer other kind more len less = (omega arith, λ same. absurd (omega arith))

same_kind : (kind : Kind) (more len : ℕ) → len ≤ more → Reaches (Token kind more) kind len
same_kind kind more len less = (less, λ _. refl)

by_piece : (p q : Piece) (kind : Kind) (len : ℕ) → p ≡ q → Reaches q kind len → Reaches p kind len
by_piece p q kind len is reaches = subst (λ r. Reaches r kind len) (sym is) reaches

space_reaches : (at : ℕ) (bs rest : List ℕ) → IsRun is_ascii_whitespace bs → Reaches (piece_at at (bs ++ rest)) Space (length bs)
space_reaches at [] rest run = absurd (omega (arith, run.0))
space_reaches at (b ∷ bs) rest run =
    by_piece _ _ Space _ (at_space at (b ∷ bs ++ rest) (and_parts (is_ascii_whitespace b) (list_all is_ascii_whitespace bs) run.1).0)
    (same_kind Space _ _ (run_reaches is_ascii_whitespace (b ∷ bs) rest run.1))

-- an identifier at the front: what is longer or the same
named_reaches : (kind : Kind) (len : ℕ) (bs : List ℕ) → begins_url bs ≡ false → len ≤ identifier_len bs → (len ≡ identifier_len bs → kind ≡ Ident) → Reaches (name_piece bs) kind len
unfolding name_piece
named_reaches kind len bs url reaches same =
    let P : Piece → Type 0 = λ p. Reaches p kind len in
    subst P (sym (cond-false (begins_url bs) _ _ url))
    (cond_both (eqb (get_or bs (identifier_len bs) 0) 40) _ _ P
    (λ _. longer Function kind _ _ (omega arith))
    (λ _. (reaches, same)))

ident_reaches : (at : ℕ) (bs rest : List ℕ) → IsIdentifier bs → begins_comment (bs ++ rest) ≡ false → begins_url (bs ++ rest) ≡ false → Reaches (piece_at at (bs ++ rest)) Ident (length bs)
ident_reaches at bs rest name comment url =
    by_piece _ _ Ident _ (at_name at (bs ++ rest) comment (begins-append bs rest name.0))
    (named_reaches Ident (length bs) (bs ++ rest) url (identifier_reaches bs rest name) (λ _. refl))

function_named : (name rest : List ℕ) → IsIdentifier name → begins_url (name ++ 40 ∷ rest) ≡ false → name_piece (name ++ 40 ∷ rest) ≡ Token Function (length name + 1)
unfolding name_piece
function_named name rest is url =
    let bs = name ++ 40 ∷ rest in
    let len : identifier_len (name ++ 40 ∷ rest) ≡ length name = identifier_stops name 40 rest is refl in
    cond-false (begins_url bs) _ _ url
    ∙ cond-true (eqb (get_or bs (identifier_len bs) 0) 40) _ _ (eq-eqb _ 40 (get_or_at name 40 rest 0 _ (sym len)))
    ∙ ap (λ n. Token Function (n + 1)) len

function_reaches : (at : ℕ) (name rest : List ℕ) → IsIdentifier name → begins_comment (name ++ 40 ∷ rest) ≡ false → begins_url (name ++ 40 ∷ rest) ≡ false
    → Reaches (piece_at at (name ++ 40 ∷ rest)) Function (length (name ++ 40 ∷ []))
function_reaches at name rest is comment url =
    by_piece _ _ Function _ (at_name at (name ++ 40 ∷ rest) comment (begins-append name (40 ∷ rest) is.0) ∙ function_named name rest is url)
    (same_kind Function _ _ (omega (arith, length-append name (40 ∷ []))))

-- a number at the front
number_no_space : (b : ℕ) → begins_number b ≡ true → (is_ascii_whitespace b ≡ false) × (is_quote b ≡ false)
unfolding begins_number
number_no_space b is = (grind arith, grind arith)

at_number_of : (at : ℕ) (bs rest : List ℕ) → IsNumber bs → begins_comment (bs ++ rest) ≡ false → piece_at at (bs ++ rest) ≡ numeric_piece at (number_len (bs ++ rest)) (bs ++ rest)
at_number_of at bs rest is comment =
    let first = number_no_space (get_or (bs ++ rest) 0 0) (number_first bs rest is) in
    at_number at (bs ++ rest) first.0 first.1 comment (omega (arith, number_some bs is, number_reaches bs rest is))

numeric_reaches : (at len : ℕ) (kind : Kind) (bs : List ℕ) → len ≤ number_len bs → (len ≡ number_len bs → kind ≡ Number) → Reaches (numeric_piece at (number_len bs) bs) kind len
unfolding numeric_piece
numeric_reaches at len kind bs reaches same =
    let P : Piece → Type 0 = λ p. Reaches p kind len in
    let n = number_len bs in
    cond_both (eqb (get_or bs n 0) 37) _ _ P
    (λ _. longer Percent kind _ _ (omega arith))
    (λ _. cond_both (eqb (identifier_len (drop n bs)) 0) _ _ P
    (λ _. (reaches, same))
    (λ some. longer _ kind _ _ (let ne = eqb-false (identifier_len (drop n bs)) 0 some in omega arith)))

number_kind_reaches : (at : ℕ) (bs rest : List ℕ) → IsNumber bs → begins_comment (bs ++ rest) ≡ false → Reaches (piece_at at (bs ++ rest)) Number (length bs)
number_kind_reaches at bs rest is comment = by_piece _ _ Number _ (at_number_of at bs rest is comment) (numeric_reaches at (length bs) Number (bs ++ rest) (number_reaches bs rest is) (λ _. refl))

percent_piece : (at : ℕ) (number rest : List ℕ) → IsNumber number → numeric_piece at (number_len (number ++ 37 ∷ rest)) (number ++ 37 ∷ rest) ≡ Token Percent (length number + 1)
unfolding numeric_piece
percent_piece at number rest is =
    let bs = number ++ 37 ∷ rest in
    let len : number_len (number ++ 37 ∷ rest) ≡ length number = number_stops number 37 rest is refl refl in
    cond-true (eqb (get_or bs (number_len bs) 0) 37) _ _ (eq-eqb _ 37 (get_or_at number 37 rest 0 _ (sym len))) ∙ ap (λ n. Token Percent (n + 1)) len

percent_reaches : (at : ℕ) (number rest : List ℕ) → IsNumber number → begins_comment (number ++ 37 ∷ rest) ≡ false → Reaches (piece_at at (number ++ 37 ∷ rest)) Percent (length (number ++ 37 ∷ []))
percent_reaches at number rest is comment =
    by_piece _ _ Percent _ (at_number_of at number (37 ∷ rest) is comment ∙ percent_piece at number rest is)
    (same_kind Percent _ _ (omega (arith, length-append number (37 ∷ []))))

-- a unit begins with no digit, no point and no percent sign
unit_first : (b : ℕ) (bs : List ℕ) → begins_identifier (b ∷ bs) ≡ true → (is_ascii_digit b ≡ false) × (eqb b 46 ≡ false) × (eqb b 37 ≡ false)
unit_first b bs name = (grind arith, grind arith, grind arith)

dimension_piece : (at : ℕ) (number : List ℕ) (b : ℕ) (bs rest : List ℕ) → IsNumber number → IsIdentifier (b ∷ bs)
    → numeric_piece at (number_len (number ++ (b ∷ bs ++ rest))) (number ++ (b ∷ bs ++ rest)) ≡ Token (Dimension (at + length number)) (length number + identifier_len (b ∷ bs ++ rest))
unfolding numeric_piece
dimension_piece at number b bs rest is name =
    let text = number ++ (b ∷ bs ++ rest) in
    let first = unit_first b bs name.0 in
    let len : number_len (number ++ (b ∷ bs ++ rest)) ≡ length number = number_stops number b (bs ++ rest) is first.0 first.1 in
    let tail : drop (number_len text) text ≡ b ∷ bs ++ rest = drop_at number _ _ (sym len) in
    let unit : identifier_len (drop (number_len text) text) ≡ identifier_len (b ∷ bs ++ rest) = ap identifier_len tail in
    cond-false (eqb (get_or text (number_len text) 0) 37) _ _ (ap (λ x. eqb x 37) (get_or_at number b (bs ++ rest) 0 _ (sym len)) ∙ first.2)
    ∙ cond-false (eqb (identifier_len (drop (number_len text) text)) 0) _ _ (ne_eqb _ 0 (omega (arith, identifier_reaches (b ∷ bs) rest name)))
    ∙ (λ i. Token (Dimension (at + len i)) (len i + unit i))

dimension_reaches : (at : ℕ) (number name rest : List ℕ) → IsNumber number → IsIdentifier name → begins_comment (number ++ (name ++ rest)) ≡ false
    → Reaches (piece_at at (number ++ (name ++ rest))) (Dimension (at + length number)) (length (number ++ name))
dimension_reaches at number [] rest is name comment = absurd (false≢true name.0)
dimension_reaches at number (b ∷ bs) rest is name comment =
    by_piece _ _ (Dimension (at + length number)) _ (at_number_of at number (b ∷ bs ++ rest) is comment ∙ dimension_piece at number b bs rest is name)
    (same_kind (Dimension (at + length number)) _ _ (omega (arith, length-append number (b ∷ bs), identifier_reaches (b ∷ bs) rest name)))

closed_is : (kind : Kind) (opening len : ℕ) → 0 < len → closed_piece kind opening len ≡ Token kind (opening + len)
unfolding closed_piece
closed_is kind opening len some = cond-false (eqb len 0) _ _ (ne_eqb _ 0 (omega arith))

text_reaches : (at quote : ℕ) (inside rest : List ℕ) → is_quote quote ≡ true → list_all (is_text quote) inside ≡ true → Reaches (piece_at at (quote ∷ (inside ++ quote ∷ rest))) Text (length (quote ∷ inside ++ quote ∷ []))
text_reaches at quote inside rest is all =
    let len : text_len quote (inside ++ quote ∷ rest) ≡ length inside + 1 = text_at quote inside rest all in
    by_piece _ _ Text _ (at_quote at (quote ∷ (inside ++ quote ∷ rest)) is ∙ closed_is Text 1 _ (omega arith))
    (same_kind Text _ _ (omega (arith, length-append inside (quote ∷ []))))

url_named : (bs : List ℕ) → begins_url bs ≡ true → 0 < url_len (drop 4 bs) → name_piece bs ≡ Token Url (4 + url_len (drop 4 bs))
unfolding name_piece
url_named bs url some = cond-true (begins_url bs) _ _ url ∙ closed_is Url 4 _ some

url_reaches : (at : ℕ) (word before inside after rest : List ℕ) → map to_ascii_lowercase word ≡ codes "url" → list_all is_ascii_whitespace before ≡ true → list_all is_url inside ≡ true → list_all is_ascii_whitespace after ≡ true
    → begins_comment (word ++ 40 ∷ (before ++ (inside ++ (after ++ 41 ∷ rest)))) ≡ false
    → Reaches (piece_at at (word ++ 40 ∷ (before ++ (inside ++ (after ++ 41 ∷ rest))))) Url (length word + (1 + (length before + (length inside + (length after + 1)))))
url_reaches at [] before inside after rest word begins all ends comment = absurd (omega (arith, ap length word))
url_reaches at (a ∷ []) before inside after rest word begins all ends comment = absurd (omega (arith, ap length word))
url_reaches at (a ∷ b ∷ []) before inside after rest word begins all ends comment = absurd (omega (arith, ap length word))
url_reaches at (a ∷ b ∷ c ∷ d ∷ more) before inside after rest word begins all ends comment = absurd (omega (arith, ap length word))
url_reaches at (a ∷ b ∷ c ∷ []) before inside after rest word begins all ends comment =
    let tail = before ++ (inside ++ (after ++ 41 ∷ rest)) in
    let bs = a ∷ b ∷ c ∷ 40 ∷ tail in
    let len = url_at before inside after rest begins all ends in
    let url : begins_url bs ≡ true = url_word_begins a b c tail word len.1 in
    by_piece _ _ Url _ (at_name at bs comment (url_begins_identifier bs url) ∙ url_named bs url (omega (arith, len.0)))
    (same_kind Url _ _ (omega (arith, len.0)))

hash_reaches : (at : ℕ) (name rest : List ℕ) → IsRun is_name name → Reaches (piece_at at (35 ∷ (name ++ rest))) Hash (length (35 ∷ name))
unfolding number_len unsigned_len fraction_len mark_piece
hash_reaches at [] rest run = absurd (omega (arith, run.0))
hash_reaches at (b ∷ name) rest run =
    by_piece _ _ Hash _ (at_mark at (35 ∷ (b ∷ name ++ rest)) refl refl refl refl refl ∙ cond-true (is_name b) _ _ (and_parts (is_name b) (list_all is_name name) run.1).0)
    (same_kind Hash _ _ (omega (arith, run_reaches is_name (b ∷ name) rest run.1)))

at_word_reaches : (at : ℕ) (name rest : List ℕ) → IsIdentifier name → Reaches (piece_at at (64 ∷ (name ++ rest))) AtWord (length (64 ∷ name))
unfolding number_len unsigned_len fraction_len mark_piece
at_word_reaches at name rest is =
    by_piece _ _ AtWord _ (at_mark at (64 ∷ (name ++ rest)) refl refl refl refl refl ∙ cond-true (begins_identifier (name ++ rest)) _ _ (begins-append name rest is.0))
    (same_kind AtWord _ _ (omega (arith, identifier_reaches name rest is)))

-- a character with a kind of its own
mark_reaches : (at b : ℕ) (kind : Kind) (bytes rest : List ℕ) → bytes ≡ b ∷ [] → piece_at at (b ∷ rest) ≡ Token kind 1 → Reaches (piece_at at (bytes ++ rest)) kind (length bytes)
mark_reaches at b kind bytes rest is piece =
    subst (λ l. Reaches (piece_at at (l ++ rest)) kind (length l)) (sym is) (by_piece _ _ kind 1 piece (same_kind kind 1 1 (omega arith)))

-- what holds of each of the characters holds of one of them
one_of : (P : ℕ → Type 0) (b : ℕ) (cs : List ℕ) → AllByRecursion P cs → list_any (λ c. eqb c b) cs ≡ true → P b
one_of P b [] all is = absurd (false≢true is)
one_of P b (c ∷ cs) all is = elim (or_cases (eqb c b) (list_any (λ c. eqb c b) cs) is) [
  | inl here ↦ subst P (eqb-true c b here) all.0
  | inr there ↦ one_of P b cs all.1 there
]

-- it is in none of the classes that begin a longer token, and stands alone
other_class : ℕ → Bool
other_class b = is_ascii_whitespace b || is_quote b || is_ascii_digit b || is_name_start b

IsAlone : ℕ → Type 0
IsAlone b = (other_class b ≡ false) × (lone_piece b ≡ Token Delim 1)

delim_alone : (b : ℕ) → is_delim b ≡ true → IsAlone b
unfolding lone_piece other_class IsAlone
delim_alone b is = one_of IsAlone b (codes "!#$%&*+-./<=>?@^`|~")
    (((refl, refl), ((refl, refl), ((refl, refl), ((refl, refl), ((refl, refl), ((refl, refl), ((refl, refl), ((refl, refl), ((refl, refl), ((refl, refl), ((refl, refl), ((refl, refl), ((refl, refl), ((refl, refl), ((refl, refl), ((refl, refl), ((refl, refl), ((refl, refl), ((refl, refl), tt)))))))))))))))))))) is

no_class : (b : ℕ) → other_class b ≡ false → (is_ascii_whitespace b ≡ false) × (is_quote b ≡ false) × (is_ascii_digit b ≡ false) × (is_name_start b ≡ false)
unfolding other_class
no_class b none =
    let digits = or_parts (is_ascii_whitespace b || is_quote b || is_ascii_digit b) (is_name_start b) none in
    let quotes = or_parts (is_ascii_whitespace b || is_quote b) (is_ascii_digit b) digits.0 in
    let spaces = or_parts (is_ascii_whitespace b) (is_quote b) quotes.0 in
    (spaces.0, spaces.1, quotes.1, digits.1)

-- a number of one byte is a digit
one_digit : (b : ℕ) → IsNumber (b ∷ []) → is_ascii_digit b ≡ true
one_digit b (inl (inl run)) = (and_parts (is_ascii_digit b) true run.1).0
one_digit b (inl (inr (whole, fraction, all, run, is))) = absurd (omega (arith, run.0, ap length is, length-append whole (46 ∷ fraction)))
one_digit b (inr (sign, unsigned, signed, digits, is)) = absurd (omega (arith, ap length is, unsigned_some unsigned digits))

-- an identifier of one byte is a name-start character
one_start : (b : ℕ) → IsIdentifier (b ∷ []) → is_name_start b ≡ true
one_start b name = elim (or_cases (is_name_start b) (eqb b 45 && false) name.0) [
  | inl start ↦ start
  | inr dash ↦ absurd (false≢true (and_parts (eqb b 45) false dash).1)
]

number_two : (b : ℕ) (rest : List ℕ) → is_ascii_digit b ≡ false → 0 < number_len (b ∷ rest) → 1 < number_len (b ∷ rest)
number_two b rest other some = elim (cases_lt 1 (number_len (b ∷ rest))) [
  | inl more ↦ more
  | inr less ↦
      let one : number_len (b ∷ rest) ≡ 1 = omega arith in
      absurd (false≢true (sym other ∙ one_digit b (subst (λ n. IsNumber (take n (b ∷ rest))) one (number_sound (b ∷ rest) some))))
]

name_two : (b : ℕ) (rest : List ℕ) → is_name_start b ≡ false → begins_identifier (b ∷ rest) ≡ true → 1 < identifier_len (b ∷ rest)
name_two b rest other begins = elim (cases_lt 1 (identifier_len (b ∷ rest))) [
  | inl more ↦ more
  | inr less ↦
      let some = some_run is_name (b ∷ rest) refl (begins_with_name (b ∷ rest) begins) in
      let one : identifier_len (b ∷ rest) ≡ 1 = omega (arith, identifier_len_is (b ∷ rest) begins) in
      absurd (false≢true (sym other ∙ one_start b (subst (λ n. IsIdentifier (take n (b ∷ rest))) one (identifier_front (b ∷ rest) begins))))
]

marked_delim : (b : ℕ) (rest : List ℕ) → lone_piece b ≡ Token Delim 1 → Reaches (mark_piece (b ∷ rest)) Delim 1
unfolding mark_piece
marked_delim b rest alone =
    let P : Piece → Type 0 = λ p. Reaches p Delim 1 in
    cond_both (eqb b 35 && is_name (get_or rest 0 0)) _ _ P
    (λ hash. longer Hash Delim _ _ (omega (arith, some_run is_name rest refl (and_parts (eqb b 35) (is_name (get_or rest 0 0)) hash).1)))
    (λ _. cond_both (eqb b 64 && begins_identifier rest) _ _ P
    (λ word.
    let begins = (and_parts (eqb b 64) (begins_identifier rest) word).1 in
    longer AtWord Delim _ _ (omega (arith, identifier_len_is rest begins, some_run is_name rest refl (begins_with_name rest begins))))
    (λ _. by_piece _ _ Delim 1 alone (same_kind Delim 1 1 (omega arith))))

delim_reaches : (at b : ℕ) (rest : List ℕ) → is_delim b ≡ true → begins_comment (b ∷ rest) ≡ false → begins_url (b ∷ rest) ≡ false → Reaches (piece_at at (b ∷ rest)) Delim 1
unfolding IsAlone
delim_reaches at b rest is comment url =
    let alone = delim_alone b is in
    let none = no_class b alone.0 in
    elim (cases_lt 0 (number_len (b ∷ rest))) [
      | inl number ↦
          by_piece _ _ Delim 1 (at_number at (b ∷ rest) none.0 none.1 comment number) (let two = number_two b rest none.2 number in numeric_reaches at 1 Delim (b ∷ rest) (omega arith) (λ same. absurd (omega arith)))
      | inr number ↦ elim (cases_Bool (begins_identifier (b ∷ rest))) [
        | inl name ↦
            let two = name_two b rest none.3 name in
            by_piece _ _ Delim 1 (at_name at (b ∷ rest) comment name) (named_reaches Delim 1 (b ∷ rest) url (omega arith) (λ same. absurd (omega arith)))
        | inr name ↦ by_piece _ _ Delim 1 (at_mark at (b ∷ rest) none.0 none.1 comment (omega arith) name) (marked_delim b rest alone.1)
      ]
    ]

-- the same, where the bytes are put together otherwise
regrouped : (at : ℕ) (kind : Kind) (bytes whole rest text : List ℕ) → bytes ≡ whole → bytes ++ rest ≡ text → Reaches (piece_at at text) kind (length whole) → Reaches (piece_at at (bytes ++ rest)) kind (length bytes)
regrouped at kind bytes whole rest text is grouped reaches = subst (λ l. Reaches (piece_at at l) kind (length bytes)) (sym grouped) (subst (λ n. Reaches (piece_at at text) kind n) (sym (ap length is)) reaches)

lexeme_reaches : (at : ℕ) (kind : Kind) (bytes rest : List ℕ) → IsLexeme at kind bytes → begins_comment (bytes ++ rest) ≡ false → (begins_url (bytes ++ rest) ≡ true → kind ≡ Url) → Reaches (piece_at at (bytes ++ rest)) kind (length bytes)
unfolding piece_at number_len unsigned_len fraction_len mark_piece lone_piece
lexeme_reaches at Space bytes rest run comment url = space_reaches at bytes rest run
lexeme_reaches at Ident bytes rest name comment url =
    ident_reaches at bytes rest name comment (false_from_ne_true _ (λ is. let e : Ident ≡ Url = url is in cc))
lexeme_reaches at Function bytes rest (name, is, text) comment url =
    let grouped : bytes ++ rest ≡ name ++ 40 ∷ rest = ap (λ l. l ++ rest) text ∙ append_assoc name (40 ∷ []) rest in
    regrouped at Function bytes _ rest _ text grouped
    (function_reaches at name rest is (ap begins_comment (sym grouped) ∙ comment) (false_from_ne_true _ (λ begins. let e : Function ≡ Url = url (ap begins_url grouped ∙ begins) in cc)))
lexeme_reaches at AtWord bytes rest (name, is, text) comment url = regrouped at AtWord bytes _ rest _ text (ap (λ l. l ++ rest) text) (at_word_reaches at name rest is)
lexeme_reaches at Hash bytes rest (name, run, text) comment url = regrouped at Hash bytes _ rest _ text (ap (λ l. l ++ rest) text) (hash_reaches at name rest run)
lexeme_reaches at Text bytes rest (quote, inside, is, all, text) comment url =
    regrouped at Text bytes _ rest _ text (ap (λ l. l ++ rest) text ∙ ap (λ l. quote ∷ l) (append_assoc inside (quote ∷ []) rest)) (text_reaches at quote inside rest is all)
lexeme_reaches at Url bytes rest (word, before, inside, after, is, begins, all, ends, text) comment url =
    let inner = before ++ (inside ++ (after ++ 41 ∷ [])) in
    let nested : bytes ≡ word ++ 40 ∷ (before ++ (inside ++ (after ++ 41 ∷ []))) = text ∙ simp append_assoc in
    let ends_with : (before ++ (inside ++ (after ++ 41 ∷ []))) ++ rest ≡ before ++ (inside ++ (after ++ 41 ∷ rest)) = simp append_assoc in
    let grouped : bytes ++ rest ≡ word ++ 40 ∷ (before ++ (inside ++ (after ++ 41 ∷ rest))) =
    ap (λ l. l ++ rest) nested ∙ append_assoc word (40 ∷ inner) rest ∙ ap (λ l. word ++ 40 ∷ l) ends_with in
    let size : length (word ++ 40 ∷ (before ++ (inside ++ (after ++ 41 ∷ [])))) ≡ length word + (1 + (length before + (length inside + (length after + 1)))) =
    omega (arith, length-append word (40 ∷ (before ++ (inside ++ (after ++ 41 ∷ [])))), length-append before (inside ++ (after ++ 41 ∷ [])), length-append inside (after ++ 41 ∷ []), length-append after (41 ∷ [])) in
    regrouped at Url bytes _ rest _ nested grouped
    (subst (λ n. Reaches (piece_at at (word ++ 40 ∷ (before ++ (inside ++ (after ++ 41 ∷ rest))))) Url n) (sym size)
    (url_reaches at word before inside after rest is begins all ends (ap begins_comment (sym grouped) ∙ comment)))
lexeme_reaches at Number bytes rest is comment url = number_kind_reaches at bytes rest is comment
lexeme_reaches at Percent bytes rest (number, is, text) comment url =
    let grouped : bytes ++ rest ≡ number ++ 37 ∷ rest = ap (λ l. l ++ rest) text ∙ append_assoc number (37 ∷ []) rest in
    regrouped at Percent bytes _ rest _ text grouped (percent_reaches at number rest is (ap begins_comment (sym grouped) ∙ comment))
lexeme_reaches at (Dimension unit) bytes rest (number, name, is, unit_is, text, place) comment url =
    let grouped : bytes ++ rest ≡ number ++ (name ++ rest) = ap (λ l. l ++ rest) text ∙ append_assoc number name rest in
    subst (λ u. Reaches (piece_at at (bytes ++ rest)) (Dimension u) (length bytes)) (sym place)
    (regrouped at (Dimension (at + length number)) bytes _ rest _ text grouped (dimension_reaches at number name rest is unit_is (ap begins_comment (sym grouped) ∙ comment)))
lexeme_reaches at Colon bytes rest is comment url = mark_reaches at 58 Colon bytes rest is refl
lexeme_reaches at Semicolon bytes rest is comment url = mark_reaches at 59 Semicolon bytes rest is refl
lexeme_reaches at Comma bytes rest is comment url = mark_reaches at 44 Comma bytes rest is refl
lexeme_reaches at RoundOpen bytes rest is comment url = mark_reaches at 40 RoundOpen bytes rest is refl
lexeme_reaches at RoundClose bytes rest is comment url = mark_reaches at 41 RoundClose bytes rest is refl
lexeme_reaches at SquareOpen bytes rest is comment url = mark_reaches at 91 SquareOpen bytes rest is refl
lexeme_reaches at SquareClose bytes rest is comment url = mark_reaches at 93 SquareClose bytes rest is refl
lexeme_reaches at CurlyOpen bytes rest is comment url = mark_reaches at 123 CurlyOpen bytes rest is refl
lexeme_reaches at CurlyClose bytes rest is comment url = mark_reaches at 125 CurlyClose bytes rest is refl
lexeme_reaches at Delim bytes rest (b, delim, is) comment url =
    let grouped : bytes ++ rest ≡ b ∷ rest = ap (λ l. l ++ rest) is in
    regrouped at Delim bytes (b ∷ []) rest _ is grouped
    (delim_reaches at b rest delim (ap begins_comment (sym grouped) ∙ comment) (false_from_ne_true _ (λ begins. let e : Delim ≡ Url = url (ap begins_url grouped ∙ begins) in cc)))

-- what may begin a text is reached by the piece there
pub begins_reaches : (at : ℕ) (kind : Kind) (len : ℕ) (bs : List ℕ) → Begins at kind len bs → Reaches (piece_at at bs) kind len
begins_reaches at kind len bs begins =
    let whole : take len bs ++ drop len bs ≡ bs = take-append-drop len bs in
    let size : length (take len bs) ≡ len = length-take-le len bs begins.within in
    subst (λ l. Reaches (piece_at at l) kind len) whole (subst (λ n. Reaches (piece_at at (take len bs ++ drop len bs)) kind n) size
    (lexeme_reaches at kind (take len bs) (drop len bs) begins.lexeme (ap begins_comment whole ∙ begins.no_comment) (λ is. begins.no_other_url (ap begins_url (sym whole) ∙ is))))

-- a comment at the front is the piece there
pub comment_is_piece : (at len : ℕ) (bs : List ℕ) → len ≤ length bs → IsComment (take len bs) → piece_at at bs ≡ Comment len
comment_is_piece at len bs within (inside, text, none) =
    let whole : bs ≡ 47 ∷ 42 ∷ (inside ++ 42 ∷ 47 ∷ drop len bs) =
    sym (take-append-drop len bs) ∙ ap (λ l. l ++ drop len bs) text ∙ ap (λ l. 47 ∷ 42 ∷ l) (append_assoc inside (42 ∷ 47 ∷ []) (drop len bs)) in
    let rest = inside ++ 42 ∷ 47 ∷ drop len bs in
    let size : comment_len (inside ++ 42 ∷ 47 ∷ drop len bs) ≡ length inside + 2 = comment_at inside (drop len bs) none in
    let same : 2 + comment_len (inside ++ 42 ∷ 47 ∷ drop len bs) ≡ len = omega (arith, ap length text, length-take-le len bs within, length-append inside (42 ∷ 47 ∷ [])) in
    ap (piece_at at) whole ∙ at_comment at (47 ∷ 42 ∷ rest) refl ∙ cond-false (eqb (comment_len rest) 0) _ _ (ne_eqb _ 0 (omega arith)) ∙ ap Comment same

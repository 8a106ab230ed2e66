-- What stands at the front of a text: the function answers a piece that begins it.
use Rattle.std.proofs.Common.{◌≡◌, ℕ, ◌+◌, ◌<◌, ◌≤◌, true, false, ◌&&◌, List, [], ◌∷◌, length, get_or, take, drop, cond, eqb, ltb, inl, inr, refl, sym, ap, ◌∙◌, subst, arith, length-drop}
use Rattle.std.specs.List.{prefix_len}
use Rattle.std.specs.Char.{is_ascii_whitespace}
use Rattle.std.proofs.lemmas.Bool.{and_parts, false≢true, eqb-true, eqb-false, lt-ltb, le-ltb, cases_lt, cases_Bool, cond-true, cond-false, cond_both, false_from_ne_true}
use Rattle.std.proofs.lemmas.List.{length-take-le}
use Rattle.std.proofs.lemmas.List.Sums.{prefix_len-le-length}
use Rattle.std.proofs.Math.Seq.{take-add}
use Rattle.css_token.specs.Characters.{is_name, is_quote, is_delim}
use Rattle.css_token.specs.Productions.{IsLexeme, IsComment, begins_identifier, begins_comment, begins_url}
use Rattle.css_token.specs.TokenLists.{Begins}
use Rattle.css_token.specs.Fronts.{identifier_len, number_len, text_len, url_len, comment_len, closed_piece, lone_piece, numeric_piece, name_piece, mark_piece, piece_at}
use Rattle.css_token.specs.declared.token.Kind.{Kind}
use Rattle.css_token.specs.declared.token.Kind.TheVariants.{Space, Ident, Function, AtWord, Hash, Text, Url, Number, Percent, Dimension, Colon, Semicolon, Comma, RoundOpen, RoundClose, SquareOpen, SquareClose, CurlyOpen, CurlyClose, Delim}
use Rattle.css_token.specs.declared.pieces.Piece.{Piece}
use Rattle.css_token.specs.declared.pieces.Piece.TheVariants.{Token, Comment, Bad}
use Rattle.css_token.proofs.Runs.{run_sound, first_and_rest, take-one-more, byte_within, take_with_byte}
use Rattle.css_token.proofs.Names.{identifier_begins, identifier_within, identifier_front}
use Rattle.css_token.proofs.Numbers.{no_number, number_within, number_sound}
use Rattle.css_token.proofs.Texts.{quote_there, text_within, text_sound, url_sound, url_begins_identifier}
use Rattle.css_token.proofs.Comments.{comment_sound}

-- the piece begins the text
abbrev pub PieceOf : ℕ → List ℕ → Piece → Type 0
PieceOf at bs (Token kind len) = Begins at kind len bs
PieceOf at bs (Comment len) = (len ≤ length bs) × IsComment (take len bs)
PieceOf at bs Bad = Unit {0}

-- where no identifier begins, no url does
pub no_url : (bs : List ℕ) → begins_identifier bs ≡ false → begins_url bs ≡ false
no_url bs none = false_from_ne_true _ (λ is. false≢true (sym none ∙ url_begins_identifier bs is))

begins : (at : ℕ) (kind : Kind) (len : ℕ) (bs : List ℕ) → len ≤ length bs → IsLexeme at kind (take len bs) → begins_comment bs ≡ false → begins_url bs ≡ false → Begins at kind len bs
begins at kind len bs within lexeme comment url =
    record { within = within; lexeme = lexeme; no_comment = comment; no_other_url = λ is. absurd (false≢true (sym url ∙ is)) }

-- an identifier begins with no space and no quote
name_no_space : (bs : List ℕ) → begins_identifier bs ≡ true → is_ascii_whitespace (get_or bs 0 0) ≡ false
name_no_space bs name = grind arith

name_no_quote : (bs : List ℕ) → begins_identifier bs ≡ true → is_quote (get_or bs 0 0) ≡ false
name_no_quote bs name = grind arith

-- a space and a quote begin neither a comment nor a url
space_alone : (bs : List ℕ) → is_ascii_whitespace (get_or bs 0 0) ≡ true → (begins_comment bs ≡ false) × (begins_url bs ≡ false)
space_alone bs is = (grind arith, no_url bs (false_from_ne_true _ (λ name. false≢true (sym (name_no_space bs name) ∙ is))))

quote_alone : (bs : List ℕ) → is_quote (get_or bs 0 0) ≡ true → (begins_comment bs ≡ false) × (begins_url bs ≡ false)
quote_alone bs is = (grind arith, no_url bs (false_from_ne_true _ (λ name. false≢true (sym (name_no_quote bs name) ∙ is))))

pub quote_no_space : (b : ℕ) → is_quote b ≡ true → is_ascii_whitespace b ≡ false
quote_no_space b is = grind arith

-- a token of an opening and a rest
pub closed_both : (P : Piece → Type 0) (kind : Kind) (opening len : ℕ) → P Bad → (0 < len → P (Token kind (opening + len))) → P (closed_piece kind opening len)
unfolding closed_piece
closed_both P kind opening len bad good = cond_both (eqb len 0) Bad (Token kind (opening + len)) P (λ _. bad) (λ some. good (let ne = eqb-false len 0 some in omega arith))

-- the ways through the function
pub at_space : (at : ℕ) (bs : List ℕ) → is_ascii_whitespace (get_or bs 0 0) ≡ true → piece_at at bs ≡ Token Space (prefix_len is_ascii_whitespace bs)
unfolding piece_at
at_space at bs space = cond-true (is_ascii_whitespace (get_or bs 0 0)) _ _ space

pub at_quote : (at : ℕ) (bs : List ℕ) → is_quote (get_or bs 0 0) ≡ true → piece_at at bs ≡ closed_piece Text 1 (text_len (get_or bs 0 0) (drop 1 bs))
unfolding piece_at
at_quote at bs quote = cond-false (is_ascii_whitespace (get_or bs 0 0)) _ _ (quote_no_space (get_or bs 0 0) quote) ∙ cond-true (is_quote (get_or bs 0 0)) _ _ quote

-- what stands where no space and no quote begins
past_quotes : (at : ℕ) (bs : List ℕ) → is_ascii_whitespace (get_or bs 0 0) ≡ false → is_quote (get_or bs 0 0) ≡ false
    → piece_at at bs ≡ cond (begins_comment bs) (cond (eqb (comment_len (drop 2 bs)) 0) Bad (Comment (2 + comment_len (drop 2 bs)))) (cond (ltb 0 (number_len bs)) (numeric_piece at (number_len bs) bs) (cond (begins_identifier bs) (name_piece bs) (mark_piece bs)))
unfolding piece_at
past_quotes at bs space quote = cond-false (is_ascii_whitespace (get_or bs 0 0)) _ _ space ∙ cond-false (is_quote (get_or bs 0 0)) _ _ quote

pub at_comment : (at : ℕ) (bs : List ℕ) → begins_comment bs ≡ true → piece_at at bs ≡ cond (eqb (comment_len (drop 2 bs)) 0) Bad (Comment (2 + comment_len (drop 2 bs)))
at_comment at bs comment = past_quotes at bs (grind arith) (grind arith) ∙ cond-true (begins_comment bs) _ _ comment

pub at_number : (at : ℕ) (bs : List ℕ) → is_ascii_whitespace (get_or bs 0 0) ≡ false → is_quote (get_or bs 0 0) ≡ false → begins_comment bs ≡ false → 0 < number_len bs
    → piece_at at bs ≡ numeric_piece at (number_len bs) bs
at_number at bs space quote comment some = past_quotes at bs space quote ∙ cond-false (begins_comment bs) _ _ comment ∙ cond-true (ltb 0 (number_len bs)) _ _ (lt-ltb _ _ some)

pub at_name : (at : ℕ) (bs : List ℕ) → begins_comment bs ≡ false → begins_identifier bs ≡ true → piece_at at bs ≡ name_piece bs
at_name at bs comment name =
    past_quotes at bs (name_no_space bs name) (name_no_quote bs name) ∙ cond-false (begins_comment bs) _ _ comment
    ∙ cond-false (ltb 0 (number_len bs)) _ _ (le-ltb _ _ (omega (arith, no_number bs name))) ∙ cond-true (begins_identifier bs) _ _ name

pub at_mark : (at : ℕ) (bs : List ℕ) → is_ascii_whitespace (get_or bs 0 0) ≡ false → is_quote (get_or bs 0 0) ≡ false → begins_comment bs ≡ false → number_len bs ≡ 0 → begins_identifier bs ≡ false
    → piece_at at bs ≡ mark_piece bs
at_mark at bs space quote comment number name =
    past_quotes at bs space quote ∙ cond-false (begins_comment bs) _ _ comment
    ∙ cond-false (ltb 0 (number_len bs)) _ _ (le-ltb _ _ (omega arith)) ∙ cond-false (begins_identifier bs) _ _ name

-- each way answers what begins the text
space_sound : (at : ℕ) (bs : List ℕ) → is_ascii_whitespace (get_or bs 0 0) ≡ true → PieceOf at bs (Token Space (prefix_len is_ascii_whitespace bs))
space_sound at bs space =
    let alone = space_alone bs space in
    begins at Space _ bs (prefix_len-le-length is_ascii_whitespace bs) (run_sound is_ascii_whitespace bs refl space) alone.0 alone.1

quote_sound : (at : ℕ) (bs : List ℕ) → is_quote (get_or bs 0 0) ≡ true → PieceOf at bs (closed_piece Text 1 (text_len (get_or bs 0 0) (drop 1 bs)))
quote_sound at bs is =
    let quote = get_or bs 0 0 in
    let alone = quote_alone bs is in
    let there : 0 < get_or bs 0 0 = quote_there (get_or bs 0 0) is in
    let parts = first_and_rest bs (get_or bs 0 0) refl there in
    closed_both (PieceOf at bs) Text 1 (text_len quote (drop 1 bs)) tt (λ some.
    begins at Text (1 + text_len quote (drop 1 bs)) bs
    (omega (arith, ap length parts, text_within quote (drop 1 bs) is some))
    (subst (λ l. IsLexeme at Text (take (1 + text_len quote (drop 1 bs)) l)) (sym parts) (text_sound quote (drop 1 bs) is some))
    alone.0 alone.1)

comment_piece : (at : ℕ) (bs : List ℕ) → begins_comment bs ≡ true → PieceOf at bs (cond (eqb (comment_len (drop 2 bs)) 0) Bad (Comment (2 + comment_len (drop 2 bs))))
comment_piece at [] is = absurd (false≢true is)
comment_piece at (a ∷ []) is = absurd (false≢true (and_parts (eqb a 47) false is).1)
comment_piece at (a ∷ b ∷ bs) is = cond_both (eqb (comment_len bs) 0) Bad (Comment (2 + comment_len bs)) (PieceOf at (a ∷ b ∷ bs)) (λ _. tt) (λ some.
    let parts = and_parts (eqb a 47) (eqb b 42) is in
    let front : a ∷ b ∷ bs ≡ 47 ∷ 42 ∷ bs = λ i. eqb-true a 47 parts.0 i ∷ eqb-true b 42 parts.1 i ∷ bs in
    let ne = eqb-false (comment_len bs) 0 some in
    let sound = comment_sound bs (omega arith) in
    (omega (arith, sound.0), subst (λ l. IsComment (take (2 + comment_len bs) l)) (sym front) sound.1))

numeric_sound : (at : ℕ) (bs : List ℕ) → begins_comment bs ≡ false → 0 < number_len bs → PieceOf at bs (numeric_piece at (number_len bs) bs)
unfolding numeric_piece
numeric_sound at bs comment some =
    let len = number_len bs in
    let number = number_sound bs some in
    let url : begins_url bs ≡ false = no_url bs (false_from_ne_true _ (λ name. omega (arith, no_number bs name))) in
    cond_both (eqb (get_or bs len 0) 37) _ _ (PieceOf at bs)
    (λ percent. begins at Percent (len + 1) bs
    (omega (arith, byte_within bs len 37 (eqb-true _ 37 percent) (omega arith)))
    (take len bs, number, take_with_byte bs len 37 (eqb-true _ 37 percent) (omega arith)) comment url)
    (λ _. cond_both (eqb (identifier_len (drop len bs)) 0) _ _ (PieceOf at bs)
    (λ _. begins at Number len bs (number_within bs) number comment url)
    (λ there.
    let name = drop len bs in
    let ne = eqb-false (identifier_len name) 0 there in
    let starts = identifier_begins name (omega arith) in
    begins at (Dimension (at + len)) (len + identifier_len name) bs
    (omega (arith, number_within bs, identifier_within name, length-drop len bs)) (
      take len bs,
      take (identifier_len name) name,
      number,
      identifier_front name starts,
      take-add len (identifier_len name) bs,
      ap (λ n. at + n) (sym (length-take-le len bs (number_within bs))),
    )
    comment url))

named_sound : (at : ℕ) (bs : List ℕ) → begins_comment bs ≡ false → begins_identifier bs ≡ true → PieceOf at bs (name_piece bs)
unfolding name_piece
named_sound at bs comment starts =
    let len = identifier_len bs in
    cond_both (begins_url bs) _ _ (PieceOf at bs)
    (λ url. closed_both (PieceOf at bs) Url 4 (url_len (drop 4 bs)) tt (λ some.
    let sound = url_sound bs url some in
    record { within = sound.0; lexeme = sound.1; no_comment = comment; no_other_url = λ _. refl }))
    (λ url. cond_both (eqb (get_or bs len 0) 40) _ _ (PieceOf at bs)
    (λ round. begins at Function (len + 1) bs
    (omega (arith, byte_within bs len 40 (eqb-true _ 40 round) (omega arith)))
    (take len bs, identifier_front bs starts, take_with_byte bs len 40 (eqb-true _ 40 round) (omega arith)) comment url)
    (λ _. begins at Ident len bs (identifier_within bs) (identifier_front bs starts) comment url))

mark_sound : (at b : ℕ) (rest : List ℕ) → begins_comment (b ∷ rest) ≡ false → begins_url (b ∷ rest) ≡ false → PieceOf at (b ∷ rest) (lone_piece b)
unfolding lone_piece
mark_sound at b rest comment url =
    let P : Piece → Type 0 = PieceOf at (b ∷ rest) in
    let single : (kind : Kind) → IsLexeme at kind (b ∷ []) → PieceOf at (b ∷ rest) (Token kind 1) = λ kind lexeme. begins at kind 1 (b ∷ rest) (omega arith) lexeme comment url in
    let is : (value : ℕ) → eqb b value ≡ true → b ∷ [] ≡ value ∷ [] = λ value same. ap (λ x. x ∷ []) (eqb-true b value same) in
    cond_both (eqb b 58) _ _ P (λ e. single Colon (is 58 e)) (λ _.
    cond_both (eqb b 59) _ _ P (λ e. single Semicolon (is 59 e)) (λ _.
    cond_both (eqb b 44) _ _ P (λ e. single Comma (is 44 e)) (λ _.
    cond_both (eqb b 40) _ _ P (λ e. single RoundOpen (is 40 e)) (λ _.
    cond_both (eqb b 41) _ _ P (λ e. single RoundClose (is 41 e)) (λ _.
    cond_both (eqb b 91) _ _ P (λ e. single SquareOpen (is 91 e)) (λ _.
    cond_both (eqb b 93) _ _ P (λ e. single SquareClose (is 93 e)) (λ _.
    cond_both (eqb b 123) _ _ P (λ e. single CurlyOpen (is 123 e)) (λ _.
    cond_both (eqb b 125) _ _ P (λ e. single CurlyClose (is 125 e)) (λ _.
    cond_both (is_delim b) _ _ P (λ e. single Delim (b, e, refl)) (λ _. tt))))))))))

marked_sound : (at : ℕ) (bs : List ℕ) → begins_comment bs ≡ false → begins_identifier bs ≡ false → PieceOf at bs (mark_piece bs)
unfolding mark_piece lone_piece
marked_sound at [] comment name = tt
marked_sound at (b ∷ bs) comment name =
    let url = no_url (b ∷ bs) name in
    cond_both (eqb b 35 && is_name (get_or bs 0 0)) _ _ (PieceOf at (b ∷ bs))
    (λ hash.
    let parts = and_parts (eqb b 35) (is_name (get_or bs 0 0)) hash in
    begins at Hash (1 + prefix_len is_name bs) (b ∷ bs) (omega (arith, prefix_len-le-length is_name bs))
    (take (prefix_len is_name bs) bs, run_sound is_name bs refl parts.1, take-one-more b _ bs ∙ ap (λ x. x ∷ take (prefix_len is_name bs) bs) (eqb-true b 35 parts.0)) comment url)
    (λ _. cond_both (eqb b 64 && begins_identifier bs) _ _ (PieceOf at (b ∷ bs))
    (λ word.
    let parts = and_parts (eqb b 64) (begins_identifier bs) word in
    begins at AtWord (1 + identifier_len bs) (b ∷ bs) (omega (arith, identifier_within bs))
    (take (identifier_len bs) bs, identifier_front bs parts.1, take-one-more b _ bs ∙ ap (λ x. x ∷ take (identifier_len bs) bs) (eqb-true b 64 parts.0)) comment url)
    (λ _. mark_sound at b bs comment url))

-- what the function answers begins the text
pub piece_sound : (at : ℕ) (bs : List ℕ) → PieceOf at bs (piece_at at bs)
piece_sound at bs = elim (cases_Bool (is_ascii_whitespace (get_or bs 0 0))) [
  | inl space ↦ subst (PieceOf at bs) (sym (at_space at bs space)) (space_sound at bs space)
  | inr space ↦ elim (cases_Bool (is_quote (get_or bs 0 0))) [
    | inl quote ↦ subst (PieceOf at bs) (sym (at_quote at bs quote)) (quote_sound at bs quote)
    | inr quote ↦ elim (cases_Bool (begins_comment bs)) [
      | inl comment ↦ subst (PieceOf at bs) (sym (at_comment at bs comment)) (comment_piece at bs comment)
      | inr comment ↦ elim (cases_lt 0 (number_len bs)) [
        | inl number ↦ subst (PieceOf at bs) (sym (at_number at bs space quote comment number)) (numeric_sound at bs comment number)
        | inr number ↦ elim (cases_Bool (begins_identifier bs)) [
          | inl name ↦ subst (PieceOf at bs) (sym (at_name at bs comment name)) (named_sound at bs comment name)
          | inr name ↦ subst (PieceOf at bs) (sym (at_mark at bs space quote comment (omega arith) name)) (marked_sound at bs comment name)
        ]
      ]
    ]
  ]
]

-- The function that reads a text answers its tokens or its first bad one, and a dimension's parts are slices.
use Rattle.std.proofs.Common.{◌≡◌, ◌↔◌, ℕ, ◌+◌, ◌-◌, ◌<◌, ◌≤◌, zero, suc, List, [], ◌∷◌, ◌++◌, length, take, drop, Result, Ok, Err, refl, sym, ap, ◌∙◌, subst, arith, append_assoc, length-append, length-drop}
use Rattle.std.specs.Prelude.{slice_range}
use Rattle.std.proofs.lemmas.List.{append-nil, drop-drop, length-take-le, take-take, take_at, drop_at, drop-take}
use Rattle.css_token.specs.Productions.{IsLexeme, IsNumber, IsIdentifier}
use Rattle.css_token.specs.TokenLists.{token, Reads, start, AreTokens, IsFirstBad, IsTokenOf, bytes_of}
use Rattle.css_token.specs.Fronts.{piece_at}
use Rattle.css_token.specs.Reading.{with_token, tokens_at_piece, tokens_from, tokens_of}
use Rattle.css_token.specs.declared.token.Kind.TheVariants.{Dimension}
use Rattle.css_token.specs.declared.token.Token.{Token}
use Rattle.css_token.specs.declared.pieces.Piece.{Piece}
use Rattle.css_token.specs.declared.pieces.Piece.TheVariants.{Token as Whole, Comment, Bad}
use Rattle.css_token.proofs.Lists.{took_comment, took_token, stopped_at, all_read, tokens_are_one, not_both, bad_is_one}

-- what is read after these tokens is right
abbrev IsRight : List ℕ → List Token → Result (List Token) ℕ → Type 0
IsRight text before (Ok tokens) = AreTokens text (before ++ tokens)
IsRight text before (Err at) = IsFirstBad text at

right_with : (text : List ℕ) (before : List Token) (t : Token) (read : Result (List Token) ℕ) → IsRight text (before ++ t ∷ []) read → IsRight text before (with_token t read)
right_with text before t (Ok tokens) right = subst (AreTokens text) (append_assoc before (t ∷ []) tokens) right
right_with text before t (Err at) right = right

nothing_left : (text rest : List ℕ) (before : List Token) (at : ℕ) → rest ≡ drop at text → Reads text before at → length rest ≡ 0 → AreTokens text (before ++ [])
nothing_left text rest before at left reads none =
    subst (AreTokens text) (sym (append-nil before)) (all_read text text before at refl reads (omega (arith, ap length left, length-drop at text)))

-- a piece, and what is read after it
right_piece : (text rest : List ℕ) (before : List Token) (at : ℕ) (piece : Piece) (tail : ℕ → Result (List Token) ℕ) → rest ≡ drop at text → Reads text before at → 0 < length rest → piece ≡ piece_at at rest
    → ((tokens : List Token) (len : ℕ) → 0 < len → Reads text tokens (at + len) → IsRight text tokens (tail len)) → IsRight text before (tokens_at_piece at piece tail)
right_piece text rest before at (Whole kind len) tail left reads more is next =
    let took = took_token text text rest before at kind len refl left reads is in
    right_with text before (token kind at (at + len)) (tail len) (next (before ++ token kind at (at + len) ∷ []) len took.1 took.0)
right_piece text rest before at (Comment len) tail left reads more is next =
    let took = took_comment text text rest before at len refl left reads is in
    next before len took.1 took.0
right_piece text rest before at Bad tail left reads more is next =
    stopped_at text text rest before at refl left reads (omega (arith, ap length left, length-drop at text)) is

right_from : (most : ℕ) (text rest : List ℕ) (before : List Token) (at : ℕ) → rest ≡ drop at text → Reads text before at → length rest ≤ most → IsRight text before (tokens_from most at rest)
right_from zero text rest before at left reads fits = nothing_left text rest before at left reads (omega arith)
right_from (suc most) text [] before at left reads fits = nothing_left text [] before at left reads refl
right_from (suc most) text (b ∷ bs) before at left reads fits =
    right_piece text (b ∷ bs) before at (piece_at at (b ∷ bs)) (λ len. tokens_from most (at + len) (drop len (b ∷ bs))) left reads (omega arith) refl
    (λ tokens len some read.
    right_from most text (drop len (b ∷ bs)) tokens (at + len) (ap (drop len) left ∙ drop-drop len at text) read (omega (arith, length-drop len (b ∷ bs))))

pub reading_right : (text : List ℕ) → IsRight text [] (tokens_of text)
unfolding tokens_of
reading_right text = right_from (length text) text text [] 0 refl start (omega arith)

reading_tokens : (text : List ℕ) (tokens : List Token) (read : Result (List Token) ℕ) → IsRight text [] read → AreTokens text tokens → read ≡ Ok tokens
reading_tokens text tokens (Ok others) right are = ap Ok (tokens_are_one text others tokens right are)
reading_tokens text tokens (Err at) right are = absurd (not_both text tokens at are right)

reading_bad : (text : List ℕ) (at : ℕ) (read : Result (List Token) ℕ) → IsRight text [] read → IsFirstBad text at → read ≡ Err at
reading_bad text at (Ok tokens) right bad = absurd (not_both text tokens at right bad)
reading_bad text at (Err place) right bad = ap Err (bad_is_one text place at right bad)

-- the function has the tokens exactly where they are the text's, and a place exactly where its first bad one begins
pub reads_tokens : (text : List ℕ) (tokens : List Token) → (tokens_of text ≡ Ok tokens) ↔ AreTokens text tokens
reads_tokens text tokens = (λ is. subst (IsRight text []) is (reading_right text), λ are. reading_tokens text tokens (tokens_of text) (reading_right text) are)

pub reads_bad : (text : List ℕ) (at : ℕ) → (tokens_of text ≡ Err at) ↔ IsFirstBad text at
reads_bad text at = (λ is. subst (IsRight text []) is (reading_right text), λ bad. reading_bad text at (tokens_of text) (reading_right text) bad)

-- two parts of a slice are slices
cut_parts : (text number name : List ℕ) (from unit to : ℕ) → slice_range text from to ≡ number ++ name → unit ≡ from + length number → to ≤ length text → from < to
    → (slice_range text from unit ≡ number) × (slice_range text unit to ≡ name)
cut_parts text number name from unit to bytes place within some =
    let n = length number in
    let size : to - from ≡ n + length name =
    omega (arith, length-append number name, ap length bytes, length-take-le (to - from) (drop from text) (omega (arith, length-drop from text))) in
    let first : unit - from ≡ n = omega arith in
    let rest : n + (to - unit) ≡ to - from = omega arith in (
      ap (λ k. take k (drop from text)) first ∙ sym (take-take n (to - from) (drop from text) (omega arith)) ∙ ap (take n) bytes ∙ take_at number name n refl,
      ap (λ k. take (to - unit) (drop k text)) place ∙ ap (take (to - unit)) (sym (drop-drop n from text)) ∙ sym (drop-take n (to - unit) (drop from text))
          ∙ ap (λ k. drop n (take k (drop from text))) rest ∙ ap (drop n) bytes ∙ drop_at number name n refl,
    )

dimension_of : (text : List ℕ) (from unit to : ℕ) → IsLexeme from (Dimension unit) (slice_range text from to) → to ≤ length text → from < to → IsNumber (slice_range text from unit) × IsIdentifier (slice_range text unit to)
dimension_of text from unit to (number, name, number_is, name_is, bytes, place) within some =
    let parts = cut_parts text number name from unit to bytes place within some in
    (subst IsNumber (sym parts.0) number_is, subst IsIdentifier (sym parts.1) name_is)

-- a dimension's number and unit are slices of the text
pub parts_of : (text : List ℕ) (t : Token) (unit : ℕ) → IsTokenOf text t → t.kind ≡ Dimension unit → IsNumber (slice_range text t.from unit) × IsIdentifier (slice_range text unit t.to)
parts_of text t unit of is = dimension_of text t.from unit t.to (subst (λ kind. IsLexeme t.from kind (bytes_of text t)) is of.lexeme) of.within.within of.within.some

-- Lists of tokens: reading goes one way alone, and what it reads lies within the text.
use Rattle.std.proofs.Common.{◌≡◌, ℕ, ◌+◌, ◌-◌, ◌<◌, ◌≤◌, zero, suc, List, [], ◌∷◌, ◌++◌, length, take, drop, inl, inr, refl, sym, ap, ◌∙◌, subst, arith, length-append, length-drop}
use Rattle.std.specs.Prelude.{All, AllPairs}
use Rattle.std.proofs.lemmas.Bool.{cases_lt}
use Rattle.std.proofs.lemmas.List.{length-take-le, drop_all}
use Rattle.std.proofs.lemmas.List.Elements.{All-nil, All-push, All-weaker, All-get_or}
use Rattle.std.proofs.lemmas.List.Quantifiers.{all_pairs_push}
use Rattle.css_token.specs.Productions.{IsLexeme, IsComment}
use Rattle.css_token.specs.TokenLists.{Begins, IsNext, IsBad, token, Reads, start, past_comment, past_token, AreTokens, IsFirstBad, UnitLiesWithin, bytes_of, IsTokenOf}
use Rattle.css_token.specs.Fronts.{fraction_len, unsigned_len, number_len, mark_piece, lone_piece, piece_at}
use Rattle.css_token.specs.declared.token.Kind.{Kind}
use Rattle.css_token.specs.declared.token.Kind.TheVariants.{Space, Ident, Function, AtWord, Hash, Text, Url, Number, Percent, Dimension, Colon, Semicolon, Comma, RoundOpen, RoundClose, SquareOpen, SquareClose, CurlyOpen, CurlyClose, Delim}
use Rattle.css_token.specs.declared.token.Token.{Token}
use Rattle.css_token.specs.declared.pieces.Piece.{Piece}
use Rattle.css_token.specs.declared.pieces.Piece.TheVariants.{Token as Whole, Comment, Bad}
use Rattle.css_token.proofs.Names.{identifier_some}
use Rattle.css_token.proofs.Numbers.{number_some}
use Rattle.css_token.proofs.Fronts.{PieceOf, piece_sound}
use Rattle.css_token.proofs.Longest.{Reaches, begins_reaches, comment_is_piece}

-- a piece that begins the text, and that what comes next reaches, is what comes next
settled : (at : ℕ) (kind : Kind) (len : ℕ) (bs : List ℕ) (piece : Piece) → PieceOf at bs piece → Reaches piece kind len → IsNext at kind len bs → piece ≡ Whole kind len
settled at kind len bs (Whole other more) begins reaches next =
    let same : len ≡ more = omega (arith, reaches.0, next.longest other more begins) in
    λ i. Whole (sym (reaches.1 same) i) (sym same i)
settled at kind len bs (Comment more) begins reaches next = absurd reaches
settled at kind len bs Bad begins reaches next = absurd reaches

next_is_piece : (at : ℕ) (kind : Kind) (len : ℕ) (bs : List ℕ) → IsNext at kind len bs → piece_at at bs ≡ Whole kind len
next_is_piece at kind len bs next = settled at kind len bs (piece_at at bs) (piece_sound at bs) (begins_reaches at kind len bs next.begins) next

none_left : (at : ℕ) (bs : List ℕ) (piece : Piece) → PieceOf at bs piece → IsBad at bs → piece ≡ Bad
none_left at bs (Whole kind len) begins bad = absurd (bad.no_token kind len begins)
none_left at bs (Comment len) comment bad = absurd (bad.no_comment len comment.0 comment.1)
none_left at bs Bad begins bad = refl

-- and the other way round
pub piece_is_next : (at : ℕ) (kind : Kind) (len : ℕ) (bs : List ℕ) → piece_at at bs ≡ Whole kind len → IsNext at kind len bs
piece_is_next at kind len bs is = record {
  begins = subst (PieceOf at bs) is (piece_sound at bs);
  longest = λ other more begins. (subst (λ p. Reaches p other more) is (begins_reaches at other more bs begins)).0;
}

pub piece_is_comment : (at len : ℕ) (bs : List ℕ) → piece_at at bs ≡ Comment len → (len ≤ length bs) × IsComment (take len bs)
piece_is_comment at len bs is = subst (PieceOf at bs) is (piece_sound at bs)

bad_not_comment : (len : ℕ) → Bad ≡ Comment len → ⊥
bad_not_comment len is = cc

pub piece_is_bad : (at : ℕ) (bs : List ℕ) → piece_at at bs ≡ Bad → 0 < length bs → IsBad at bs
piece_is_bad at bs is some = record {
  more = some;
  no_comment = λ len within comment. bad_not_comment len (sym is ∙ comment_is_piece at len bs within comment);
  no_token = λ kind len begins. subst (λ p. Reaches p kind len) is (begins_reaches at kind len bs begins);
}

-- reading, a piece at a time
after_piece : List Token → ℕ → Piece → List Token × ℕ
after_piece tokens at (Whole kind len) = (tokens ++ token kind at (at + len) ∷ [], at + len)
after_piece tokens at (Comment len) = (tokens, at + len)
after_piece tokens at Bad = (tokens, at)

next_state : List ℕ → List Token × ℕ → List Token × ℕ
next_state text s = after_piece s.0 s.1 (piece_at s.1 (drop s.1 text))

run : ℕ → List ℕ → List Token × ℕ
run zero text = ([], 0)
run (suc k) text = next_state text (run k text)

reads_run : (text : List ℕ) (tokens : List Token) (at : ℕ) → Reads text tokens at → (k : ℕ) × (run k text ≡ (tokens, at))
unfolding run next_state after_piece
reads_run text tokens at start = (0, refl)
reads_run text tokens at (past_comment {tokens = tokens'} {at = at'} len before within comment) =
    let so_far = reads_run text tokens' at' before in
    (suc so_far.0, ap (next_state text) so_far.1 ∙ ap (after_piece tokens' at') (comment_is_piece at' len (drop at' text) within comment))
reads_run text tokens at (past_token {tokens = tokens'} {at = at'} kind len before next) =
    let so_far = reads_run text tokens' at' before in
    (suc so_far.0, ap (next_state text) so_far.1 ∙ ap (after_piece tokens' at') (next_is_piece at' kind len (drop at' text) next))

-- where nothing more can be read
Stops : List ℕ → ℕ → Type 0
Stops text at = piece_at at (drop at text) ≡ Bad

stays : (text : List ℕ) (tokens : List Token) (at j k : ℕ) → Stops text at → run k text ≡ (tokens, at) → run (j + k) text ≡ (tokens, at)
unfolding run next_state after_piece Stops
stays text tokens at zero k stops is = let e : 0 + k ≡ k = omega arith in ap (λ n. run n text) e ∙ is
stays text tokens at (suc j) k stops is =
    let further : run (suc (j + k)) text ≡ (tokens, at) = ap (next_state text) (stays text tokens at j k stops is) ∙ ap (after_piece tokens at) stops in
    let e : suc j + k ≡ suc (j + k) = omega arith in
    ap (λ n. run n text) e ∙ further

-- reading stops in one state
one_stop : (text : List ℕ) (ts us : List Token) (at place : ℕ) → Reads text ts at → Stops text at → Reads text us place → Stops text place → (ts ≡ us) × (at ≡ place)
one_stop text ts us at place first stops second stops' =
    let one = reads_run text ts at first in
    let two = reads_run text us place second in
    let here : List Token × ℕ = (ts, at) in
    let there : List Token × ℕ = (us, place) in
    let same : here ≡ there = elim (cases_lt one.0 two.0) [
      | inl less ↦
          let e : two.0 - one.0 + one.0 ≡ two.0 = omega arith in
          sym (stays text ts at (two.0 - one.0) one.0 stops one.1) ∙ ap (λ n. run n text) e ∙ two.1
      | inr less ↦
          let e : one.0 ≡ one.0 - two.0 + two.0 = omega arith in
          sym one.1 ∙ ap (λ n. run n text) e ∙ stays text us place (one.0 - two.0) two.0 stops' two.1
    ] in
    (λ i. (same i).0, λ i. (same i).1)

end_stops : (text : List ℕ) → Stops text (length text)
unfolding Stops piece_at number_len unsigned_len fraction_len mark_piece lone_piece
end_stops text = ap (piece_at (length text)) (drop_all (length text) text (omega arith))

bad_stops : (text : List ℕ) (at : ℕ) → IsBad at (drop at text) → Stops text at
unfolding Stops
bad_stops text at bad = none_left at (drop at text) (piece_at at (drop at text)) (piece_sound at (drop at text)) bad

pub tokens_are_one : (text : List ℕ) (ts us : List Token) → AreTokens text ts → AreTokens text us → ts ≡ us
tokens_are_one text ts us first second = (one_stop text ts us _ _ first (end_stops text) second (end_stops text)).0

pub not_both : (text : List ℕ) (ts : List Token) (at : ℕ) → AreTokens text ts → IsFirstBad text at → ⊥
not_both text ts at first (us, second, bad) =
    let same = (one_stop text ts us (length text) at first (end_stops text) second (bad_stops text at bad)).1 in
    omega (arith, bad.more, length-drop at text)

pub bad_is_one : (text : List ℕ) (at place : ℕ) → IsFirstBad text at → IsFirstBad text place → at ≡ place
bad_is_one text at place (ts, first, bad) (us, second, bad') = (one_stop text ts us at place first (bad_stops text at bad) second (bad_stops text place bad')).1

-- a token has bytes, and a unit lies within its dimension
pub lexeme_some : (at : ℕ) (kind : Kind) (bs : List ℕ) → IsLexeme at kind bs → 0 < length bs
lexeme_some at Space bs run = run.0
lexeme_some at Ident bs name = identifier_some bs name
lexeme_some at Function bs (name, is, text) = omega (arith, ap length text, length-append name (40 ∷ []))
lexeme_some at AtWord bs (name, is, text) = omega (arith, ap length text)
lexeme_some at Hash bs (name, is, text) = omega (arith, ap length text)
lexeme_some at Text bs (quote, inside, is, all, text) = omega (arith, ap length text)
lexeme_some at Url bs (word, before, inside, after, is, begins, all, ends, text) = omega (arith, ap length text, length-append (word ++ 40 ∷ before ++ inside ++ after) (41 ∷ []))
lexeme_some at Number bs number = number_some bs number
lexeme_some at Percent bs (number, is, text) = omega (arith, ap length text, length-append number (37 ∷ []))
lexeme_some at (Dimension unit) bs (number, name, is, unit_is, text, place) = omega (arith, ap length text, length-append number name, number_some number is)
lexeme_some at Colon bs is = omega (arith, ap length is)
lexeme_some at Semicolon bs is = omega (arith, ap length is)
lexeme_some at Comma bs is = omega (arith, ap length is)
lexeme_some at RoundOpen bs is = omega (arith, ap length is)
lexeme_some at RoundClose bs is = omega (arith, ap length is)
lexeme_some at SquareOpen bs is = omega (arith, ap length is)
lexeme_some at SquareClose bs is = omega (arith, ap length is)
lexeme_some at CurlyOpen bs is = omega (arith, ap length is)
lexeme_some at CurlyClose bs is = omega (arith, ap length is)
lexeme_some at Delim bs (b, delim, is) = omega (arith, ap length is)

unit_lies : (at : ℕ) (kind : Kind) (bs : List ℕ) → IsLexeme at kind bs → UnitLiesWithin kind at (at + length bs)
unit_lies at (Dimension unit) bs (number, name, is, unit_is, text, place) =
    (omega (arith, number_some number is), omega (arith, ap length text, length-append number name, identifier_some name unit_is))
unit_lies at _ bs lexeme = tt

-- what has been read lies within the text, in order
pub record ReadWell (text : List ℕ) (tokens : List Token) (at : ℕ) : Type 0 where
  pub within : at ≤ length text
  pub each : All (IsTokenOf text) tokens
  pub before : All (λ t. t.to ≤ at) tokens
  pub ordered : AllPairs (λ t u. t.to ≤ u.from) tokens

token_of : (text : List ℕ) (at : ℕ) (kind : Kind) (len : ℕ) → at ≤ length text → Begins at kind len (drop at text) → (at + len ≤ length text) × IsTokenOf text (token kind at (at + len))
token_of text at kind len within begins =
    let size : length (take len (drop at text)) ≡ len = length-take-le len (drop at text) begins.within in
    let ends : at + len ≤ length text = omega (arith, begins.within, length-drop at text) in
    let bytes : take len (drop at text) ≡ bytes_of text (token kind at (at + len)) = ap (λ n. take n (drop at text)) (omega arith) in (
      ends,
      record {
        within = record {
          some = omega (arith, lexeme_some at kind (take len (drop at text)) begins.lexeme);
          within = ends;
          unit = subst (λ n. UnitLiesWithin kind at (at + n)) size (unit_lies at kind (take len (drop at text)) begins.lexeme);
        };
        lexeme = subst (IsLexeme at kind) bytes begins.lexeme;
      },
    )

pub reads_well : (text : List ℕ) (tokens : List Token) (at : ℕ) → Reads text tokens at → ReadWell text tokens at
reads_well text tokens at start = record { within = omega arith; each = All-nil (IsTokenOf text); before = All-nil (λ t. t.to ≤ 0); ordered = λ i j d less more. absurd (omega arith) }
reads_well text tokens at (past_comment {tokens = tokens'} {at = at'} len reads within comment) =
    let well = reads_well text tokens' at' reads in
    record {
      within = omega (arith, well.within, within, length-drop at' text);
      each = well.each;
      before = All-weaker (λ t. t.to ≤ at') (λ t. t.to ≤ at' + len) (λ t less. omega arith) tokens' well.before;
      ordered = well.ordered;
    }
reads_well text tokens at (past_token {tokens = tokens'} {at = at'} kind len reads next) =
    let well = reads_well text tokens' at' reads in
    let new = token kind at' (at' + len) in
    let of = token_of text at' kind len well.within next.begins in
    record {
      within = of.0;
      each = All-push (IsTokenOf text) tokens' new well.each of.1;
      before = All-push (λ t. t.to ≤ at' + len) tokens' new (All-weaker (λ t. t.to ≤ at') (λ t. t.to ≤ at' + len) (λ t less. omega arith) tokens' well.before) (omega arith);
      ordered = all_pairs_push (λ t u. t.to ≤ u.from) tokens' new well.ordered (λ k d less. All-get_or (λ t. t.to ≤ at') tokens' k d less well.before);
    }

-- one turn of reading: a comment or a token has bytes, and is read
pub took_comment : (text bytes rest : List ℕ) (tokens : List Token) (at len : ℕ) → bytes ≡ text → rest ≡ drop at bytes → Reads text tokens at → Comment len ≡ piece_at at rest
    → Reads text tokens (at + len) × (0 < len) × (at + len ≤ length text)
took_comment text bytes rest tokens at len same left reads is =
    let comment = piece_is_comment at len (drop at text) (ap (piece_at at) (sym (left ∙ ap (drop at) same)) ∙ sym is) in
    let read = past_comment len reads comment.0 comment.1 in
    (read, omega (arith, ap length comment.1.1, length-take-le len (drop at text) comment.0), (reads_well text tokens (at + len) read).within)

pub took_token : (text bytes rest : List ℕ) (tokens : List Token) (at : ℕ) (kind : Kind) (len : ℕ) → bytes ≡ text → rest ≡ drop at bytes → Reads text tokens at → Whole kind len ≡ piece_at at rest
    → Reads text (tokens ++ token kind at (at + len) ∷ []) (at + len) × (0 < len) × (at + len ≤ length text)
took_token text bytes rest tokens at kind len same left reads is =
    let next = piece_is_next at kind len (drop at text) (ap (piece_at at) (sym (left ∙ ap (drop at) same)) ∙ sym is) in
    let read = past_token kind len reads next in (
      read,
      omega (arith, lexeme_some at kind (take len (drop at text)) next.begins.lexeme, length-take-le len (drop at text) next.begins.within),
      (reads_well text (tokens ++ token kind at (at + len) ∷ []) (at + len) read).within,
    )

pub stopped_at : (text bytes rest : List ℕ) (tokens : List Token) (at : ℕ) → bytes ≡ text → rest ≡ drop at bytes → Reads text tokens at → at < length bytes → Bad ≡ piece_at at rest → IsFirstBad text at
stopped_at text bytes rest tokens at same left reads more is =
    (tokens, reads, piece_is_bad at (drop at text) (ap (piece_at at) (sym (left ∙ ap (drop at) same)) ∙ sym is) (omega (arith, length-drop at text, ap length same)))

pub all_read : (text bytes : List ℕ) (tokens : List Token) (at : ℕ) → bytes ≡ text → Reads text tokens at → length bytes ≤ at → AreTokens text tokens
all_read text bytes tokens at same reads ended = subst (Reads text tokens) (omega (arith, (reads_well text tokens at reads).within, ap length same)) reads

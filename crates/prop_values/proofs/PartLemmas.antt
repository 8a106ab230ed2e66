-- What a text says, token by token.
use Rattle.std.proofs.Common.{◌≡◌, ℕ, ◌+◌, ◌-◌, ◌<◌, ◌≤◌, zero, suc, List, [], ◌∷◌, ◌++◌, length, take, drop, Option, Ok, refl, sym, ap, ◌∙◌, arith, append_assoc, length-append}
use Rattle.std.specs.Prelude.{slice_range, Result}
use Rattle.std.specs.List.{cons_option}
use Rattle.std.proofs.lemmas.List.{take_at, drop_at}
use Rattle.css_token.specs.TokenLists.{AreTokens, token}
use Rattle.css_token.specs.Fronts.{piece_at}
use Rattle.css_token.specs.Reading.{with_token, tokens_at_piece, tokens_from, tokens_of}
use Rattle.css_token.specs.declared.token.Kind.{Kind}
use Rattle.css_token.specs.declared.token.Token.{Token}
use Rattle.css_token.proofs.Reading.{reads_tokens}
use Rattle.token_parts.specs.Parts.{TokenPart, token_part_at, token_parts_of}

-- the text after the front is read as tokens that say these parts
pub record Says (front rest : List ℕ) (parts : List TokenPart) : Type 0 where
  pub tokens : List Token
  pub are : (most : ℕ) → length rest ≤ most → tokens_from most (length front) rest ≡ Ok tokens
  pub say : token_parts_of (front ++ rest) tokens ≡ parts

none_left : (most at : ℕ) → tokens_from most at [] ≡ Ok []
none_left zero at = refl
none_left (suc most) at = refl

pub says_nothing : (front : List ℕ) → Says front [] []
says_nothing front = record { tokens = []; are = λ most fits. none_left most (length front); say = refl }

-- a token of that kind and length stands at the front of the text, which itself begins at `at`
abbrev pub IsFirst : ℕ → List ℕ → Kind → ℕ → Type 0
IsFirst at text kind len = (tail : ℕ → Result (List Token) ℕ) → tokens_at_piece at (piece_at at text) tail ≡ with_token (token kind at (at + len)) (tail len)

-- one token, and what follows it
next_tokens : (bytes rest : List ℕ) (kind : Kind) (at most : ℕ) (tokens : List Token) → length (bytes ++ rest) ≤ most → 0 < length bytes → IsFirst at (bytes ++ rest) kind (length bytes)
    → ((left : ℕ) → length rest ≤ left → tokens_from left (at + length bytes) rest ≡ Ok tokens) → tokens_from most at (bytes ++ rest) ≡ Ok (token kind at (at + length bytes) ∷ tokens)
next_tokens [] rest kind at most tokens fits some is next = absurd (omega (arith, some))
next_tokens (b ∷ bs) rest kind at zero tokens fits some is next = absurd (omega (arith, fits))
next_tokens (b ∷ bs) rest kind at (suc most) tokens fits some is next =
    let n = length (b ∷ bs) in
    let tail : ℕ → Result (List Token) ℕ = λ len. tokens_from most (at + len) (drop len ((b ∷ bs) ++ rest)) in
    let after : drop n ((b ∷ bs) ++ rest) ≡ rest = drop_at (b ∷ bs) rest n refl in
    is tail
    ∙ ap (λ r. with_token (token kind at (at + n)) (tokens_from most (at + n) r)) after
    ∙ ap (with_token (token kind at (at + n))) (next most (omega (arith, length-append bs rest)))

pub says_next : (front bytes rest : List ℕ) (kind : Kind) (part : Option TokenPart) (parts : List TokenPart) → 0 < length bytes → IsFirst (length front) (bytes ++ rest) kind (length bytes)
    → token_part_at (front ++ (bytes ++ rest)) kind (length front) (length front + length bytes) ≡ part → Says (front ++ bytes) rest parts → Says front (bytes ++ rest) (cons_option part parts)
says_next front bytes rest kind part parts some is says more =
    let at : length (front ++ bytes) ≡ length front + length bytes = length-append front bytes in
    record {
      tokens = token kind (length front) (length front + length bytes) ∷ more.tokens;
      are = λ most fits. next_tokens bytes rest kind (length front) most more.tokens fits some is (λ left fits. ap (λ n. tokens_from left n rest) (sym at) ∙ more.are left fits);
      say = (λ i. cons_option (says i) (token_parts_of (sym (append_assoc front bytes rest) i) more.tokens)) ∙ ap (cons_option part) more.say;
    }

-- the slice that stands between a front and a rest
pub slice_is : (text front bytes rest : List ℕ) (from to : ℕ) → text ≡ front ++ (bytes ++ rest) → from ≡ length front → to ≡ length front + length bytes → slice_range text from to ≡ bytes
slice_is text front bytes rest from to is begins ends =
    let size : to - from ≡ length bytes = omega arith in
    (λ i. take (size i) (drop (begins i) (is i))) ∙ ap (take (length bytes)) (drop_at front (bytes ++ rest) (length front) refl) ∙ take_at bytes rest (length bytes) refl

-- the tokens of a whole text
pub whole_text : (text : List ℕ) (parts : List TokenPart) → Says [] text parts → (tokens : List Token) × AreTokens text tokens × (token_parts_of text tokens ≡ parts)
unfolding tokens_of
whole_text text parts says = (says.tokens, (reads_tokens text says.tokens).0 (says.are (length text) (omega arith)), says.say)

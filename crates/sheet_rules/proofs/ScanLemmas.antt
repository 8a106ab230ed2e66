-- How the length of a value is counted token by token.
use Rattle.std.proofs.Common.{◌≡◌, ℕ, ◌+◌, ◌<◌, ◌≤◌, List, [], ◌∷◌, length, drop, add-one, get_or, refl, ap, sym, ◌∙◌, arith}
use Rattle.std.specs.Prelude.{Result, Ok, Err}
use Rattle.std.proofs.Math.Seq.{drop-cons}
use Rattle.std.proofs.lemmas.List.{drop_all}
use Rattle.css_token.specs.declared.token.Token.{Token}
use Rattle.sheet_rules.specs.declared.scan.Bracket.{Bracket}
use Rattle.sheet_rules.specs.declared.scan.Step.{Step}
use Rattle.sheet_rules.specs.declared.scan.Step.TheVariants.{Go}
use Rattle.sheet_rules.specs.declared.fault.CssFault.{CssFault}
use Rattle.sheet_rules.specs.Scanning.{after_step, step_of, value_len, none_open}

-- so many more
abbrev pub counted_from : ℕ → Result ℕ CssFault → Result ℕ CssFault
counted_from k (Ok n) = Ok (k + n)
counted_from k (Err fault) = Err fault

pub value_len_cons : (end : ℕ) (stack : List Bracket) (t : Token) (ts : List Token)
    → value_len end stack (t ∷ ts) ≡ after_step t.from (step_of t.kind stack).0 (value_len end (step_of t.kind stack).1 ts)
unfolding value_len
value_len_cons end stack t ts = refl

pub value_len_nil : (end : ℕ) (stack : List Bracket) → value_len end stack [] ≡ none_open end stack
unfolding value_len
value_len_nil end stack = refl

-- one token more
pub counted_more : (k at : ℕ) (rest : Result ℕ CssFault) → counted_from k (after_step at Go rest) ≡ counted_from (k + 1) rest
counted_more k at (Ok n) = ap Ok (omega arith)
counted_more k at (Err fault) = refl

-- nothing counted is nothing added
pub counted_from_0 : (rest : Result ℕ CssFault) → counted_from 0 rest ≡ rest
counted_from_0 (Ok n) = ap Ok (omega arith)
counted_from_0 (Err fault) = refl

-- at a token
pub at_token : (end k : ℕ) (stack stack' : List Bracket) (does : Step) (whole : Result ℕ CssFault) (ts : List Token) (blank : Token)
    → k < length ts → counted_from k (value_len end stack (drop k ts)) ≡ whole
    → (does, stack') ≡ step_of (get_or ts k blank).kind stack
    → counted_from k (after_step (get_or ts k blank).from does (value_len end stack' (drop (k + 1) ts))) ≡ whole
at_token end k stack stack' does whole ts blank h inv is =
    let t = get_or ts k blank in
    let rest = drop (k + 1) ts in
    let split : drop k ts ≡ t ∷ rest = drop-cons ts k blank h ∙ ap (λ n. t ∷ drop n ts) (sym (add-one k)) in
    let read : value_len end stack (drop k ts) ≡ after_step t.from does (value_len end stack' rest) =
    ap (value_len end stack) split ∙ value_len_cons end stack t rest
    ∙ ap (λ (p : Step × List Bracket). after_step t.from p.0 (value_len end p.1 rest)) (sym is) in
    ap (counted_from k) (sym read) ∙ inv

-- at the end of the text
pub at_end : (end k : ℕ) (stack : List Bracket) (whole : Result ℕ CssFault) (ts : List Token)
    → length ts ≤ k → counted_from k (value_len end stack (drop k ts)) ≡ whole → counted_from k (none_open end stack) ≡ whole
at_end end k stack whole ts h inv =
    let none : drop k ts ≡ [] = drop_all k ts h in
    ap (counted_from k) (sym (ap (value_len end stack) none ∙ value_len_nil end stack)) ∙ inv

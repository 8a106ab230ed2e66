-- The count of a value's tokens says where its brackets pair.
use Rattle.std.proofs.Common.{◌≡◌, ℕ, suc, ◌+◌, Bool, true, false, List, [], ◌∷◌, ◌++◌, append_assoc, append-nil, length, drop, take, refl, ap, sym, ◌∙◌, subst, arith}
use Rattle.std.specs.Prelude.{Result, Ok, Err, IsTrue}
use Rattle.std.proofs.Math.Dec.{eqb-suc-zero}
use Rattle.std.proofs.Math.Seq.{drop-append_seam, take-append_seam}
use Rattle.std.proofs.lemmas.List.{length-append, length-take-le, take-append-drop}
use Rattle.css_token.specs.declared.token.Kind.{Kind}
use Rattle.css_token.specs.declared.token.Kind.TheVariants as kind
use Rattle.css_token.specs.declared.token.Token.{Token}
use Rattle.sheet_rules.specs.declared.scan.Bracket.{Bracket}
use Rattle.sheet_rules.specs.declared.scan.Bracket.TheVariants.{Round, Square}
use Rattle.sheet_rules.specs.declared.scan.Step.{Step}
use Rattle.sheet_rules.specs.declared.scan.Step.TheVariants.{Stop, Bad, Go}
use Rattle.sheet_rules.specs.declared.fault.CssFault.{CssFault}
use Rattle.sheet_rules.specs.declared.fault.CssFault.TheVariants.{BadToken}
use Rattle.sheet_rules.specs.Scanning.{after_step, none_open, step_of, value_len}
use Rattle.sheet_rules.specs.Pairing.{EndsValue, IsOpen, IsPaired, IsUnpaired, IsValue, ends_value, is_misplaced, is_plain, opens_round}
use Rattle.sheet_rules.specs.Pairing as pairing
use Rattle.sheet_rules.proofs.ScanLemmas.{counted_from, counted_from_0, value_len_cons, value_len_nil}

-- ---- one token

abbrev pub is_inside : List Bracket → Bool
is_inside [] = false
is_inside (b ∷ stack) = true

-- what a token does, by what it is
pub data Does (stack : List Bracket) (k : Kind) : Type 0 where
  does_end : stack ≡ [] → ends_value k ≡ true → (step_of k stack).0 ≡ Stop → Does stack k
  does_wrong : is_misplaced stack k ≡ true → (step_of k stack).0 ≡ Bad → Does stack k
  does_go : is_plain (is_inside stack) k ≡ true → step_of k stack ≡ (Go, stack) → Does stack k
  does_open : opens_round k ≡ true → step_of k stack ≡ (Go, Round ∷ stack) → Does stack k
  does_open_square : k ≡ kind.SquareOpen → step_of k stack ≡ (Go, Square ∷ stack) → Does stack k
  does_close : (others : List Bracket) → stack ≡ Round ∷ others → k ≡ kind.RoundClose → step_of k stack ≡ (Go, others) → Does stack k
  does_close_square : (others : List Bracket) → stack ≡ Square ∷ others → k ≡ kind.SquareClose → step_of k stack ≡ (Go, others) → Does stack k

pub does : (stack : List Bracket) (k : Kind) → Does stack k
does [] kind.Semicolon = does_end refl refl refl
does [] kind.CurlyClose = does_end refl refl refl
does [] kind.CurlyOpen = does_wrong refl refl
does [] kind.RoundOpen = does_open refl refl
does [] kind.Function = does_open refl refl
does [] kind.SquareOpen = does_open_square refl refl
does [] kind.RoundClose = does_wrong refl refl
does [] kind.SquareClose = does_wrong refl refl
does [] k = does_go refl refl
does (Round ∷ stack) kind.CurlyClose = does_wrong refl refl
does (Round ∷ stack) kind.CurlyOpen = does_wrong refl refl
does (Round ∷ stack) kind.RoundOpen = does_open refl refl
does (Round ∷ stack) kind.Function = does_open refl refl
does (Round ∷ stack) kind.SquareOpen = does_open_square refl refl
does (Round ∷ stack) kind.RoundClose = does_close stack refl refl refl
does (Round ∷ stack) kind.SquareClose = does_wrong refl refl
does (Round ∷ stack) k = does_go refl refl
does (Square ∷ stack) kind.CurlyClose = does_wrong refl refl
does (Square ∷ stack) kind.CurlyOpen = does_wrong refl refl
does (Square ∷ stack) kind.RoundOpen = does_open refl refl
does (Square ∷ stack) kind.Function = does_open refl refl
does (Square ∷ stack) kind.SquareOpen = does_open_square refl refl
does (Square ∷ stack) kind.RoundClose = does_wrong refl refl
does (Square ∷ stack) kind.SquareClose = does_close_square stack refl refl refl
does (Square ∷ stack) k = does_go refl refl

-- a plain token goes on
plain_goes : (stack : List Bracket) (k : Kind) → is_plain (is_inside stack) k ≡ true → step_of k stack ≡ (Go, stack)
plain_goes [] kind.Semicolon plain = absurd (cc)
plain_goes [] kind.CurlyClose plain = absurd (cc)
plain_goes [] kind.CurlyOpen plain = absurd (cc)
plain_goes [] kind.RoundOpen plain = absurd (cc)
plain_goes [] kind.Function plain = absurd (cc)
plain_goes [] kind.SquareOpen plain = absurd (cc)
plain_goes [] kind.RoundClose plain = absurd (cc)
plain_goes [] kind.SquareClose plain = absurd (cc)
plain_goes [] k plain = refl
plain_goes (b ∷ stack) kind.CurlyClose plain = absurd (cc)
plain_goes (b ∷ stack) kind.CurlyOpen plain = absurd (cc)
plain_goes (b ∷ stack) kind.RoundOpen plain = absurd (cc)
plain_goes (b ∷ stack) kind.Function plain = absurd (cc)
plain_goes (b ∷ stack) kind.SquareOpen plain = absurd (cc)
plain_goes (b ∷ stack) kind.RoundClose plain = absurd (cc)
plain_goes (b ∷ stack) kind.SquareClose plain = absurd (cc)
plain_goes (b ∷ stack) k plain = refl

-- an opening one opens
opening_goes : (stack : List Bracket) (k : Kind) → opens_round k ≡ true → step_of k stack ≡ (Go, Round ∷ stack)
opening_goes stack kind.RoundOpen opens = refl
opening_goes stack kind.Function opens = refl
opening_goes stack k opens = absurd (cc)

-- a misplaced one is bad
misplaced_is_bad : (stack : List Bracket) (k : Kind) → is_misplaced stack k ≡ true → (step_of k stack).0 ≡ Bad
misplaced_is_bad [] kind.CurlyOpen bad = refl
misplaced_is_bad [] kind.RoundClose bad = refl
misplaced_is_bad [] kind.SquareClose bad = refl
misplaced_is_bad [] k bad = absurd (cc)
misplaced_is_bad (Round ∷ stack) kind.CurlyOpen bad = refl
misplaced_is_bad (Round ∷ stack) kind.CurlyClose bad = refl
misplaced_is_bad (Round ∷ stack) kind.SquareClose bad = refl
misplaced_is_bad (Round ∷ stack) k bad = absurd (cc)
misplaced_is_bad (Square ∷ stack) kind.CurlyOpen bad = refl
misplaced_is_bad (Square ∷ stack) kind.CurlyClose bad = refl
misplaced_is_bad (Square ∷ stack) kind.RoundClose bad = refl
misplaced_is_bad (Square ∷ stack) k bad = absurd (cc)

-- one that ends the value stops
ending_stops : (k : Kind) → IsTrue (ends_value k) → (step_of k []).0 ≡ Stop
ending_stops kind.Semicolon ends = refl
ending_stops kind.CurlyClose ends = refl
ending_stops k ends = absurd (cc)

-- ---- what pairs is counted whole

counted_twice : (a b : ℕ) (r : Result ℕ CssFault) → counted_from a (counted_from b r) ≡ counted_from (a + b) r
counted_twice a b (Ok n) = ap Ok (omega arith)
counted_twice a b (Err fault) = refl

gone : (n at : ℕ) (r : Result ℕ CssFault) → after_step at Go (counted_from n r) ≡ counted_from (suc n) r
gone n at (Ok m) = ap Ok (omega arith)
gone n at (Err fault) = refl

-- a token that goes on, and then what is counted after it
one_token : (end n : ℕ) (stack stack' : List Bracket) (t : Token) (ts : List Token) (r : Result ℕ CssFault) → step_of t.kind stack ≡ (Go, stack')
    → value_len end stack' ts ≡ counted_from n r → value_len end stack (t ∷ ts) ≡ counted_from (suc n) r
one_token end n stack stack' t ts r goes counted =
    value_len_cons end stack t ts
    ∙ ap (λ (p : Step × List Bracket). after_step t.from p.0 (value_len end p.1 ts)) goes
    ∙ ap (after_step t.from Go) counted ∙ gone n t.from r

bracket_counts : (end : ℕ) (stack : List Bracket) (b : Bracket) (t u : Token) (within ts rest : List Token) → step_of t.kind stack ≡ (Go, b ∷ stack) → step_of u.kind (b ∷ stack) ≡ (Go, stack)
    → value_len end (b ∷ stack) (within ++ (u ∷ (ts ++ rest))) ≡ counted_from (length within) (value_len end (b ∷ stack) (u ∷ (ts ++ rest)))
    → value_len end stack (ts ++ rest) ≡ counted_from (length ts) (value_len end stack rest)
    → value_len end stack ((t ∷ (within ++ (u ∷ ts))) ++ rest) ≡ counted_from (length (t ∷ (within ++ (u ∷ ts)))) (value_len end stack rest)
bracket_counts end stack b t u within ts rest opens closes inner others =
    let r = value_len end stack rest in
    let closed = one_token end (length ts) (b ∷ stack) stack u (ts ++ rest) r closes others in
    let whole = inner ∙ ap (counted_from (length within)) closed ∙ counted_twice (length within) (suc (length ts)) r in
    let count : suc (length within + suc (length ts)) ≡ length (t ∷ (within ++ (u ∷ ts))) = omega (arith, length-append within (u ∷ ts)) in
    ap (λ l. value_len end stack (t ∷ l)) (append_assoc within (u ∷ ts) rest)
    ∙ one_token end (length within + suc (length ts)) stack (b ∷ stack) t (within ++ (u ∷ (ts ++ rest))) r opens whole
    ∙ ap (λ n. counted_from n r) count

pub paired_counts : {inside : Bool} {ts : List Token} → IsPaired inside ts → (end : ℕ) (stack : List Bracket) (rest : List Token) → inside ≡ is_inside stack
    → value_len end stack (ts ++ rest) ≡ counted_from (length ts) (value_len end stack rest)
paired_counts (pairing.nothing inside) end stack rest fits = sym (counted_from_0 (value_len end stack rest))
paired_counts (pairing.plain inside t ts plain others) end stack rest fits =
    one_token end (length ts) stack stack t (ts ++ rest) (value_len end stack rest)
    (plain_goes stack t.kind (subst (λ b. is_plain b t.kind ≡ true) fits plain)) (paired_counts others end stack rest fits)
paired_counts (pairing.round inside t within u ts opens inner closes others) end stack rest fits =
    bracket_counts end stack Round t u within ts rest (opening_goes stack t.kind opens) (ap (λ k. step_of k (Round ∷ stack)) closes)
    (paired_counts inner end (Round ∷ stack) (u ∷ (ts ++ rest)) refl) (paired_counts others end stack rest fits)
paired_counts (pairing.square inside t within u ts opens inner closes others) end stack rest fits =
    bracket_counts end stack Square t u within ts rest (ap (λ k. step_of k stack) opens) (ap (λ k. step_of k (Square ∷ stack)) closes)
    (paired_counts inner end (Square ∷ stack) (u ∷ (ts ++ rest)) refl) (paired_counts others end stack rest fits)

opened_counts : (end : ℕ) (stack : List Bracket) (b : Bracket) (ts : List Token) (t : Token) (within rest : List Token) → step_of t.kind stack ≡ (Go, b ∷ stack)
    → value_len end [] (ts ++ (t ∷ (within ++ rest))) ≡ counted_from (length ts) (value_len end stack (t ∷ (within ++ rest)))
    → value_len end (b ∷ stack) (within ++ rest) ≡ counted_from (length within) (value_len end (b ∷ stack) rest)
    → value_len end [] ((ts ++ (t ∷ within)) ++ rest) ≡ counted_from (length (ts ++ (t ∷ within))) (value_len end (b ∷ stack) rest)
opened_counts end stack b ts t within rest opens before inner =
    let r = value_len end (b ∷ stack) rest in
    let more = one_token end (length within) stack (b ∷ stack) t (within ++ rest) r opens inner in
    let count : length ts + suc (length within) ≡ length (ts ++ (t ∷ within)) = omega (arith, length-append ts (t ∷ within)) in
    ap (value_len end []) (append_assoc ts (t ∷ within) rest) ∙ before ∙ ap (counted_from (length ts)) more ∙ counted_twice (length ts) (suc (length within)) r
    ∙ ap (λ n. counted_from n r) count

pub open_counts : {stack : List Bracket} {ts : List Token} → IsOpen stack ts → (end : ℕ) (rest : List Token) → value_len end [] (ts ++ rest) ≡ counted_from (length ts) (value_len end stack rest)
open_counts (pairing.none ts paired) end rest = paired_counts paired end [] rest refl
open_counts (pairing.round stack ts t within before opens inner) end rest =
    opened_counts end stack Round ts t within rest (opening_goes stack t.kind opens) (open_counts before end (t ∷ (within ++ rest))) (paired_counts inner end (Round ∷ stack) rest refl)
open_counts (pairing.square stack ts t within before opens inner) end rest =
    opened_counts end stack Square ts t within rest (ap (λ k. step_of k stack) opens) (open_counts before end (t ∷ (within ++ rest))) (paired_counts inner end (Square ∷ stack) rest refl)

some_open : (end : ℕ) (b : Bracket) (stack : List Bracket) → none_open end (b ∷ stack) ≡ Err (BadToken end)
some_open end b stack = rw (eqb-suc-zero (length stack)) refl

-- a value has as many tokens as are counted
pub value_is_counted : (end : ℕ) (ts : List Token) (n : ℕ) → IsValue ts n → value_len end [] ts ≡ Ok n
value_is_counted end ts n h =
    let whole : ts ≡ take n ts ++ drop n ts = sym (take-append-drop n ts) in
    ap (value_len end []) whole ∙ paired_counts h.paired end [] (drop n ts) refl
    ∙ ap (counted_from (length (take n ts))) (stopped (drop n ts) h.ended) ∙ ap Ok (let count = length-take-le n ts h.within in omega (arith, count))
  where
    stopped : (rest : List Token) → EndsValue rest → value_len end [] rest ≡ Ok 0
    stopped [] ends = value_len_nil end []
    stopped (t ∷ rest) ends = value_len_cons end [] t rest ∙ ap (λ does. after_step t.from does (value_len end (step_of t.kind []).1 rest)) (ending_stops t.kind ends)

-- and a fault is told
pub unpaired_is_told : (end : ℕ) {ts : List Token} {at : ℕ} → IsUnpaired end ts at → value_len end [] ts ≡ Err (BadToken at)
unpaired_is_told end (pairing.misplaced stack front t rest before bad) =
    open_counts before end (t ∷ rest)
    ∙ ap (counted_from (length front)) (value_len_cons end stack t rest ∙ ap (λ does. after_step t.from does (value_len end (step_of t.kind stack).1 rest)) (misplaced_is_bad stack t.kind bad))
unpaired_is_told end (pairing.unclosed b stack ts before) =
    ap (value_len end []) (sym (append-nil ts)) ∙ open_counts before end [] ∙ ap (counted_from (length ts)) (value_len_nil end (b ∷ stack) ∙ some_open end b stack)

-- ---- what is counted pairs

paired_append : {inside : Bool} {ts : List Token} → IsPaired inside ts → (us : List Token) → IsPaired inside us → IsPaired inside (ts ++ us)
paired_append (pairing.nothing inside) us more = more
paired_append (pairing.plain inside t ts plain others) us more = pairing.plain inside t (ts ++ us) plain (paired_append others us more)
paired_append (pairing.round inside t within u ts opens inner closes others) us more =
    subst (λ l. IsPaired inside (t ∷ l)) (sym (append_assoc within (u ∷ ts) us)) (pairing.round inside t within u (ts ++ us) opens inner closes (paired_append others us more))
paired_append (pairing.square inside t within u ts opens inner closes others) us more =
    subst (λ l. IsPaired inside (t ∷ l)) (sym (append_assoc within (u ∷ ts) us)) (pairing.square inside t within u (ts ++ us) opens inner closes (paired_append others us more))

-- what pairs follows an open front
open_append : {stack : List Bracket} {ts : List Token} → IsOpen stack ts → (us : List Token) → IsPaired (is_inside stack) us → IsOpen stack (ts ++ us)
open_append (pairing.none ts paired) us more = pairing.none (ts ++ us) (paired_append paired us more)
open_append (pairing.round stack ts t within before opens inner) us more =
    subst (IsOpen (Round ∷ stack)) (sym (append_assoc ts (t ∷ within) us)) (pairing.round stack ts t (within ++ us) before opens (paired_append inner us more))
open_append (pairing.square stack ts t within before opens inner) us more =
    subst (IsOpen (Square ∷ stack)) (sym (append_assoc ts (t ∷ within) us)) (pairing.square stack ts t (within ++ us) before opens (paired_append inner us more))

-- a closing bracket closes the last one
pub record IsOpened (stack : List Bracket) (closes : Kind) (opens : Token → Type 0) (ts : List Token) : Type 0 where
  pub front : List Token
  pub t : Token
  pub within : List Token
  pub before : IsOpen stack front
  pub opened : opens t
  pub inner : IsPaired true within
  pub is : ts ≡ front ++ (t ∷ within)

abbrev pub Top : List Bracket → List Token → Type 0
Top [] ts = Unit {0}
Top (Round ∷ stack) ts = IsOpened stack kind.RoundClose (λ t. opens_round t.kind ≡ true) ts
Top (Square ∷ stack) ts = IsOpened stack kind.SquareClose (λ t. t.kind ≡ kind.SquareOpen) ts

top_of : {stack : List Bracket} {ts : List Token} → IsOpen stack ts → Top stack ts
top_of (pairing.none ts paired) = tt
top_of (pairing.round stack ts t within before opens inner) = record { front = ts; t = t; within = within; before = before; opened = opens; inner = inner; is = refl }
top_of (pairing.square stack ts t within before opens inner) = record { front = ts; t = t; within = within; before = before; opened = opens; inner = inner; is = refl }

closed_round : (stack : List Bracket) (ts : List Token) (u : Token) → IsOpen (Round ∷ stack) ts → u.kind ≡ kind.RoundClose → IsOpen stack (ts ++ (u ∷ []))
closed_round stack ts u before closes =
    let top = top_of before in
    let pair : IsPaired (is_inside stack) (top.t ∷ (top.within ++ (u ∷ []))) = pairing.round (is_inside stack) top.t top.within u [] top.opened top.inner closes (pairing.nothing (is_inside stack)) in
    subst (IsOpen stack) (sym (ap (λ l. l ++ (u ∷ [])) top.is ∙ append_assoc top.front (top.t ∷ top.within) (u ∷ []))) (open_append top.before (top.t ∷ (top.within ++ (u ∷ []))) pair)

closed_square : (stack : List Bracket) (ts : List Token) (u : Token) → IsOpen (Square ∷ stack) ts → u.kind ≡ kind.SquareClose → IsOpen stack (ts ++ (u ∷ []))
closed_square stack ts u before closes =
    let top = top_of before in
    let pair : IsPaired (is_inside stack) (top.t ∷ (top.within ++ (u ∷ []))) = pairing.square (is_inside stack) top.t top.within u [] top.opened top.inner closes (pairing.nothing (is_inside stack)) in
    subst (IsOpen stack) (sym (ap (λ l. l ++ (u ∷ [])) top.is ∙ append_assoc top.front (top.t ∷ top.within) (u ∷ []))) (open_append top.before (top.t ∷ (top.within ++ (u ∷ []))) pair)

-- what is counted after so many tokens is a value, or tells where brackets don't pair
abbrev pub IsCounted : ℕ → List Token → ℕ → Result ℕ CssFault → Type 0
IsCounted end all k (Ok n) = IsValue all (k + n)
IsCounted end all k (Err fault) = (at : ℕ) × (fault ≡ BadToken at) × IsUnpaired end all at

abbrev pub all_paired : List Bracket → List Token → Type 0
all_paired [] ts = IsPaired false ts
all_paired (b ∷ stack) ts = Unit {0}

all_of : {stack : List Bracket} {ts : List Token} → IsOpen stack ts → all_paired stack ts
all_of (pairing.none ts paired) = paired
all_of (pairing.round stack ts t within before opens inner) = tt
all_of (pairing.square stack ts t within before opens inner) = tt

-- a value is what stands before its end
ended_value : (before rest : List Token) → IsPaired false before → EndsValue rest → IsValue (before ++ rest) (length before + 0)
ended_value before rest paired ends = record {
  within = omega (arith, length-append before rest);
  paired = subst (λ n. IsPaired false (take n (before ++ rest))) (sym none_more) (subst (IsPaired false) (sym (take-append_seam before rest)) paired);
  ended = subst (λ n. EndsValue (drop n (before ++ rest))) (sym none_more) (subst EndsValue (sym (drop-append_seam before rest)) ends);
}
  where
    none_more : length before + 0 ≡ length before
    none_more = omega arith

counted_on : (end : ℕ) (all : List Token) (k at : ℕ) (r : Result ℕ CssFault) → IsCounted end all (k + 1) r → IsCounted end all k (after_step at Go r)
counted_on end all k at (Ok n) h = subst (IsValue all) (omega arith) h
counted_on end all k at (Err fault) h = h

pub counts : (end : ℕ) (ts before : List Token) (stack : List Bracket) → IsOpen stack before → IsCounted end (before ++ ts) (length before) (value_len end stack ts)
counts end [] before [] open_front =
    subst (IsCounted end (before ++ []) (length before)) (sym (value_len_nil end [])) (ended_value before [] (all_of open_front) tt)
counts end [] before (b ∷ stack) open_front =
    subst (IsCounted end (before ++ []) (length before)) (sym (value_len_nil end (b ∷ stack) ∙ some_open end b stack))
    (end, refl, subst (λ l. IsUnpaired end l end) (sym (append-nil before)) (pairing.unclosed b stack before open_front))
counts end (t ∷ ts) before stack open_front =
    subst (IsCounted end (before ++ (t ∷ ts)) (length before)) (sym (value_len_cons end stack t ts))
    (by (λ stack' h. counts end ts (before ++ (t ∷ [])) stack' h) (does stack t.kind))
  where
    onward : (stack' : List Bracket) → step_of t.kind stack ≡ (Go, stack') → IsCounted end ((before ++ (t ∷ [])) ++ ts) (length (before ++ (t ∷ []))) (value_len end stack' ts)
        → IsCounted end (before ++ (t ∷ ts)) (length before) (after_step t.from (step_of t.kind stack).0 (value_len end (step_of t.kind stack).1 ts))
    onward stack' goes more =
        let count : length (before ++ (t ∷ [])) ≡ length before + 1 = omega (arith, length-append before (t ∷ [])) in
        let there = subst (λ l. IsCounted end l (length (before ++ (t ∷ []))) (value_len end stack' ts)) (append_assoc before (t ∷ []) ts) more in
        let here = subst (λ n. IsCounted end (before ++ (t ∷ ts)) n (value_len end stack' ts)) count there in
        subst (λ (p : Step × List Bracket). IsCounted end (before ++ (t ∷ ts)) (length before) (after_step t.from p.0 (value_len end p.1 ts))) (sym goes)
        (counted_on end (before ++ (t ∷ ts)) (length before) t.from (value_len end stack' ts) here)

    by : ((stack' : List Bracket) → IsOpen stack' (before ++ (t ∷ [])) → IsCounted end ((before ++ (t ∷ [])) ++ ts) (length (before ++ (t ∷ []))) (value_len end stack' ts))
        → Does stack t.kind → IsCounted end (before ++ (t ∷ ts)) (length before) (after_step t.from (step_of t.kind stack).0 (value_len end (step_of t.kind stack).1 ts))
    by more (does_end none e stops) =
        subst (λ step. IsCounted end (before ++ (t ∷ ts)) (length before) (after_step t.from step (value_len end (step_of t.kind stack).1 ts))) (sym stops)
        (ended_value before (t ∷ ts) (subst (λ s. all_paired s before) none (all_of open_front)) e)
    by more (does_wrong e bad) =
        subst (λ step. IsCounted end (before ++ (t ∷ ts)) (length before) (after_step t.from step (value_len end (step_of t.kind stack).1 ts))) (sym bad)
        (t.from, refl, pairing.misplaced stack before t ts open_front e)
    by more (does_go e is) = onward stack is (more stack (open_append open_front (t ∷ []) (pairing.plain (is_inside stack) t [] e (pairing.nothing (is_inside stack)))))
    by more (does_open e is) = onward (Round ∷ stack) is (more (Round ∷ stack) (pairing.round stack before t [] open_front e (pairing.nothing true)))
    by more (does_open_square e is) = onward (Square ∷ stack) is (more (Square ∷ stack) (pairing.square stack before t [] open_front e (pairing.nothing true)))
    by more (does_close others s e is) = onward others is (more others (closed_round others before t (subst (λ s. IsOpen s before) s open_front) e))
    by more (does_close_square others s e is) = onward others is (more others (closed_square others before t (subst (λ s. IsOpen s before) s open_front) e))

pub at_first : (end : ℕ) (ts : List Token) → IsCounted end ts 0 (value_len end [] ts)
at_first end ts = counts end ts [] [] (pairing.none [] (pairing.nothing false))

pub counted_is_value : (end : ℕ) (ts : List Token) (n : ℕ) → value_len end [] ts ≡ Ok n → IsValue ts n
counted_is_value end ts n e = subst (IsValue ts) (omega arith) (subst (IsCounted end ts 0) e (at_first end ts))

pub told_is_unpaired : (end : ℕ) (ts : List Token) (fault : CssFault) → value_len end [] ts ≡ Err fault → (at : ℕ) × (fault ≡ BadToken at) × IsUnpaired end ts at
told_is_unpaired end ts fault e = subst (IsCounted end ts 0) e (at_first end ts)

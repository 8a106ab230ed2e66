-- What the parser takes, and what words say.
use Rattle.std.proofs.Common.{◌≤◌, zero, suc, ◌≡◌, ◌≢◌, ◌∙◌, ◌<◌, ap, ap₂, refl, sym, subst, ℕ, Bool, true, false, List, [], ◌∷◌, Option, None, Some, codes, arith}
use Rattle.std.specs.Prelude.{All, flat_map, if◌then◌else◌, map, ◌||◌, ◌==◌, find, option_map, unwrap_or}
use Rattle.std.specs.List.{list_any}
use Rattle.std.specs.Char.{digit_value}
use Rattle.std.specs.Str.Parse.{IsNumeral}
use Rattle.std.proofs.lemmas.Slice.Eq.{bytes_eq-Decides}
use Rattle.std.proofs.lemmas.Bool.Decides.{nat_tests}
use Rattle.clap.specs.Words.{Text, fault_of, first_of, matches_of}
use Rattle.clap.specs.Lexer.{strip_byte}
use Rattle.command_words.specs.Arguments.{IsArgumentIfAny}
use Rattle.command_words.specs.CommandLine.{Demo, IsArgument, OptionName, OptionUse, Say, Workers, argument_of, is_same, number_of, spelled, words_of}
use Rattle.command_words.specs.Parse.{app, is_dashes}
use Rattle.command_words.specs.declared.limits.TheConstants.{MAX_WORKERS}
use Rattle.command_words.specs.declared.words.Words.{Words}
use Rattle.command_words.proofs.Cuts.{ArePlain, NoRepeat, cuts, fault-is, few, matches-are, once-to, passes, rows-keep, two}
use Rattle.command_words.proofs.Walks.{IsPlain, joined}

-- the parser keeps the arguments of these uses
pub record Keeps (words : List Text) (uses : List OptionUse) : Type 0 where
  pub fault : fault_of app words ≡ []
  pub workers : first_of (codes "workers") (matches_of app words) ≡ argument_of Workers uses
  pub demo : first_of (codes "demo") (matches_of app words) ≡ argument_of Demo uses

keeps : (uses : List OptionUse) → NoRepeat [] uses → ArePlain uses → Keeps (flat_map words_of uses) uses
keeps uses apart plain =
    let words = flat_map words_of uses in
    let p = passes uses [] None tt apart plain in
    let kept = rows-keep uses apart in
    let rows = matches-are words ∙ p.1 in
    record {
      fault = fault-is words ∙ p.0;
      workers = ap (first_of (codes "workers")) rows ∙ kept.0;
      demo = ap (first_of (codes "demo")) rows ∙ kept.1;
    }

-- what the parser takes are the words of uses, no option twice
pub record Taken (words : List Text) : Type 0 where
  pub uses : List OptionUse
  pub written : words ≡ flat_map words_of uses
  pub apart : NoRepeat [] uses
  pub kept : Keeps words uses

pub taken : (words : List Text) → list_any is_dashes words ≡ false → fault_of app words ≡ [] → Taken words
taken words apart h =
    let c = (cuts words apart).0 [] None (sym (fault-is words) ∙ h) in
    record { uses = c.uses; written = c.written; apart = c.apart; kept = subst (λ w. Keeps w c.uses) (sym c.written) (keeps c.uses c.apart c.plain) }

-- ---- digits

no_hyphen : (x : ℕ) → digit_value x < 10 → x ≢ 45
no_hyphen x low is = let bad : digit_value 45 < 10 = subst (λ y. digit_value y < 10) is low in absurd (omega (arith, bad))

no_strip : (x : ℕ) (xs : List ℕ) → x ≢ 45 → strip_byte 45 (x ∷ xs) ≡ None
no_strip x xs other = go (x == 45) refl
  where
    go : (b : Bool) → (x == 45) ≡ b → (if b then Some xs else None) ≡ None
    go true e = absurd (other (grind (arith, nat_tests)))
    go false e = refl

no_dashes : (x : ℕ) (xs : List ℕ) → x ≢ 45 → is_dashes (x ∷ xs) ≡ false
no_dashes x xs other = go (is_dashes (x ∷ xs)) refl
  where
    go : (b : Bool) → is_dashes (x ∷ xs) ≡ b → b ≡ false
    go true e =
        let same : x ∷ xs ≡ 45 ∷ 45 ∷ [] = (bytes_eq-Decides (x ∷ xs) (45 ∷ 45 ∷ [])).0 e in
        let head : x ≡ 45 = cc in
        absurd (other head)
    go false e = refl

pub digits-plain : (text : List ℕ) → IsNumeral 10 text → IsPlain text
digits-plain [] h = absurd (omega (arith, h.0))
digits-plain (x ∷ xs) h =
    let other = no_hyphen x h.1.0 in
    let strip = no_strip x xs other in
    record { apart = no_dashes x xs other; long = rw strip refl; short = rw strip tt }

are-plain : (uses : List OptionUse) → All (λ u. IsArgument u.option u.argument) uses → ArePlain uses
are-plain [] h = tt
are-plain (u ∷ us) h = ((λ _. digits-plain u.argument (h 0 u (omega arith)).digits), are-plain us (λ i d low. h (suc i) d (omega arith)))

-- ---- no delimiter

spelled-apart : (o : OptionName) → is_dashes (spelled o) ≡ false
spelled-apart Workers = refl
spelled-apart Demo = refl

joined-apart : (o : OptionName) (v : Text) → is_dashes (joined o v) ≡ false
joined-apart Workers v = refl
joined-apart Demo v = refl

no_delimiter : (uses : List OptionUse) → ArePlain uses → list_any is_dashes (flat_map words_of uses) ≡ false
no_delimiter [] h = refl
no_delimiter (u ∷ us) h = go u.is_joined refl (no_delimiter us h.1)
  where
    go : (j : Bool) → u.is_joined ≡ j → list_any is_dashes (flat_map words_of us) ≡ false → list_any is_dashes (flat_map words_of (u ∷ us)) ≡ false
    go true e more = rw (e, joined-apart u.option u.argument) more
    go false e more = rw (e, spelled-apart u.option, (h.0 e).apart) more

-- ---- what words say

-- words that say something pass
pub record Passed (words : List Text) (w : Words) (s : Say words w) : Type 0 where
  pub apart : list_any is_dashes words ≡ false
  pub kept : Keeps words s.uses

pub say-passes : (words : List Text) (w : Words) (s : Say words w) → Passed words w s
say-passes words w s =
    let plain = are-plain s.uses s.arguments in
    record {
      apart = ap (list_any is_dashes) s.written ∙ no_delimiter s.uses plain;
      kept = subst (λ l. Keeps l s.uses) (sym s.written) (keeps s.uses (once-to s.uses s.once) plain);
    }

same-option : (x o : OptionName) → is_same x o ≡ true → x ≡ o
same-option Workers Workers h = refl
same-option Workers Demo h = cc
same-option Demo Workers h = cc
same-option Demo Demo h = refl

-- an option's argument is one
pub argument-is : (o : OptionName) (uses : List OptionUse) → All (λ u. IsArgument u.option u.argument) uses → IsArgumentIfAny o (argument_of o uses)
argument-is o [] h = tt
argument-is o (u ∷ us) h = go (is_same u.option o) refl (argument-is o us (λ i d low. h (suc i) d (omega arith)))
  where
    go : (b : Bool) → is_same u.option o ≡ b → IsArgumentIfAny o (argument_of o us) → IsArgumentIfAny o (option_map (λ (x : OptionUse). x.argument) (if b then Some u else find (λ x. is_same x.option o) us))
    go true e more = subst (λ n. IsArgument n u.argument) (same-option u.option o e) (h 0 u (omega arith))
    go false e more = more

abbrev use_of : OptionName → OptionUse → OptionUse
use_of o u = record { option = o; argument = u.argument; is_joined = u.is_joined }

of_one : (a : OptionUse) → IsArgumentIfAny Workers (argument_of Workers (a ∷ [])) → IsArgumentIfAny Demo (argument_of Demo (a ∷ [])) → IsArgument a.option a.argument
of_one a w d = go a.option w d
  where
    go : (x : OptionName) → IsArgumentIfAny Workers (argument_of Workers (use_of x a ∷ [])) → IsArgumentIfAny Demo (argument_of Demo (use_of x a ∷ [])) → IsArgument x a.argument
    go Workers w d = w
    go Demo w d = d

of_two : (a b : OptionUse) → a.option ≢ b.option → IsArgumentIfAny Workers (argument_of Workers (a ∷ b ∷ [])) → IsArgumentIfAny Demo (argument_of Demo (a ∷ b ∷ []))
    → IsArgument a.option a.argument × IsArgument b.option b.argument
of_two a b other w d = go a.option b.option other w d
  where
    go : (x y : OptionName) → x ≢ y → IsArgumentIfAny Workers (argument_of Workers (use_of x a ∷ use_of y b ∷ []))
        → IsArgumentIfAny Demo (argument_of Demo (use_of x a ∷ use_of y b ∷ [])) → IsArgument x a.argument × IsArgument y b.argument
    go Workers Workers other w d = absurd (other refl)
    go Demo Demo other w d = absurd (other refl)
    go Workers Demo other w d = (w, d)
    go Demo Workers other w d = (d, w)

-- and all arguments are, where those of both options are
pub arguments-are : (uses : List OptionUse) → NoRepeat [] uses → IsArgumentIfAny Workers (argument_of Workers uses) → IsArgumentIfAny Demo (argument_of Demo uses)
    → All (λ u. IsArgument u.option u.argument) uses
arguments-are [] apart w d i e low = absurd (omega arith)
arguments-are (a ∷ []) apart w d zero e low = of_one a w d
arguments-are (a ∷ []) apart w d (suc i) e low = absurd (omega arith)
arguments-are (a ∷ b ∷ []) apart w d zero e low = (of_two a b (two a b apart.1.0) w d).0
arguments-are (a ∷ b ∷ []) apart w d (suc zero) e low = (of_two a b (two a b apart.1.0) w d).1
arguments-are (a ∷ b ∷ []) apart w d (suc (suc i)) e low = absurd (omega arith)
arguments-are (a ∷ b ∷ c ∷ us) apart w d i e low = absurd (let bad = few (a ∷ b ∷ c ∷ us) apart in omega arith)

pub one-saying : (words : List Text) (w v : Words) → Say words w → Say words v → w ≡ v
one-saying words w v s t =
    let a = (say-passes words w s).kept in
    let b = (say-passes words v t).kept in
    let first = s.workers ∙ ap (λ x. unwrap_or (number_of x) 1) (sym a.workers ∙ b.workers) ∙ sym t.workers in
    let second = s.demo ∙ ap number_of (sym a.demo ∙ b.demo) ∙ sym t.demo in
    ap₂ (λ (x : ℕ) (y : Option ℕ). record { workers = x; demo = y }) first second

pub any-map : {X Y : Type 0} (p : Y → Bool) (f : X → Y) (xs : List X) → list_any (λ x. p (f x)) xs ≡ list_any p (map f xs)
any-map p f [] = refl
any-map p f (x ∷ xs) = ap (λ b. p (f x) || b) (any-map p f xs)

-- the workers that words ask for are within the bounds
pub workers-fit : (words : List Text) (w : Words) → Say words w → (1 ≤ w.workers) × (w.workers ≤ MAX_WORKERS)
workers-fit words w s = go (argument_of Workers s.uses) s.workers (argument-is Workers s.uses s.arguments)
  where
    go : (o : Option (List ℕ)) → w.workers ≡ unwrap_or (number_of o) 1 → IsArgumentIfAny Workers o → (1 ≤ w.workers) × (w.workers ≤ MAX_WORKERS)
    go None e h = rw e (omega arith, omega arith)
    go (Some text) e h = rw e (h.low, h.high)

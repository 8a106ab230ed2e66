-- Tokens that say the same: runs, parts and tests.
use Rattle.std.proofs.Common.{◌≡◌, ℕ, zero, suc, ◌+◌, ◌-◌, ◌<◌, ◌≤◌, Bool, true, false, cond, List, [], ◌∷◌, drop, length, take, get_or, refl, ap, sym, subst, ◌∙◌, inl, inr, arith}
use Rattle.std.specs.Prelude.{◌&&◌, not, Option, None, Some, nat_lt, slice_get, slice_index, slice_range}
use Rattle.std.specs.List.{cons_option, prefix_len}
use Rattle.std.specs.Option.{option_map_or}
use Rattle.std.proofs.lemmas.Bool.{cases_Bool}
use Rattle.std.proofs.lemmas.List.{drop-drop, drop-take, get_or-drop, get_or-take, length-drop, length-take, take-take}
use Rattle.css_token.specs.TokenLists.{UnitLiesWithin, bytes_of}
use Rattle.css_token.specs.declared.token.Kind.{Kind}
use Rattle.css_token.specs.declared.token.Kind.TheVariants as kind
use Rattle.css_token.specs.declared.token.Token.{Token}
use Rattle.token_parts.specs.Parts.{TokenPart, token_part_at, token_parts_of}
use Rattle.token_parts.specs.Parts as says
use Rattle.selectors_mini.specs.Parts.{SelectorPart, delim_part, hash_part, part_at, parts_of}
use Rattle.selectors_mini.specs.Parts as selects
use Rattle.sheet_rules.specs.Alike.{AreAlike, IsAlike, bare_kind, bytes_before_unit}
use Rattle.sheet_rules.specs.Blocks.{after_separators, is_separator_kind}
use Rattle.sheet_rules.specs.Declarations.{solid}
use Rattle.sheet_rules.specs.Scanning.{after_spaces, is_space, is_space_kind, opens_block, prelude_len}

-- ---- kinds

abbrev pub is_dimension : Kind → Bool
is_dimension (kind.Dimension unit) = true
is_dimension _ = false

pub kind_told : (k x : Kind) → bare_kind k ≡ x → is_dimension x ≡ false → k ≡ x
kind_told (kind.Dimension unit) x e h = let no : true ≡ false = ap is_dimension e ∙ h in cc
kind_told k x e h = e

-- a test of kinds that doesn't ask where a unit begins
abbrev pub IsBare : (Kind → Bool) → Type 0
IsBare f = (k : Kind) → f k ≡ f (bare_kind k)

pub space_bare : IsBare is_space_kind
space_bare (kind.Dimension unit) = refl
space_bare k = refl

separator_bare : IsBare is_separator_kind
separator_bare (kind.Dimension unit) = refl
separator_bare k = refl

opens_bare : IsBare opens_block
opens_bare (kind.Dimension unit) = refl
opens_bare k = refl

-- ---- parts of a token's bytes

bytes_length : (text : List ℕ) (from to : ℕ) → from < to → to ≤ length text → length (slice_range text from to) ≡ to - from
bytes_length text from to some within =
    let d = length-drop from text in
    length-take (to - from) (drop from text) ∙ omega arith

front_of : (text : List ℕ) (from n to : ℕ) → n ≤ to → slice_range text from n ≡ take (n - from) (slice_range text from to)
front_of text from n to h = sym (take-take (n - from) (to - from) (drop from text) (omega arith))

back_of : (text : List ℕ) (from n to : ℕ) → from ≤ n → n ≤ to → slice_range text n to ≡ drop (n - from) (slice_range text from to)
back_of text from n to low high =
    let whole : to - from ≡ (n - from) + (to - n) = omega arith in
    let at : from + (n - from) ≡ n = omega arith in
    sym (ap (λ k. drop (n - from) (take k (drop from text))) whole ∙ drop-take (n - from) (to - n) (drop from text)
    ∙ ap (take (to - n)) (drop-drop (n - from) from text ∙ ap (λ k. drop k text) at))

first_of_bytes : (text : List ℕ) (from to : ℕ) → from < to → slice_index text from ≡ slice_index (slice_range text from to) 0
first_of_bytes text from to some =
    let at : from + 0 ≡ from = omega arith in
    sym (get_or-take (to - from) (drop from text) 0 0 (omega arith) ∙ get_or-drop from text 0 0 ∙ ap (λ k. get_or text k 0) at)

but_last : (text : List ℕ) (from to : ℕ) → from < to → to ≤ length text
    → slice_range text from (to - 1) ≡ take (length (slice_range text from to) - 1) (slice_range text from to)
but_last text from to some within =
    let long = bytes_length text from to some within in
    let count : (to - 1) - from ≡ length (slice_range text from to) - 1 = omega arith in
    front_of text from (to - 1) to (omega arith) ∙ ap (λ k. take k (slice_range text from to)) count

but_first : (text : List ℕ) (from to : ℕ) → from < to → slice_range text (from + 1) to ≡ drop 1 (slice_range text from to)
but_first text from to some =
    let one : (from + 1) - from ≡ 1 = omega arith in
    back_of text from (from + 1) to (omega arith) (omega arith) ∙ ap (λ k. drop k (slice_range text from to)) one

-- ---- what a token says by its bytes

part_from : Kind → List ℕ → ℕ → Option TokenPart
part_from kind.Space bytes n = None
part_from kind.Ident bytes n = Some (says.Ident bytes)
part_from kind.Function bytes n = Some (says.Function (take (length bytes - 1) bytes))
part_from kind.Hash bytes n = Some (says.Hash (drop 1 bytes))
part_from kind.Number bytes n = Some (says.Number bytes)
part_from kind.Percent bytes n = Some (says.Percent (take (length bytes - 1) bytes))
part_from (kind.Dimension unit) bytes n = Some (says.Dimension (take n bytes) (drop n bytes))
part_from kind.Comma bytes n = Some says.Comma
part_from kind.RoundClose bytes n = Some says.Close
part_from _ bytes n = Some says.Other

token_says : (text : List ℕ) (k : Kind) (from to : ℕ) → from < to → to ≤ length text → UnitLiesWithin k from to
    → token_part_at text k from to ≡ part_from (bare_kind k) (slice_range text from to) (bytes_before_unit k from)
unfolding part_from
token_says text kind.Function from to some within unit = ap (λ b. Some (says.Function b)) (but_last text from to some within)
token_says text kind.Hash from to some within unit = ap (λ b. Some (says.Hash b)) (but_first text from to some)
token_says text kind.Percent from to some within unit = ap (λ b. Some (says.Percent b)) (but_last text from to some within)
token_says text (kind.Dimension at) from to some within unit =
    let low = unit.0 in
    let high = unit.1 in
    ap (λ b. Some (says.Dimension b (slice_range text at to))) (front_of text from at to (omega arith))
    ∙ ap (λ b. Some (says.Dimension (take (at - from) (slice_range text from to)) b)) (back_of text from at to (omega arith) (omega arith))
token_says text k from to some within unit = refl

space_says : (k : Kind) (bytes : List ℕ) (n : ℕ) → is_space_kind k ≡ true → part_from (bare_kind k) bytes n ≡ None
unfolding part_from
space_says kind.Space bytes n h = refl
space_says _ bytes n h = cc

select_from : Kind → List ℕ → SelectorPart
select_from kind.Ident bytes = selects.Word bytes
select_from kind.Hash bytes = hash_part (drop 1 bytes)
select_from kind.Delim bytes = delim_part (slice_index bytes 0)
select_from kind.Comma bytes = selects.Comma
select_from kind.Space bytes = selects.Space
select_from _ bytes = selects.Other

token_selects : (text : List ℕ) (k : Kind) (from to : ℕ) → from < to → part_at text k from to ≡ select_from (bare_kind k) (slice_range text from to)
unfolding select_from
token_selects text kind.Hash from to some = ap hash_part (but_first text from to some)
token_selects text kind.Delim from to some = ap delim_part (first_of_bytes text from to some)
token_selects text k from to some = refl

space_selects : (k : Kind) (bytes : List ℕ) → is_space_kind k ≡ true → select_from (bare_kind k) bytes ≡ selects.Space
unfolding select_from
space_selects kind.Space bytes h = refl
space_selects _ bytes h = cc

-- ---- alike tokens

module _ (text other : List ℕ) where
  abbrev pub Alike : List Token → List Token → Type 0
  Alike ts us = AreAlike text other ts us

  pub kind_test : (f : Kind → Bool) → IsBare f → (t u : Token) → IsAlike text other t u → f t.kind ≡ f u.kind
  kind_test f bare t u a = bare t.kind ∙ ap f a.kind ∙ sym (bare u.kind)

  pub kind_same : (x : Kind) → is_dimension x ≡ false → bare_kind x ≡ x → (t u : Token) → IsAlike text other t u → t.kind ≡ x → u.kind ≡ x
  kind_same x d b t u a e = kind_told u.kind x (sym a.kind ∙ ap bare_kind e ∙ b) d

  says_alike : (t u : Token) → IsAlike text other t u → token_part_at text t.kind t.from t.to ≡ token_part_at other u.kind u.from u.to
  says_alike t u a =
      token_says text t.kind t.from t.to a.within.some a.within.within a.within.unit ∙ middle ∙ sym (token_says other u.kind u.from u.to a.other_within.some a.other_within.within a.other_within.unit)
    where
      middle : part_from (bare_kind t.kind) (bytes_of text t) (bytes_before_unit t.kind t.from) ≡ part_from (bare_kind u.kind) (bytes_of other u) (bytes_before_unit u.kind u.from)
      middle = elim (cases_Bool (is_space t)) [
        | inl space ↦ space_says t.kind _ _ space ∙ sym (space_says u.kind _ _ (sym (kind_test is_space_kind space_bare t u a) ∙ space))
        | inr solid_one ↦
            ap (λ k. part_from k (bytes_of text t) (bytes_before_unit t.kind t.from)) a.kind
            ∙ ap (λ b. part_from (bare_kind u.kind) b (bytes_before_unit t.kind t.from)) (a.bytes solid_one)
            ∙ ap (part_from (bare_kind u.kind) (bytes_of other u)) a.unit
      ]

  selects_alike : (t u : Token) → IsAlike text other t u → part_at text t.kind t.from t.to ≡ part_at other u.kind u.from u.to
  selects_alike t u a =
      token_selects text t.kind t.from t.to a.within.some ∙ middle ∙ sym (token_selects other u.kind u.from u.to a.other_within.some)
    where
      middle : select_from (bare_kind t.kind) (bytes_of text t) ≡ select_from (bare_kind u.kind) (bytes_of other u)
      middle = elim (cases_Bool (is_space t)) [
        | inl space ↦ space_selects t.kind _ space ∙ sym (space_selects u.kind _ (sym (kind_test is_space_kind space_bare t u a) ∙ space))
        | inr solid_one ↦ ap (λ k. select_from k (bytes_of text t)) a.kind ∙ ap (select_from (bare_kind u.kind)) (a.bytes solid_one)
      ]

  -- a word's kind and bytes, where white space has not that kind
  pub word_test : (f : Kind → Bool) (g : List ℕ → Bool) → IsBare f → ((k : Kind) → is_space_kind k ≡ true → f k ≡ false) → (t u : Token) → IsAlike text other t u
      → (f t.kind && g (bytes_of text t)) ≡ (f u.kind && g (bytes_of other u))
  word_test f g bare none t u a = elim (cases_Bool (is_space t)) [
    | inl space ↦
        ap (λ b. b && g (bytes_of text t)) (none t.kind space)
        ∙ sym (ap (λ b. b && g (bytes_of other u)) (none u.kind (sym (kind_test is_space_kind space_bare t u a) ∙ space)))
    | inr solid_one ↦ ap (λ b. b && g (bytes_of text t)) (kind_test f bare t u a) ∙ ap (λ bs. f u.kind && g bs) (a.bytes solid_one)
  ]

  -- ---- lists

  pub parts_alike : (ts us : List Token) → Alike ts us → token_parts_of text ts ≡ token_parts_of other us
  parts_alike [] [] h = refl
  parts_alike [] (u ∷ us) h = absurd h
  parts_alike (t ∷ ts) [] h = absurd h
  parts_alike (t ∷ ts) (u ∷ us) h =
      ap (λ p. cons_option p (token_parts_of text ts)) (says_alike t u h.0) ∙ ap (cons_option (token_part_at other u.kind u.from u.to)) (parts_alike ts us h.1)

  pub selectors_alike : (ts us : List Token) → Alike ts us → parts_of text ts ≡ parts_of other us
  selectors_alike [] [] h = refl
  selectors_alike [] (u ∷ us) h = absurd h
  selectors_alike (t ∷ ts) [] h = absurd h
  selectors_alike (t ∷ ts) (u ∷ us) h =
      ap (λ p. p ∷ parts_of text ts) (selects_alike t u h.0) ∙ ap (λ ps. part_at other u.kind u.from u.to ∷ ps) (selectors_alike ts us h.1)

  pub take_alike : (n : ℕ) (ts us : List Token) → Alike ts us → Alike (take n ts) (take n us)
  take_alike zero ts us h = tt
  take_alike (suc n) [] [] h = tt
  take_alike (suc n) [] (u ∷ us) h = absurd h
  take_alike (suc n) (t ∷ ts) [] h = absurd h
  take_alike (suc n) (t ∷ ts) (u ∷ us) h = (h.0, take_alike n ts us h.1)

  pub drop_alike : (n : ℕ) (ts us : List Token) → Alike ts us → Alike (drop n ts) (drop n us)
  drop_alike zero ts us h = h
  drop_alike (suc n) [] [] h = tt
  drop_alike (suc n) [] (u ∷ us) h = absurd h
  drop_alike (suc n) (t ∷ ts) [] h = absurd h
  drop_alike (suc n) (t ∷ ts) (u ∷ us) h = drop_alike n ts us h.1

  pub length_alike : (ts us : List Token) → Alike ts us → length ts ≡ length us
  length_alike [] [] h = refl
  length_alike [] (u ∷ us) h = absurd h
  length_alike (t ∷ ts) [] h = absurd h
  length_alike (t ∷ ts) (u ∷ us) h = ap suc (length_alike ts us h.1)

  prefix_alike : (f : Kind → Bool) → IsBare f → (ts us : List Token) → Alike ts us → prefix_len (λ (t : Token). f t.kind) ts ≡ prefix_len (λ (t : Token). f t.kind) us
  prefix_alike f bare [] [] h = refl
  prefix_alike f bare [] (u ∷ us) h = absurd h
  prefix_alike f bare (t ∷ ts) [] h = absurd h
  prefix_alike f bare (t ∷ ts) (u ∷ us) h =
      ap (λ b. cond b (1 + prefix_len (λ (x : Token). f x.kind) ts) 0) (kind_test f bare t u h.0)
      ∙ ap (λ n. cond (f u.kind) (1 + n) 0) (prefix_alike f bare ts us h.1)

  run_alike : (f : Kind → Bool) → IsBare f → (ts us : List Token) → Alike ts us → Alike (drop (prefix_len (λ (t : Token). f t.kind) ts) ts) (drop (prefix_len (λ (t : Token). f t.kind) us) us)
  run_alike f bare ts us h =
      let n = prefix_len (λ (t : Token). f t.kind) ts in
      let P : ℕ → Type 0 = λ k. Alike (drop n ts) (drop k us) in
      subst P (prefix_alike f bare ts us h) (drop_alike n ts us h)

  pub spaces_alike : (ts us : List Token) → Alike ts us → Alike (after_spaces ts) (after_spaces us)
  unfolding after_spaces
  spaces_alike ts us h = run_alike is_space_kind space_bare ts us h

  pub separators_alike : (ts us : List Token) → Alike ts us → Alike (after_separators ts) (after_separators us)
  unfolding after_separators
  separators_alike ts us h = run_alike is_separator_kind separator_bare ts us h

  not_opens : Kind → Bool
  not_opens k = not (opens_block k)

  not_opens_bare : (k : Kind) → not (opens_block k) ≡ not (opens_block (bare_kind k))
  not_opens_bare k = ap not (opens_bare k)

  pub prelude_alike : (ts us : List Token) → Alike ts us → prelude_len ts ≡ prelude_len us
  prelude_alike ts us h =
      let none : Option ℕ = None in
      ap (λ n. cond (nat_lt n (length ts)) (Some n) none) (prefix_alike (λ k. not (opens_block k)) not_opens_bare ts us h)
      ∙ ap (λ long. cond (nat_lt (prefix_len (λ (t : Token). not (opens_block t.kind)) us) long) (Some (prefix_len (λ (t : Token). not (opens_block t.kind)) us)) none) (length_alike ts us h)

  solid_more : (t u : Token) (ts us : List Token) → IsAlike text other t u → Alike (solid ts) (solid us) → (a b : Bool) → is_space t ≡ a → a ≡ b
      → Alike (cond (not a) (t ∷ solid ts) (solid ts)) (cond (not b) (u ∷ solid us) (solid us))
  solid_more t u ts us alike h true true e same = h
  solid_more t u ts us alike h false false e same = (alike, h)
  solid_more t u ts us alike h true false e same = cc
  solid_more t u ts us alike h false true e same = cc

  pub solid_alike : (ts us : List Token) → Alike ts us → Alike (solid ts) (solid us)
  solid_alike [] [] h = tt
  solid_alike [] (u ∷ us) h = absurd h
  solid_alike (t ∷ ts) [] h = absurd h
  solid_alike (t ∷ ts) (u ∷ us) h =
      solid_more t u ts us h.0 (solid_alike ts us h.1) (is_space t) (is_space u) refl (kind_test is_space_kind space_bare t u h.0)

  pub test_at : (f g : Token → Bool) → ((t u : Token) → IsAlike text other t u → f t ≡ g u) → (i : ℕ) (ts us : List Token) → Alike ts us
      → option_map_or f (slice_get ts i) false ≡ option_map_or g (slice_get us i) false
  test_at f g same i [] [] h = refl
  test_at f g same i [] (u ∷ us) h = absurd h
  test_at f g same i (t ∷ ts) [] h = absurd h
  test_at f g same zero (t ∷ ts) (u ∷ us) h = same t u h.0
  test_at f g same (suc i) (t ∷ ts) (u ∷ us) h = test_at f g same i ts us h.1

  -- the first token and the rest
  pub record Split (t : Token) (ts us : List Token) : Type 0 where
    pub first : Token
    pub rest : List Token
    pub is : us ≡ first ∷ rest
    pub alike : IsAlike text other t first
    pub others : Alike ts rest

  pub split : (t : Token) (ts us : List Token) → Alike (t ∷ ts) us → Split t ts us
  split t ts [] h = absurd h
  split t ts (u ∷ us) h = record { first = u; rest = us; is = refl; alike = h.0; others = h.1 }

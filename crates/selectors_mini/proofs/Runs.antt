-- Runs of tokens between commas.
use Rattle.std.proofs.Common.{◌≡◌, ℕ, ◌+◌, Bor, arith, refl, ap, subst, sym, ◌∙◌, List, ◌∷◌, [], map, Bool, true, false}
use Rattle.std.specs.Prelude.{All, ◌==◌, if◌then◌else◌, slice_index, slice_range}
use Rattle.std.specs.List.{slice_split, onto_first}
use Rattle.std.proofs.lemmas.List.Elements.{All-nil, All-cons, All-head, All-tail, All-same}
use Rattle.std.proofs.lemmas.List.Splits.{slice_split-cons_yes, slice_split-cons_no}
use Rattle.std.proofs.Math.ListN.{get_or-map}
use Rattle.std.proofs.lemmas.List.{length-map}
use Rattle.std.proofs.lemmas.Simd.{map-map}
use Rattle.css_token.specs.Productions.{begins_identifier}
use Rattle.css_token.specs.TokenLists.{LiesWithin}
use Rattle.css_token.specs.declared.token.Kind.{Kind}
use Rattle.css_token.specs.declared.token.Kind.TheVariants as kind
use Rattle.css_token.specs.declared.token.Token.{Token}
use Rattle.selectors_mini.specs.Parts.{is_comma_kind, Hash, Dot, Star, Greater, Other, part_at, parts_of}
use Rattle.selectors_mini.specs.Reading.{is_comma}

-- ---- a split list

onto_first-map : {A B : Type 0} (f : A → B) (x : A) (parts : List (List A)) → onto_first (f x) (map (map f) parts) ≡ map (map f) (onto_first x parts)
onto_first-map f x [] = refl
onto_first-map f x (part ∷ parts) = refl

pub slice_split-map : {A B : Type 0} (f : A → B) (p : B → Bool) (q : A → Bool) → ((a : A) → p (f a) ≡ q a) → (xs : List A)
    → slice_split p (map f xs) ≡ map (map f) (slice_split q xs)
slice_split-map f p q same [] = refl
slice_split-map f p q same (x ∷ xs) = at_first f p q same x xs (q x) refl (slice_split-map f p q same xs)
  where
    at_first : {A B : Type 0} (f : A → B) (p : B → Bool) (q : A → Bool) → ((a : A) → p (f a) ≡ q a) → (x : A) (xs : List A) (b : Bool) → q x ≡ b
        → slice_split p (map f xs) ≡ map (map f) (slice_split q xs) → slice_split p (map f (x ∷ xs)) ≡ map (map f) (slice_split q (x ∷ xs))
    at_first f p q same x xs true is rest =
        slice_split-cons_yes p (f x) (map f xs) (same x ∙ is) ∙ ap (λ l. [] ∷ l) rest ∙ sym (ap (map (map f)) (slice_split-cons_yes q x xs is))
    at_first f p q same x xs false is rest =
        slice_split-cons_no p (f x) (map f xs) (same x ∙ is) ∙ ap (onto_first (f x)) rest ∙ onto_first-map f x (slice_split q xs)
        ∙ sym (ap (map (map f)) (slice_split-cons_no q x xs is))

onto_first-All : {A : Type 0} (P : A → Type 0) (x : A) (parts : List (List A)) → P x → All (All P) parts → All (All P) (onto_first x parts)
onto_first-All P x [] h rest = All-cons (All P) (x ∷ []) [] (All-cons P x [] h (All-nil P)) (All-nil (All P))
onto_first-All P x (part ∷ parts) h rest =
    All-cons (All P) (x ∷ part) parts (All-cons P x part h (All-head (All P) part parts rest)) (All-tail (All P) part parts rest)

pub slice_split-All : {A : Type 0} (P : A → Type 0) (q : A → Bool) (xs : List A) → All P xs → All (All P) (slice_split q xs)
slice_split-All P q [] h = All-cons (All P) [] [] (All-nil P) (All-nil (All P))
slice_split-All P q (x ∷ xs) h = at_first P q x xs (q x) refl (All-head P x xs h) (slice_split-All P q xs (All-tail P x xs h))
  where
    at_first : {A : Type 0} (P : A → Type 0) (q : A → Bool) (x : A) (xs : List A) (b : Bool) → q x ≡ b → P x → All (All P) (slice_split q xs)
        → All (All P) (slice_split q (x ∷ xs))
    at_first P q x xs true is h rest =
        All-same (All P) (slice_split q (x ∷ xs)) ([] ∷ slice_split q xs) (slice_split-cons_yes q x xs is) (All-cons (All P) [] (slice_split q xs) (All-nil P) rest)
    at_first P q x xs false is h rest =
        All-same (All P) (slice_split q (x ∷ xs)) (onto_first x (slice_split q xs)) (slice_split-cons_no q x xs is) (onto_first-All P x (slice_split q xs) h rest)

All-unmap : {A B : Type 0} (P : B → Type 0) (f : A → B) (xs : List A) → All P (map f xs) → All (λ x. P (f x)) xs
All-unmap P f xs h = λ k d within. subst P (get_or-map f xs k d) (h k (f d) (omega (arith, length-map xs f)))

-- ---- tokens

hash_is_no_comma : (b : Bool) (name : List ℕ) → is_comma (if b then Hash name else Other) ≡ false
hash_is_no_comma true name = refl
hash_is_no_comma false name = refl

delim_is_no_comma : (a b c : Bool) → is_comma (if a then Dot else (if b then Star else (if c then Greater else Other))) ≡ false
delim_is_no_comma true b c = refl
delim_is_no_comma false true c = refl
delim_is_no_comma false false true = refl
delim_is_no_comma false false false = refl

pub comma_by_kind : (text : List ℕ) (k : Kind) (from to : ℕ) → is_comma (part_at text k from to) ≡ is_comma_kind k
comma_by_kind text kind.Ident from to = refl
comma_by_kind text kind.Hash from to = hash_is_no_comma _ (slice_range text (from + 1) to)
comma_by_kind text kind.Delim from to = delim_is_no_comma (slice_index text from == 46) (slice_index text from == 42) (slice_index text from == 62)
comma_by_kind text kind.Comma from to = refl
comma_by_kind text kind.Space from to = refl
comma_by_kind text kind.Function from to = refl
comma_by_kind text kind.AtWord from to = refl
comma_by_kind text kind.Text from to = refl
comma_by_kind text kind.Url from to = refl
comma_by_kind text kind.Number from to = refl
comma_by_kind text kind.Percent from to = refl
comma_by_kind text (kind.Dimension unit) from to = refl
comma_by_kind text kind.Colon from to = refl
comma_by_kind text kind.Semicolon from to = refl
comma_by_kind text kind.RoundOpen from to = refl
comma_by_kind text kind.RoundClose from to = refl
comma_by_kind text kind.SquareOpen from to = refl
comma_by_kind text kind.SquareClose from to = refl
comma_by_kind text kind.CurlyOpen from to = refl
comma_by_kind text kind.CurlyClose from to = refl

-- the runs of tokens say what stands between the commas
pub runs_say : (text : List ℕ) (tokens : List Token) (runs : List (Bor (List Token))) → map (λ run. run.now) runs ≡ slice_split (λ t. is_comma_kind t.kind) tokens
    → map (λ (run : Bor (List Token)). parts_of text run.now) runs ≡ slice_split is_comma (parts_of text tokens)
runs_say text tokens runs is =
    sym (map-map (parts_of text) (λ (run : Bor (List Token)). run.now) runs) ∙ ap (map (parts_of text)) is
    ∙ sym (slice_split-map (λ (t : Token). part_at text t.kind t.from t.to) is_comma (λ (t : Token). is_comma_kind t.kind) (λ t. comma_by_kind text t.kind t.from t.to) tokens)

pub runs_within : (text : List ℕ) (tokens : List Token) (runs : List (Bor (List Token))) → map (λ run. run.now) runs ≡ slice_split (λ t. is_comma_kind t.kind) tokens
    → All (LiesWithin text) tokens → All (λ (run : Bor (List Token)). All (LiesWithin text) run.now) runs
runs_within text tokens runs is within =
    let parts = slice_split-All (LiesWithin text) (λ (t : Token). is_comma_kind t.kind) tokens within in
    All-unmap (All (LiesWithin text)) (λ (run : Bor (List Token)). run.now) runs (All-same (All (LiesWithin text)) _ _ is parts)

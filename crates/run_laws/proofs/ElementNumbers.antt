-- The elements of a run's document have different numbers, each of which was used.
use Rattle.std.proofs.Common.{◌≡◌, ℕ, refl, ap, sym, ◌∙◌, inl, inr, eqb, Bool, true, false, not, ◌||◌, List, [], ◌∷◌, ◌++◌, filter, take, drop, take-append-drop}
use Rattle.std.specs.Prelude.{nat_eq}
use Rattle.std.specs.List.{list_all, list_any}
use Rattle.std.proofs.lemmas.Bool.{and_from, and_parts, cases_Bool, eq-eqb, eqb-true, false≢true, ne_eqb, or_from, or_left, or_parts}
use Rattle.std.proofs.lemmas.List.{map-append}
use Rattle.std.proofs.lemmas.List.Folds.{list_all-append, list_any-append}
use Rattle.doc_tree.specs.Change.{with_change, without}
use Rattle.doc_tree.specs.Element.{Document, Element, is_inclusive_descendant, is_used, numbers_of}
use Rattle.restyle.specs.Documents.{with_element}
use Rattle.restyle.specs.Entries.{are_apart, is_among}
use Rattle.restyle.proofs.WorldEdits.{changed_numbers}

pub record IsNumbered (d : Document) : Type 0 where
  pub apart : are_apart (numbers_of d.elements) ≡ true
  pub used : list_all (λ n. is_used n d) (numbers_of d.elements) ≡ true

pub not_true : (b : Bool) → not b ≡ true → b ≡ false
not_true true h = absurd (false≢true h)
not_true false h = refl

-- ---- one number more

apart_with : (fore aft : List ℕ) (n : ℕ) → are_apart (fore ++ aft) ≡ true → is_among n (fore ++ aft) ≡ false → are_apart (fore ++ n ∷ aft) ≡ true
apart_with [] aft n apart away = rw away apart
apart_with (a ∷ fore) aft n apart away =
    let parts = and_parts (not (is_among a (fore ++ aft))) (are_apart (fore ++ aft)) apart in
    let others = or_parts (eqb a n) (is_among n (fore ++ aft)) away in
    rw (still a others.0 (not_true (is_among a (fore ++ aft)) parts.0), apart_with fore aft n parts.1 others.1) refl
  where
    still : (a : ℕ) → eqb a n ≡ false → is_among a (fore ++ aft) ≡ false → is_among a (fore ++ n ∷ aft) ≡ false
    still a differ there =
        let parts = or_parts (is_among a fore) (is_among a aft) (sym (list_any-append (λ m. eqb m a) fore aft) ∙ there) in
        list_any-append (λ m. eqb m a) fore (n ∷ aft)
        ∙ or_from (is_among a fore) (eqb n a || is_among a aft) parts.0
        (or_from (eqb n a) (is_among a aft) (ne_eqb n a (λ (same : n ≡ a). false≢true (sym differ ∙ eq-eqb a n (sym same)))) parts.1)

unused_away : (d : Document) (n : ℕ) (ns : List ℕ) → list_all (λ m. is_used m d) ns ≡ true → is_used n d ≡ false → is_among n ns ≡ false
unused_away d n [] used unused = refl
unused_away d n (m ∷ ns) used unused =
    let parts = and_parts (is_used m d) (list_all (λ k. is_used k d) ns) used in
    or_from (eqb m n) (is_among n ns) (ne_eqb m n (λ (same : m ≡ n). false≢true (sym unused ∙ ap (λ k. is_used k d) (sym same) ∙ parts.0)))
    (unused_away d n ns parts.1 unused)

all_of_more : (p q : ℕ → Bool) (ns : List ℕ) → ((n : ℕ) → p n ≡ true → q n ≡ true) → list_all p ns ≡ true → list_all q ns ≡ true
all_of_more p q [] more all = refl
all_of_more p q (n ∷ ns) more all =
    let parts = and_parts (p n) (list_all p ns) all in
    rw (more n parts.0, all_of_more p q ns more parts.1) refl

split_numbers : (d : Document) (place : ℕ) → numbers_of (take place d.elements) ++ numbers_of (drop place d.elements) ≡ numbers_of d.elements
split_numbers d place = sym (map-append (λ (e : Element). e.number) (take place d.elements) (drop place d.elements)) ∙ ap numbers_of (take-append-drop place d.elements)

pub with_one_more : (d : Document) (place : ℕ) (e : Element) → IsNumbered d → is_used e.number d ≡ false → IsNumbered (with_element d place e)
with_one_more d place e is unused = record {
  apart =
      ap are_apart numbers
      ∙ apart_with fore aft e.number (ap are_apart whole ∙ is.apart) (ap (is_among e.number) whole ∙ unused_away d e.number (numbers_of d.elements) is.used unused);
  used =
      ap (list_all (λ n. is_used n d')) numbers ∙ list_all-append (λ n. is_used n d') fore (e.number ∷ aft)
      ∙ and_from (list_all (λ n. is_used n d') fore) (list_all (λ n. is_used n d') (e.number ∷ aft)) still.0 (and_from (is_used e.number d') (list_all (λ n. is_used n d') aft) itself still.1);
}
  where
    fore : List ℕ
    fore = numbers_of (take place d.elements)

    aft : List ℕ
    aft = numbers_of (drop place d.elements)

    d' : Document
    d' = with_element d place e

    whole : fore ++ aft ≡ numbers_of d.elements
    whole = split_numbers d place

    numbers : numbers_of d'.elements ≡ fore ++ e.number ∷ aft
    numbers = map-append (λ (e : Element). e.number) (take place d.elements) (e ∷ drop place d.elements)

    more : (n : ℕ) → is_used n d ≡ true → is_used n d' ≡ true
    more n used = list_any-append (nat_eq n) d.used (e.number ∷ []) ∙ or_left (is_used n d) (list_any (nat_eq n) (e.number ∷ [])) used

    still : (list_all (λ n. is_used n d') fore ≡ true) × (list_all (λ n. is_used n d') aft ≡ true)
    still =
        and_parts (list_all (λ n. is_used n d') fore) (list_all (λ n. is_used n d') aft)
        (sym (list_all-append (λ n. is_used n d') fore aft) ∙ ap (list_all (λ n. is_used n d')) whole
        ∙ all_of_more (λ n. is_used n d) (λ n. is_used n d') (numbers_of d.elements) more is.used)

    itself : is_used e.number d' ≡ true
    itself = list_any-append (nat_eq e.number) d.used (e.number ∷ []) ∙ last (list_any (nat_eq e.number) d.used)
      where
        last : (b : Bool) → (b || list_any (nat_eq e.number) (e.number ∷ [])) ≡ true
        last true = refl
        last false = or_left (nat_eq e.number e.number) false (eq-eqb e.number e.number refl)

-- ---- the same numbers

pub with_the_same : (d : Document) (n : ℕ) (change : Element → Element) → ((e : Element) → (change e).number ≡ e.number) → IsNumbered d → IsNumbered (with_change d n change)
with_the_same d n change keeps is =
    let same = changed_numbers d.elements n change keeps in record {
      apart = ap are_apart same ∙ is.apart;
      used = ap (list_all (λ n. is_used n d)) same ∙ is.used;
    }

-- ---- fewer

away_from_fewer : (n : ℕ) (p : Element → Bool) (es : List Element) → is_among n (numbers_of es) ≡ false → is_among n (numbers_of (filter p es)) ≡ false
away_from_fewer n p [] away = refl
away_from_fewer n p (e ∷ es) away =
    let parts = or_parts (eqb e.number n) (is_among n (numbers_of es)) away in
    elim (cases_Bool (p e)) [
      | inl stays ↦ rw stays (or_from (eqb e.number n) (is_among n (numbers_of (filter p es))) parts.0 (away_from_fewer n p es parts.1))
      | inr goes ↦ rw goes (away_from_fewer n p es parts.1)
    ]

pub apart_in_fewer : (p : Element → Bool) (es : List Element) → are_apart (numbers_of es) ≡ true → are_apart (numbers_of (filter p es)) ≡ true
apart_in_fewer p [] apart = refl
apart_in_fewer p (e ∷ es) apart =
    let parts = and_parts (not (is_among e.number (numbers_of es))) (are_apart (numbers_of es)) apart in
    elim (cases_Bool (p e)) [
      | inl stays ↦ rw (stays, away_from_fewer e.number p es (not_true (is_among e.number (numbers_of es)) parts.0), apart_in_fewer p es parts.1) refl
      | inr goes ↦ rw goes (apart_in_fewer p es parts.1)
    ]

all_in_fewer : (q : ℕ → Bool) (p : Element → Bool) (es : List Element) → list_all q (numbers_of es) ≡ true → list_all q (numbers_of (filter p es)) ≡ true
all_in_fewer q p [] all = refl
all_in_fewer q p (e ∷ es) all =
    let parts = and_parts (q e.number) (list_all q (numbers_of es)) all in
    elim (cases_Bool (p e)) [
      | inl stays ↦ rw (stays, parts.0, all_in_fewer q p es parts.1) refl
      | inr goes ↦ rw goes (all_in_fewer q p es parts.1)
    ]

pub with_fewer : (d : Document) (n : ℕ) → IsNumbered d → IsNumbered (without d n)
with_fewer d n is =
    let stays : Element → Bool = λ e. not (is_inclusive_descendant d.elements n e.number) in record {
      apart = apart_in_fewer stays d.elements is.apart;
      used = all_in_fewer (λ m. is_used m d) stays d.elements is.used;
    }

-- ---- numbers that pass a test

pub among_passing : (q : ℕ → Bool) (n : ℕ) (es : List Element) → is_among n (numbers_of (filter (λ e. q e.number) es)) ≡ true → q n ≡ true
among_passing q n [] among = absurd (false≢true among)
among_passing q n (e ∷ es) among = elim (cases_Bool (q e.number)) [
  | inl passes ↦ elim (cases_Bool (eqb e.number n)) [
    | inl same ↦ ap q (sym (eqb-true e.number n same)) ∙ passes
    | inr differ ↦ among_passing q n es (rw (passes, differ) at among)
  ]
  | inr fails ↦ among_passing q n es (rw fails at among)
]

pub away_where_passing : (q : ℕ → Bool) (n : ℕ) (es : List Element) → q n ≡ true → is_among n (numbers_of (filter (λ e. not (q e.number)) es)) ≡ false
away_where_passing q n [] passes = refl
away_where_passing q n (e ∷ es) passes = elim (cases_Bool (q e.number)) [
  | inl goes ↦ rw goes (away_where_passing q n es passes)
  | inr stays ↦
      rw stays (or_from (eqb e.number n) (is_among n (numbers_of (filter (λ e. not (q e.number)) es)))
      (ne_eqb e.number n (λ (same : e.number ≡ n). false≢true (sym stays ∙ ap q same ∙ passes))) (away_where_passing q n es passes))
]

-- How a value ends, seen from its last token on.
use Rattle.std.proofs.Common.{◌≡◌, ℕ, ◌-◌, ◌<◌, zero, suc, Bool, true, false, List, [], ◌∷◌, ◌++◌, drop, length, le-leb, length-append, take, get_or, not, refl, ap, append_assoc, subst, sym, ◌∙◌, arith}
use Rattle.std.specs.Prelude.{◌&&◌, nat_le, slice_get, None, Some, Ok, if◌then◌else◌}
use Rattle.std.specs.List.{cons_option}
use Rattle.std.specs.Option.{option_map_or}
use Rattle.std.proofs.Math.Seq.{drop-cons, take-append_seam}
use Rattle.std.proofs.lemmas.List.{take-append-drop}
use Rattle.std.proofs.lemmas.List.Elements.{filter-append}
use Rattle.css_token.specs.declared.token.Kind.{Kind}
use Rattle.css_token.specs.declared.token.Kind.TheVariants as kind
use Rattle.css_token.specs.declared.token.Token.{Token}
use Rattle.token_parts.specs.Parts.{token_part_at, token_parts_of}
use Rattle.shorthand_text.specs.Declaring.{declared_of}
use Rattle.shorthand_text.specs.declared.known_name.KnownName.{KnownName}
use Rattle.sheet_rules.specs.declared.block_kind.BlockKind.{BlockKind}
use Rattle.sheet_rules.specs.Declarations.{IsLastSolid, IsMarkAt, declarations_of, ends_important, is_dropped, is_important, is_mark, judged_as, read_as, solid, unmarked}
use Rattle.sheet_rules.specs.Scanning.{is_space, is_space_kind}

-- ---- the last solid token

-- the solid tokens, those before a place first
solid_split : (n : ℕ) (ts : List Token) → solid ts ≡ solid (take n ts) ++ solid (drop n ts)
solid_split n ts = ap solid (sym (take-append-drop n ts)) ∙ filter-append (λ t. not (is_space t)) (take n ts) (drop n ts)

-- the last solid token stands behind the others
pub solid_ends : (n : ℕ) (ts : List Token) (blank : Token) → IsLastSolid ts (Some n) → solid ts ≡ solid (take n ts) ++ get_or ts n blank ∷ []
solid_ends n ts blank (within, last) =
    let split : drop n ts ≡ get_or ts n blank ∷ drop (suc n) ts = drop-cons ts n blank within in
    solid_split n ts ∙ ap (λ l. solid (take n ts) ++ l) (last ∙ ap (take 1) split)

-- ---- importance

at_length : {X : Type 0} (xs : List X) (x : X) (ys : List X) → slice_get (xs ++ x ∷ ys) (length xs) ≡ Some x
at_length [] x ys = refl
at_length (y ∷ xs) x ys = at_length xs x ys

last_fails : (a b c : Bool) → c ≡ false → (a && b && c) ≡ false
last_fails true true c e = e
last_fails true false c e = refl
last_fails false b c e = refl

all_hold : (a b c x y : Bool) → a ≡ true → b ≡ x → c ≡ y → (a && b && c) ≡ (x && y)
all_hold a b c x y p q r = rw p (rw q (rw r refl))

two_at_least : {X : Type 0} (xs : List X) (x y : X) → nat_le 2 (length (xs ++ x ∷ y ∷ [])) ≡ true
two_at_least xs x y = le-leb 2 (length (xs ++ x ∷ y ∷ [])) (omega (arith, length-append xs (x ∷ y ∷ [])))

-- the last of the tokens alone
last_is : (p : Token → Bool) (xs : List Token) (t : Token) → option_map_or p (slice_get (xs ++ t ∷ []) (length (xs ++ t ∷ []) - 1)) false ≡ p t
last_is p xs t =
    let count : length (xs ++ t ∷ []) - 1 ≡ length xs = omega (arith, length-append xs (t ∷ [])) in
    ap (λ n. option_map_or p (slice_get (xs ++ t ∷ []) n) false) count ∙ ap (λ o. option_map_or p o false) (at_length xs t [])

-- the one before it
before_last_is : (p : Token → Bool) (xs : List Token) (u t : Token) → option_map_or p (slice_get (xs ++ u ∷ t ∷ []) (length (xs ++ u ∷ t ∷ []) - 2)) false ≡ p u
before_last_is p xs u t =
    let count : length (xs ++ u ∷ t ∷ []) - 2 ≡ length xs = omega (arith, length-append xs (u ∷ t ∷ [])) in
    ap (λ n. option_map_or p (slice_get (xs ++ u ∷ t ∷ []) n) false) count ∙ ap (λ o. option_map_or p o false) (at_length xs u (t ∷ []))

last_of_two : (p : Token → Bool) (xs : List Token) (u t : Token) → option_map_or p (slice_get (xs ++ u ∷ t ∷ []) (length (xs ++ u ∷ t ∷ []) - 1)) false ≡ p t
last_of_two p xs u t =
    ap (λ (l : List Token). option_map_or p (slice_get l (length l - 1)) false) (sym (append_assoc xs (u ∷ []) (t ∷ []))) ∙ last_is p (xs ++ u ∷ []) t

unimportant : (text : List ℕ) (xs : List Token) (t : Token) → is_important text t ≡ false → ends_important text (xs ++ t ∷ []) ≡ false
unimportant text xs t e = last_fails (nat_le 2 (length (xs ++ t ∷ []))) (option_map_or (is_mark text) (slice_get (xs ++ t ∷ []) (length (xs ++ t ∷ []) - 2)) false) _ (last_is (is_important text) xs t ∙ e)

both_are : (text : List ℕ) (xs : List Token) (u t : Token) → ends_important text (xs ++ u ∷ t ∷ []) ≡ (is_mark text u && is_important text t)
both_are text xs u t = all_hold _ _ _ _ _ (two_at_least xs u t) (before_last_is (is_mark text) xs u t) (last_of_two (is_important text) xs u t)

without_both : (text : List ℕ) (xs : List Token) (u t : Token) → ends_important text (xs ++ u ∷ t ∷ []) ≡ true → unmarked text (xs ++ u ∷ t ∷ []) ≡ xs
without_both text xs u t e =
    let count : length (xs ++ u ∷ t ∷ []) - 2 ≡ length xs = omega (arith, length-append xs (u ∷ t ∷ [])) in
    rw e (ap (λ n. take n (xs ++ u ∷ t ∷ [])) count ∙ take-append_seam xs (u ∷ t ∷ []))

-- no solid token, so no mark
pub none_marked : (text : List ℕ) (ts : List Token) → IsLastSolid ts None → IsMarkAt text ts None
none_marked text ts none = ap (ends_important text) none

-- another word at the end
pub other_end : (text : List ℕ) (ts : List Token) (n : ℕ) (blank : Token) → IsLastSolid ts (Some n) → is_important text (get_or ts n blank) ≡ false → IsMarkAt text ts None
other_end text ts n blank last other = ap (ends_important text) (solid_ends n ts blank last) ∙ unimportant text (solid (take n ts)) (get_or ts n blank) other

-- the word alone
pub word_alone : (text : List ℕ) (ts before : List Token) (n : ℕ) (blank : Token) → before ≡ take n ts → IsLastSolid ts (Some n) → IsLastSolid before None → IsMarkAt text ts None
word_alone text ts before n blank is last none =
    ap (ends_important text) (solid_ends n ts blank last ∙ ap (λ l. l ++ get_or ts n blank ∷ []) (ap solid (sym is) ∙ none))

two_ends : (ts before : List Token) (n m : ℕ) (blank other : Token) → before ≡ take n ts → IsLastSolid ts (Some n) → IsLastSolid before (Some m)
    → solid ts ≡ solid (take m before) ++ get_or before m other ∷ get_or ts n blank ∷ []
two_ends ts before n m blank other is last mark =
    solid_ends n ts blank last ∙ ap (λ l. l ++ get_or ts n blank ∷ []) (ap solid (sym is) ∙ solid_ends m before other mark)
    ∙ append_assoc (solid (take m before)) (get_or before m other ∷ []) (get_or ts n blank ∷ [])

-- the word behind another token
pub no_mark : (text : List ℕ) (ts before : List Token) (n m : ℕ) (blank other : Token) → before ≡ take n ts → IsLastSolid ts (Some n) → IsLastSolid before (Some m)
    → is_mark text (get_or before m other) ≡ false → IsMarkAt text ts None
no_mark text ts before n m blank other is last mark none =
    ap (ends_important text) (two_ends ts before n m blank other is last mark)
    ∙ both_are text (solid (take m before)) (get_or before m other) (get_or ts n blank) ∙ ap (λ b. b && is_important text (get_or ts n blank)) none

take_take_less : {X : Type 0} (m n : ℕ) (xs : List X) → m < length (take n xs) → take m (take n xs) ≡ take m xs
take_take_less zero n xs h = refl
take_take_less (suc m) zero xs h = absurd (omega (arith, h))
take_take_less (suc m) (suc n) [] h = refl
take_take_less (suc m) (suc n) (x ∷ xs) h = ap (λ l. x ∷ l) (take_take_less m n xs (omega (arith, h)))

-- the word behind its mark
pub marked : (text : List ℕ) (ts before : List Token) (n m : ℕ) (blank other : Token) → before ≡ take n ts → IsLastSolid ts (Some n) → IsLastSolid before (Some m)
    → is_important text (get_or ts n blank) ≡ true → is_mark text (get_or before m other) ≡ true → IsMarkAt text ts (Some m)
marked text ts before n m blank other is last mark word sign =
    let first = solid (take m before) in
    let u = get_or before m other in
    let t = get_or ts n blank in
    let ends : solid ts ≡ first ++ u ∷ t ∷ [] = two_ends ts before n m blank other is last mark in
    let both : ends_important text (first ++ u ∷ t ∷ []) ≡ true = both_are text first u t ∙ rw sign word in
    let short : take m before ≡ take m ts = ap (take m) is ∙ take_take_less m n ts (subst (λ (l : List Token). m < length l) is mark.0) in
    (ap (ends_important text) ends ∙ both, ap (unmarked text) ends ∙ without_both text first u t both ∙ ap solid short)

-- ---- parts

space_says_nothing : (text : List ℕ) (k : Kind) (from to : ℕ) → is_space_kind k ≡ true → token_part_at text k from to ≡ None
space_says_nothing text kind.Space from to e = refl
space_says_nothing text _ from to e = cc

kept_or_not : (text : List ℕ) (t : Token) (ts : List Token) (space : Bool) → is_space t ≡ space → token_parts_of text (solid ts) ≡ token_parts_of text ts
    → token_parts_of text (solid (t ∷ ts)) ≡ token_parts_of text (t ∷ ts)
kept_or_not text t ts true e same = rw e (rw (space_says_nothing text t.kind t.from t.to e) same)
kept_or_not text t ts false e same = rw e (ap (cons_option (token_part_at text t.kind t.from t.to)) same)

-- spaces say nothing
pub solid_parts : (text : List ℕ) (ts : List Token) → token_parts_of text (solid ts) ≡ token_parts_of text ts
solid_parts text [] = refl
solid_parts text (t ∷ ts) = kept_or_not text t ts (is_space t) refl (solid_parts text ts)

-- so a value says what its solid tokens say
pub value_parts : (text : List ℕ) (ts value : List Token) → solid value ≡ unmarked text (solid ts) → token_parts_of text value ≡ token_parts_of text (unmarked text (solid ts))
value_parts text ts value e = sym (solid_parts text value) ∙ ap (token_parts_of text) e

else_of : {X : Type 0} (b : Bool) (x y : X) → b ≡ false → (if b then x else y) ≡ y
else_of b x y e = rw e refl

-- what is read is what is judged
pub read_is_judged : (block : BlockKind) (place at : ℕ) (text : List ℕ) (ts value : List Token) (name : KnownName) (important : Bool)
    → important ≡ ends_important text (solid ts) → solid value ≡ unmarked text (solid ts) → is_dropped block name important ≡ false
    → read_as place at important text value name ≡ judged_as block place at text (solid ts) name
read_is_judged block place at text ts value name important is value_is kept =
    let wanted = declarations_of name at place (ends_important text (solid ts)) (declared_of name (token_parts_of text (unmarked text (solid ts)))) in
    ap (λ b. read_as place at b text value name) is
    ∙ ap (λ p. declarations_of name at place (ends_important text (solid ts)) (declared_of name p)) (value_parts text ts value value_is)
    ∙ sym (else_of (is_dropped block name (ends_important text (solid ts))) (Ok []) wanted (ap (is_dropped block name) (sym is) ∙ kept))

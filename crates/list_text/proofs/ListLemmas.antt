-- The items that the reader finds are what the parts spell.
use Rattle.std.proofs.Common.{◌≡◌, ℕ, suc, ◌<◌, ◌≤◌, nat_lt, refl, arith, ap, sym, subst, ◌∙◌, List, ◌∷◌, [], ◌++◌, length, cond, ◌&&◌, Bool, true, false, Option, Some, None, Result, Ok, Err, codes}
use Rattle.std.specs.List.{list_all}
use Rattle.std.proofs.lemmas.Bool.Decides.{nat_tests}
use Rattle.token_parts.specs.Keywords.{is_keyword}
use Rattle.token_parts.specs.Parts.{TokenPart, Ident, Comma}
use Rattle.token_parts.specs.declared.fault.ValueFault.{ValueFault}
use Rattle.token_parts.specs.declared.fault.ValueFault.TheVariants.{Unsupported, BoundItems, Bound}
use Rattle.timing_types.proofs.NameLemmas.{animation_name_told}
use Rattle.timing_types.specs.Names.{IsNameItem, is_animation_name}
use Rattle.timing_types.specs.Timing.{IsAny, IsEasing}
use Rattle.timing_types.specs.declared.easing.Easing.{Easing}
use Rattle.list_text.specs.Numbers.{clamp, clamped_nearest}
use Rattle.list_text.specs.Easings.{IsEasingSpelling, curve, steps, steps_and_jump, word}
use Rattle.list_text.proofs.EasingLemmas.{easing_far, easing_found, easing_ok, view_easing}
use Rattle.list_text.proofs.ViewLemmas.{at_limits}
use Rattle.list_text.specs.Lists.{AreItems, IsWord, last, more, name_of_word}
use Rattle.list_text.specs.ItemReading.{each_of, groups_of, is_inside, items_of, items_within, onto_first_group, parts_items, word_item}
use Rattle.list_text.specs.Reading.{easing_of, easing_within}
use Rattle.list_text.proofs.OptionLemmas.{bound}

-- ---- groups

-- groups with a comma between each and the next
abbrev pub joined : List (List TokenPart) → List TokenPart
joined [] = []
joined (g ∷ []) = g
joined (g ∷ h ∷ gs) = g ++ Comma ∷ joined (h ∷ gs)

-- there is a group at least, and joined they are the parts
pub record Cuts (parts : List TokenPart) (groups : List (List TokenPart)) : Type 0 where
  pub first : List TokenPart
  pub rest : List (List TokenPart)
  pub are : groups ≡ first ∷ rest
  pub same : joined (first ∷ rest) ≡ parts

joined_front : (p : TokenPart) (g : List TokenPart) (gs : List (List TokenPart)) → joined ((p ∷ g) ∷ gs) ≡ p ∷ joined (g ∷ gs)
joined_front p g [] = refl
joined_front p g (h ∷ gs) = refl

cuts_at : (b : Bool) (inside : Bool) (p : TokenPart) (ps : List TokenPart) → parts_items inside p ≡ b → (b ≡ true → p ≡ Comma)
    → Cuts ps (groups_of false ps) → Cuts ps (groups_of (is_inside inside p) ps) → Cuts (p ∷ ps) (groups_of inside (p ∷ ps))
cuts_at true inside p ps e comma h k =
    let is : groups_of inside (p ∷ ps) ≡ [] ∷ groups_of false ps = rw e refl in
    record { first = []; rest = h.first ∷ h.rest; are = is ∙ ap (λ gs. [] ∷ gs) h.are; same = ap (λ l. Comma ∷ l) h.same ∙ ap (λ q. q ∷ ps) (sym (comma refl)) }
cuts_at false inside p ps e comma h k =
    let is : groups_of inside (p ∷ ps) ≡ onto_first_group (p ∷ []) (groups_of (is_inside inside p) ps) = rw e refl in
    record { first = p ∷ k.first; rest = k.rest; are = is ∙ ap (onto_first_group (p ∷ [])) k.are; same = joined_front p k.first k.rest ∙ ap (λ l. p ∷ l) k.same }

is_comma : (inside : Bool) (p : TokenPart) → parts_items inside p ≡ true → p ≡ Comma
is_comma false Comma h = refl
is_comma _ _ h = absurd (cc)

pub cuts : (inside : Bool) (parts : List TokenPart) → Cuts parts (groups_of inside parts)
cuts inside [] = record { first = []; rest = []; are = refl; same = refl }
cuts inside (p ∷ ps) = cuts_at (parts_items inside p) inside p ps refl (is_comma inside p) (cuts false ps) (cuts (is_inside inside p) ps)

-- one group, whatever follows after a comma
pub record IsWhole (parts : List TokenPart) : Type 0 where
  pub alone : groups_of false parts ≡ parts ∷ []
  pub before : (rest : List TokenPart) → groups_of false (parts ++ Comma ∷ rest) ≡ parts ∷ groups_of false rest

-- ---- a reader of items

-- it finds an item where the parts spell one, and only there; the item that it finds is within exactly where the spelled one keeps its bounds, and then is that one
pub record Judges {T : Type 0} (P : List TokenPart → T → Type 0) (W : T → Type 0) (item : List TokenPart → Option T) (within : T → Bool) : Type 0 where
  pub whole : (parts : List TokenPart) (x : T) → P parts x → IsWhole parts
  pub found : (parts : List TokenPart) (x : T) → P parts x → (y : T) × (item parts ≡ Some y)
  pub kept : (parts : List TokenPart) (y : T) → item parts ≡ Some y → within y ≡ true → P parts y × W y
  pub past : (parts : List TokenPart) (y : T) → item parts ≡ Some y → within y ≡ false → (x : T) × P parts x × (W x → ⊥)

-- each keeps its bounds
abbrev pub EachIs : {T : Type 0} → (T → Type 0) → List T → Type 0
EachIs W [] = Unit {0}
EachIs W (x ∷ xs) = W x × EachIs W xs

each_found : {T : Type 0} {P : List TokenPart → T → Type 0} {W : T → Type 0} {parts : List TokenPart} {xs : List T} (item : List TokenPart → Option T) (within : T → Bool)
    → Judges P W item within → AreItems P parts xs → (ys : List T) × (each_of item (groups_of false parts) ≡ Some ys) × (length ys ≡ length xs)
each_found item within j (last parts x h) =
    let y = j.found parts x h in
    (y.0 ∷ [], rw ((j.whole parts x h).alone, y.1) refl, refl)
each_found item within j (more parts rest x xs h hs) =
    let y = j.found parts x h in
    let ys = each_found item within j hs in
    (y.0 ∷ ys.0, rw ((j.whole parts x h).before rest, y.1, ys.1) refl, ap suc ys.2)

-- a spelled item, which doesn't keep its bounds where the one that was found isn't within
spelled_at : {T : Type 0} (P : List TokenPart → T → Type 0) (W : T → Type 0) (item : List TokenPart → Option T) (within : T → Bool) → Judges P W item within
    → (g : List TokenPart) (y : T) (b : Bool) → item g ≡ Some y → within y ≡ b → (x : T) × P g x × (b ≡ false → W x → ⊥) × (b ≡ true → (x ≡ y) × W x)
spelled_at P W item within j g y true h e = let k = j.kept g y h e in (y, k.0, λ (z : true ≡ false) w. absurd (cc), λ z. (refl, k.1))
spelled_at P W item within j g y false h e = let k = j.past g y h e in (k.0, k.1, λ z w. k.2 w, λ (z : false ≡ true). absurd (cc))

-- the items that are spelled where these were found
abbrev pub Found : {T : Type 0} → (List TokenPart → T → Type 0) → (T → Type 0) → List TokenPart → List T → Bool → Type 0
Found {T} P W parts ys b = (xs : List T) × AreItems P parts xs × (length xs ≡ length ys) × (b ≡ false → EachIs W xs → ⊥) × (b ≡ true → (xs ≡ ys) × EachIs W xs)

one_item : {T : Type 0} (P : List TokenPart → T → Type 0) (W : T → Type 0) (g : List TokenPart) (y : T) (b : Bool)
    → (x : T) × P g x × (b ≡ false → W x → ⊥) × (b ≡ true → (x ≡ y) × W x) → Found P W g (y ∷ []) (b && true)
one_item P W g y true s = (s.0 ∷ [], last g s.0 s.1, refl, λ (z : true ≡ false) w. absurd (cc), λ z. (ap (λ x. x ∷ []) (s.3 refl).0, ((s.3 refl).1, tt)))
one_item P W g y false s = (s.0 ∷ [], last g s.0 s.1, refl, λ z w. s.2 refl w.0, λ (z : false ≡ true). absurd (cc))

more_items : {T : Type 0} (P : List TokenPart → T → Type 0) (W : T → Type 0) (g rest : List TokenPart) (y : T) (ys : List T) (a b : Bool)
    → (x : T) × P g x × (a ≡ false → W x → ⊥) × (a ≡ true → (x ≡ y) × W x) → Found P W rest ys b → Found P W (g ++ Comma ∷ rest) (y ∷ ys) (a && b)
more_items P W g rest y ys true true s f = (
  s.0 ∷ f.0,
  more g rest s.0 f.0 s.1 f.1,
  ap suc f.2,
  λ (z : true ≡ false) w. absurd (cc),
  λ z. let one = (s.3 refl).0 in let all = (f.4 refl).0 in (cc, ((s.3 refl).1, (f.4 refl).1)),
)
more_items P W g rest y ys true false s f =
    (s.0 ∷ f.0, more g rest s.0 f.0 s.1 f.1, ap suc f.2, λ z w. f.3 refl w.1, λ (z : false ≡ true). absurd (cc))
more_items P W g rest y ys false b s f =
    (s.0 ∷ f.0, more g rest s.0 f.0 s.1 f.1, ap suc f.2, λ z w. s.2 refl w.0, λ (z : false ≡ true). absurd (cc))

each_was : {T : Type 0} (P : List TokenPart → T → Type 0) (W : T → Type 0) (item : List TokenPart → Option T) (within : T → Bool) → Judges P W item within
    → (g : List TokenPart) (gs : List (List TokenPart)) (ys : List T) → each_of item (g ∷ gs) ≡ Some ys → Found P W (joined (g ∷ gs)) ys (list_all within ys)
each_was P W item within j g [] ys h =
    let s = bound (item g) _ ys h in
    let e : s.0 ∷ [] ≡ ys = cc (s.2) in
    subst (λ l. Found P W g l (list_all within l)) e (one_item P W g s.0 (within s.0) (spelled_at P W item within j g s.0 (within s.0) s.1 refl))
each_was P W item within j g (k ∷ gs) ys h =
    let s = bound (item g) _ ys h in
    let t = bound (each_of item (k ∷ gs)) _ ys s.2 in
    let e : s.0 ∷ t.0 ≡ ys = cc (t.2) in
    subst (λ l. Found P W (g ++ Comma ∷ joined (k ∷ gs)) l (list_all within l)) e
    (more_items P W g (joined (k ∷ gs)) s.0 t.0 (within s.0) (list_all within t.0) (spelled_at P W item within j g s.0 (within s.0) s.1 refl) (each_was P W item within j k gs t.0 t.1))

pub items_were : {T : Type 0} (P : List TokenPart → T → Type 0) (W : T → Type 0) (item : List TokenPart → Option T) (within : T → Bool) → Judges P W item within
    → (parts : List TokenPart) (ys : List T) → each_of item (groups_of false parts) ≡ Some ys → Found P W parts ys (list_all within ys)
items_were P W item within j parts ys h =
    let c = cuts false parts in
    subst (λ l. Found P W l ys (list_all within ys)) c.same (each_was P W item within j c.first c.rest ys (subst (λ gs. each_of item gs ≡ Some ys) c.are h))

-- ---- the answers of a list

pub record Answers {T : Type 0} (P : List TokenPart → T → Type 0) (W : T → Type 0) (parts : List TokenPart) (r : Result (List T) ValueFault) : Type 0 where
  pub ok : (ys : List T) → r ≡ Ok ys → AreItems P parts ys × (length ys ≤ 32) × EachIs W ys
  pub unsupported : r ≡ Err Unsupported → (xs : List T) → AreItems P parts xs → ⊥
  pub bound_items : r ≡ Err BoundItems → (xs : List T) × AreItems P parts xs × (32 < length xs)
  pub past_bound : r ≡ Err Bound → (xs : List T) × AreItems P parts xs × (length xs ≤ 32) × (EachIs W xs → ⊥)

few_items : (n : ℕ) → nat_lt 32 n ≡ false → n ≤ 32
few_items n h = grind (arith, nat_tests)

many_items : (n : ℕ) → nat_lt 32 n ≡ true → 32 < n
many_items n h = grind (arith, nat_tests)

some_answers : {T : Type 0} (P : List TokenPart → T → Type 0) (W : T → Type 0) (parts : List TokenPart) (ys : List T) (a b : Bool) → nat_lt 32 (length ys) ≡ a
    → Found P W parts ys b → Answers P W parts (cond a (Err BoundItems) (cond b (Ok ys) (Err Bound)))
some_answers {T} P W parts ys true b e f = record {
  ok = λ zs (h : Err BoundItems ≡ Ok zs). absurd (cc);
  unsupported = λ (h : Err BoundItems ≡ Err Unsupported). absurd (cc);
  bound_items = λ h. let n = many_items (length ys) e in (f.0, f.1, subst (λ k. 32 < k) (sym f.2) n);
  past_bound = λ (h : Err BoundItems ≡ Err Bound). absurd (cc);
}
some_answers {T} P W parts ys false true e f = record {
  ok = λ zs (h : Ok ys ≡ Ok zs). let same : ys ≡ zs = cc in let all = f.4 refl in
      subst (λ l. AreItems P parts l × (length l ≤ 32) × EachIs W l) same (subst (λ l. AreItems P parts l) all.0 f.1, few_items (length ys) e, subst (EachIs W) all.0 all.1);
  unsupported = λ (h : Ok ys ≡ Err Unsupported). absurd (cc);
  bound_items = λ (h : Ok ys ≡ Err BoundItems). absurd (cc);
  past_bound = λ (h : Ok ys ≡ Err Bound). absurd (cc);
}
some_answers {T} P W parts ys false false e f = record {
  ok = λ zs (h : Err Bound ≡ Ok zs). absurd (cc);
  unsupported = λ (h : Err Bound ≡ Err Unsupported). absurd (cc);
  bound_items = λ (h : Err Bound ≡ Err BoundItems). absurd (cc);
  past_bound = λ h. let n = few_items (length ys) e in (f.0, f.1, subst (λ k. k ≤ 32) (sym f.2) n, f.3 refl);
}

answers_at : {T : Type 0} (P : List TokenPart → T → Type 0) (W : T → Type 0) (item : List TokenPart → Option T) (within : T → Bool) → Judges P W item within
    → (parts : List TokenPart) (o : Option (List T)) → each_of item (groups_of false parts) ≡ o → Answers P W parts (items_within within o)
answers_at P W item within j parts None h = record {
  ok = λ zs (e : Err Unsupported ≡ Ok zs). absurd (cc);
  unsupported = λ e xs spelled. let found = each_found item within j spelled in let other = found.1 in absurd (cc);
  bound_items = λ (e : Err Unsupported ≡ Err BoundItems). absurd (cc);
  past_bound = λ (e : Err Unsupported ≡ Err Bound). absurd (cc);
}
answers_at P W item within j parts (Some ys) h = some_answers P W parts ys (nat_lt 32 (length ys)) (list_all within ys) refl (items_were P W item within j parts ys h)

pub answers : {T : Type 0} (P : List TokenPart → T → Type 0) (W : T → Type 0) (item : List TokenPart → Option T) (within : T → Bool) → Judges P W item within
    → (parts : List TokenPart) → Answers P W parts (items_of item within parts)
answers P W item within j parts = answers_at P W item within j parts (each_of item (groups_of false parts)) refl

-- ---- the items

word_was : {T : Type 0} (meaning : List ℕ → Option T) (parts : List TokenPart) (y : T) → word_item meaning parts ≡ Some y → IsWord meaning parts y
word_was meaning (Ident w ∷ []) y h = (w, refl, h)
word_was meaning _ y h = absurd (cc)

pub word_whole : {T : Type 0} (meaning : List ℕ → Option T) (parts : List TokenPart) (x : T) → IsWord meaning parts x → IsWhole parts
word_whole meaning parts x h = subst IsWhole (sym h.1) (record { alone = refl; before = λ rest. refl })

-- the lists of words, whose items keep their bounds by what the words mean
pub bounded_words : {T : Type 0} (W : T → Type 0) (meaning : List ℕ → Option T) → ((w : List ℕ) (x : T) → meaning w ≡ Some x → W x)
    → Judges (IsWord meaning) W (word_item meaning) (λ x. true)
bounded_words W meaning keeps = record {
  whole = word_whole meaning;
  found = λ parts x h. (x, subst (λ l. word_item meaning l ≡ Some x) (sym h.1) h.2);
  kept = λ parts y h w. let word = word_was meaning parts y h in (word, keeps word.0 y word.2);
  past = λ parts y h (w : true ≡ false). absurd (cc);
}

-- those without bounds
pub word_judges : {T : Type 0} (meaning : List ℕ → Option T) → Judges (IsWord meaning) IsAny (word_item meaning) (λ x. true)
word_judges meaning = bounded_words IsAny meaning (λ w x h. tt)

-- a name, or none
name_at : (w : List ℕ) (a b : Bool) (x : Option (List ℕ)) → is_animation_name w ≡ b → cond a (Some None) (cond b (Some (Some w)) None) ≡ Some x → IsNameItem x
name_at w true b x name h = let same : None ≡ x = cc in subst IsNameItem same tt
name_at w false true x name h = let same : Some w ≡ x = cc in subst IsNameItem same (animation_name_told w name)
name_at w false false x name h = absurd (cc)

name_item : (w : List ℕ) (x : Option (List ℕ)) → name_of_word w ≡ Some x → IsNameItem x
name_item w x h = name_at w (is_keyword w (codes "none")) (is_animation_name w) x refl h

pub name_judges : Judges (IsWord name_of_word) IsNameItem (word_item name_of_word) (λ x. true)
name_judges = bounded_words IsNameItem name_of_word name_item

pub easing_whole : {parts : List TokenPart} {e : Easing} → IsEasingSpelling parts e → IsWhole parts
easing_whole (word w e is) = record { alone = refl; before = λ rest. refl }
easing_whole (steps f n count is h) = record { alone = refl; before = λ rest. refl }
easing_whole (steps_and_jump f n j count jump is jumps h) = record { alone = refl; before = λ rest. refl }
easing_whole (curve f a b c d x1 y1 x2 y2 is one up two upper) = record { alone = refl; before = λ rest. refl }

pub easing_judges : Judges IsEasingSpelling IsEasing (easing_of clamped_nearest) easing_within
easing_judges = record {
  whole = λ parts x h. easing_whole h;
  found = λ parts x h. (view_easing clamp x, easing_found clamped_nearest clamp at_limits h);
  kept = easing_ok;
  past = easing_far;
}

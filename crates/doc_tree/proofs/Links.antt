-- The links of a list in both directions: splits, writes elsewhere, and a new end.
use Rattle.std.proofs.Common.{◌≡◌, ◌≢◌, ℕ, ◌+◌, ◌<◌, ◌≤◌, true, false, eqb, List, [], ◌∷◌, ◌++◌, length, get_or, set, zero, suc, refl, sym, ap, ◌∙◌, subst, arith, append_assoc}
use Rattle.std.proofs.lemmas.Bool.{eq-eqb, ne_eqb, or_parts, or_from, or_left, or_right, false≢true}
use Rattle.std.proofs.lemmas.List.{append-nil, length-append, get_or_append_left, set-get_or}
use Rattle.doc_tree.specs.Marks.{has, marks_until, AreDifferent, IsAt, Leads}
use Rattle.doc_tree.proofs.Numbers.{apart_from, absent-parts, absent-from, different-front, different-apart, different-before, different-after, different-cut, at-set_same, at-set_other, at-append, at-seam}

pub leads-split : (n p : List ℕ) (a : ℕ) (xs : List ℕ) (m : ℕ) (ys : List ℕ) (b : ℕ) → Leads n p a (xs ++ m ∷ ys) b → Leads n p a xs m × Leads n p m ys b
leads-split n p a [] m ys b l = ((l.0, l.1), l.2)
leads-split n p a (x ∷ xs) m ys b l =
    let rest = leads-split n p x xs m ys b l.2 in
    ((l.0, l.1, rest.0), rest.1)

pub leads-join : (n p : List ℕ) (a : ℕ) (xs : List ℕ) (m : ℕ) (ys : List ℕ) (b : ℕ) → Leads n p a xs m → Leads n p m ys b → Leads n p a (xs ++ m ∷ ys) b
leads-join n p a [] m ys b f l = (f.0, f.1, l)
leads-join n p a (x ∷ xs) m ys b f l = (f.0, f.1, leads-join n p x xs m ys b f.2 l)

not_equal : (x y : ℕ) → eqb x y ≡ false → y ≢ x
not_equal x y h same = false≢true (sym h ∙ eq-eqb x y (sym same))

-- a write of a mark that isn't among those that lead changes no way
pub leads-next_kept : (n p : List ℕ) (a : ℕ) (ms : List ℕ) (b i v : ℕ) → has i (a ∷ ms) ≡ false → Leads n p a ms b → Leads (set n i v) p a ms b
leads-next_kept n p a [] b i v h l = (at-set_other n i a b v (not_equal i a (or_parts _ _ h).0) l.0, l.1)
leads-next_kept n p a (m ∷ ms) b i v h l =
    let parts = or_parts (eqb i a) (has i (m ∷ ms)) h in
    (at-set_other n i a m v (not_equal i a parts.0) l.0, l.1, leads-next_kept n p m ms b i v parts.1 l.2)

pub leads-previous_kept : (n p : List ℕ) (a : ℕ) (ms : List ℕ) (b i v : ℕ) → has i (ms ++ b ∷ []) ≡ false → Leads n p a ms b → Leads n (set p i v) a ms b
leads-previous_kept n p a [] b i v h l = (l.0, at-set_other p i b a v (not_equal i b (or_parts _ _ h).0) l.1)
leads-previous_kept n p a (m ∷ ms) b i v h l =
    let parts = or_parts (eqb i m) (has i (ms ++ b ∷ [])) h in
    (l.0, at-set_other p i m a v (not_equal i m parts.0) l.1, leads-previous_kept n p m ms b i v parts.1 l.2)

pub leads-grown : (n p us vs : List ℕ) (a : ℕ) (ms : List ℕ) (b : ℕ) → Leads n p a ms b → Leads (n ++ us) (p ++ vs) a ms b
leads-grown n p us vs a [] b l = (at-append n us a b l.0, at-append p vs b a l.1)
leads-grown n p us vs a (m ∷ ms) b l = (at-append n us a m l.0, at-append p vs m a l.1, leads-grown n p us vs m ms b l.2)

-- the last mark of a way
pub last_there : (n p : List ℕ) (a : ℕ) (ms : List ℕ) (b : ℕ) → Leads n p a ms b → has (get_or p b 0) (a ∷ ms) ≡ true
last_there n p a [] b l = or_left _ _ (eq-eqb (get_or p b 0) a l.1.is)
last_there n p a (m ∷ ms) b l = or_right _ _ (last_there n p m ms b l.2)

pub last_within : (n p : List ℕ) (a : ℕ) (ms : List ℕ) (b : ℕ) → Leads n p a ms b → get_or p b 0 < length n
last_within n p a [] b l = subst (λ (x : ℕ). x < length n) (sym l.1.is) l.0.within
last_within n p a (m ∷ ms) b l = last_within n p m ms b l.2

-- a number past the links is no mark of a way
pub leads-fresh : (n p : List ℕ) (a : ℕ) (ms : List ℕ) (b i : ℕ) → Leads n p a ms b → length p ≤ i → has i ms ≡ false
leads-fresh n p a [] b i l past = refl
leads-fresh n p a (m ∷ ms) b i l past =
    let within = l.1.within in
    or_from _ _ (ne_eqb i m (λ same. omega arith)) (leads-fresh n p m ms b i l.2 past)

-- where a way leads to is a mark
pub target_within : (n p : List ℕ) (a : ℕ) (ms : List ℕ) (b : ℕ) → Leads n p a ms b → b < length p
target_within n p a [] b l = l.1.within
target_within n p a (m ∷ ms) b l = target_within n p m ms b l.2

-- a way leads to c instead, as its last mark and c are linked
pub leads-retarget : (n p : List ℕ) (a : ℕ) (ms : List ℕ) (b c x : ℕ) → Leads n p a ms b → x ≡ get_or p b 0 → AreDifferent (a ∷ ms) → has c ms ≡ false → c < length p → Leads (set n x c) (set p c x) a ms c
leads-retarget n p a [] b c x l is d h within =
    let same : x ≡ a = is ∙ l.1.is in
    subst (λ (y : ℕ). IsAt (set n y c) a c × IsAt (set p c y) c a) (sym same) (at-set_same n a c l.0.within, at-set_same p c a within)
leads-retarget n p a (m ∷ ms) b c x l is d h within =
    let parts = or_parts (eqb c m) (has c ms) h in
    let there : has x (m ∷ ms) ≡ true = subst (λ (y : ℕ). has y (m ∷ ms) ≡ true) (sym is) (last_there n p m ms b l.2) in
    let other : a ≢ x = λ same. apart_from x a (m ∷ ms) there d.0 (sym same) in
    (at-set_other n x a m c other l.0, at-set_other p c m a x (not_equal c m parts.0) l.1, leads-retarget n p m ms b c x l.2 is d.1 parts.1 within)

-- the marks of a way are had by following the links
pub until-leads : (n p : List ℕ) (a : ℕ) (ms : List ℕ) (b k : ℕ) → Leads n p a ms b → has b ms ≡ false → length ms ≤ k → marks_until n b k (get_or n a 0) ≡ ms
until-leads n p a [] b zero l h long = refl
until-leads n p a [] b (suc k) l h long = rw (l.0.is, eq-eqb b b refl) refl
until-leads n p a (m ∷ ms) b zero l h long = absurd (omega arith)
until-leads n p a (m ∷ ms) b (suc k) l h long =
    let parts = or_parts (eqb b m) (has b ms) h in
    let other : eqb m b ≡ false = ne_eqb m b (not_equal b m parts.0) in
    rw (l.0.is, other) (ap (λ (xs : List ℕ). m ∷ xs) (until-leads n p m ms b k l.2 parts.1 (omega arith)))

-- the first mark of these, or the end
pub first_mark : List ℕ → ℕ
first_mark [] = 1
first_mark (y ∷ ys) = y

pub first_mark-nil : first_mark [] ≡ 1
unfolding first_mark
first_mark-nil = refl

pub first_mark-cons : (y : ℕ) (ys : List ℕ) → first_mark (y ∷ ys) ≡ y
unfolding first_mark
first_mark-cons y ys = refl

at-next : (xs : List ℕ) (v w i : ℕ) → i ≡ length xs + 1 → IsAt (xs ++ v ∷ w ∷ []) i w
at-next xs v w i is =
    subst (λ (ys : List ℕ). IsAt ys i w) (append_assoc xs (v ∷ []) (w ∷ [])) (at-seam (xs ++ v ∷ []) [] i w (omega (arith, length-append xs (v ∷ []))))

module _ (n p : List ℕ) (o q m : ℕ) (next_len : length n ≡ o) (previous_len : length p ≡ o) (q_is : q ≡ o + 1) where
  abbrev b : ℕ
  b = get_or p m 0

  abbrev n' : List ℕ
  n' = set (n ++ q ∷ m ∷ []) b o

  abbrev p' : List ℕ
  p' = set (p ++ b ∷ o ∷ []) m q

  -- the way to m leads to the new mark o instead
  splice-front : (xs : List ℕ) → Leads n p 0 xs m → AreDifferent (0 ∷ xs) → has m xs ≡ false → m < o → Leads n' p' 0 xs o
  splice-front xs l d absent low =
      let grown = leads-grown n p (q ∷ m ∷ []) (b ∷ o ∷ []) 0 xs m l in
      let here : IsAt (p ++ b ∷ o ∷ []) o b = at-seam p (o ∷ []) o b (sym previous_len) in
      let same : set (p ++ b ∷ o ∷ []) o b ≡ p ++ b ∷ o ∷ [] =
      ap (λ (v : ℕ). set (p ++ b ∷ o ∷ []) o v) (sym here.is) ∙ set-get_or (p ++ b ∷ o ∷ []) o 0 in
      let b_is : b ≡ get_or (p ++ b ∷ o ∷ []) m 0 = sym (get_or_append_left p (b ∷ o ∷ []) 0 m (omega (arith, previous_len))) in
      let turned = leads-retarget (n ++ q ∷ m ∷ []) (p ++ b ∷ o ∷ []) 0 xs m o b grown b_is d (leads-fresh n p 0 xs m o l (omega (arith, previous_len))) here.within in
      let kept : Leads n' (p ++ b ∷ o ∷ []) 0 xs o = subst (λ (ps : List ℕ). Leads n' ps 0 xs o) same turned in
      leads-previous_kept n' (p ++ b ∷ o ∷ []) 0 xs o m q (absent-from m xs (o ∷ []) absent (or_from _ _ (ne_eqb m o (λ same. omega arith)) refl)) kept

  splice-middle : (xs : List ℕ) → Leads n p 0 xs m → m < o → IsAt n' o q × IsAt p' q o × IsAt n' q m × IsAt p' m q
  splice-middle xs l low =
      let low_b : b < o = omega (arith, last_within n p 0 xs m l, next_len) in (
        at-set_other (n ++ q ∷ m ∷ []) b o q o (λ same. omega arith) (at-seam n (m ∷ []) o q (sym next_len)),
        at-set_other (p ++ b ∷ o ∷ []) m q o q (λ same. omega arith) (at-next p b o q (omega arith)),
        at-set_other (n ++ q ∷ m ∷ []) b q m o (λ same. omega arith) (at-next n q m q (omega arith)),
        at-set_same (p ++ b ∷ o ∷ []) m q (omega (arith, length-append p (b ∷ o ∷ []))),
      )

  -- two new marks stand directly before m
  pub splice : (xs ys : List ℕ) → Leads n p 0 (xs ++ ys) 1 → AreDifferent (0 ∷ (xs ++ ys)) → has 1 (xs ++ ys) ≡ false → m ≡ first_mark ys → 1 < o → Leads n' p' 0 (xs ++ o ∷ q ∷ ys) 1
  unfolding first_mark
  splice xs [] l d no_end is low =
      let to : Leads n p 0 xs m = subst (λ (x : ℕ). Leads n p 0 xs x) (sym is) (subst (λ (zs : List ℕ). Leads n p 0 zs 1) (append-nil xs) l) in
      let low_m : m < o = omega arith in
      let none = subst (λ (x : ℕ). has x xs ≡ false) (sym is) (absent-parts 1 xs [] no_end).0 in
      let middle = splice-middle xs to low_m in
      leads-join n' p' 0 xs o (q ∷ []) 1 (splice-front xs to (different-front (0 ∷ xs) [] d) none low_m)
      (middle.0, middle.1, subst (λ (x : ℕ). IsAt n' q x × IsAt p' x q) is (middle.2, middle.3))
  splice xs (y ∷ ys) l d no_end is low =
      let parts = leads-split n p 0 xs y ys 1 l in
      let to : Leads n p 0 xs m = subst (λ (x : ℕ). Leads n p 0 xs x) (sym is) parts.0 in
      let low_m : m < o = subst (λ (x : ℕ). x < o) (sym is) (subst (λ (z : ℕ). y < z) previous_len (target_within n p 0 xs y parts.0)) in
      let none = subst (λ (x : ℕ). has x xs ≡ false) (sym is) (different-before xs y ys d.1) in
      let middle = splice-middle xs to low_m in
      let there : has b (0 ∷ xs) ≡ true = last_there n p 0 xs m to in
      let past_b : has b (y ∷ ys) ≡ false = different-apart (0 ∷ xs) (y ∷ ys) b d there in
      let not_end = absent-parts 1 xs (y ∷ ys) no_end in
      let past_m : has m (ys ++ 1 ∷ []) ≡ false =
      subst (λ (x : ℕ). has x (ys ++ 1 ∷ []) ≡ false) (sym is) (absent-from y ys (1 ∷ []) (different-after xs y ys d.1) (or_from _ _ (ne_eqb y 1 (not_equal 1 y (or_parts _ _ not_end.1).0)) refl)) in
      let tail = leads-previous_kept n' (p ++ b ∷ o ∷ []) y ys 1 m q past_m (leads-next_kept (n ++ q ∷ m ∷ []) (p ++ b ∷ o ∷ []) y ys 1 b o past_b (leads-grown n p (q ∷ m ∷ []) (b ∷ o ∷ []) y ys 1 parts.1)) in
      let ends = subst (λ (x : ℕ). IsAt n' q x × IsAt p' x q) is (middle.2, middle.3) in
      leads-join n' p' 0 xs o (q ∷ y ∷ ys) 1 (splice-front xs to (different-front (0 ∷ xs) (y ∷ ys) d) none low_m) (middle.0, middle.1, (ends.0, ends.1, tail))

-- the marks from o to c, and those between, are left out
pub cut : (n p xs mid ys : List ℕ) (o c : ℕ) → Leads n p 0 (xs ++ o ∷ (mid ++ c ∷ ys)) 1 → AreDifferent (0 ∷ (xs ++ o ∷ (mid ++ c ∷ ys))) → has 1 (xs ++ o ∷ (mid ++ c ∷ ys)) ≡ false
    → Leads (set n (get_or p o 0) (get_or n c 0)) (set p (get_or n c 0) (get_or p o 0)) 0 (xs ++ ys) 1
cut n p xs mid [] o c l d no_end =
    let front = leads-split n p 0 xs o (mid ++ c ∷ []) 1 l in
    let back = leads-split n p o mid c [] 1 front.1 in
    let z = get_or n c 0 in
    let z_is : 1 ≡ z = sym back.1.0.is in
    let x = get_or p o 0 in
    let turned = leads-retarget n p 0 xs o z x front.0 refl (different-front (0 ∷ xs) (o ∷ (mid ++ c ∷ [])) d) (subst (λ (y : ℕ). has y xs ≡ false) z_is (absent-parts 1 xs (o ∷ (mid ++ c ∷ [])) no_end).0) (subst (λ (y : ℕ). y < length p) z_is back.1.1.within) in
    subst (λ (zs : List ℕ). Leads (set n x z) (set p z x) 0 zs 1) (sym (append-nil xs)) (subst (λ (y : ℕ). Leads (set n x z) (set p z x) 0 xs y) (sym z_is) turned)
cut n p xs mid (y ∷ ys) o c l d no_end =
    let front = leads-split n p 0 xs o (mid ++ c ∷ y ∷ ys) 1 l in
    let back = leads-split n p o mid c (y ∷ ys) 1 front.1 in
    let z = get_or n c 0 in
    let z_is : y ≡ z = sym back.1.0.is in
    let x = get_or p o 0 in
    let kept : AreDifferent ((0 ∷ xs) ++ (y ∷ ys)) =
    subst (λ (zs : List ℕ). AreDifferent ((0 ∷ xs) ++ zs)) refl (different-cut (0 ∷ xs) (o ∷ (mid ++ c ∷ [])) (y ∷ ys) (subst (λ (zs : List ℕ). AreDifferent (0 ∷ (xs ++ o ∷ zs))) (sym (append_assoc mid (c ∷ []) (y ∷ ys))) d)) in
    let there : has x (0 ∷ xs) ≡ true = last_there n p 0 xs o front.0 in
    let no_end' = absent-parts 1 mid (c ∷ y ∷ ys) (or_parts _ _ (absent-parts 1 xs (o ∷ (mid ++ c ∷ y ∷ ys)) no_end).1).1 in
    let not_one : eqb 1 y ≡ false = (or_parts _ _ (or_parts _ _ no_end'.1).1).0 in
    let turned = leads-retarget n p 0 xs o z x front.0 refl (different-front (0 ∷ xs) (y ∷ ys) kept) (subst (λ (w : ℕ). has w xs ≡ false) z_is (different-before xs y ys kept.1)) (subst (λ (w : ℕ). w < length p) z_is back.1.1.within) in
    let past_z : has z (ys ++ 1 ∷ []) ≡ false =
    subst (λ (w : ℕ). has w (ys ++ 1 ∷ []) ≡ false) z_is (absent-from y ys (1 ∷ []) (different-after xs y ys kept.1) (or_from _ _ (ne_eqb y 1 (not_equal 1 y not_one)) refl)) in
    let tail = leads-previous_kept (set n x z) p y ys 1 z x past_z (leads-next_kept n p y ys 1 x z (different-apart (0 ∷ xs) (y ∷ ys) x kept there) back.1.2) in
    leads-join (set n x z) (set p z x) 0 xs y ys 1 (subst (λ (w : ℕ). Leads (set n x z) (set p z x) 0 xs w) (sym z_is) turned) tail

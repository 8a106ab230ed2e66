-- The easing that the reader finds is what the parts spell.
use Rattle.std.proofs.Common.{◌≡◌, ℕ, ◌≤◌, nat_le, refl, arith, ap, sym, subst, ◌∙◌, List, ◌∷◌, [], cond, Bool, true, false, Option, Some, None, Ok, Err, ℤ, pos, negsuc, unsigned_abs, inl, inr, ◌⊎◌, codes}
use Rattle.std.proofs.lemmas.Bool.{and_parts}
use Rattle.std.proofs.lemmas.Bool.Decides.{nat_tests}
use Rattle.std.proofs.lemmas.Int.{ints}
use Rattle.fix_num.specs.Integer.{has_no_point}
use Rattle.fix_num.specs.Rounded.{StandsNear}
use Rattle.fix_num.proofs.IntegerLemmas.{integer_near, integer_stands}
use Rattle.token_parts.specs.Keywords.{is_keyword, look_up}
use Rattle.token_parts.specs.declared.fault.ValueFault.TheVariants.{Bound}
use Rattle.token_parts.specs.Parts.{TokenPart, Ident, Function, Number, Comma, Close}
use Rattle.timing_types.specs.Timing.{IsControlPoint, IsEasing, fewest_steps}
use Rattle.timing_types.specs.declared.easing.Easing.{Easing}
use Rattle.timing_types.specs.declared.easing.Easing.TheVariants.{Linear, Cubic, Steps}
use Rattle.timing_types.specs.declared.easing.Jump.{Jump}
use Rattle.timing_types.specs.declared.easing.Jump.TheVariants.{Start, End, Both, Nowhere}
use Rattle.list_text.specs.Numbers.{clamp, clamped_nearest, nearest}
use Rattle.list_text.specs.Easings.{IsAbscissa, IsEasingAnswer, IsEasingSpelling, IsStepCount, curve, easing_words, jump_words, steps, steps_and_jump, word}
use Rattle.list_text.specs.ItemReading.{easing_read, judgement_of}
use Rattle.token_parts.specs.Steps.{◌>>=◌, after_comma}
use Rattle.list_text.specs.Reading.{Numbers, abscissa, curve_of, easing_of, easing_within, function_of, is_close, jump_of, natural, point_at, step_count, steps_of}
use Rattle.token_parts.proofs.KeywordLemmas.{AllRows, of_row, only_one}
use Rattle.list_text.proofs.OptionLemmas.{bound, passed}
use Rattle.list_text.proofs.ViewLemmas.{Reads, as_it_is, at_limits, clamped_was, natural_found, natural_was, plain, same_test, sizes}

-- the easing with its numbers seen so
abbrev pub view_easing : (ℕ → ℤ → ℤ) → Easing → Easing
view_easing view Linear = Linear
view_easing view (Cubic x1 y1 x2 y2) = Cubic x1 (view 10000 y1) x2 (view 10000 y2)
view_easing view (Steps count jump) = Steps (unsigned_abs (view 1000000 (pos count))) jump

-- ---- what the reader finds is spelled so

-- an easing that the parts spell, of which this is the clamped one
abbrev pub Spelled : List TokenPart → Easing → Type 0
Spelled parts e = (w : Easing) × IsEasingSpelling parts w × (view_easing clamp w ≡ e)

words_kept : AllRows (λ e. view_easing clamp e ≡ e) easing_words
words_kept = (refl, (refl, (refl, (refl, (refl, (refl, (refl, tt)))))))

few : (jump : Jump) → fewest_steps jump ≤ 2
few Start = omega arith
few End = omega arith
few Both = omega arith
few Nowhere = omega arith

le_from : (m n : ℕ) → nat_le m n ≡ true → m ≤ n
le_from m n h = grind (arith, nat_tests)

step_count_was : (n : List ℕ) (jump : Jump) (e : Easing) → step_count clamped_nearest n jump ≡ Some e
    → (count : ℕ) × IsStepCount n jump count × (view_easing clamp (Steps count jump) ≡ e)
unfolding step_count
step_count_was n jump e h =
    let whole = passed (has_no_point n) _ e h in
    let step = bound (natural clamped_nearest 0 1000000 n) _ e whole.1 in
    let enough = passed (nat_le (fewest_steps jump) step.0) _ e step.2 in
    let was = natural_was 0 1000000 n step.0 step.1 in
    let size = sizes 1000000 was.0 step.0 was.2 in
    let low = le_from (fewest_steps jump) step.0 enough.0 in
    let most = few jump in
    let same : Steps step.0 jump ≡ e = cc (enough.1) in
    let at_least : fewest_steps jump ≤ was.0 = elim size [ inl s ↦ omega (arith, s) | inr s ↦ omega (arith, s) ] in
    (was.0, record { value = record { digits = whole.0; value = integer_near n (pos was.0) whole.0 was.1 }; enough = at_least }, ap (λ z. Steps (unsigned_abs z) jump) was.2 ∙ same)

-- the end of a step easing
abbrev pub IsJumpEnd : List TokenPart → Jump → Type 0
IsJumpEnd parts jump = ((parts ≡ Close ∷ []) × (End ≡ jump)) ⊎ ((w : List ℕ) × (parts ≡ Comma ∷ Ident w ∷ Close ∷ []) × (look_up jump_words w ≡ Some jump))

jump_was : (parts : List TokenPart) (jump : Jump) → jump_of parts ≡ Some jump → IsJumpEnd parts jump
unfolding jump_of
jump_was (Close ∷ []) jump h = inl (refl, cc)
jump_was (Comma ∷ Ident w ∷ Close ∷ []) jump h = inr (w, refl, h)
jump_was _ jump h = absurd (cc)

steps_end : (f n : List ℕ) (rest : List TokenPart) (jump : Jump) (e : Easing) → is_keyword f (codes "steps") ≡ true → IsJumpEnd rest jump
    → (count : ℕ) × IsStepCount n jump count × (view_easing clamp (Steps count jump) ≡ e) → Spelled (Function f ∷ Number n ∷ rest) e
steps_end f n rest jump e is (inl h) was =
    let spelled : IsEasingSpelling (Function f ∷ Number n ∷ Close ∷ []) (Steps was.0 jump) =
    subst (λ j. IsEasingSpelling (Function f ∷ Number n ∷ Close ∷ []) (Steps was.0 j)) h.1 (steps f n was.0 is (subst (λ j. IsStepCount n j was.0) (sym h.1) was.1)) in
    (Steps was.0 jump, subst (λ l. IsEasingSpelling (Function f ∷ Number n ∷ l) (Steps was.0 jump)) (sym h.0) spelled, was.2)
steps_end f n rest jump e is (inr h) was =
    (Steps was.0 jump, subst (λ l. IsEasingSpelling (Function f ∷ Number n ∷ l) (Steps was.0 jump)) (sym h.1) (steps_and_jump f n h.0 was.0 jump is h.2 was.1), was.2)

steps_rest : (f n : List ℕ) (rest : List TokenPart) (e : Easing) → is_keyword f (codes "steps") ≡ true
    → jump_of rest >>= step_count clamped_nearest n ≡ Some e → Spelled (Function f ∷ Number n ∷ rest) e
steps_rest f n rest e is h =
    let step = bound (jump_of rest) (step_count clamped_nearest n) e h in
    steps_end f n rest step.0 e is (jump_was rest step.0 step.1) (step_count_was n step.0 e step.2)

steps_was : (f : List ℕ) (parts : List TokenPart) (e : Easing) → is_keyword f (codes "steps") ≡ true → steps_of clamped_nearest parts ≡ Some e → Spelled (Function f ∷ parts) e
unfolding steps_of
steps_was f (Number n ∷ rest) e is h = steps_rest f n rest e is h
steps_was f _ e is h = absurd (cc)

abscissa_was : (n : List ℕ) (x : ℤ) → abscissa clamped_nearest n ≡ Some x → IsAbscissa n x
unfolding abscissa
abscissa_was n x h =
    let step = bound (natural clamped_nearest 3 1000 n) _ x h in
    let low = passed (nat_le step.0 1000) _ x step.2 in
    let was = natural_was 3 1000 n step.0 step.1 in
    let size = sizes 1000 was.0 step.0 was.2 in
    let most = le_from step.0 1000 low.0 in
    let is : pos step.0 ≡ x = cc (low.1) in
    let same : was.0 ≡ step.0 = elim size [ inl s ↦ sym s.0 | inr s ↦ absurd (omega (arith, s)) ] in
    let far : was.0 ≤ 1000 = omega arith in
    subst (λ z. IsAbscissa n z) is (subst (λ k. IsAbscissa n (pos k)) same (record { value = was.1; low = omega (arith, ints); high = omega (arith, ints) }))

-- a control point in front of the rest
pub record IsPoint (parts : List TokenPart) (x y : ℤ) (rest : List TokenPart) : Type 0 where
  pub a : List ℕ
  pub b : List ℕ
  pub height : ℤ
  pub parts_are : parts ≡ Number a ∷ Comma ∷ Number b ∷ rest
  pub abscissa : IsAbscissa a x
  pub ordinate : StandsNear 3 b height
  pub clamped_height : clamp 10000 height ≡ y

point_rest : (a b : List ℕ) (rest : List TokenPart) (p : ℤ × ℤ × List TokenPart)
    → abscissa clamped_nearest a >>= (λ x. clamped_nearest 3 10000 b >>= (λ y. Some (x, y, rest))) ≡ Some p → IsPoint (Number a ∷ Comma ∷ Number b ∷ rest) p.0 p.1 p.2
point_rest a b rest p h =
    let first = bound (abscissa clamped_nearest a) _ p h in
    let second = bound (clamped_nearest 3 10000 b) _ p first.2 in
    let was = clamped_was 3 10000 b second.0 second.1 in
    let is : (first.0, second.0, rest) ≡ p = cc (second.2) in
    subst (λ (q : ℤ × ℤ × List TokenPart). IsPoint (Number a ∷ Comma ∷ Number b ∷ rest) q.0 q.1 q.2) is
    (record { a = a; b = b; height = was.0; parts_are = refl; abscissa = abscissa_was a first.0 first.1; ordinate = was.1; clamped_height = was.2 })

point_was : (parts : List TokenPart) (p : ℤ × ℤ × List TokenPart) → point_at clamped_nearest parts ≡ Some p → IsPoint parts p.0 p.1 p.2
unfolding point_at
point_was (Number a ∷ Comma ∷ Number b ∷ rest) p h = point_rest a b rest p h
point_was _ p h = absurd (cc)

comma_was : (parts rest : List TokenPart) → after_comma parts ≡ Some rest → parts ≡ Comma ∷ rest
comma_was (Comma ∷ ps) rest h = let e : ps ≡ rest = cc in ap (λ l. Comma ∷ l) e
comma_was _ rest h = absurd (cc)

close_was : (parts : List TokenPart) → is_close parts ≡ true → parts ≡ Close ∷ []
close_was (Close ∷ []) h = refl
close_was _ h = absurd (cc)

curve_was : (f : List ℕ) (parts : List TokenPart) (e : Easing) → is_keyword f (codes "cubic-bezier") ≡ true → curve_of clamped_nearest parts ≡ Some e → Spelled (Function f ∷ parts) e
unfolding curve_of
curve_was f parts e is h =
    let one = bound (point_at clamped_nearest parts) _ e h in
    let comma = bound (after_comma one.0.2) _ e one.2 in
    let two = bound (point_at clamped_nearest comma.0) _ e comma.2 in
    let end = passed (is_close two.0.2) _ e two.2 in
    let p = point_was parts one.0 one.1 in
    let q = point_was comma.0 two.0 two.1 in
    let last = close_was two.0.2 end.0 in
    let middle = comma_was one.0.2 comma.0 comma.1 in
    let rest : comma.0 ≡ Number q.a ∷ Comma ∷ Number q.b ∷ Close ∷ [] = q.parts_are ∙ ap (λ l. Number q.a ∷ Comma ∷ Number q.b ∷ l) last in
    let all : parts ≡ Number p.a ∷ Comma ∷ Number p.b ∷ Comma ∷ Number q.a ∷ Comma ∷ Number q.b ∷ Close ∷ [] =
    p.parts_are ∙ ap (λ l. Number p.a ∷ Comma ∷ Number p.b ∷ l) (middle ∙ ap (λ l. Comma ∷ l) rest) in
    let found : Cubic one.0.0 one.0.1 two.0.0 two.0.1 ≡ e = cc (end.1) in (
      Cubic one.0.0 p.height two.0.0 q.height,
      subst (λ l. IsEasingSpelling (Function f ∷ l) (Cubic one.0.0 p.height two.0.0 q.height)) (sym all)
          (curve f p.a p.b q.a q.b one.0.0 p.height two.0.0 q.height is p.abscissa p.ordinate q.abscissa q.ordinate),
      ap (λ y. Cubic one.0.0 y two.0.0 (clamp 10000 q.height)) p.clamped_height ∙ ap (λ y. Cubic one.0.0 one.0.1 two.0.0 y) q.clamped_height ∙ found,
    )

function_at : (f : List ℕ) (parts : List TokenPart) (e : Easing) (a b : Bool) → is_keyword f (codes "steps") ≡ a → is_keyword f (codes "cubic-bezier") ≡ b
    → cond a (steps_of clamped_nearest parts) (cond b (curve_of clamped_nearest parts) None) ≡ Some e → Spelled (Function f ∷ parts) e
function_at f parts e true b is other h = steps_was f parts e is h
function_at f parts e false true is other h = curve_was f parts e other h
function_at f parts e false false is other h = absurd (cc)

function_was : (f : List ℕ) (parts : List TokenPart) (e : Easing) → function_of clamped_nearest f parts ≡ Some e → Spelled (Function f ∷ parts) e
unfolding function_of
function_was f parts e h = function_at f parts e (is_keyword f (codes "steps")) (is_keyword f (codes "cubic-bezier")) refl refl h

pub easing_was : (parts : List TokenPart) (e : Easing) → easing_of clamped_nearest parts ≡ Some e → Spelled parts e
easing_was (Ident w ∷ []) e h = (e, word w e h, of_row (λ e. view_easing clamp e ≡ e) easing_words w e words_kept h)
easing_was (Function f ∷ parts) e h = function_was f parts e h
easing_was _ e h = absurd (cc)

-- ---- what is spelled so is found

control : (x y : ℕ) → x ≤ 1000 → y ≤ 10000 → IsControlPoint (pos x) (pos y)
control x y low high = record { low = omega (arith, ints); high = omega (arith, ints); height = high }

words_are : AllRows IsEasing easing_words
words_are =
    let begin = control 420 0 (omega arith) (omega arith) in
    let end = control 1000 1000 (omega arith) (omega arith) in
    let start = control 0 0 (omega arith) (omega arith) in
    let late = control 580 1000 (omega arith) (omega arith) in
    (tt, ((control 250 100 (omega arith) (omega arith), control 250 1000 (omega arith) (omega arith)), ((begin, end), ((start, late), ((begin, late), ((omega arith, omega arith), ((omega arith, omega arith), tt)))))))

-- an easing within its bounds is seen as it is
pub kept_easing : (num : Numbers) (view : ℕ → ℤ → ℤ) (e : Easing) → Reads num view → IsEasing e → view_easing view e ≡ e
kept_easing num view Linear r h = refl
kept_easing num view (Cubic x1 y1 x2 y2) r h =
    ap (λ y. Cubic x1 y x2 (view 10000 y2)) (r.small 10000 y1 h.0.height) ∙ ap (λ y. Cubic x1 y1 x2 y) (r.small 10000 y2 h.1.height)
kept_easing num view (Steps count jump) r h = ap (λ z. Steps (unsigned_abs z) jump) (r.small 1000000 (pos count) h.1)

to_le : (m n : ℕ) → m ≤ n → nat_le m n ≡ true
to_le m n h = grind (arith, nat_tests)

step_count_found : (num : Numbers) (view : ℕ → ℤ → ℤ) (n : List ℕ) (jump : Jump) (count : ℕ) → Reads num view → IsStepCount n jump count
    → step_count num n jump ≡ Some (view_easing view (Steps count jump))
unfolding step_count
step_count_found num view n jump count r h =
    let k = natural_found num view 0 1000000 count n r (integer_stands n (pos count) h.value.value) in
    let most = few jump in
    let enough = h.enough in
    let low : fewest_steps jump ≤ k.0 = elim k.3 [ inl s ↦ omega (arith, s) | inr s ↦ omega (arith, s) ] in
    rw (h.value.digits, k.1, to_le (fewest_steps jump) k.0 low) (ap (λ z. Some (Steps (unsigned_abs z) jump)) (sym k.2))

abscissa_at : (num : Numbers) (view : ℕ → ℤ → ℤ) (n : List ℕ) (x : ℕ) → Reads num view → StandsNear 3 n (pos x) → x ≤ 1000 → abscissa num n ≡ Some (pos x)
unfolding abscissa
abscissa_at num view n x r near low =
    let k = natural_found num view 3 1000 x n r near in
    let same : k.0 ≡ x = elim k.3 [ inl s ↦ s.0 | inr s ↦ absurd (omega (arith, s)) ] in
    let test : nat_le k.0 1000 ≡ true = to_le k.0 1000 (omega arith) in
    rw (k.1, test) (ap (λ m. Some (pos m)) same)

abscissa_found : (num : Numbers) (view : ℕ → ℤ → ℤ) (n : List ℕ) (x : ℤ) → Reads num view → IsAbscissa n x → abscissa num n ≡ Some x
abscissa_found num view n (pos x) r h = abscissa_at num view n x r h.value (omega (arith, ints, h.high))
abscissa_found num view n (negsuc x) r h = absurd (omega (arith, ints, h.low))

point_found : (num : Numbers) (view : ℕ → ℤ → ℤ) (a b : List ℕ) (rest : List TokenPart) (x y : ℤ) → Reads num view → IsAbscissa a x → StandsNear 3 b y
    → point_at num (Number a ∷ Comma ∷ Number b ∷ rest) ≡ Some (x, view 10000 y, rest)
unfolding point_at
point_found num view a b rest x y r across up = rw (abscissa_found num view a x r across, r.reads 3 10000 b y up) refl

steps_found : (num : Numbers) (view : ℕ → ℤ → ℤ) (f n : List ℕ) (count : ℕ) → Reads num view → is_keyword f (codes "steps") ≡ true → IsStepCount n End count
    → function_of num f (Number n ∷ Close ∷ []) ≡ Some (view_easing view (Steps count End))
unfolding function_of steps_of jump_of
steps_found num view f n count r is h = rw is (step_count_found num view n End count r h)

jumps_found : (num : Numbers) (view : ℕ → ℤ → ℤ) (f n j : List ℕ) (count : ℕ) (jump : Jump) → Reads num view → is_keyword f (codes "steps") ≡ true
    → look_up jump_words j ≡ Some jump → IsStepCount n jump count
    → function_of num f (Number n ∷ Comma ∷ Ident j ∷ Close ∷ []) ≡ Some (view_easing view (Steps count jump))
unfolding function_of steps_of jump_of
jumps_found num view f n j count jump r is jumps h = rw (is, jumps) (step_count_found num view n jump count r h)

curve_found : (num : Numbers) (view : ℕ → ℤ → ℤ) (f a b c d : List ℕ) (x1 y1 x2 y2 : ℤ) → Reads num view → is_keyword f (codes "cubic-bezier") ≡ true
    → IsAbscissa a x1 → StandsNear 3 b y1 → IsAbscissa c x2 → StandsNear 3 d y2
    → function_of num f (Number a ∷ Comma ∷ Number b ∷ Comma ∷ Number c ∷ Comma ∷ Number d ∷ Close ∷ []) ≡ Some (view_easing view (Cubic x1 y1 x2 y2))
unfolding function_of curve_of
curve_found num view f a b c d x1 y1 x2 y2 r is one up two upper =
    rw (
      only_one f (codes "cubic-bezier") (codes "steps") is refl,
      is,
      point_found num view a b (Comma ∷ Number c ∷ Comma ∷ Number d ∷ Close ∷ []) x1 y1 r one up,
      point_found num view c d (Close ∷ []) x2 y2 r two upper,
    ) refl

pub easing_found : {parts : List TokenPart} {e : Easing} (num : Numbers) (view : ℕ → ℤ → ℤ) → Reads num view → IsEasingSpelling parts e
    → easing_of num parts ≡ Some (view_easing view e)
easing_found num view r (word w e is) = is ∙ ap Some (sym (kept_easing num view e r (of_row IsEasing easing_words w e words_are is)))
easing_found num view r (steps f n count is h) = steps_found num view f n count r is h
easing_found num view r (steps_and_jump f n j count jump is jumps h) = jumps_found num view f n j count jump r is jumps h
easing_found num view r (curve f a b c d x1 y1 x2 y2 is one up two upper) = curve_found num view f a b c d x1 y1 x2 y2 r is one up two upper

-- ---- the limits

-- what an easing keeps that the parts spell
is_control : (n : List ℕ) (x y : ℤ) → IsAbscissa n x → unsigned_abs y ≤ 10000 → IsControlPoint x y
is_control n x y h up = record { low = h.low; high = h.high; height = up }

within_kept : {parts : List TokenPart} {e : Easing} → IsEasingSpelling parts e → easing_within (view_easing clamp e) ≡ true → (view_easing clamp e ≡ e) × IsEasing e
within_kept (word w e is) h = let all = of_row IsEasing easing_words w e words_are is in (kept_easing clamped_nearest clamp e at_limits all, all)
within_kept (steps f n count is k) h =
    let small = same_test 1000000 (pos count) h in
    (ap (λ z. Steps (unsigned_abs z) End) small.0, (k.enough, small.1))
within_kept (steps_and_jump f n j count jump is jumps k) h =
    let small = same_test 1000000 (pos count) h in
    (ap (λ z. Steps (unsigned_abs z) jump) small.0, (k.enough, small.1))
within_kept (curve f a b c d x1 y1 x2 y2 is one up two upper) h =
    let both = and_parts _ _ h in
    let first = same_test 10000 y1 both.0 in
    let second = same_test 10000 y2 both.1 in (
      ap (λ y. Cubic x1 y x2 (clamp 10000 y2)) first.0 ∙ ap (λ y. Cubic x1 y1 x2 y) second.0,
      (is_control a x1 y1 one first.1, is_control c x2 y2 two second.1),
    )

within_of : (e : Easing) → IsEasing e → easing_within e ≡ true
within_of Linear h = refl
within_of (Cubic x1 y1 x2 y2) h = rw (to_le (unsigned_abs y1) 10000 h.0.height, to_le (unsigned_abs y2) 10000 h.1.height) refl
within_of (Steps count jump) h = to_le count 1000000 h.1

-- ---- the answers

pub easing_ok : (parts : List TokenPart) (e : Easing) → easing_of clamped_nearest parts ≡ Some e → easing_within e ≡ true → IsEasingSpelling parts e × IsEasing e
easing_ok parts e h within =
    let was = easing_was parts e h in
    let kept = within_kept was.1 (subst (λ z. easing_within z ≡ true) (sym was.2) within) in
    let same : was.0 ≡ e = sym kept.0 ∙ was.2 in
    (subst (λ z. IsEasingSpelling parts z) same was.1, subst IsEasing same kept.1)

pub easing_none : (parts : List TokenPart) → easing_of clamped_nearest parts ≡ None → (e : Easing) → IsEasingSpelling parts e → ⊥
easing_none parts h e spelled = let found = easing_found clamped_nearest clamp at_limits spelled in cc

pub easing_far : (parts : List TokenPart) (e : Easing) → easing_of clamped_nearest parts ≡ Some e → easing_within e ≡ false
    → (w : Easing) × IsEasingSpelling parts w × (IsEasing w → ⊥)
easing_far parts e h far =
    let was = easing_was parts e h in (
      was.0,
      was.1,
      λ (all : IsEasing was.0).
          let same : was.0 ≡ e = sym (kept_easing clamped_nearest clamp was.0 at_limits all) ∙ was.2 in
          let near : easing_within e ≡ true = subst (λ z. easing_within z ≡ true) same (within_of was.0 all) in
          cc,
    )

easing_at : (parts : List TokenPart) (e : Easing) (b : Bool) → easing_of clamped_nearest parts ≡ Some e → easing_within e ≡ b → IsEasingAnswer parts (cond b (Ok e) (Err Bound))
easing_at parts e true h within = easing_ok parts e h within
easing_at parts e false h within = easing_far parts e h within

easing_answer_at : (parts : List TokenPart) (o : Option Easing) → easing_of clamped_nearest parts ≡ o → IsEasingAnswer parts (judgement_of easing_within o)
easing_answer_at parts None h = easing_none parts h
easing_answer_at parts (Some e) h = easing_at parts e (easing_within e) h refl

pub easing_answer : (parts : List TokenPart) → IsEasingAnswer parts (easing_read parts)
easing_answer parts = easing_answer_at parts (easing_of clamped_nearest parts) refl

plain_easing : (e : Easing) → view_easing plain e ≡ e
plain_easing Linear = refl
plain_easing (Cubic x1 y1 x2 y2) = refl
plain_easing (Steps count jump) = refl

pub exact : (parts : List TokenPart) (e : Easing) → IsEasingSpelling parts e → easing_of nearest parts ≡ Some e
exact parts e h = easing_found nearest plain as_it_is h ∙ ap Some (plain_easing e)

pub one_easing : (parts : List TokenPart) (e f : Easing) → IsEasingSpelling parts e → IsEasingSpelling parts f → e ≡ f
one_easing parts e f h k =
    let one = exact parts e h in
    let other = exact parts f k in
    cc

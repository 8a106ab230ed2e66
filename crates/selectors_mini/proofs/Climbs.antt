-- Fitting compounds, as matching goes up.
use Rattle.std.proofs.Common.{◌≡◌, ℕ, ◌+◌, ◌-◌, ◌<◌, ◌≤◌, refl, arith, ap, subst, sym, ◌∙◌, List, ◌∷◌, [], length, take, get_or, Bool, true, false, ◌&&◌, ◌||◌, Option, Some, None}
use Rattle.std.specs.Prelude.{reverse, IfSome, IsTrue}
use Rattle.std.specs.Option.{option_map_or}
use Rattle.std.proofs.Math.Seq.{take-length}
use Rattle.std.proofs.lemmas.List.{reverse-append, take_more}
use Rattle.doc_tree.specs.Element.{Element, inclusive_ancestors, is_in}
use Rattle.selectors_mini.specs.Compounds.{CompoundSelector}
use Rattle.selectors_mini.specs.Climbing.{compounds_left, fits_above, fits_at}
use Rattle.selectors_mini.specs.Matching.{any_rest, fits, matches_of, represents, stands}
use Rattle.selectors_mini.specs.declared.combinator.Combinator.{Combinator}
use Rattle.selectors_mini.specs.declared.combinator.Combinator.TheVariants.{Child, Descendant}
use Rattle.selectors_mini.proofs.Lists.{both_false}

-- ---- anywhere in a chain

pub rest_head : (f : List Element → Bool) (es : List Element) → f es ≡ true → any_rest f es ≡ true
rest_head f [] is = is
rest_head f (e ∷ es) is = rw is refl

pub head_false : (f : List Element → Bool) (es : List Element) → any_rest f es ≡ false → f es ≡ false
head_false f [] none = none
head_false f (e ∷ es) none = (both_false (f (e ∷ es)) (any_rest f es) none).0

-- where f holds nowhere above, g doesn't hold of the element, and so nowhere
rest_none : (f g : List Element → Bool) → ((e : Element) (above : List Element) → any_rest f above ≡ false → g (e ∷ above) ≡ false) → g [] ≡ false
    → (e : Element) (above : List Element) → any_rest f above ≡ false → any_rest g (e ∷ above) ≡ false
rest_none f g step nil e [] none = rw (step e [] none, nil) refl
rest_none f g step nil e (next ∷ above) none =
    rw (step e (next ∷ above) none, rest_none f g step nil next above (both_false (f (next ∷ above)) (any_rest f above) none).1) refl

-- ---- compounds

pub fits-nil : (cs : List CompoundSelector) → fits cs [] ≡ false
fits-nil [] = refl
fits-nil (c ∷ []) = refl
fits-nil (c ∷ before ∷ cs) = refl

stands_none : (k : Option Combinator) (f : List Element → Bool) (above : List Element) → any_rest f above ≡ false → stands k f above ≡ false
stands_none None f above none = refl
stands_none (Some Child) f above none = head_false f above none
stands_none (Some Descendant) f above none = none

and_none : (a b : Bool) → b ≡ false → (a && b) ≡ false
and_none true b none = none
and_none false b none = refl

-- where the compounds before the last one fit nowhere above, all of them fit nowhere
pub nowhere_above : (c before : CompoundSelector) (cs : List CompoundSelector) (e : Element) (above : List Element) → any_rest (fits (before ∷ cs)) above ≡ false
    → any_rest (fits (c ∷ before ∷ cs)) (e ∷ above) ≡ false
nowhere_above c before cs =
    rest_none (fits (before ∷ cs)) (fits (c ∷ before ∷ cs)) (λ e above none. and_none (represents c e) (stands before.next (fits (before ∷ cs)) above) (stands_none before.next (fits (before ∷ cs)) above none)) refl

-- a compound that no other stands to
pub none_next : (c before : CompoundSelector) (cs : List CompoundSelector) (es : List Element) → before.next ≡ None → any_rest (fits (c ∷ before ∷ cs)) es ≡ false
none_next c before cs [] none = refl
none_next c before cs (e ∷ es) none =
    let here : fits (c ∷ before ∷ cs) (e ∷ es) ≡ false = and_none (represents c e) (stands before.next (fits (before ∷ cs)) es) (ap (λ k. stands k (fits (before ∷ cs)) es) none) in
    rw (here, none_next c before cs es none) refl

pub not_represented : (c : CompoundSelector) (cs : List CompoundSelector) (e : Element) (above : List Element) → represents c e ≡ false → fits (c ∷ cs) (e ∷ above) ≡ false
not_represented c [] e above none = none
not_represented c (before ∷ cs) e above none = rw none refl

pub represented : (c before : CompoundSelector) (cs : List CompoundSelector) (e : Element) (above : List Element) (k : Option Combinator) → represents c e ≡ true
    → before.next ≡ k → fits (c ∷ before ∷ cs) (e ∷ above) ≡ stands k (fits (before ∷ cs)) above
represented c before cs e above k is next = rw (is, next) refl

-- ---- the first compounds of a selector

pub left_is : (s : List CompoundSelector) (left : ℕ) (d : CompoundSelector) → 0 < left → left ≤ length s
    → compounds_left s left ≡ get_or s (left - 1) d ∷ compounds_left s (left - 1)
left_is s left d some within =
    let back : left ≡ left - 1 + 1 = omega arith in
    ap (compounds_left s) back ∙ ap reverse (take_more s (left - 1) d (omega arith)) ∙ reverse-append (take (left - 1) s) (get_or s (left - 1) d ∷ [])

-- ---- a climb

-- a climb by `from` compounds from element n has come to this element, with so many compounds left
pub record Climbing (s : List CompoundSelector) (from : ℕ) (es : List Element) (n left at : ℕ) : Type 0 where
  pub some : 0 < left
  pub within : left ≤ length s
  pub fewer : left ≤ from
  pub there : IsTrue (is_in at es)
  pub same : fits_at s from es n ≡ fits_at s left es at
  pub nowhere : fits_above s left es at ≡ false → fits_above s from es n ≡ false
  pub low : length (inclusive_ancestors es at) ≤ length (inclusive_ancestors es n)

-- with other names for the compounds and the chain
fits_as : {cs ds : List CompoundSelector} {es fs : List Element} → cs ≡ ds → es ≡ fs → fits cs es ≡ fits ds fs
fits_as {ds = ds} {es = es} p q = ap (λ l. fits l es) p ∙ ap (fits ds) q

above_as : {cs ds : List CompoundSelector} {es fs : List Element} → cs ≡ ds → es ≡ fs → any_rest (fits cs) es ≡ any_rest (fits ds) fs
above_as {ds = ds} {es = es} p q = ap (λ l. any_rest (fits l) es) p ∙ ap (any_rest (fits ds)) q

module _ (s : List CompoundSelector) (from : ℕ) (es : List Element) (n left at : ℕ) (d : CompoundSelector) (e : Element) (above : List Element) where
  pub not_here : Climbing s from es n left at → inclusive_ancestors es at ≡ e ∷ above → represents (get_or s (left - 1) d) e ≡ false → fits_at s from es n ≡ false
  not_here h up is =
      h.same ∙ fits_as (left_is s left d h.some h.within) up ∙ not_represented (get_or s (left - 1) d) (compounds_left s (left - 1)) e above is

  pub fitted : Climbing s from es n left at → inclusive_ancestors es at ≡ e ∷ above → represents (get_or s (left - 1) d) e ≡ true → left - 1 ≡ 0 → fits_at s from es n ≡ true
  fitted h up is last =
      let one : compounds_left s left ≡ get_or s (left - 1) d ∷ [] = left_is s left d h.some h.within ∙ ap (λ k. get_or s (left - 1) d ∷ compounds_left s k) last in
      h.same ∙ fits_as one up ∙ is

-- two compounds are left at least
two_left : (s : List CompoundSelector) (left : ℕ) (d b : CompoundSelector) → 0 < left - 1 → left ≤ length s
    → compounds_left s left ≡ get_or s (left - 1) d ∷ get_or s (left - 1 - 1) b ∷ compounds_left s (left - 1 - 1)
two_left s left d b more within =
    left_is s left d (omega arith) within ∙ ap (λ l. get_or s (left - 1) d ∷ l) (left_is s (left - 1) b more (omega arith))

module _ (s : List CompoundSelector) (from : ℕ) (es : List Element) (n left at : ℕ) (d b : CompoundSelector) (e : Element) where
  pub at_root : Climbing s from es n left at → inclusive_ancestors es at ≡ e ∷ [] → 0 < left - 1 → fits_above s from es n ≡ false
  at_root h up more =
      let c = get_or s (left - 1) d in let before = get_or s (left - 1 - 1) b in let cs = compounds_left s (left - 1 - 1) in
      h.nowhere (above_as (two_left s left d b more h.within) up ∙ nowhere_above c before cs e [] (fits-nil (before ∷ cs)))

  pub no_next : Climbing s from es n left at → 0 < left - 1 → (get_or s (left - 1 - 1) b).next ≡ None → fits_above s from es n ≡ false
  no_next h more next =
      let c = get_or s (left - 1) d in let before = get_or s (left - 1 - 1) b in let cs = compounds_left s (left - 1 - 1) in
      h.nowhere (above_as (two_left s left d b more h.within) refl ∙ none_next c before cs (inclusive_ancestors es at) next)

module _ (s : List CompoundSelector) (from : ℕ) (es : List Element) (n left at : ℕ) (d b : CompoundSelector) (e : Element) (parent : ℕ)
    (h : Climbing s from es n left at) (up : inclusive_ancestors es at ≡ e ∷ inclusive_ancestors es parent) (more : 0 < left - 1) where
  rest : compounds_left s (left - 1) ≡ get_or s (left - 1 - 1) b ∷ compounds_left s (left - 1 - 1)
  rest = left_is s (left - 1) b more (omega (arith, h.within))

  -- where what is left fits nowhere above, all fits nowhere
  above_none : fits_above s (left - 1) es parent ≡ false → fits_above s from es n ≡ false
  above_none none =
      let c = get_or s (left - 1) d in let before = get_or s (left - 1 - 1) b in let cs = compounds_left s (left - 1 - 1) in
      h.nowhere (above_as (two_left s left d b more h.within) up ∙ nowhere_above c before cs e (inclusive_ancestors es parent) (above_as (sym rest) refl ∙ none))

  lower : length (inclusive_ancestors es parent) < length (inclusive_ancestors es n)
  lower = let size = ap length up in let low = h.low in omega arith

  pub to_parent : IsTrue (is_in parent es) → represents (get_or s (left - 1) d) e ≡ true → (get_or s (left - 1 - 1) b).next ≡ Some Child
      → Climbing s from es n (left - 1) parent
  to_parent there is next =
      let c = get_or s (left - 1) d in let before = get_or s (left - 1 - 1) b in let cs = compounds_left s (left - 1 - 1) in
      record {
        some = more;
        within = let w = h.within in omega arith;
        fewer = let w = h.fewer in omega arith;
        there = there;
        same = h.same ∙ fits_as (two_left s left d b more h.within) up ∙ represented c before cs e (inclusive_ancestors es parent) (Some Child) is next ∙ fits_as (sym rest) refl;
        nowhere = above_none;
        low = let l = lower in omega arith;
      }

  here_is : represents (get_or s (left - 1) d) e ≡ true → (get_or s (left - 1 - 1) b).next ≡ Some Descendant → fits_at s from es n ≡ fits_above s (left - 1) es parent
  here_is is next =
      let c = get_or s (left - 1) d in let before = get_or s (left - 1 - 1) b in let cs = compounds_left s (left - 1 - 1) in
      h.same ∙ fits_as (two_left s left d b more h.within) up ∙ represented c before cs e (inclusive_ancestors es parent) (Some Descendant) is next ∙ above_as (sym rest) refl

  pub left_above : represents (get_or s (left - 1) d) e ≡ true → (get_or s (left - 1 - 1) b).next ≡ Some Descendant
      → (fits_at s from es n ≡ fits_above s (left - 1) es parent) × (fits_above s from es n ≡ fits_above s (left - 1) es parent)
  left_above is next = (here_is is next, both_cases (fits_above s (left - 1) es parent) refl (here_is is next))
    where
      both_cases : (r : Bool) → fits_above s (left - 1) es parent ≡ r → fits_at s from es n ≡ fits_above s (left - 1) es parent → fits_above s from es n ≡ fits_above s (left - 1) es parent
      both_cases true r here = rest_head (fits (compounds_left s from)) (inclusive_ancestors es n) (here ∙ r) ∙ sym r
      both_cases false r here = above_none r ∙ sym r

-- ---- as the code reads them

pub as_read : (c read : CompoundSelector) (e : Element) (b : Bool) → c ≡ read → b ≡ represents c e → represents read e ≡ b
as_read c read e b is found = sym (found ∙ ap (λ x. represents x e) is)

pub next_read : (c read : CompoundSelector) (k : Option Combinator) → c ≡ read → k ≡ c.next → read.next ≡ k
next_read c read k is found = sym (found ∙ ap (λ (x : CompoundSelector). x.next) is)

pub up_to : (es : List Element) (at : ℕ) (e : Element) (p : Option ℕ) → inclusive_ancestors es at ≡ e ∷ option_map_or (inclusive_ancestors es) e.parent [] → p ≡ e.parent
    → inclusive_ancestors es at ≡ e ∷ option_map_or (inclusive_ancestors es) p []
up_to es at e p up is = up ∙ ap (λ q. e ∷ option_map_or (inclusive_ancestors es) q []) (sym is)

pub parent_there : (es : List Element) (e : Element) (p : ℕ) → IfSome e.parent (λ p. IsTrue (is_in p es)) → Some p ≡ e.parent → IsTrue (is_in p es)
parent_there es e p there is = subst (λ o. IfSome o (λ p. IsTrue (is_in p es))) (sym is) there

-- ---- a search upwards

-- a search of `from` compounds from element n has come to this element, with so many compounds left
pub record Searching (s : List CompoundSelector) (from : ℕ) (es : List Element) (n left at : ℕ) : Type 0 where
  pub some : 0 < left
  pub within : left ≤ length s
  pub there : IsTrue (is_in at es)
  pub same : fits_above s from es n ≡ fits_above s left es at

-- past an element from which the compounds don't fit
past : (f : List Element → Bool) (es : List Element) (e : Element) (above : List Element) → es ≡ e ∷ above → f es ≡ false → any_rest f es ≡ any_rest f above
past f es e above is none =
    let here : f (e ∷ above) ≡ false = ap f (sym is) ∙ none in
    ap (any_rest f) is ∙ ap (λ b. b || any_rest f above) here

pub past_root : (s : List CompoundSelector) (left : ℕ) (es : List Element) (at : ℕ) (e : Element) (p : Option ℕ)
    → inclusive_ancestors es at ≡ e ∷ option_map_or (inclusive_ancestors es) e.parent [] → p ≡ e.parent → p ≡ None → fits_at s left es at ≡ false → fits_above s left es at ≡ false
past_root s left es at e p up is none not =
    past (fits (compounds_left s left)) (inclusive_ancestors es at) e [] (up_to es at e None up (sym none ∙ is)) not ∙ fits-nil (compounds_left s left)

pub past_element : (s : List CompoundSelector) (left : ℕ) (es : List Element) (at : ℕ) (e : Element) (p : ℕ)
    → inclusive_ancestors es at ≡ e ∷ option_map_or (inclusive_ancestors es) e.parent [] → Some p ≡ e.parent → fits_at s left es at ≡ false
    → (fits_above s left es at ≡ fits_above s left es p) × (length (inclusive_ancestors es p) < length (inclusive_ancestors es at))
past_element s left es at e p up is not =
    let above : inclusive_ancestors es at ≡ e ∷ inclusive_ancestors es p = up_to es at e (Some p) up is in
    let size = ap length above in
    (past (fits (compounds_left s left)) (inclusive_ancestors es at) e (inclusive_ancestors es p) above not, omega arith)

pub found_here : (s : List CompoundSelector) (left : ℕ) (es : List Element) (at : ℕ) → fits_at s left es at ≡ true → fits_above s left es at ≡ true
found_here s left es at is = rest_head (fits (compounds_left s left)) (inclusive_ancestors es at) is

pub none_here : (s : List CompoundSelector) (left : ℕ) (es : List Element) (at : ℕ) → fits_above s left es at ≡ false → fits_at s left es at ≡ false
none_here s left es at none = head_false (fits (compounds_left s left)) (inclusive_ancestors es at) none

-- all compounds of a selector
pub fits_whole : (s : List CompoundSelector) (es : List Element) (n : ℕ) → fits_at s (length s) es n ≡ matches_of s (inclusive_ancestors es n)
fits_whole s es n = ap (λ l. fits (reverse l) (inclusive_ancestors es n)) (take-length s)

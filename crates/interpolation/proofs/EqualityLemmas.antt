-- The test of equality tells what is equal.
use Rattle.std.proofs.Common.{◌≡◌, ℕ, refl, ap, sym, ◌∙◌}
use Rattle.std.specs.Prelude.{ℤ, true, ◌==◌, if◌then◌else◌}
use Rattle.std.specs.Ordering.{int_eq}
use Rattle.std.specs.Bool.{Decides}
use Rattle.std.proofs.lemmas.Bool.{false≢true}
use Rattle.std.proofs.lemmas.Bool.Decides.{Decides-int_eq, Decides-eqb, Decides-and, Decides-like}
use Rattle.value_types.specs.declared.value.Value.{Value}
use Rattle.value_types.specs.declared.value.Value.TheVariants as value
use Rattle.value_types.specs.declared.value.Visibility.{Visibility}
use Rattle.value_types.specs.declared.value.Visibility.TheVariants.{Visible, Hidden, Collapse}
use Rattle.value_types.specs.declared.value.Display.{Display}
use Rattle.value_types.specs.declared.value.Display.TheVariants as display
use Rattle.fix_num.specs.declared.units.Fix.{Fix}
use Rattle.interpolation.specs.Equality.{is_same, visibility_number, display_number}

-- the keywords of a place
visibility_at : ℕ → Visibility
visibility_at n = (if n == 0 then Visible else if n == 1 then Hidden else Collapse)

visibility_back : (v : Visibility) → visibility_at (visibility_number v) ≡ v
unfolding visibility_at
visibility_back Visible = refl
visibility_back Hidden = refl
visibility_back Collapse = refl

display_at : ℕ → Display
display_at n =
    (if n == 0 then display.Nothing else if n == 1 then display.Block else if n == 2 then display.Inline else if n == 3 then display.InlineBlock
    else if n == 4 then display.FlowRoot else if n == 5 then display.ListItem else if n == 6 then display.Flex else if n == 7 then display.InlineFlex
    else if n == 8 then display.Grid else if n == 9 then display.InlineGrid else if n == 10 then display.Table else display.Contents)

display_back : (d : Display) → display_at (display_number d) ≡ d
unfolding display_at
display_back display.Nothing = refl
display_back display.Block = refl
display_back display.Inline = refl
display_back display.InlineBlock = refl
display_back display.FlowRoot = refl
display_back display.ListItem = refl
display_back display.Flex = refl
display_back display.InlineFlex = refl
display_back display.Grid = refl
display_back display.InlineGrid = refl
display_back display.Table = refl
display_back display.Contents = refl

-- places tell keywords apart, where each place has its keyword
by_number : {T : Type 0} (number : T → ℕ) (at : ℕ → T) → ((x : T) → at (number x) ≡ x) → (x y : T) → Decides (number x == number y) (x ≡ y)
by_number number at back x y =
    Decides-like (number x == number y) (λ e. sym (back x) ∙ ap at e ∙ back y) (λ e. ap number e) (Decides-eqb (number x) (number y))

abbrev fix : ℤ → Fix
fix v = record { 0 = v }

fix_tells : (m n : Fix) → Decides (int_eq m.0 n.0) (m ≡ n)
fix_tells m n = Decides-like (int_eq m.0 n.0) (ap fix) (ap (λ (v : Fix). v.0)) (Decides-int_eq m.0 n.0)

pub same_tells : (a b : Value) → Decides (is_same a b) (a ≡ b)
same_tells (value.Number m) (value.Number n) = Decides-like _ (λ e. cc) (λ e. cc) (fix_tells m n)
same_tells (value.Length px pct) (value.Length px' pct') =
    Decides-like _ (λ (e, f). cc) (λ e. (cc, cc)) (Decides-and _ _ (fix_tells px px') (fix_tells pct pct'))
same_tells value.Auto value.Auto = (λ _. refl, λ _. refl)
same_tells (value.Int i) (value.Int j) = Decides-like _ (λ e. cc) (λ e. cc) (Decides-int_eq i j)
same_tells (value.Color r g b a) (value.Color r' g' b' a') =
    Decides-like _ (λ (((e, f), g), h). cc) (λ e. (((cc, cc), cc), cc))
    (Decides-and _ _ (Decides-and _ _ (Decides-and _ _ (Decides-eqb r r') (Decides-eqb g g')) (Decides-eqb b b')) (fix_tells a a'))
same_tells (value.Angle m) (value.Angle n) = Decides-like _ (λ e. cc) (λ e. cc) (fix_tells m n)
same_tells (value.Pair x xp y yp) (value.Pair x' xp' y' yp') =
    Decides-like _ (λ (((e, f), g), h). cc) (λ e. (((cc, cc), cc), cc))
    (Decides-and _ _ (Decides-and _ _ (Decides-and _ _ (fix_tells x x') (fix_tells xp xp')) (fix_tells y y')) (fix_tells yp yp'))
same_tells value.Absent value.Absent = (λ _. refl, λ _. refl)
same_tells (value.Visible v) (value.Visible w) =
    Decides-like _ (λ e. cc) (λ e. cc) (by_number visibility_number visibility_at visibility_back v w)
same_tells (value.Display d) (value.Display e) =
    Decides-like _ (λ e. cc) (λ e. cc) (by_number display_number display_at display_back d e)
same_tells _ _ = (λ e. absurd (false≢true e), λ e. cc)

pub same_as_itself : (a : Value) → is_same a a ≡ true
same_as_itself a = (same_tells a a).1 refl

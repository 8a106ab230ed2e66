-- Lists of levels.
use Rattle.std.proofs.Common.{◌≡◌, ℕ, zero, suc, ◌<◌, ◌≤◌, refl, ap, arith, List, ◌∷◌, [], ◌++◌, length, get_or, set}
use Rattle.std.specs.declared.vec.Vec.{Vec}
use Rattle.work_split.specs.Levels.{level_at}

module _ {X A : Type 0} where
  pub level_at-set : (vs : List (Vec X A)) (d : ℕ) (v : Vec X A) → d < length vs → level_at (set vs d v) d ≡ v.items
  level_at-set [] d v within = absurd (omega (arith, within))
  level_at-set (w ∷ vs) zero v within = refl
  level_at-set (w ∷ vs) (suc d) v within = level_at-set vs d v (omega (arith, within))

  pub level_at-set_other : (vs : List (Vec X A)) (d e : ℕ) (v : Vec X A) → (e ≡ d → ⊥) → level_at (set vs d v) e ≡ level_at vs e
  level_at-set_other [] d e v other = refl
  level_at-set_other (w ∷ vs) zero zero v other = absurd (other refl)
  level_at-set_other (w ∷ vs) zero (suc e) v other = refl
  level_at-set_other (w ∷ vs) (suc d) zero v other = refl
  level_at-set_other (w ∷ vs) (suc d) (suc e) v other = level_at-set_other vs d e v (λ same. other (ap suc same))

  pub level_at-push : (vs : List (Vec X A)) (e : ℕ) (v : Vec X A) → v.items ≡ [] → level_at (vs ++ v ∷ []) e ≡ level_at vs e
  level_at-push [] zero v empty = empty
  level_at-push [] (suc e) v empty = refl
  level_at-push (w ∷ vs) zero v empty = refl
  level_at-push (w ∷ vs) (suc e) v empty = level_at-push vs e v empty

  pub level_at-read : (vs : List (Vec X A)) (d : ℕ) (v : Vec X A) → d < length vs → level_at vs d ≡ (get_or vs d v).items
  level_at-read [] d v within = absurd (omega (arith, within))
  level_at-read (w ∷ vs) zero v within = refl
  level_at-read (w ∷ vs) (suc d) v within = level_at-read vs d v (omega (arith, within))

  pub level_at-past : (vs : List (Vec X A)) (d : ℕ) → length vs ≤ d → level_at vs d ≡ []
  level_at-past [] d past = refl
  level_at-past (w ∷ vs) zero past = absurd (omega (arith, past))
  level_at-past (w ∷ vs) (suc d) past = level_at-past vs d (omega (arith, past))

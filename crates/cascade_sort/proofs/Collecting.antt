-- What is put together from slots has at each place what its slot gives.
use Rattle.std.proofs.Common.{◌≡◌, ◌≢◌, inl, inr, ℕ, suc, ◌+◌, ◌-◌, ◌<◌, ◌≤◌, List, [], ◌∷◌, length, get_or, refl, ◌∙◌, subst, arith}
use Rattle.std.specs.Prelude.{fold}
use Rattle.std.proofs.lemmas.Bool.{cases_eq}

-- every slot keeps the invariant, and those other than the place change nothing there
pub record ChangesAt {D S V : Type 0} (step : D → S → D) (look : D → V) (Kept : D → Type 0) (nothing : S) (n i : ℕ) (slots : List S) : Type 0 where
  pub keeps : (k : ℕ) → k < length slots → (d : D) → Kept d → Kept (step d (get_or slots k nothing))
  pub others : (k : ℕ) → k < length slots → i + k ≢ n → (d : D) → Kept d → look (step d (get_or slots k nothing)) ≡ look d

changes_after : {D S V : Type 0} {step : D → S → D} {look : D → V} {Kept : D → Type 0} {nothing : S} {n i : ℕ} {s : S} {slots : List S}
    → ChangesAt step look Kept nothing n i (s ∷ slots) → ChangesAt step look Kept nothing n (i + 1) slots
changes_after h = record {
  keeps = λ k within d. h.keeps (suc k) (omega (arith, within)) d;
  others = λ k within other d. h.others (suc k) (omega (arith, within)) (λ same. other (omega (arith, same))) d;
}

-- slots after the place change nothing there
collected_after : {D S V : Type 0} (step : D → S → D) (look : D → V) (Kept : D → Type 0) (nothing : S) (n i : ℕ) (slots : List S) (d : D)
    → ChangesAt step look Kept nothing n i slots → Kept d → n < i → look (fold step d slots) ≡ look d
collected_after step look Kept nothing n i [] d h kept past = refl
collected_after step look Kept nothing n i (s ∷ slots) d h kept past =
    collected_after step look Kept nothing n (i + 1) slots (step d s) (changes_after h) (h.keeps 0 (omega arith) d kept) (omega (arith, past))
    ∙ h.others 0 (omega arith) (λ same. omega (arith, past, same)) d kept

-- the slot of the place gives what stands there
pub collected_at : {D S V : Type 0} (step : D → S → D) (look : D → V) (Kept : D → Type 0) (nothing : S) (n i : ℕ) (slots : List S) (d : D) (v : V)
    → ChangesAt step look Kept nothing n i slots → Kept d → i ≤ n → n < i + length slots
    → ((e : D) → Kept e → look e ≡ look d → look (step e (get_or slots (n - i) nothing)) ≡ v)
    → look (fold step d slots) ≡ v
collected_at step look Kept nothing n i [] d v h kept low high here = absurd (omega arith)
collected_at {D} {S} {V} step look Kept nothing n i (s ∷ slots) d v h kept low high here =
    elim (cases_eq i n) [
      | inl same ↦ (
          let begins : n - i ≡ 0 = omega (arith, same) in
          let first : look (step d s) ≡ v = subst (λ (k : ℕ). look (step d (get_or (s ∷ slots) k nothing)) ≡ v) begins (here d kept refl) in
          collected_after step look Kept nothing n (i + 1) slots (step d s) (changes_after h) (h.keeps 0 (omega arith) d kept) (omega (arith, same)) ∙ first)
      | inr other ↦ (
          let before : look (step d s) ≡ look d = h.others 0 (omega arith) (λ same. other (omega (arith, same))) d kept in
          let next : n - i ≡ suc (n - (i + 1)) = omega (arith, low, other) in
          collected_at step look Kept nothing n (i + 1) slots (step d s) v (changes_after h) (h.keeps 0 (omega arith) d kept) (omega (arith, low, other)) (omega (arith, high))
          (λ e is_kept is. subst (λ (k : ℕ). look (step e (get_or (s ∷ slots) k nothing)) ≡ v) next (here e is_kept (is ∙ before))))
    ]

-- where every slot keeps the invariant, all keep it
pub all_keep : {D S : Type 0} (step : D → S → D) (Kept : D → Type 0) (nothing : S) (slots : List S) (d : D)
    → ((k : ℕ) → k < length slots → (e : D) → Kept e → Kept (step e (get_or slots k nothing))) → Kept d → Kept (fold step d slots)
all_keep step Kept nothing [] d h kept = kept
all_keep step Kept nothing (s ∷ slots) d h kept =
    all_keep step Kept nothing slots (step d s) (λ k within. h (suc k) (omega (arith, within))) (h 0 (omega arith) d kept)

-- Tables of keywords.
use Rattle.std.proofs.Common.{◌≡◌, ℕ, sym, subst, List, ◌∷◌, [], cond, Bool, true, false, Option, Some}
use Rattle.std.specs.List.{list_all}
use Rattle.std.specs.Str.{bytes_eq, str_to_ascii_lowercase}
use Rattle.std.proofs.lemmas.Bool.{and_parts}
use Rattle.std.proofs.lemmas.Slice.Eq.{bytes_eq-Decides}
use Rattle.token_parts.specs.Keywords.{is_keyword, look_up}

-- a word that is one keyword is no other
pub only_one : (w a b : List ℕ) → is_keyword w a ≡ true → bytes_eq (str_to_ascii_lowercase a) (str_to_ascii_lowercase b) ≡ false → is_keyword w b ≡ false
only_one w a b is other = subst (λ (l : List ℕ). bytes_eq l (str_to_ascii_lowercase b) ≡ false) (sym ((bytes_eq-Decides _ _).0 is)) other

-- what holds of each row's value
abbrev pub AllRows : {V : Type 0} → (V → Type 0) → List (List ℕ × V) → Type 0
AllRows P [] = Unit {0}
AllRows P (row ∷ rows) = P row.1 × AllRows P rows

chosen_row : {V : Type 0} (P : V → Type 0) (b : Bool) (x : V) (o : Option V) (v : V) → P x → (o ≡ Some v → P v) → cond b (Some x) o ≡ Some v → P v
chosen_row P true x o v p f h = let e : x ≡ v = cc in subst P e p
chosen_row P false x o v p f h = f h

-- holds of the value that is found
pub of_row : {V : Type 0} (P : V → Type 0) (rows : List (List ℕ × V)) (w : List ℕ) (v : V) → AllRows P rows → look_up rows w ≡ Some v → P v
of_row P [] w v all h = absurd (cc)
of_row P (row ∷ rows) w v all h = chosen_row P (is_keyword w row.0) row.1 (look_up rows w) v all.0 (of_row P rows w v all.1) h

-- a test that each row's value passes is passed by the value that is found
pub row_passes : {V : Type 0} (test : V → Bool) (rows : List (List ℕ × V)) (w : List ℕ) (v : V) → list_all (λ row. test row.1) rows ≡ true → look_up rows w ≡ Some v
    → test v ≡ true
row_passes test [] w v all h = absurd (cc)
row_passes test (row ∷ rows) w v all h =
    let parts = and_parts (test row.1) _ all in
    chosen_row (λ x. test x ≡ true) (is_keyword w row.0) row.1 (look_up rows w) v parts.0 (row_passes test rows w v parts.1) h

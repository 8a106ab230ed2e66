-- Lists that have an item for each property or each timing list.
use Rattle.std.proofs.Common.{◌≡◌, ℕ, zero, suc, ◌+◌, ◌<◌, refl, sym, ◌∙◌, subst, arith, zero-add}
use Rattle.std.specs.Prelude.{List, [], ◌∷◌, length, set, slice_index_or}
use Rattle.std.proofs.lemmas.List.{get_or-set_other, get_or-set_same}
use borrow.Author.Count.{below_more}
use Rattle.std.proofs.lemmas.Option.{slice_get-get_or}
use Rattle.value_types.specs.ListValues.{timing_lists}
use Rattle.value_types.proofs.PropertyLemmas.{counts_up, number_at}
use Rattle.value_types.specs.Properties.{all_properties, number_of}
use Rattle.value_types.specs.declared.list_value.ListName.{ListName}
use Rattle.value_types.specs.declared.list_value.ListName.TheVariants.{TransitionProperty}
use Rattle.value_types.specs.declared.property.PropertyId.{PropertyId}
use Rattle.value_types.specs.declared.property.PropertyId.TheVariants.{BackgroundColor}
use Rattle.computed_style.specs.Winners.{place_of}
use Rattle.computed_style.proofs.Tables.{number_small, place_small, same_list, same_property}

-- lists of one length with the same items are the same
pub same_by_index : {A : Type 0} (xs ys : List A) (d : A) → length xs ≡ length ys → ((i : ℕ) → i < length xs → slice_index_or xs i d ≡ slice_index_or ys i d)
    → xs ≡ ys
same_by_index [] [] d count each = refl
same_by_index [] (y ∷ ys) d count each = absurd (omega arith)
same_by_index (x ∷ xs) [] d count each = absurd (omega arith)
same_by_index (x ∷ xs) (y ∷ ys) d count each =
    let head : x ≡ y = each 0 (omega arith) in
    let tail : xs ≡ ys = same_by_index xs ys d (omega arith) (λ i l. each (suc i) (omega arith)) in
    cc

-- what holds of the items below one and of a new one there
pub set_one_more : {A : Type 0} (P : ℕ → A → Type 0) (xs : List A) (i : ℕ) (x d : A) → length xs ≡ 24 → i < 24
    → ((k : ℕ) → k < i → P k (slice_index_or xs k d)) → P i x → (k : ℕ) → k < i + 1 → P k (slice_index_or (set xs i x) k d)
set_one_more P xs i x d count small below here =
    below_more (λ k. P k (slice_index_or (set xs i x) k d)) i
    (λ k less. subst (P k) (sym (get_or-set_other xs i k x d (λ e. omega arith))) (below k less))
    (subst (P i) (sym (get_or-set_same xs i x d (rw count small))) here)

-- the property of a number
unfoldable pub property_at : ℕ → PropertyId
property_at i = slice_index_or all_properties i BackgroundColor

pub number-property_at : (i : ℕ) → i < 24 → number_of (property_at i) ≡ i
unfolding property_at
number-property_at i small = number_at 0 all_properties i (property_at i) counts_up (slice_get-get_or all_properties i BackgroundColor small) ∙ zero-add i

-- lists with an item for each property are the same where those of each property are
pub same_by_property : {A : Type 0} (xs ys : List A) (d : A) → length xs ≡ 24 → length ys ≡ 24
    → ((p : PropertyId) → slice_index_or xs (number_of p) d ≡ slice_index_or ys (number_of p) d) → xs ≡ ys
same_by_property xs ys d cx cy each =
    same_by_index xs ys d (cx ∙ sym cy)
    (λ i l. subst (λ (n : ℕ). slice_index_or xs n d ≡ slice_index_or ys n d) (number-property_at i (rw (← cx) l)) (each (property_at i)))

-- the timing list of a place
unfoldable pub list_at : ℕ → ListName
list_at i = slice_index_or timing_lists i TransitionProperty

pub place-list_at : (i : ℕ) → i < 12 → place_of (list_at i) ≡ i
unfolding list_at
place-list_at zero small = refl
place-list_at (suc zero) small = refl
place-list_at (suc (suc zero)) small = refl
place-list_at (suc (suc (suc zero))) small = refl
place-list_at (suc (suc (suc (suc zero)))) small = refl
place-list_at (suc (suc (suc (suc (suc zero))))) small = refl
place-list_at (suc (suc (suc (suc (suc (suc zero)))))) small = refl
place-list_at (suc (suc (suc (suc (suc (suc (suc zero))))))) small = refl
place-list_at (suc (suc (suc (suc (suc (suc (suc (suc zero)))))))) small = refl
place-list_at (suc (suc (suc (suc (suc (suc (suc (suc (suc zero))))))))) small = refl
place-list_at (suc (suc (suc (suc (suc (suc (suc (suc (suc (suc zero)))))))))) small = refl
place-list_at (suc (suc (suc (suc (suc (suc (suc (suc (suc (suc (suc zero))))))))))) small = refl
place-list_at (suc (suc (suc (suc (suc (suc (suc (suc (suc (suc (suc (suc i)))))))))))) small = absurd (omega arith)

-- lists with an item for each timing list are the same where those of each list are
pub same_by_list : {A : Type 0} (xs ys : List A) (d : A) → length xs ≡ 12 → length ys ≡ 12
    → ((name : ListName) → slice_index_or xs (place_of name) d ≡ slice_index_or ys (place_of name) d) → xs ≡ ys
same_by_list xs ys d cx cy each =
    same_by_index xs ys d (cx ∙ sym cy)
    (λ i l. subst (λ (n : ℕ). slice_index_or xs n d ≡ slice_index_or ys n d) (place-list_at i (rw (← cx) l)) (each (list_at i)))

-- what holds of the property of a property's number holds of the property
pub every_property : (P : PropertyId → Type 0) (p : PropertyId) → P (property_at (number_of p)) → P p
every_property P p h = subst P (same_property (property_at (number_of p)) p (number-property_at (number_of p) (number_small p))) h

-- and so for timing lists
pub every_list : (P : ListName → Type 0) (name : ListName) → P (list_at (place_of name)) → P name
every_list P name h = subst P (same_list (list_at (place_of name)) name (place-list_at (place_of name) (place_small name))) h

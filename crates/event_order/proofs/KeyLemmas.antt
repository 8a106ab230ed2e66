-- The order of keys.
use Rattle.std.proofs.Common.{◌≡◌, ℕ, ap, sym, ◌∙◌, refl}
use Rattle.std.specs.Prelude.{ℤ}
use Rattle.std.specs.Cmp.{IsTotalOrder}
use Rattle.std.specs.Ordering.{int_cmp, nat_cmp, ordering_then}
use Rattle.std.specs.declared.cmp.Ordering.{Ordering}
use Rattle.std.specs.declared.cmp.Ordering.TheVariants.{Less, Equal, Greater}
use Rattle.std.proofs.lemmas.Cmp.{int_cmp_total, nat_cmp_total, on_total, then_total}
use Rattle.std.proofs.lemmas.Map.Lookups.{exact_signed, exact_unsigned}
use Rattle.style_data.specs.Events.{key_order}
use Rattle.style_data.specs.declared.event.Key.{Key}

-- keys are in a total order
pub keys_total : IsTotalOrder key_order
keys_total =
    then_total (on_total (λ k. k.time.0) int_cmp_total)
    (then_total (on_total (λ k. k.class) nat_cmp_total)
    (then_total (on_total (λ k. k.first) nat_cmp_total)
    (then_total (on_total (λ k. k.second) nat_cmp_total)
    (then_total (on_total (λ k. k.third) nat_cmp_total) (on_total (λ k. k.kind) nat_cmp_total)))))

-- of two orders, one after the other, both tie where the whole does
both_tie : (a b : Ordering) → ordering_then a b ≡ Equal → (a ≡ Equal) × (b ≡ Equal)
both_tie Less b e = absurd (cc)
both_tie Equal b e = (refl, e)
both_tie Greater b e = absurd (cc)

-- the key of these parts
key_of : ℤ → ℕ → ℕ → ℕ → ℕ → ℕ → Key
key_of time class first second third kind = record { time = record { 0 = time }; class = class; first = first; second = second; third = third; kind = kind }

itself : (k : Key) → k ≡ key_of k.time.0 k.class k.first k.second k.third k.kind
unfolding key_of
itself k = refl

-- keys that tie are the same
pub keys_exact : (x y : Key) → key_order x y ≡ Equal → x ≡ y
keys_exact x y e =
    let t = both_tie (int_cmp x.time.0 y.time.0) _ e in
    let a = both_tie (nat_cmp x.class y.class) _ t.1 in
    let b = both_tie (nat_cmp x.first y.first) _ a.1 in
    let c = both_tie (nat_cmp x.second y.second) _ b.1 in
    let d = both_tie (nat_cmp x.third y.third) _ c.1 in
    itself x ∙ ap (λ n. key_of n x.class x.first x.second x.third x.kind) (exact_signed x.time.0 y.time.0 t.0)
    ∙ ap (λ n. key_of y.time.0 n x.first x.second x.third x.kind) (exact_unsigned x.class y.class a.0)
    ∙ ap (λ n. key_of y.time.0 y.class n x.second x.third x.kind) (exact_unsigned x.first y.first b.0)
    ∙ ap (λ n. key_of y.time.0 y.class y.first n x.third x.kind) (exact_unsigned x.second y.second c.0)
    ∙ ap (λ n. key_of y.time.0 y.class y.first y.second n x.kind) (exact_unsigned x.third y.third d.0)
    ∙ ap (key_of y.time.0 y.class y.first y.second y.third) (exact_unsigned x.kind y.kind d.1) ∙ sym (itself y)

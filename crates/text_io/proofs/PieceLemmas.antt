-- Pieces and causes over several calls.
use Rattle.std.proofs.Common.{◌≡◌, ℕ, ◌+◌, ◌-◌, ◌≤◌, List, ◌++◌, length, take, drop, Option, sym, ap, ◌∙◌, subst, inl, inr, ◌⊎◌, ⊎_elim, arith, take-add}
use Rattle.std.proofs.KnownBytes.{Appends-trans}
use Rattle.std.proofs.lemmas.List.{take_rest}
use Rattle.std.specs.Io.KnownBytes.{Appends}
use Rattle.text_io.specs.Causes.{Rose, RoseOrFull}

-- what rose in a later call rose in the whole
pub Rose-later : (a b c : ℕ) → a ≤ b → Rose b c → Rose a c
Rose-later a b c h r = omega arith

-- what rose in an earlier call rose in the whole
pub Rose-earlier : (a b c : ℕ) → Rose a b → b ≤ c → Rose a c
Rose-earlier a b c r h = omega arith

-- the same of a count that may stand at its end
pub RoseOrFull-later : (a b c : ℕ) → a ≤ b → RoseOrFull b c → RoseOrFull a c
RoseOrFull-later a b c h r = omega arith

pub RoseOrFull-earlier : (a b c : ℕ) → RoseOrFull a b → b ≤ c → RoseOrFull a c
RoseOrFull-earlier a b c r h = omega arith

-- the two causes of a piece that was not written whole, from a later call to the whole
pub causes_later : (a b c x y z : ℕ) → a ≤ b → x ≤ y → Rose b c ⊎ RoseOrFull y z → Rose a c ⊎ RoseOrFull x z
causes_later a b c x y z h k cause =
    ⊎_elim (λ (r : Rose b c). inl (Rose-later a b c h r)) (λ (r : RoseOrFull y z). inr (RoseOrFull-later x y z k r)) cause

-- bytes that grow twice
pub Appends-twice : (a b c : Option (List ℕ)) (bs cs : List ℕ) → Appends a b bs → Appends b c cs → Appends a c (bs ++ cs)
Appends-twice a b c bs cs p q = Appends-trans a b c bs cs p q

-- one more write of a piece
pub Appends-piece : (a b c : Option (List ℕ)) (bytes : List ℕ) (done n : ℕ) → Appends a b (take done bytes)
    → Appends b c (take n (take (length bytes - done) (drop done bytes))) → Appends a c (take (done + n) bytes)
Appends-piece a b c bytes done n p q =
    let rest : take n (take (length bytes - done) (drop done bytes)) ≡ take n (drop done bytes) = ap (take n) (take_rest bytes done) in
    subst (Appends a c) (ap (λ (xs : List ℕ). take done bytes ++ xs) rest ∙ sym (take-add done n bytes)) (Appends-twice a b c (take done bytes) _ p q)

-- The digits of a hexadecimal colour.
use Rattle.std.proofs.Common.{◌≡◌, ℕ, zero, suc, ◌<◌, List, [], ◌∷◌, length, get_or, ◌&&◌, Bool, true, false, IsTrue, arith, refl}
use Rattle.std.specs.List.{list_all}
use Rattle.std.specs.Char.{is_ascii_hexdigit}

both_true : (a b : Bool) → a && b ≡ true → (a ≡ true) × (b ≡ true)
both_true true b h = (refl, h)
both_true false b h = absurd (cc)

pub hex_at : (text : List ℕ) (i : ℕ) → IsTrue (list_all is_ascii_hexdigit text) → i < length text → IsTrue (is_ascii_hexdigit (get_or text i 0))
hex_at [] i all h = absurd (omega arith)
hex_at (c ∷ cs) zero all h = (both_true (is_ascii_hexdigit c) (list_all is_ascii_hexdigit cs) all).0
hex_at (c ∷ cs) (suc i) all h = hex_at cs i (both_true (is_ascii_hexdigit c) (list_all is_ascii_hexdigit cs) all).1 (omega arith)

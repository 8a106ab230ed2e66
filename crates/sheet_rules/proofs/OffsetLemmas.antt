-- How offsets are read one by one.
use Rattle.std.proofs.Common.{◌≡◌, ℕ, ◌+◌, ◌<◌, ◌≤◌, ◌++◌, List, [], ◌∷◌, append_assoc, refl, ap, sym, ◌∙◌, Bool, true, false, map, drop, length, get_or, add-one, arith}
use Rattle.std.proofs.Math.Seq.{drop-cons}
use Rattle.std.proofs.lemmas.List.{drop_all}
use Rattle.std.specs.Prelude.{Option, None, Some}
use Rattle.fix_num.specs.declared.units.Bill.{Bill}
use Rattle.token_parts.specs.Parts.{TokenPart, token_part}
use Rattle.token_parts.specs.declared.part.Part.{Part}
use Rattle.sheet_rules.specs.Frames.{is_comma, offset_before, offset_of, offsets_of}

-- the offsets so far, and then those of the rest
abbrev pub joined : List Bill → Option (List Bill) → Option (List Bill)
joined front None = None
joined front (Some xs) = Some (front ++ xs)

-- nothing so far
pub joined_none : (found : Option (List Bill)) → joined [] found ≡ found
joined_none None = refl
joined_none (Some xs) = refl

pub no_offset : offsets_of [] ≡ None
unfolding offsets_of
no_offset = refl

-- a part that is no offset
pub bad_offset : (front : List Bill) (p : TokenPart) (ps : List TokenPart) → offset_of p ≡ None → joined front (offsets_of (p ∷ ps)) ≡ None
unfolding offsets_of
bad_offset front p [] e = rw e refl
bad_offset front p (q ∷ ps) e = rw e refl

-- the last offset
pub last_offset : (front : List Bill) (p : TokenPart) (x : Bill) → offset_of p ≡ Some x → joined front (offsets_of (p ∷ [])) ≡ Some (front ++ x ∷ [])
unfolding offsets_of
last_offset front p x e = rw e refl

-- a part in the place of a comma
pub bad_comma : (front : List Bill) (p q : TokenPart) (ps : List TokenPart) → is_comma q ≡ false → joined front (offsets_of (p ∷ q ∷ ps)) ≡ None
unfolding offsets_of
bad_comma front p q ps e = rw e (none (offset_of p)) where
  none : (o : Option Bill) → joined front (offset_before o None) ≡ None
  none None = refl
  none (Some x) = refl

-- an offset and a comma
pub next_offset : (front : List Bill) (p q : TokenPart) (ps : List TokenPart) (x : Bill) → offset_of p ≡ Some x → is_comma q ≡ true
    → joined front (offsets_of (p ∷ q ∷ ps)) ≡ joined (front ++ x ∷ []) (offsets_of ps)
unfolding offsets_of
next_offset front p q ps x e comma = rw (e, comma) (both (offsets_of ps)) where
  both : (o : Option (List Bill)) → joined front (offset_before (Some x) o) ≡ joined (front ++ x ∷ []) o
  both None = refl
  both (Some xs) = ap Some (sym (append_assoc front (x ∷ []) xs))

-- ---- over the parts of the code

at_part : (parts : List Part) (at : ℕ) (blank : Part) → at < length parts → map token_part (drop at parts) ≡ token_part (get_or parts at blank) ∷ map token_part (drop (at + 1) parts)
at_part parts at blank h = ap (map token_part) (drop-cons parts at blank h ∙ ap (λ n. get_or parts at blank ∷ drop n parts) (sym (add-one at)))

two_parts : (parts : List Part) (at : ℕ) (blank other : Part) → at < length parts → at + 1 < length parts
    → map token_part (drop at parts) ≡ token_part (get_or parts at blank) ∷ token_part (get_or parts (at + 1) other) ∷ map token_part (drop (at + 1 + 1) parts)
two_parts parts at blank other h k = at_part parts at blank h ∙ ap (λ ps. token_part (get_or parts at blank) ∷ ps) (at_part parts (at + 1) other k)

-- past the last part
pub at_the_end : (front : List Bill) (parts : List Part) (at : ℕ) → length parts ≤ at → joined front (offsets_of (map token_part (drop at parts))) ≡ None
at_the_end front parts at h = ap (λ (ps : List Part). joined front (offsets_of (map token_part ps))) (drop_all at parts h) ∙ ap (joined front) no_offset

-- no offset at a place
pub no_offset_at : (front : List Bill) (parts : List Part) (at : ℕ) (blank : Part) (o : Option Bill) → at < length parts
    → o ≡ offset_of (token_part (get_or parts at blank)) → o ≡ None → joined front (offsets_of (map token_part (drop at parts))) ≡ None
no_offset_at front parts at blank o h is none =
    ap (λ ps. joined front (offsets_of ps)) (at_part parts at blank h) ∙ bad_offset front (token_part (get_or parts at blank)) (map token_part (drop (at + 1) parts)) (sym is ∙ none)

-- the last offset at a place
pub last_offset_at : (front : List Bill) (parts : List Part) (at : ℕ) (blank : Part) (o : Option Bill) (x : Bill) → at < length parts → at + 1 ≡ length parts
    → o ≡ offset_of (token_part (get_or parts at blank)) → o ≡ Some x → joined front (offsets_of (map token_part (drop at parts))) ≡ Some (front ++ x ∷ [])
last_offset_at front parts at blank o x h last is some =
    let none : map token_part (drop (at + 1) parts) ≡ [] = ap (map token_part) (drop_all (at + 1) parts (omega (arith, last))) in
    ap (λ ps. joined front (offsets_of ps)) (at_part parts at blank h ∙ ap (λ ps. token_part (get_or parts at blank) ∷ ps) none)
    ∙ last_offset front (token_part (get_or parts at blank)) x (sym is ∙ some)

-- no comma after an offset
pub no_comma_at : (front : List Bill) (parts : List Part) (at : ℕ) (blank other : Part) (o : Option Bill) (b : Bool) → at < length parts → at + 1 < length parts
    → o ≡ offset_of (token_part (get_or parts at blank)) → b ≡ is_comma (token_part (get_or parts (at + 1) other)) → b ≡ false → joined front (offsets_of (map token_part (drop at parts))) ≡ None
no_comma_at front parts at blank other o b h k given is false_b =
    ap (λ ps. joined front (offsets_of ps)) (two_parts parts at blank other h k)
    ∙ bad_comma front (token_part (get_or parts at blank)) (token_part (get_or parts (at + 1) other)) (map token_part (drop (at + 1 + 1) parts)) (sym is ∙ false_b)

-- an offset and a comma at a place
pub next_offset_at : (front : List Bill) (parts : List Part) (at : ℕ) (blank other : Part) (o : Option Bill) (x : Bill) (b : Bool) → at < length parts → at + 1 < length parts
    → o ≡ offset_of (token_part (get_or parts at blank)) → o ≡ Some x → b ≡ is_comma (token_part (get_or parts (at + 1) other)) → b ≡ true
    → joined (front ++ x ∷ []) (offsets_of (map token_part (drop (at + 2) parts))) ≡ joined front (offsets_of (map token_part (drop at parts)))
next_offset_at front parts at blank other o x b h k is some comma true_b =
    let two : at + 2 ≡ at + 1 + 1 = omega arith in
    ap (λ n. joined (front ++ x ∷ []) (offsets_of (map token_part (drop n parts)))) two
    ∙ sym (next_offset front (token_part (get_or parts at blank)) (token_part (get_or parts (at + 1) other)) (map token_part (drop (at + 1 + 1) parts)) x (sym is ∙ some) (sym comma ∙ true_b))
    ∙ ap (λ ps. joined front (offsets_of ps)) (sym (two_parts parts at blank other h k))

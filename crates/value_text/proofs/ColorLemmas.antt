-- The reading of colours.
use Rattle.std.proofs.Common.{◌≡◌, ℕ, refl, ap, subst, sym, ◌∙◌, List, ◌∷◌, [], cond, Bool, true, false, Option, Some, None, Result, Ok, Err, pos, ◌⊎◌, inl, inr}
use Rattle.fix_num.specs.declared.units.Fix.{Fix}
use Rattle.token_parts.specs.Parts.{TokenPart, Ident, Function, Hash, Number, Comma, Close}
use Rattle.token_parts.specs.declared.fault.ValueFault.{ValueFault}
use Rattle.value_types.specs.declared.range.ValueRange.TheVariants.{ZeroToOne}
use Rattle.value_text.specs.declared.color.Rgba.{Rgba}
use Rattle.value_text.specs.Colors.{IsAlphaText, IsColor, is_color_function}
use Rattle.value_text.specs.Colors as colors
use Rattle.token_parts.specs.Steps.{◌>>=◌, after_comma}
use Rattle.value_text.specs.ColorReading.{alpha_at, arguments_of, channel_at, color_of, option_of}
use Rattle.value_text.specs.NumberReading.{channel_of, number_in}
use Rattle.value_text.specs.Numbers.{IsChannel}
use Rattle.value_text.proofs.IntegerLemmas.{channel_given, channel_was}
use Rattle.value_text.proofs.NumberLemmas.{number_is}

-- ---- a colour is found

alpha_found : (text : List ℕ) (a : Fix) → IsAlphaText text a → option_of (number_in ZeroToOne text) ≡ Some a
alpha_found text a h = ap option_of ((number_is ZeroToOne text).given a h)

arguments_found : (r g b : List ℕ) (c : Rgba) (rest : List TokenPart) → IsChannel r c.r → IsChannel g c.g → IsChannel b c.b → alpha_at rest ≡ Some c.a
    → arguments_of (Number r ∷ Comma ∷ Number g ∷ Comma ∷ Number b ∷ rest) ≡ Some c
unfolding arguments_of
arguments_found r g b c rest x y z a = rw (channel_given r c.r x, channel_given g c.g y, channel_given b c.b z, a) refl

pub color_found : (parts : List TokenPart) (c : Rgba) → IsColor parts c → color_of parts ≡ Some c
color_found parts c (colors.named w d e) = e
color_found parts c (colors.hexadecimal w d e) = e
color_found parts c (colors.channels name r g b d f x y z a) = rw f (arguments_found r g b d (Close ∷ []) x y z (ap Some (sym a)))
color_found parts c (colors.channels_and_alpha name r g b a d f x y z h) = rw f (arguments_found r g b d (Comma ∷ Number a ∷ Close ∷ []) x y z (alpha_found a d.a h))

-- ---- what is found is one

bound : {A B : Type 0} (o : Option A) (f : A → Option B) (y : B) → o >>= f ≡ Some y → (x : A) × (o ≡ Some x) × (f x ≡ Some y)
bound None f y h = absurd (cc)
bound (Some x) f y h = (x, refl, h)

channel_parts : (parts : List TokenPart) (x : ℕ × List TokenPart) → channel_at parts ≡ Some x → (text : List ℕ) × IsChannel text x.0 × (parts ≡ Number text ∷ x.1)
channel_parts (Number text ∷ ps) x h =
    let step = bound (channel_of text) (λ n. Some (n, ps)) x h in
    let same : (step.0, ps) ≡ x = cc in
    (text, subst (λ (y : ℕ × List TokenPart). IsChannel text y.0) same (channel_was text step.0 step.1), ap (λ (y : ℕ × List TokenPart). Number text ∷ y.1) same)
channel_parts parts x h = absurd (cc)

comma_parts : (parts rest : List TokenPart) → after_comma parts ≡ Some rest → parts ≡ Comma ∷ rest
comma_parts (Comma ∷ ps) rest h = let same : ps ≡ rest = cc in ap (λ l. Comma ∷ l) same
comma_parts parts rest h = absurd (cc)

found_was : (res : Result Fix ValueFault) (a : Fix) → option_of res ≡ Some a → res ≡ Ok a
found_was (Ok x) a h = let same : x ≡ a = cc in ap Ok same
found_was (Err fault) a h = absurd (cc)

alpha_parts : (parts : List TokenPart) (a : Fix) → alpha_at parts ≡ Some a
    → ((parts ≡ Close ∷ []) × (a ≡ record { 0 = pos 1000000 })) ⊎ ((text : List ℕ) × IsAlphaText text a × (parts ≡ Comma ∷ Number text ∷ Close ∷ []))
alpha_parts (Close ∷ []) a h = let same : a ≡ record { 0 = pos 1000000 } = cc in inl (refl, same)
alpha_parts (Comma ∷ Number text ∷ Close ∷ []) a h = inr (text, (number_is ZeroToOne text).found a (found_was (number_in ZeroToOne text) a h), refl)
alpha_parts parts a h = absurd (cc)

with_alpha : (name r g b : List ℕ) (c : Rgba) (rest : List TokenPart) → is_color_function name ≡ true → IsChannel r c.r → IsChannel g c.g → IsChannel b c.b
    → ((rest ≡ Close ∷ []) × (c.a ≡ record { 0 = pos 1000000 })) ⊎ ((text : List ℕ) × IsAlphaText text c.a × (rest ≡ Comma ∷ Number text ∷ Close ∷ []))
    → IsColor (Function name ∷ Number r ∷ Comma ∷ Number g ∷ Comma ∷ Number b ∷ rest) c
with_alpha name r g b c rest f x y z (inl h) =
    subst (λ (l : List TokenPart). IsColor (Function name ∷ Number r ∷ Comma ∷ Number g ∷ Comma ∷ Number b ∷ l) c) (sym h.0) (colors.channels name r g b c f x y z h.1)
with_alpha name r g b c rest f x y z (inr h) =
    subst (λ (l : List TokenPart). IsColor (Function name ∷ Number r ∷ Comma ∷ Number g ∷ Comma ∷ Number b ∷ l) c) (sym h.2) (colors.channels_and_alpha name r g b h.0 c f x y z h.1)

same_value : (x y : Rgba) → Some x ≡ Some y → x ≡ y
same_value x y h = cc

-- the arguments of a colour's function
arguments_was : (name : List ℕ) (parts : List TokenPart) (c : Rgba) → is_color_function name ≡ true → arguments_of parts ≡ Some c → IsColor (Function name ∷ parts) c
unfolding arguments_of
arguments_was name parts c f h =
    let r = bound (channel_at parts) _ c h in
    let first = bound (after_comma r.0.1) _ c r.2 in
    let g = bound (channel_at first.0) _ c first.2 in
    let second = bound (after_comma g.0.1) _ c g.2 in
    let b = bound (channel_at second.0) _ c second.2 in
    let a = bound (alpha_at b.0.1) _ c b.2 in
    let red = channel_parts parts r.0 r.1 in
    let green = channel_parts first.0 g.0 g.1 in
    let blue = channel_parts second.0 b.0 b.1 in
    let whole : parts ≡ Number red.0 ∷ Comma ∷ Number green.0 ∷ Comma ∷ Number blue.0 ∷ b.0.1 =
    red.2 ∙ ap (λ l. Number red.0 ∷ l) (comma_parts r.0.1 first.0 first.1 ∙ ap (λ l. Comma ∷ l) (green.2
    ∙ ap (λ l. Number green.0 ∷ l) (comma_parts g.0.1 second.0 second.1 ∙ ap (λ l. Comma ∷ l) blue.2))) in
    let made : Rgba = record { r = r.0.0; g = g.0.0; b = b.0.0; a = a.0 } in
    let is : made ≡ c = same_value made c a.2 in
    subst (λ (d : Rgba). IsColor (Function name ∷ parts) d) is
    (subst (λ (l : List TokenPart). IsColor (Function name ∷ l) made) (sym whole)
    (with_alpha name red.0 green.0 blue.0 made b.0.1 f red.1 green.1 blue.1 (alpha_parts b.0.1 a.0 a.1)))

function_was : (name : List ℕ) (parts : List TokenPart) (c : Rgba) (b : Bool) → is_color_function name ≡ b → cond b (arguments_of parts) None ≡ Some c → IsColor (Function name ∷ parts) c
function_was name parts c true f h = arguments_was name parts c f h
function_was name parts c false f h = absurd (cc)

pub color_was : (parts : List TokenPart) (c : Rgba) → color_of parts ≡ Some c → IsColor parts c
color_was (Ident word ∷ []) c h = colors.named word c h
color_was (Hash digits ∷ []) c h = colors.hexadecimal digits c h
color_was (Function name ∷ ps) c h = function_was name ps c (is_color_function name) refl h
color_was parts c h = absurd (cc)

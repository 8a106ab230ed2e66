-- The lines of a text's bytes.
use Rattle.std.specs.Prelude.{◌≡◌, ◌≢◌, ℕ, List, [], ◌∷◌, ◌++◌, length, map, All, nat_le, ◌==◌, if◌then◌else◌, Option, None, Some, ⊤, ◌⊎◌}
use Rattle.std.specs.Io.BufRead.{ends_with_byte, strip_last}
use Rattle.text_io.specs.declared.limits.TheConstants.{LINE_FEED, CARRIAGE_RETURN, MAX_LINE}

-- b goes onto the first cut, and is one by itself where there is none
abbrev pub onto_first : ℕ → List (List ℕ) → List (List ℕ)
onto_first b [] = (b ∷ []) ∷ []
onto_first b (cut ∷ cuts) = (b ∷ cut) ∷ cuts

-- the bytes cut after each line feed: the last cut may have none, and an empty rest is no cut
unfoldable pub cuts_of : List ℕ → List (List ℕ)
cuts_of [] = []
cuts_of (b ∷ bs) = (if b == LINE_FEED then (b ∷ []) ∷ cuts_of bs else onto_first b (cuts_of bs))

-- the bytes of a cut before its line feed
abbrev pub before_feed : List ℕ → List ℕ
before_feed cut = strip_last LINE_FEED cut

-- a cut without its line feed, and without one carriage return directly before that line feed
abbrev pub without_ending : List ℕ → List ℕ
without_ending cut = if ends_with_byte LINE_FEED cut then strip_last CARRIAGE_RETURN (before_feed cut) else cut

-- the text of a line with this body, or None where the body has more bytes than the limit
abbrev pub limited_text : List ℕ → List ℕ → Option (List ℕ)
limited_text body text = if nat_le (length body) MAX_LINE then Some text else None

-- the text of a cut, or None where more bytes than the limit stand before its line feed
unfoldable pub text_of : List ℕ → Option (List ℕ)
text_of cut = limited_text (before_feed cut) (without_ending cut)

-- the lines of the bytes: the text of each, or None for one over the limit
unfoldable pub lines_of : List ℕ → List (Option (List ℕ))
lines_of bytes = map text_of (cuts_of bytes)

-- no byte is a line feed
abbrev pub HasNoFeed : List ℕ → Type 0
HasNoFeed bytes = All (λ b. b ≢ LINE_FEED) bytes

-- a cut that ends in a line feed and has no other
abbrev pub IsWhole : List ℕ → Type 0
IsWhole cut = (body : List ℕ) × HasNoFeed body × (cut ≡ body ++ LINE_FEED ∷ [])

-- each cut but the last is whole, and the last is whole or has bytes and no line feed
abbrev pub AreCuts : List (List ℕ) → Type 0
AreCuts [] = ⊤
AreCuts (cut ∷ []) = IsWhole cut ⊎ ((cut ≢ []) × HasNoFeed cut)
AreCuts (cut ∷ next ∷ cuts) = IsWhole cut × AreCuts (next ∷ cuts)

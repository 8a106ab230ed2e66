-- The words of a script's line. Only U+0020 is a space.
use Rattle.std.specs.Prelude.{◌≡◌, ℕ, ◌-◌, ◌<◌, ◌==◌, Bool, false, not, List, [], ◌∷◌, ◌++◌, length, take, drop, reverse, take_while, IsTrue, if◌then◌else◌}
use Rattle.std.specs.List.{list_all, onto_first}

abbrev pub is_space_byte : ℕ → Bool
is_space_byte b = b == 32

abbrev pub is_word_byte : ℕ → Bool
is_word_byte b = not (b == 32)

-- spaces and nothing else, maybe none
abbrev pub AreSpaceBytes : List ℕ → Type 0
AreSpaceBytes bytes = IsTrue (list_all is_space_byte bytes)

abbrev pub begins_with_space : List ℕ → Bool
begins_with_space [] = false
begins_with_space (b ∷ bs) = is_space_byte b

abbrev pub ends_with_space : List ℕ → Bool
ends_with_space bytes = begins_with_space (reverse bytes)

-- the line is the body with any number of spaces at both ends, and the body has none there
pub record IsTrimmed (line body : List ℕ) : Type 0 where
  pub spelled : (front : List ℕ) × (back : List ℕ) × AreSpaceBytes front × AreSpaceBytes back × (line ≡ front ++ body ++ back)
  pub front : begins_with_space body ≡ false
  pub back : ends_with_space body ≡ false

-- one byte or more, and no space among them
pub record IsSolid (word : List ℕ) : Type 0 where
  pub some : 0 < length word
  pub solid : IsTrue (list_all is_word_byte word)

-- one or more spaces, and what follows them, which begins with none; or nothing at all
pub record IsGap (gap rest : List ℕ) : Type 0 where
  pub spaces : AreSpaceBytes gap
  pub some : gap ≡ [] → rest ≡ []
  pub whole : begins_with_space rest ≡ false

-- the body is these words in order and then the text, one or more spaces between each two of them
abbrev pub AreInOrder : List ℕ → List (List ℕ) → List ℕ → Type 0
AreInOrder body [] text = body ≡ text
AreInOrder body (word ∷ words) text =
    IsSolid word × ((gap : List ℕ) × (rest : List ℕ) × (body ≡ word ++ gap ++ rest) × IsGap gap rest × AreInOrder rest words text)

-- the line begins with these words, and the rest of it is the text; spaces at both ends of the line don't count
abbrev pub HasWords : List ℕ → List (List ℕ) → List ℕ → Type 0
HasWords line words text = (body : List ℕ) × IsTrimmed line body × AreInOrder body words text

-- ---- the same as functions

-- without the spaces in front
abbrev pub without_front : List ℕ → List ℕ
without_front bytes = drop (length (take_while is_space_byte bytes)) bytes

-- without the spaces at the end
abbrev pub without_back : List ℕ → List ℕ
without_back bytes = take (length bytes - length (take_while is_space_byte (reverse bytes))) bytes

-- without the spaces at both ends
unfoldable pub trimmed : List ℕ → List ℕ
trimmed bytes = without_back (without_front bytes)

-- the first word of a text that begins with no space
abbrev pub first_word : List ℕ → List ℕ
first_word bytes = take_while is_word_byte bytes

-- what follows the first word, without the spaces between
abbrev pub after_word : List ℕ → List ℕ
after_word bytes = without_front (drop (length (first_word bytes)) bytes)

abbrev pub begins_with_word : List ℕ → Bool
begins_with_word [] = false
begins_with_word (b ∷ bs) = is_word_byte b

-- every word
abbrev pub words_of : List ℕ → List (List ℕ)
words_of [] = []
words_of (b ∷ bs) =
    if is_space_byte b then words_of bs
    else if begins_with_word bs then onto_first b (words_of bs)
    else (b ∷ []) ∷ words_of bs

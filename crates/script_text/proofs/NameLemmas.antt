-- The names of a `class` line, word by word.
use Rattle.std.proofs.Common.{◌≡◌, ℕ, ◌<◌, Bool, true, false, cond, List, [], ◌∷◌, ◌++◌, length, refl, ap, sym, ◌∙◌}
use Rattle.std.specs.Prelude.{IsTrue, ◌&&◌, Option, Some, None}
use Rattle.std.specs.List.{list_all}
use Rattle.std.proofs.lemmas.Bool.{false≢true}
use Rattle.std.proofs.lemmas.List.{append_assoc}
use Rattle.script_text.specs.Forms.{is_script_name}
use Rattle.script_text.specs.Reading.{names_of}
use Rattle.script_text.specs.Words.{after_word, begins_with_space, first_word, words_of}
use Rattle.script_text.proofs.WordLemmas.{words_first}

-- these names stand before the rest of the text
pub record Kept (text rest : List ℕ) (names : List (List ℕ)) : Type 0 where
  pub words : words_of text ≡ names ++ words_of rest
  pub named : IsTrue (list_all is_script_name names)
  pub solid : begins_with_space rest ≡ false

all_of_both : (a b c d : Bool) → (b ≡ true → c ≡ d) → (a && b) ≡ true → (a && c) ≡ d
all_of_both true b c d f h = f h
all_of_both false b c d f h = absurd (false≢true h)

all-append : (names more : List (List ℕ)) → list_all is_script_name names ≡ true → list_all is_script_name (names ++ more) ≡ list_all is_script_name more
all-append [] more h = refl
all-append (name ∷ names) more h = all_of_both (is_script_name name) _ _ _ (all-append names more) h

pub kept_more : (text rest word others : List ℕ) (names more : List (List ℕ)) → Kept text rest names → 0 < length rest
    → word ≡ first_word rest → others ≡ after_word rest → begins_with_space others ≡ false → is_script_name word ≡ true → more ≡ names ++ word ∷ [] → Kept text others more
kept_more text rest word others names more kept some w o solid named m = record {
  words =
      kept.words ∙ ap (λ ws. names ++ ws) (words_first rest kept.solid some ∙ ap (λ x. x ∷ words_of (after_word rest)) (sym w))
      ∙ sym (append_assoc names (word ∷ []) (words_of (after_word rest))) ∙ ap (λ ns. ns ++ words_of (after_word rest)) (sym m) ∙ ap (λ r. more ++ words_of r) (sym o);
  named = ap (list_all is_script_name) m ∙ all-append names (word ∷ []) kept.named ∙ ap (λ b. b && true) named;
  solid = solid;
}

pub kept_fault : (text rest word : List ℕ) (names : List (List ℕ)) → Kept text rest names → 0 < length rest
    → word ≡ first_word rest → is_script_name word ≡ false → names_of text ≡ None
kept_fault text rest word names kept some w fault =
    let none : Option (List (List ℕ)) = None in
    ap (λ b. cond b (Some (words_of text)) none)
    (ap (list_all is_script_name) (kept.words ∙ ap (λ ws. names ++ ws) (words_first rest kept.solid some ∙ ap (λ x. x ∷ words_of (after_word rest)) (sym w)))
    ∙ all-append names (word ∷ words_of (after_word rest)) kept.named ∙ ap (λ b. b && list_all is_script_name (words_of (after_word rest))) fault)

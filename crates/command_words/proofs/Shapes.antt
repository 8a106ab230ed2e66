-- What the parser's steps say of a word.
use Rattle.std.proofs.Common.{◌≡◌, subst, ◌∙◌, ◌⊎◌, inl, inr, ap, refl, sym, ℕ, Bool, true, false, List, [], ◌∷◌, ◌++◌, Option, None, Some, codes, length, arith, get_or}
use Rattle.std.specs.Prelude.{option_and_then, slice_index_or, if◌then◌else◌, IfSome, slice_get, ◌==◌, ◌||◌}
use Rattle.std.specs.List.{before_first, after_first, position_or_len}
use Rattle.std.specs.Option.{option_map_or}
use Rattle.std.specs.Str.{bytes_eq, chars}
use Rattle.std.proofs.lemmas.Slice.Eq.{bytes_eq-Decides}
use Rattle.std.proofs.lemmas.List.{take_all}
use Rattle.std.proofs.lemmas.List.Sums.{split_at_first, passes_at_first}
use Rattle.std.proofs.lemmas.Bool.{cases_lt}
use Rattle.std.proofs.lemmas.Bool.Decides.{nat_tests}
use Rattle.clap.specs.Words.{Kinds, Row, Rule, Text}
use Rattle.clap.specs.Kinds.{or_else}
use Rattle.clap.specs.Lexer.{long_of, long_of_rest, name_and_value, short_of, strip_byte}
use Rattle.clap.specs.Walk.{plain_word, Held, Waiting, arg_by_long, settled, idle, option, word_met}
use Rattle.clap.specs.Faults.{bundle_fault, bundle_step_fault, flag_word_fault, flags_fault, long_fault, option_fault, settle_fault, step_fault, turn_fault, use_fault, word_fault}
use Rattle.command_words.specs.CommandLine.{OptionName, Workers, Demo, spelled}
use Rattle.command_words.specs.Parse.{option_rule}
use Rattle.command_words.proofs.Walks.{IsPlain, Last, asking, between, held_with, id_of, joined, met-plain, none_met, or_else-empty, shape}

some-same : {X : Type 0} {x y : X} → Some x ≡ Some y → x ≡ y
some-same h = cc

-- ---- what a long word is

abbrev dashed : Text → Text
dashed rest = 45 ∷ 45 ∷ rest

is_45 : (x : ℕ) → (x == 45) ≡ true → x ≡ 45
is_45 x e = grind (arith, nat_tests)

strip-inverse : (word rest : Text) → strip_byte 45 word ≡ Some rest → word ≡ 45 ∷ rest
strip-inverse [] rest h = cc
strip-inverse (x ∷ xs) rest h = go (x == 45) refl h
  where
    go : (b : Bool) → (x == 45) ≡ b → (if b then Some xs else None) ≡ Some rest → x ∷ xs ≡ 45 ∷ rest
    go false e h = cc
    go true e h = let same : xs ≡ rest = cc in rw (same, is_45 x e) refl

long-inverse : (word : Text) (q : Text × Option Text) → long_of word ≡ Some q → (rest : Text) × (word ≡ dashed rest) × (q ≡ name_and_value rest)
long-inverse word q h = first (strip_byte 45 word) refl h
  where
    last : (once rest : Text) → strip_byte 45 once ≡ Some rest → strip_byte 45 word ≡ Some once → long_of_rest rest ≡ Some q → (rest : Text) × (word ≡ dashed rest) × (q ≡ name_and_value rest)
    last once [] e1 e2 h = cc
    last once (x ∷ xs) e1 e2 h =
        (x ∷ xs, strip-inverse word once e2 ∙ ap (λ l. 45 ∷ l) (strip-inverse once (x ∷ xs) e1), sym (some-same h))

    second : (once : Text) (o : Option Text) → strip_byte 45 once ≡ o → strip_byte 45 word ≡ Some once → option_and_then long_of_rest o ≡ Some q → (rest : Text) × (word ≡ dashed rest) × (q ≡ name_and_value rest)
    second once None e1 e2 h = cc
    second once (Some rest) e1 e2 h = last once rest e1 e2 h

    first : (o : Option Text) → strip_byte 45 word ≡ o → option_and_then long_of_rest (option_and_then (strip_byte 45) o) ≡ Some q → (rest : Text) × (word ≡ dashed rest) × (q ≡ name_and_value rest)
    first None e h = cc
    first (Some once) e h = second once (strip_byte 45 once) refl e h

-- a text before its first `=`, and what follows
cut-text : (text : Text) → (text ≡ before_first (λ x. x == 61) text) ⊎ ((v : Text) × (text ≡ before_first (λ x. x == 61) text ++ 61 ∷ v))
cut-text text = elim (cases_lt (position_or_len (λ x. x == 61) text) (length text)) [
  | inl under ↦
      let whole = split_at_first (λ x. x == 61) text 0 under in
      let found = passes_at_first (λ x. x == 61) text 0 under in
      let is : get_or text (position_or_len (λ x. x == 61) text) 0 ≡ 61 = grind (arith, nat_tests) in
      inr (after_first (λ x. x == 61) text, whole ∙ ap (λ y. before_first (λ x. x == 61) text ++ y ∷ after_first (λ x. x == 61) text) is)
  | inr over ↦ inl (sym (take_all (position_or_len (λ x. x == 61) text) text over))
]

-- the option that a word names
abbrev pub NamesOption : Text → Type 0
NamesOption word = (o : OptionName) × ((word ≡ spelled o) ⊎ ((v : Text) × (word ≡ joined o v)))

named-word : (o : OptionName) (rest : Text) → before_first (λ x. x == 61) rest ≡ id_of o → NamesOption (dashed rest)
named-word o rest e = elim (cut-text rest) [
  | inl whole ↦ (o, inl (ap dashed (whole ∙ e) ∙ names o))
  | inr p ↦ (o, inr (p.0, ap dashed (p.1 ∙ ap (λ t. t ++ 61 ∷ p.0) e) ∙ joins o p.0))
]
  where
    names : (n : OptionName) → dashed (id_of n) ≡ spelled n
    names Workers = refl
    names Demo = refl

    joins : (n : OptionName) (v : Text) → dashed (id_of n ++ 61 ∷ v) ≡ joined n v
    joins Workers v = refl
    joins Demo v = refl

-- ---- which option is meant

abbrev rule_of_workers : Rule
rule_of_workers = slice_index_or shape.rules 0 (option_rule [])

abbrev rule_of_demo : Rule
rule_of_demo = slice_index_or shape.rules 1 (option_rule [])

-- the rule that the parser finds by a name
found-name : (name : Text) → (arg_by_long shape.rules name ≡ None) ⊎ ((o : OptionName) × (name ≡ id_of o))
found-name name = go (bytes_eq (codes "workers") name) (bytes_eq (codes "demo") name) refl refl
  where
    go : (w d : Bool) → bytes_eq (codes "workers") name ≡ w → bytes_eq (codes "demo") name ≡ d → (arg_by_long shape.rules name ≡ None) ⊎ ((o : OptionName) × (name ≡ id_of o))
    go true d ew ed = inr (Workers, sym ((bytes_eq-Decides (codes "workers") name).0 ew))
    go false true ew ed = inr (Demo, sym ((bytes_eq-Decides (codes "demo") name).0 ed))
    go false false ew ed = inl (rw (ew, ed) refl)

-- the parser refuses a name that it doesn't know
unknown : (found : Option Rule) (v : Option Text) (h : Held) → found ≡ None → long_fault shape.rules false found v h ≡ [] → ⊥
unknown None v h e bad = cc
unknown (Some a) v h e bad = cc

pub names-option : (word : Text) (q : Text × Option Text) (h : Held) → long_of word ≡ Some q → flag_word_fault shape.rules false (Some q) word h ≡ [] → NamesOption word
names-option word q h e passes =
    let inverse = long-inverse word q e in
    elim (found-name q.0) [
      | inl none ↦ absurd (unknown (arg_by_long shape.rules q.0) q.1 h none passes)
      | inr p ↦
          let first : before_first (λ x. x == 61) inverse.0 ≡ id_of p.0 = sym (ap (λ (r : Text × Option Text). r.0) inverse.2) ∙ p.1 in
          subst NamesOption (sym inverse.1) (named-word p.0 inverse.0 first)
    ]

-- ---- words that aren't long

abbrev HasNoChar : Text → Type 0
HasNoChar flags = slice_get (chars flags) 0 ≡ None

flags-plain : (flags : Text) (h : Held) → flags_fault shape.rules false (length flags) flags 0 h ≡ [] → HasNoChar flags
unfolding flags_fault chars
flags-plain [] h passes = refl
flags-plain (x ∷ xs) h passes = go (slice_get (chars (x ∷ xs)) 0) refl passes
  where
    go : (k : Option ℕ) → slice_get (chars (x ∷ xs)) 0 ≡ k
        → bundle_step_fault shape.rules false k (x ∷ xs) 0 h (flags_fault shape.rules false (length xs)) ≡ [] → HasNoChar (x ∷ xs)
    go None e h = e
    go (Some y) e h = cc

short-passes : (s : Option Text) (rows : List Row) (pending : Option (Text × List Text))
    → option_map_or (λ flags. bundle_fault shape.rules false flags (held_with rows pending)) s [] ≡ [] → IfSome s HasNoChar
short-passes None rows pending h = tt
short-passes (Some flags) rows pending h = flags-plain flags (held_with rows pending) h

-- a word that passes is plain, or names an option
pub word-passes : (waiting : Waiting) (word : Text) (rows : List Row) (pending : Option (Text × List Text)) → bytes_eq word (45 ∷ 45 ∷ []) ≡ false
    → word_fault shape [] false waiting word (held_with rows pending) ≡ []
    → IsPlain word ⊎ ((q : Text × Option Text) × (long_of word ≡ Some q) × (flag_word_fault shape.rules false (Some q) word (held_with rows pending) ≡ []))
word-passes waiting word rows pending apart passes =
    let passes2 : flag_word_fault shape.rules false (long_of word) word (held_with rows pending) ≡ [] = rw (none_met waiting word, apart) at passes in
    go (long_of word) refl passes2
  where
    go : (l : Option (Text × Option Text)) → long_of word ≡ l → flag_word_fault shape.rules false l word (held_with rows pending) ≡ []
        → IsPlain word ⊎ ((q : Text × Option Text) × (long_of word ≡ Some q) × (flag_word_fault shape.rules false (Some q) word (held_with rows pending) ≡ []))
    go None e h = inl (record { apart = apart; long = e; short = short-passes (short_of word) rows pending h })
    go (Some q) e h = inr (q, e, h)

-- between two uses a word names an option
pub between-names : (rows : List Row) (p : Last) (word : Text) → bytes_eq word (45 ∷ 45 ∷ []) ≡ false → turn_fault shape [] (between rows p) word ≡ [] → NamesOption word
between-names rows p word apart passes =
    let met = word_met shape.rules [] false idle 1 word (between rows p).held in
    let parts = or_else-empty (word_fault shape [] false idle word (between rows p).held) (step_fault shape 1 met.0 met.1) passes in
    elim (word-passes idle word rows (between rows p).held.pending apart parts.0) [
      | inl plain ↦
          let stray : step_fault shape 1 (plain_word shape.rules idle word (between rows p).held).0 (plain_word shape.rules idle word (between rows p).held).1 ≡ [] =
          ap (λ m. step_fault shape 1 m.0 m.1) (sym (met-plain idle word rows (between rows p).held.pending plain)) ∙ parts.1 in
          cc
      | inr q ↦ names-option word q.0 (between rows p).held q.1 q.2
    ]

-- ---- after an option's name no option may follow

asks : (o : OptionName) (rows : List Row) (more : Kinds) → or_else (settle_fault shape.rules false (asking rows o).held) more ≡ [] → ⊥
asks Workers rows more h = cc
asks Demo rows more h = cc

option_refused : (a : Rule) (v : Option Text) (rows : List Row) (o : OptionName) → option_fault shape.rules false a v (asking rows o).held ≡ [] → ⊥
option_refused a None rows Workers h = cc
option_refused a None rows Demo h = cc
option_refused a (Some v) rows o h = asks o rows (use_fault false a (v ∷ []) (settled shape.rules (asking rows o).held).rows) h

pub asking-plain : (rows : List Row) (o : OptionName) (word : Text) → bytes_eq word (45 ∷ 45 ∷ []) ≡ false → turn_fault shape [] (asking rows o) word ≡ [] → IsPlain word
asking-plain rows o word apart passes =
    let met = word_met shape.rules [] false (option (id_of o)) 1 word (asking rows o).held in
    let parts = or_else-empty (word_fault shape [] false (option (id_of o)) word (asking rows o).held) (step_fault shape 1 met.0 met.1) passes in
    elim (word-passes (option (id_of o)) word rows (Some (id_of o, [])) apart parts.0) [
      | inl plain ↦ plain
      | inr q ↦ absurd (go (bytes_eq (codes "workers") q.0.0) (bytes_eq (codes "demo") q.0.0) q.0.1 q.2)
    ]
  where
    go : (w d : Bool) (v : Option Text)
        → long_fault shape.rules false (if w || false then Some (rule_of_workers) else if d || false then Some (rule_of_demo) else None) v (asking rows o).held ≡ [] → ⊥
    go true d v h = option_refused rule_of_workers v rows o h
    go false true v h = option_refused rule_of_demo v rows o h
    go false false v h = cc

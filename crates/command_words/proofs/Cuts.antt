-- What the parser takes is the words of uses, no option twice; and the arguments that it keeps are theirs.
use Rattle.std.proofs.Common.{zero, suc, ◌≡◌, ◌≢◌, ◌∙◌, inl, inr, ap, refl, sym, subst, Bool, true, false, List, [], ◌∷◌, None, Some, codes, fold, arith}
use Rattle.std.specs.Prelude.{⊤, flat_map, slice_index_or, length, ◌<◌, if◌then◌else◌, ◌||◌}
use Rattle.std.specs.List.{AllPairs, list_any}
use Rattle.clap.specs.Words.{Kinds, Row, Rule, Text, fault_of, first_of, matches_of}
use Rattle.clap.specs.Kinds.{or_else}
use Rattle.clap.specs.Walk.{default_rows, is_empty, nothing_held, reading_by, walk, walk_from, Walk, finished, has_row, settled, walked, with_default}
use Rattle.clap.specs.Faults.{check_fault, default_fault, given_default_fault, defaults_fault, settle_fault, turn_fault, walk_fault}
use Rattle.clap.specs.Simple.{built}
use Rattle.clap.proofs.FaultLemmas.{leaf_fault}
use Rattle.command_words.specs.CommandLine.{Demo, OptionName, OptionUse, Workers, argument_of, spelled, words_of}
use Rattle.command_words.specs.Parse.{app, command_app, is_dashes, option_rule}
use Rattle.command_words.proofs.Shapes.{asking-plain, between-names}
use Rattle.command_words.proofs.Walks.{IsPlain, Last, after_use, asking, between, joined, or_else-both, or_else-empty, repeats, rows_with, shape, total, total-step, turn-joined, turn-name, turn-value, walked-joined, walked-name, walked-value}

-- the last use repeats no option
abbrev pub Fresh : List Row → Last → Type 0
Fresh rows None = ⊤
Fresh rows (Some p) = repeats p.0 rows ≡ []

-- nor do these
abbrev pub NoRepeat : List Row → List OptionUse → Type 0
NoRepeat rows [] = ⊤
NoRepeat rows (u ∷ us) = (repeats u.option rows ≡ []) × NoRepeat (after_use u.option u.argument rows) us

-- an argument that is a word is taken for no option
abbrev pub ArePlain : List OptionUse → Type 0
ArePlain [] = ⊤
ArePlain (u ∷ us) = (u.is_joined ≡ false → IsPlain u.argument) × ArePlain us

-- the words are those of uses
pub record Cut (rows : List Row) (p : Last) (words : List Text) : Type 0 where
  pub uses : List OptionUse
  pub written : words ≡ flat_map words_of uses
  pub fresh : Fresh rows p
  pub apart : NoRepeat (rows_with p rows) uses
  pub plain : ArePlain uses

-- the words begin with an argument
pub record AskedCut (rows : List Row) (o : OptionName) (words : List Text) : Type 0 where
  pub argument : Text
  pub rest : List Text
  pub written : words ≡ argument ∷ rest
  pub is_plain : IsPlain argument
  pub cut : Cut rows (Some (o, argument)) rest

settle-fresh : (rows : List Row) (p : Last) → settle_fault shape.rules false (between rows p).held ≡ [] → Fresh rows p
settle-fresh rows None h = tt
settle-fresh rows (Some (Workers, v)) h = h
settle-fresh rows (Some (Demo, v)) h = h

fresh-settle : (rows : List Row) (p : Last) → Fresh rows p → settle_fault shape.rules false (between rows p).held ≡ []
fresh-settle rows None h = refl
fresh-settle rows (Some (Workers, v)) h = h
fresh-settle rows (Some (Demo, v)) h = h

asked_nothing : (rows : List Row) (o : OptionName) → total (asking rows o) [] ≡ [] → ⊥
unfolding walk_fault
asked_nothing rows Workers h = cc
asked_nothing rows Demo h = cc

ends : (rows : List Row) (p : Last) → total (between rows p) [] ≡ [] → settle_fault shape.rules false (between rows p).held ≡ []
unfolding walk_fault
ends rows p h = h

-- what a turn and the rest refuse
turns : (w : Walk) (word : Text) (rest : List Text) → total w (word ∷ rest) ≡ [] → (turn_fault shape [] w word ≡ []) × (total (walked shape.rules [] w word) rest ≡ [])
turns w word rest h = or_else-empty (turn_fault shape [] w word) (total (walked shape.rules [] w word) rest) (sym (total-step w word rest) ∙ h)

apart_parts : (a b : Bool) → (a || b) ≡ false → (a ≡ false) × (b ≡ false)
apart_parts true b h = cc
apart_parts false b h = (refl, h)

abbrev use_of : OptionName → Text → Bool → OptionUse
use_of o v j = record { option = o; argument = v; is_joined = j }

-- one more use before a cut
with_joined : (o : OptionName) (v : Text) (rows : List Row) (p : Last) (rest : List Text)
    → settle_fault shape.rules false (between rows p).held ≡ [] → repeats o (rows_with p rows) ≡ []
    → Cut (after_use o v (rows_with p rows)) None rest → Cut rows p (joined o v ∷ rest)
with_joined o v rows p rest settles new c = record {
  uses = record { option = o; argument = v; is_joined = true } ∷ c.uses;
  written = ap (λ l. joined o v ∷ l) c.written;
  fresh = settle-fresh rows p settles;
  apart = (new, c.apart);
  plain = ((λ bad. cc), c.plain);
}

with_named : (o : OptionName) (rows : List Row) (p : Last) (rest : List Text)
    → settle_fault shape.rules false (between rows p).held ≡ []
    → AskedCut (rows_with p rows) o rest → Cut rows p (spelled o ∷ rest)
with_named o rows p rest settles a = record {
  uses = record { option = o; argument = a.argument; is_joined = false } ∷ a.cut.uses;
  written = ap (λ l. spelled o ∷ l) (a.written ∙ ap (λ l. a.argument ∷ l) a.cut.written);
  fresh = settle-fresh rows p settles;
  apart = (a.cut.fresh, a.cut.apart);
  plain = ((λ _. a.is_plain), a.cut.plain);
}

-- what passes is cut into uses
pub cuts : (words : List Text) → list_any is_dashes words ≡ false
    → ((rows : List Row) (p : Last) → total (between rows p) words ≡ [] → Cut rows p words)
    × ((rows : List Row) (o : OptionName) → total (asking rows o) words ≡ [] → AskedCut rows o words)
cuts [] apart = (
  (λ rows p h. record { uses = []; written = refl; fresh = settle-fresh rows p (ends rows p h); apart = tt; plain = tt }),
  (λ rows o h. absurd (asked_nothing rows o h)),
)
cuts (word ∷ rest) apart =
    let parts = apart_parts (is_dashes word) (list_any is_dashes rest) apart in
    let more = cuts rest parts.1 in (
      (λ rows p h.
          let t = turns (between rows p) word rest h in
          let n = between-names rows p word parts.0 t.0 in
          elim n.1 [
            | inl name ↦ subst (λ w. Cut rows p (w ∷ rest)) (sym name) (named more.1 rows p n.0 (rw name at t.0) (rw name at t.1))
            | inr v ↦ subst (λ w. Cut rows p (w ∷ rest)) (sym v.1) (one more.0 rows p n.0 v.0 (rw v.1 at t.0) (rw v.1 at t.1))
          ]),
      (λ rows o h.
          let t = turns (asking rows o) word rest h in
          let plain = asking-plain rows o word parts.0 t.0 in
          record { argument = word; rest = rest; written = refl; is_plain = plain; cut = more.0 rows (Some (o, word)) (rw (walked-value rows o word plain) at t.1) }),
    )
  where
    named : ((rows : List Row) (o : OptionName) → total (asking rows o) rest ≡ [] → AskedCut rows o rest)
        → (rows : List Row) (p : Last) (o : OptionName) → turn_fault shape [] (between rows p) (spelled o) ≡ []
        → total (walked shape.rules [] (between rows p) (spelled o)) rest ≡ [] → Cut rows p (spelled o ∷ rest)
    named more rows p o turn passes =
        let settles = or_else-empty (settle_fault shape.rules false (between rows p).held) [] (sym (turn-name o rows p) ∙ turn) in
        with_named o rows p rest settles.0 (more (rows_with p rows) o (rw (walked-name o rows p) at passes))

    one : ((rows : List Row) (p : Last) → total (between rows p) rest ≡ [] → Cut rows p rest)
        → (rows : List Row) (p : Last) (o : OptionName) (v : Text) → turn_fault shape [] (between rows p) (joined o v) ≡ []
        → total (walked shape.rules [] (between rows p) (joined o v)) rest ≡ [] → Cut rows p (joined o v ∷ rest)
    one more rows p o v turn passes =
        let settles = or_else-empty (or_else (settle_fault shape.rules false (between rows p).held) (repeats o (rows_with p rows))) [] (sym (turn-joined o v rows p) ∙ turn) in
        let both = or_else-empty (settle_fault shape.rules false (between rows p).held) (repeats o (rows_with p rows)) settles.0 in
        with_joined o v rows p rest both.0 both.1 (more (after_use o v (rows_with p rows)) None (rw (walked-joined o v rows p) at passes))

-- ---- and what uses write passes

-- the rows at the end of a walk
abbrev pub rows_at_end : Walk → List Text → List Row
rows_at_end w words = (settled shape.rules (fold (walked shape.rules []) w words).held).rows

abbrev pub rows_of_uses : List Row → List OptionUse → List Row
rows_of_uses rows [] = rows
rows_of_uses rows (u ∷ us) = rows_of_uses (after_use u.option u.argument rows) us

no_words : (rows : List Row) (p : Last) → settle_fault shape.rules false (between rows p).held ≡ [] → total (between rows p) [] ≡ []
unfolding walk_fault
no_words rows p h = h

rows_end : (rows : List Row) (p : Last) → rows_at_end (between rows p) [] ≡ rows_with p rows
rows_end rows None = refl
rows_end rows (Some (Workers, v)) = refl
rows_end rows (Some (Demo, v)) = refl

goes : (w after : Walk) (word : Text) (rest : List Text) → walked shape.rules [] w word ≡ after → turn_fault shape [] w word ≡ [] → total after rest ≡ [] → total w (word ∷ rest) ≡ []
goes w after word rest step turn passes =
    total-step w word rest ∙ or_else-both (turn_fault shape [] w word) (total (walked shape.rules [] w word) rest) turn (ap (λ s. total s rest) step ∙ passes)

-- the words of uses pass, and leave the rows of these uses
abbrev pub Passes : List Row → Last → List OptionUse → Type 0
Passes rows p uses = (total (between rows p) (flat_map words_of uses) ≡ []) × (rows_at_end (between rows p) (flat_map words_of uses) ≡ rows_of_uses (rows_with p rows) uses)

pub passes : (uses : List OptionUse) (rows : List Row) (p : Last) → Fresh rows p → NoRepeat (rows_with p rows) uses → ArePlain uses → Passes rows p uses
passes [] rows p fresh apart plain = (no_words rows p (fresh-settle rows p fresh), rows_end rows p)
passes (u ∷ us) rows p fresh apart plain = go (passes us) u.is_joined refl
  where
    settles : settle_fault shape.rules false (between rows p).held ≡ []
    settles = fresh-settle rows p fresh

    go : ((rows : List Row) (p : Last) → Fresh rows p → NoRepeat (rows_with p rows) us → ArePlain us → Passes rows p us)
        → (j : Bool) → u.is_joined ≡ j → Passes rows p (u ∷ us)
    go ih true e =
        let more = ih (after_use u.option u.argument (rows_with p rows)) None tt apart.1 plain.1 in
        let turn = turn-joined u.option u.argument rows p ∙ or_else-both (or_else (settle_fault shape.rules false (between rows p).held) (repeats u.option (rows_with p rows))) [] (or_else-both (settle_fault shape.rules false (between rows p).held) (repeats u.option (rows_with p rows)) settles apart.0) refl in
        let step = walked-joined u.option u.argument rows p in
        rw e (
          goes (between rows p) (between (after_use u.option u.argument (rows_with p rows)) None) (joined u.option u.argument) (flat_map words_of us) step turn more.0,
          ap (λ s. rows_at_end s (flat_map words_of us)) step ∙ more.1,
        )
    go ih false e =
        let is_plain = plain.0 e in
        let now = rows_with p rows in
        let more = ih now (Some (u.option, u.argument)) apart.0 apart.1 plain.1 in
        let first_turn = turn-name u.option rows p ∙ or_else-both (settle_fault shape.rules false (between rows p).held) [] settles refl in
        let first_step = walked-name u.option rows p in
        let step = walked-value now u.option u.argument is_plain in
        let turn = turn-value now u.option u.argument is_plain in
        rw e (
          goes (between rows p) (asking now u.option) (spelled u.option) (u.argument ∷ flat_map words_of us) first_step first_turn
              (goes (asking now u.option) (between now (Some (u.option, u.argument))) u.argument (flat_map words_of us) step turn more.0),
          ap (λ s. rows_at_end s (u.argument ∷ flat_map words_of us)) first_step ∙ (ap (λ s. rows_at_end s (flat_map words_of us)) step ∙ more.1),
        )

-- ---- the command

abbrev rule_of_workers : Rule
rule_of_workers = slice_index_or shape.rules 0 (option_rule [])

abbrev rule_of_demo : Rule
rule_of_demo = slice_index_or shape.rules 1 (option_rule [])

default-none : (a : Rule) (rows : List Row) → a.defaults ≡ [] → default_fault rows a ≡ []
default-none a rows e = go (has_row a.id rows)
  where
    go : (b : Bool) → (if b || is_empty a.defaults then [] else given_default_fault a a.defaults) ≡ []
    go true = refl
    go false = rw e refl

default-keeps : (a : Rule) (rows : List Row) → a.defaults ≡ [] → with_default rows a ≡ rows
default-keeps a rows e = go (has_row a.id rows)
  where
    go : (b : Bool) → (if b then rows else default_rows a.id (reading_by a) a.defaults rows) ≡ rows
    go true = refl
    go false = rw e refl

no_default : (rows : List Row) → defaults_fault rows shape.rules ≡ []
unfolding defaults_fault
no_default rows = or_else-both (default_fault rows rule_of_workers) (or_else (default_fault (with_default rows rule_of_workers) rule_of_demo) [])
    (default-none rule_of_workers rows refl)
    (or_else-both (default_fault (with_default rows rule_of_workers) rule_of_demo) [] (default-none rule_of_demo (with_default rows rule_of_workers) refl) refl)

or_else-nil : (a : Kinds) → or_else a [] ≡ a
or_else-nil [] = refl
or_else-nil (k ∷ ks) = refl

tail-none : (a b c : Kinds) → c ≡ [] → or_else a (or_else b c) ≡ or_else a b
tail-none a b c e = ap (λ x. or_else a (or_else b x)) e ∙ ap (or_else a) (or_else-nil b)

pub fault-is : (words : List Text) → fault_of app words ≡ total (between [] None) words
unfolding app
fault-is words =
    let end = (walk shape.rules [] nothing_held words).held in
    let rows = (settled shape.rules end).rows in
    leaf_fault (built command_app) nothing_held words refl
    ∙ tail-none (walk_fault shape [] (walk_from nothing_held) words) (settle_fault shape.rules false end) (or_else (defaults_fault rows shape.rules) (check_fault shape (finished shape.rules end) false))
    (or_else-both (defaults_fault rows shape.rules) (check_fault shape (finished shape.rules end) false) (no_default rows) refl)

pub matches-are : (words : List Text) → matches_of app words ≡ rows_at_end (between [] None) words
unfolding app
matches-are words =
    let rows = rows_at_end (between [] None) words in
    ap (λ r. with_default r rule_of_demo) (default-keeps rule_of_workers rows refl) ∙ default-keeps rule_of_demo rows refl

-- ---- no option twice

-- two uses at most
pub few : (uses : List OptionUse) → NoRepeat [] uses → length uses < 3
few [] h = omega arith
few (a ∷ []) h = omega arith
few (a ∷ b ∷ []) h = omega arith
few (a ∷ b ∷ c ∷ us) h = absurd (go a.option b.option c.option h.1.0 h.1.1.0)
  where
    go : (x y z : OptionName) → repeats y (after_use x a.argument []) ≡ [] → repeats z (after_use y b.argument (after_use x a.argument [])) ≡ [] → ⊥
    go Workers Workers z h k = cc
    go Demo Demo z h k = cc
    go Workers Demo Workers h k = cc
    go Workers Demo Demo h k = cc
    go Demo Workers Workers h k = cc
    go Demo Workers Demo h k = cc

pub two : (a b : OptionUse) → repeats b.option (after_use a.option a.argument []) ≡ [] → a.option ≢ b.option
two a b h same = go a.option b.option h same
  where
    go : (x y : OptionName) → repeats y (after_use x a.argument []) ≡ [] → x ≡ y → ⊥
    go Workers Workers h e = cc
    go Demo Demo h e = cc
    go Workers Demo h e = cc
    go Demo Workers h e = cc

abbrev pub Once : List OptionUse → Type 0
Once = AllPairs (λ a b. a.option ≢ b.option)

pub once-from : (uses : List OptionUse) → NoRepeat [] uses → Once uses
once-from [] h i j d low high = absurd (omega arith)
once-from (a ∷ []) h i j d low high = absurd (omega arith)
once-from (a ∷ b ∷ []) h zero zero d low high = absurd (omega arith)
once-from (a ∷ b ∷ []) h zero (suc zero) d low high = two a b h.1.0
once-from (a ∷ b ∷ []) h (suc i) (suc zero) d low high = absurd (omega arith)
once-from (a ∷ b ∷ []) h i (suc (suc j)) d low high = absurd (omega arith)
once-from (a ∷ b ∷ []) h (suc i) zero d low high = absurd (omega arith)
once-from (a ∷ b ∷ c ∷ us) h i j d low high = absurd (let bad = few (a ∷ b ∷ c ∷ us) h in omega arith)

pub once-to : (uses : List OptionUse) → Once uses → NoRepeat [] uses
once-to [] h = tt
once-to (a ∷ []) h = (first a.option, tt)
  where
    first : (x : OptionName) → repeats x [] ≡ []
    first Workers = refl
    first Demo = refl
once-to (a ∷ b ∷ []) h = let p = go a.option b.option (h 0 1 a (omega arith) (omega arith)) in (p.0, (p.1, tt))
  where
    go : (x y : OptionName) → x ≢ y → (repeats x [] ≡ []) × (repeats y (after_use x a.argument []) ≡ [])
    go Workers Workers h = absurd (h refl)
    go Demo Demo h = absurd (h refl)
    go Workers Demo h = (refl, refl)
    go Demo Workers h = (refl, refl)
once-to (a ∷ b ∷ c ∷ us) h =
    absurd (go a.option b.option c.option (h 0 1 a (omega arith) (omega arith)) (h 0 2 a (omega arith) (omega arith)) (h 1 2 a (omega arith) (omega arith)))
  where
    go : (x y z : OptionName) → x ≢ y → x ≢ z → y ≢ z → ⊥
    go Workers Workers z h k l = h refl
    go Demo Demo z h k l = h refl
    go Workers Demo Workers h k l = k refl
    go Workers Demo Demo h k l = l refl
    go Demo Workers Workers h k l = l refl
    go Demo Workers Demo h k l = k refl

-- the rows keep each option's argument
pub rows-keep : (uses : List OptionUse) → NoRepeat [] uses
    → (first_of (codes "workers") (rows_of_uses [] uses) ≡ argument_of Workers uses) × (first_of (codes "demo") (rows_of_uses [] uses) ≡ argument_of Demo uses)
rows-keep [] h = (refl, refl)
rows-keep (a ∷ []) h = go a.option
  where
    go : (x : OptionName) → let u = use_of x a.argument a.is_joined in
        (first_of (codes "workers") (rows_of_uses [] (u ∷ [])) ≡ argument_of Workers (u ∷ [])) × (first_of (codes "demo") (rows_of_uses [] (u ∷ [])) ≡ argument_of Demo (u ∷ []))
    go Workers = (refl, refl)
    go Demo = (refl, refl)
rows-keep (a ∷ b ∷ []) h = go a.option b.option h.1.0
  where
    go : (x y : OptionName) → repeats y (after_use x a.argument []) ≡ [] → let u = use_of x a.argument a.is_joined in let v = use_of y b.argument b.is_joined in
        (first_of (codes "workers") (rows_of_uses [] (u ∷ v ∷ [])) ≡ argument_of Workers (u ∷ v ∷ [])) × (first_of (codes "demo") (rows_of_uses [] (u ∷ v ∷ [])) ≡ argument_of Demo (u ∷ v ∷ []))
    go Workers Workers k = cc
    go Demo Demo k = cc
    go Workers Demo k = (refl, refl)
    go Demo Workers k = (refl, refl)
rows-keep (a ∷ b ∷ c ∷ us) h = absurd (let bad = few (a ∷ b ∷ c ∷ us) h in omega arith)

-- How the parser walks over the words.
use Rattle.std.proofs.Common.{◌≡◌, length, ◌∙◌, ap, refl, false, List, [], ◌∷◌, ◌++◌, Option, None, Some, codes, fold}
use Rattle.std.specs.Prelude.{option_map, IfSome, slice_get}
use Rattle.std.specs.Str.{bytes_eq, chars}
use Rattle.std.specs.Option.{option_map_or}
use Rattle.clap.specs.Words.{Kinds, Row, Shape, Text, built}
use Rattle.clap.specs.Kinds.{or_else}
use Rattle.clap.specs.Lexer.{long_of, short_of}
use Rattle.clap.specs.Walk.{after_step, bundle_met, plain_word, short_word, short_or_plain, subcommand_met, word_met, positional, Walk, Held, Waiting, idle, option, with_values, without, walked}
use Rattle.clap.specs.Faults.{bundle_fault, flags_fault, step_fault, word_fault, walk_fault, settle_fault, turn_fault}
use Rattle.clap.specs.declared.parser.matches.ValueSource.TheVariants.{CommandLine}
use Rattle.clap.specs.declared.builder.value_parser.Reading.TheVariants as reading
use Rattle.clap.proofs.OnLiterals.{clap_on_literals}
use Rattle.command_words.specs.CommandLine.{OptionName, Workers, Demo, spelled}
use Rattle.command_words.specs.Parse.{command_app}

abbrev pub shape : Shape
shape = (built command_app).top

abbrev pub id_of : OptionName → Text
id_of Workers = codes "workers"
id_of Demo = codes "demo"

-- a use of an option whose value is the last word
abbrev pub Last : Type 0
Last = Option (OptionName × Text)

-- between two uses
abbrev pub between : List Row → Last → Walk
between rows p = record {
  held = record { rows = rows; pending = option_map (λ q. (id_of q.0, q.1 ∷ [])) p; skip = 0 };
  waiting = idle;
  position = 1;
  is_trailing = false;
  stopped = None;
}

-- after an option's name
abbrev pub asking : List Row → OptionName → Walk
asking rows o = record {
  held = record { rows = rows; pending = Some (id_of o, []); skip = 0 };
  waiting = option (id_of o);
  position = 1;
  is_trailing = false;
  stopped = None;
}

-- the rows with one more use
abbrev pub after_use : OptionName → Text → List Row → List Row
after_use o v rows = with_values (id_of o) reading.AsWritten CommandLine (v ∷ []) (without (id_of o) rows)

abbrev pub rows_with : Last → List Row → List Row
rows_with None rows = rows
rows_with (Some p) rows = after_use p.0 p.1 rows

-- what a walk and its end refuse
abbrev pub total : Walk → List Text → Kinds
total w words = or_else (walk_fault shape [] w words) (settle_fault shape.rules false (fold (walked shape.rules []) w words).held)

-- the word that holds an option with its value
abbrev pub joined : OptionName → Text → Text
joined o v = spelled o ++ codes "=" ++ v

-- the refusal of an option that was there
abbrev pub repeats : OptionName → List Row → Kinds
repeats o rows = settle_fault shape.rules false (between rows (Some (o, []))).held

-- the parser takes the text for no option
pub record IsPlain (v : Text) : Type 0 where
  pub apart : bytes_eq v (45 ∷ 45 ∷ []) ≡ false
  pub long : long_of v ≡ None
  pub short : IfSome (short_of v) (λ flags. slice_get (chars flags) 0 ≡ None)

pub or_else-empty : (a b : Kinds) → or_else a b ≡ [] → (a ≡ []) × (b ≡ [])
or_else-empty [] b h = (refl, h)
or_else-empty (x ∷ xs) b h = cc

pub or_else-both : (a b : Kinds) → a ≡ [] → b ≡ [] → or_else a b ≡ []
or_else-both a b ha hb = rw (ha, hb)

pub or_else-assoc : (a b c : Kinds) → or_else (or_else a b) c ≡ or_else a (or_else b c)
or_else-assoc [] b c = refl
or_else-assoc (x ∷ xs) b c = refl

pub total-step : (w : Walk) (word : Text) (rest : List Text)
    → total w (word ∷ rest) ≡ or_else (turn_fault shape [] w word) (total (walked shape.rules [] w word) rest)
unfolding walk_fault
total-step w word rest = or_else-assoc (turn_fault shape [] w word) (walk_fault shape [] (walked shape.rules [] w word) rest) (settle_fault shape.rules false (fold (walked shape.rules []) w (word ∷ rest)).held)

-- ---- a use in one word

pub walked-joined : (o : OptionName) (v : Text) (rows : List Row) (p : Last)
    → walked shape.rules [] (between rows p) (joined o v) ≡ between (after_use o v (rows_with p rows)) None
unfolding clap_on_literals
walked-joined Workers v rows None = refl
walked-joined Demo v rows None = refl
walked-joined Workers v rows (Some (Workers, x)) = refl
walked-joined Workers v rows (Some (Demo, x)) = refl
walked-joined Demo v rows (Some (Workers, x)) = refl
walked-joined Demo v rows (Some (Demo, x)) = refl

pub turn-joined : (o : OptionName) (v : Text) (rows : List Row) (p : Last)
    → turn_fault shape [] (between rows p) (joined o v) ≡ or_else (or_else (settle_fault shape.rules false (between rows p).held) (repeats o (rows_with p rows))) []
unfolding clap_on_literals
turn-joined Workers v rows None = refl
turn-joined Demo v rows None = refl
turn-joined Workers v rows (Some (Workers, x)) = refl
turn-joined Workers v rows (Some (Demo, x)) = refl
turn-joined Demo v rows (Some (Workers, x)) = refl
turn-joined Demo v rows (Some (Demo, x)) = refl

-- ---- an option's name

pub walked-name : (o : OptionName) (rows : List Row) (p : Last)
    → walked shape.rules [] (between rows p) (spelled o) ≡ asking (rows_with p rows) o
unfolding clap_on_literals
walked-name Workers rows None = refl
walked-name Demo rows None = refl
walked-name Workers rows (Some (Workers, x)) = refl
walked-name Workers rows (Some (Demo, x)) = refl
walked-name Demo rows (Some (Workers, x)) = refl
walked-name Demo rows (Some (Demo, x)) = refl

pub turn-name : (o : OptionName) (rows : List Row) (p : Last)
    → turn_fault shape [] (between rows p) (spelled o) ≡ or_else (settle_fault shape.rules false (between rows p).held) []
unfolding clap_on_literals
turn-name Workers rows None = refl
turn-name Demo rows None = refl
turn-name Workers rows (Some (Workers, x)) = refl
turn-name Workers rows (Some (Demo, x)) = refl
turn-name Demo rows (Some (Workers, x)) = refl
turn-name Demo rows (Some (Demo, x)) = refl

-- ---- a word that is taken for no option

abbrev pub held_with : List Row → Option (Text × List Text) → Held
held_with rows pending = record { rows = rows; pending = pending; skip = 0 }

bundle-plain : (flags : Text) (h : Held) (waiting : Waiting) (word : Text) (rows : List Row) (pending : Option (Text × List Text))
    → slice_get (chars flags) 0 ≡ None → short_word shape.rules waiting word flags (held_with rows pending) ≡ plain_word shape.rules waiting word (held_with rows pending)
unfolding bundle_met
bundle-plain [] h waiting word rows pending e = refl
bundle-plain (x ∷ xs) h waiting word rows pending e = rw e refl

short-plain : (s : Option Text) (waiting : Waiting) (word : Text) (rows : List Row) (pending : Option (Text × List Text))
    → IfSome s (λ flags. slice_get (chars flags) 0 ≡ None) → short_or_plain shape.rules waiting word s (held_with rows pending) ≡ plain_word shape.rules waiting word (held_with rows pending)
short-plain None waiting word rows pending h = refl
short-plain (Some flags) waiting word rows pending h = bundle-plain flags (held_with rows pending) waiting word rows pending h

pub none_met : (waiting : Waiting) (word : Text) → subcommand_met [] waiting word ≡ None
none_met idle word = refl
none_met (option id) word = refl
none_met positional word = refl

pub met-plain : (waiting : Waiting) (word : Text) (rows : List Row) (pending : Option (Text × List Text)) → IsPlain word
    → word_met shape.rules [] false waiting 1 word (held_with rows pending) ≡ plain_word shape.rules waiting word (held_with rows pending)
met-plain waiting word rows pending p =
    rw (none_met waiting word, p.apart, p.long) (short-plain (short_of word) waiting word rows pending p.short)

pub walked-value : (rows : List Row) (o : OptionName) (v : Text) → IsPlain v → walked shape.rules [] (asking rows o) v ≡ between rows (Some (o, v))
unfolding walked
walked-value rows o v p = ap (λ m. after_step shape.rules v (asking rows o) m.0 m.1) (met-plain (option (id_of o)) v rows (Some (id_of o, [])) p) ∙ go o
  where
    go : (n : OptionName) → after_step shape.rules v (asking rows n) (plain_word shape.rules (option (id_of n)) v (asking rows n).held).0 (plain_word shape.rules (option (id_of n)) v (asking rows n).held).1 ≡ between rows (Some (n, v))
    go Workers = refl
    go Demo = refl

-- the parser refuses no part of a plain word
flags_none : (flags : Text) (h : Held) → slice_get (chars flags) 0 ≡ None → flags_fault shape.rules false (length flags) flags 0 h ≡ []
unfolding flags_fault
flags_none [] h e = refl
flags_none (x ∷ xs) h e = rw e refl

short_none : (s : Option Text) (rows : List Row) (pending : Option (Text × List Text)) → IfSome s (λ flags. slice_get (chars flags) 0 ≡ None)
    → option_map_or (λ flags. bundle_fault shape.rules false flags (held_with rows pending)) s [] ≡ []
short_none None rows pending h = refl
short_none (Some flags) rows pending h = flags_none flags (held_with rows pending) h

word-plain : (waiting : Waiting) (word : Text) (rows : List Row) (pending : Option (Text × List Text)) → IsPlain word
    → word_fault shape [] false waiting word (held_with rows pending) ≡ []
word-plain waiting word rows pending p = rw (none_met waiting word, p.apart, p.long) (short_none (short_of word) rows pending p.short)

pub turn-value : (rows : List Row) (o : OptionName) (v : Text) → IsPlain v → turn_fault shape [] (asking rows o) v ≡ []
turn-value rows o v p = or_else-both _ _ (word-plain (option (id_of o)) v rows (Some (id_of o, [])) p)
    (ap (λ m. step_fault shape 1 m.0 m.1) (met-plain (option (id_of o)) v rows (Some (id_of o, [])) p))

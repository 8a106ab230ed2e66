use Rattle.std.proofs.Common.{Err, Ok, Some, None, ◌≡◌, ◌∙◌, [], List, Option, sym, subst, map, codes, true, false}
use Rattle.std.specs.Prelude.{IsErrAnd, Result, option_map}
use Rattle.std.specs.List.{list_any}
use Rattle.std.specs.String.{string_bytes}
use Rattle.clap.specs.Words.{Text, fault_of, first_of, matches_of}
use Rattle.command_words.specs.Arguments.{IsSettingsOf}
use Rattle.command_words.specs.CommandLine.{IsReadingOf, Say, argument_of, Workers, Demo}
use Rattle.command_words.specs.Parse.{IsParseOf, app, is_dashes}
use Rattle.command_words.specs.declared.words.Words.{Words}
use Rattle.command_words.specs.declared.words.WordsFault.{WordsFault}
use Rattle.command_words.specs.declared.words.WordsFault.TheVariants.{NoMemory, Usage}
use Rattle.command_words.proofs.Cuts.{once-from}
use Rattle.command_words.proofs.Readings.{any-map, argument-is, arguments-are, say-passes, taken, workers-fit}
use Rattle.command_words.proofs.words.read_words.Goals as goal

refused : (words : List Text) (f : WordsFault) → IsParseOf words (Err f) → IsReadingOf words (Err f)
refused words NoMemory h = tt
refused words Usage h = λ w s. h (say-passes words w s).kept.fault

-- what the settings of two texts say, where the parser gives the texts
says : (words : List Text) (w : Words) (a b : Option Text) → list_any is_dashes words ≡ false → fault_of app words ≡ []
    → a ≡ first_of (codes "workers") (matches_of app words) → b ≡ first_of (codes "demo") (matches_of app words) → IsSettingsOf a b (Some w) → Say words w
says words w a b apart passes ea eb h =
    let t = taken words apart passes in
    let first : a ≡ argument_of Workers t.uses = ea ∙ t.kept.workers in
    let second : b ≡ argument_of Demo t.uses = eb ∙ t.kept.demo in
    let s : IsSettingsOf (argument_of Workers t.uses) (argument_of Demo t.uses) (Some w) = rw (first, second) at h in
    record {
      uses = t.uses;
      written = t.written;
      arguments = arguments-are t.uses t.apart s.0 s.1;
      once = once-from t.uses t.apart;
      workers = s.2;
      demo = s.3;
    }

says_nothing : (words : List Text) (a b : Option Text)
    → a ≡ first_of (codes "workers") (matches_of app words) → b ≡ first_of (codes "demo") (matches_of app words) → IsSettingsOf a b None → (w : Words) → Say words w → ⊥
says_nothing words a b ea eb h w s =
    let k = (say-passes words w s).kept in
    let first : a ≡ argument_of Workers s.uses = ea ∙ k.workers in
    let second : b ≡ argument_of Demo s.uses = eb ∙ k.demo in
    let none : IsSettingsOf (argument_of Workers s.uses) (argument_of Demo s.uses) None = rw (first, second) at h in
    none (argument-is Workers s.uses s.arguments, argument-is Demo s.uses s.arguments)

handed_on : (words : List Text) (f : WordsFault) (r : Result Words WordsFault) → IsErrAnd r (λ e. e ≡ f) → IsParseOf words (Err f) → IsReadingOf words r
handed_on words f (Ok w) h parsed = absurd h
handed_on words f (Err e) h parsed = refused words e (subst (λ x. IsParseOf words (Err x)) (sym h) parsed)

pub returns-then-has_delimiter-clause-reading : goal.returns-then-has_delimiter-clause-reading
returns-then-has_delimiter-clause-reading c = λ w s.
    let words : List Text = map string_bytes c.args.words.now in
    let none : list_any is_dashes words ≡ false = (say-passes words w s).apart in
    let some : list_any is_dashes words ≡ true = sym (any-map is_dashes string_bytes c.args.words.now) ∙ (sym c.has_delimiter.ensures ∙ c.if-has_delimiter.true) in
    let bad : true ≡ false = sym some ∙ none in
    cc

pub returns-in_err-matches-clause-reading : goal.returns-in_err-matches-clause-reading
returns-in_err-matches-clause-reading c =
    let words : List Text = map string_bytes c.args.words.now in
    handed_on words c.in_err-matches.field-0.0 c.from_residual.result c.from_residual.ensures.1 c.in_err-matches.ensures

said : (c : goal.Joined-matches) → Say (map string_bytes c.args.words.now) c.in-Some.words
said c =
    let words : List Text = map string_bytes c.args.words.now in
    let none : list_any is_dashes words ≡ false = sym (any-map is_dashes string_bytes c.args.words.now) ∙ (sym c.has_delimiter.ensures ∙ c.if-has_delimiter.false) in
    let parsed : IsParseOf words (Ok c.in_ok-matches.matches) = c.in_ok-matches.ensures in
    let first = c.get_str.ensures ∙ parsed.1 (codes "workers") in
    let second = c.get_str-2.ensures ∙ parsed.1 (codes "demo") in
    says words c.in-Some.words (option_map (λ s. s.now) c.get_str.result) (option_map (λ s. s.now) c.get_str-2.result) none parsed.0 first second c.in-Some.ensures

pub returns-in-Some : goal.returns-in-Some
returns-in-Some c = record { reading = said c; workers = workers-fit (map string_bytes c.args.words.now) c.in-Some.words (said c) }

pub returns-clause-reading : goal.returns-clause-reading
returns-clause-reading c =
    let words : List Text = map string_bytes c.args.words.now in
    let parsed : IsParseOf words (Ok c.in_ok-matches.matches) = c.in_ok-matches.ensures in
    let first = c.get_str.ensures ∙ parsed.1 (codes "workers") in
    let second = c.get_str-2.ensures ∙ parsed.1 (codes "demo") in
    says_nothing words (option_map (λ s. s.now) c.get_str.result) (option_map (λ s. s.now) c.get_str-2.result) first second c.in-None.ensures

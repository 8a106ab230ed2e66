use Rattle.std.proofs.Common.{◌≡◌, ◌∙◌, ap, map, subst, Bor, List}
use Rattle.std.specs.List.{slice_split, All}
use Rattle.css_token.specs.TokenLists.{LiesWithin}
use Rattle.css_token.specs.declared.token.Token.{Token}
use Rattle.selectors_mini.specs.Parts.{is_comma_kind, parts_of}
use Rattle.selectors_mini.specs.Reading.{GivesSelectors, bounded, each_selector, selectors_of}
use Rattle.selectors_mini.specs.Spelling.{selectors_in}
use Rattle.selectors_mini.proofs.Runs.{runs_say, runs_within}
use Rattle.selectors_mini.proofs.Selectors.{answer_by_reading}
use Rattle.selectors_mini.proofs.reading.read_selectors.Goals as goal

pub each_selector-requires : goal.each_selector-requires
each_selector-requires c =
    let runs : map (λ (run : Bor (List Token)). run.now) c.as_slice.result.now ≡ slice_split (λ (t : Token). is_comma_kind t.kind) c.args.tokens.now =
    ap (map (λ (run : Bor (List Token)). run.now)) c.as_slice.ensures.value ∙ c.in-Ok.ensures in
    let within : All (LiesWithin c.as_bytes.result.now) c.args.tokens.now = rw c.as_bytes.ensures.value c.requires in
    runs_within c.as_bytes.result.now c.args.tokens.now c.as_slice.result.now runs within

-- what was read of the runs is the reading
read : (c : goal.After-drop-runs) → GivesSelectors (selectors_in c.each_selector.result) (selectors_of (parts_of c.args.text.now c.args.tokens.now))
unfolding selectors_of
read c =
    let runs : map (λ (run : Bor (List Token)). run.now) c.as_slice.result.now ≡ slice_split (λ (t : Token). is_comma_kind t.kind) c.args.tokens.now =
    ap (map (λ (run : Bor (List Token)). run.now)) c.as_slice.ensures.value ∙ c.in-Ok.ensures in
    subst (λ t. GivesSelectors (selectors_in c.each_selector.result) (selectors_of (parts_of t c.args.tokens.now))) c.as_bytes.ensures.value
    (subst (λ l. GivesSelectors (selectors_in c.each_selector.result) (bounded (each_selector l)))
    (runs_say c.as_bytes.result.now c.args.tokens.now c.as_slice.result.now runs) c.each_selector.ensures)

pub returns-clause-answer : goal.returns-clause-answer
returns-clause-answer c = answer_by_reading (parts_of c.args.text.now c.args.tokens.now) (selectors_in c.each_selector.result) (read c)

pub returns-clause-reading : goal.returns-clause-reading
returns-clause-reading c = read c

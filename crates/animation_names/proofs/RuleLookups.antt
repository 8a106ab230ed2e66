-- The last keyframes rule of a name.
use Rattle.std.proofs.Common.{◌≡◌, ◌≢◌, ◌∙◌, ℕ, refl, sym, ap}
use Rattle.std.specs.Prelude.{◌↔◌, Bool, List, [], ◌∷◌, ◌++◌, All, find, reverse, Option, None, Some, option_map, if◌then◌else◌}
use Rattle.std.specs.Option.{option_or}
use Rattle.std.specs.Str.{bytes_eq}
use Rattle.std.proofs.lemmas.Bool.{false_from_ne_true}
use Rattle.std.proofs.lemmas.List.{reverse-append}
use Rattle.std.proofs.lemmas.List.Elements.{All-cons, All-head, All-nil, All-tail}
use Rattle.std.proofs.lemmas.List.Folds.{find-append}
use Rattle.std.proofs.lemmas.List.Sums.{fold-append}
use Rattle.sheet_types.specs.Sheets.{SheetRules, keyframes_from, keyframes_in, keyframes_named, later_keyframes, sheet_rules}
use Rattle.sheet_types.specs.declared.rule.KeyframesRule.{KeyframesRule}
use Rattle.sheet_types.specs.declared.rule.Rule.{Rule}
use Rattle.animation_names.specs.Samples.{HasNoRule, frames_named}
use Rattle.animation_names.proofs.RankPairing.{bytes_same, same_bytes}

none_of_or : {T : Type 0} (a b : Option T) → option_or a b ≡ None → (a ≡ None) × (b ≡ None)
none_of_or None b e = (refl, e)
none_of_or (Some x) b e = cc

module _ (name : List ℕ) where
  abbrev Other : KeyframesRule → Type 0
  Other rule = rule.name ≢ name

  -- this rule, where it has the name
  abbrev this : KeyframesRule → Option KeyframesRule
  this rule = (if bytes_eq rule.name name then Some rule else None)

  named-cons : (rule : KeyframesRule) (rules : List KeyframesRule) → keyframes_named name (rule ∷ rules) ≡ option_or (keyframes_named name rules) (this rule)
  named-cons rule rules =
      ap (find (λ (r : KeyframesRule). bytes_eq r.name name)) (reverse-append (rule ∷ []) rules)
      ∙ find-append (λ (r : KeyframesRule). bytes_eq r.name name) (reverse rules) (rule ∷ [])

  this-none : (rule : KeyframesRule) → Other rule → this rule ≡ None
  this-none rule other =
      ap (λ (b : Bool). if b then Some rule else None) (false_from_ne_true (bytes_eq rule.name name) (λ e. other (same_bytes rule.name name e)))

  this-other : (rule : KeyframesRule) → this rule ≡ None → Other rule
  this-other rule none same =
      let found : this rule ≡ Some rule = ap (λ (b : Bool). if b then Some rule else None) (bytes_same rule.name name same) in cc

  named-none : (rules : List KeyframesRule) → All Other rules → keyframes_named name rules ≡ None
  named-none [] all = refl
  named-none (rule ∷ rules) all =
      named-cons rule rules ∙ ap (λ o. option_or o (this rule)) (named-none rules (All-tail Other rule rules all)) ∙ this-none rule (All-head Other rule rules all)

  none-named : (rules : List KeyframesRule) → keyframes_named name rules ≡ None → All Other rules
  none-named [] e = All-nil Other
  none-named (rule ∷ rules) e =
      let parts = none_of_or (keyframes_named name rules) (this rule) (sym (named-cons rule rules) ∙ e) in
      All-cons Other rule rules (this-other rule parts.1) (none-named rules parts.0)

  named-last : (earlier later : List KeyframesRule) (rule : KeyframesRule) → rule.name ≡ name → All Other later → keyframes_named name (earlier ++ rule ∷ later) ≡ Some rule
  named-last [] later rule same none =
      named-cons rule later ∙ ap (λ o. option_or o (this rule)) (named-none later none)
      ∙ ap (λ (b : Bool). if b then Some rule else None) (bytes_same rule.name name same)
  named-last (e ∷ earlier) later rule same none =
      named-cons e (earlier ++ rule ∷ later) ∙ ap (λ o. option_or o (this e)) (named-last earlier later rule same none)

  -- ---- over sheets

  passed : (sheets : List (Option SheetRules)) (found : Option KeyframesRule) → All (HasNoRule name) sheets → keyframes_from name found sheets ≡ found
  passed [] found all = refl
  passed (None ∷ sheets) found all = passed sheets found (All-tail (HasNoRule name) None sheets all)
  passed (Some s ∷ sheets) found all =
      passed sheets (option_or (keyframes_named name s.keyframes) found) (All-tail (HasNoRule name) (Some s) sheets all)
      ∙ ap (λ o. option_or o found) (named-none s.keyframes (All-head (HasNoRule name) (Some s) sheets all))

  none_passed : (sheets : List (Option SheetRules)) (found : Option KeyframesRule) → keyframes_from name found sheets ≡ None → (found ≡ None) × All (HasNoRule name) sheets
  none_passed [] found e = (e, All-nil (HasNoRule name))
  none_passed (None ∷ sheets) found e = let rest = none_passed sheets found e in (rest.0, All-cons (HasNoRule name) None sheets tt rest.1)
  none_passed (Some s ∷ sheets) found e =
      let rest = none_passed sheets (option_or (keyframes_named name s.keyframes) found) e in
      let parts = none_of_or (keyframes_named name s.keyframes) found rest.0 in
      (parts.1, All-cons (HasNoRule name) (Some s) sheets (none-named s.keyframes parts.0) rest.1)

  none_mapped : (o : Option KeyframesRule) → option_map (λ (r : KeyframesRule). r.frames) o ≡ None → o ≡ None
  none_mapped None e = refl
  none_mapped (Some r) e = cc

  pub no_frames : (sheets : List (Option SheetRules)) → (frames_named name sheets ≡ None) ↔ All (HasNoRule name) sheets
  no_frames sheets =
      (λ e. (none_passed sheets None (none_mapped (keyframes_in name sheets) e)).1, λ all. ap (option_map (λ (r : KeyframesRule). r.frames)) (passed sheets None all))

  pub last_frames : (before after : List (Option SheetRules)) (rules : List Rule) (earlier later : List KeyframesRule) (rule : KeyframesRule)
      → rule.name ≡ name → All Other later → All (HasNoRule name) after
      → frames_named name (before ++ Some (sheet_rules rules (earlier ++ rule ∷ later)) ∷ after) ≡ Some rule.frames
  last_frames before after rules earlier later rule same none rest =
      let found = keyframes_from name None before in
      ap (option_map (λ (r : KeyframesRule). r.frames))
      (fold-append (later_keyframes name) None before (Some (sheet_rules rules (earlier ++ rule ∷ later)) ∷ after)
      ∙ (passed after (option_or (keyframes_named name (earlier ++ rule ∷ later)) found) rest ∙ ap (λ o. option_or o found) (named-last earlier later rule same none)))

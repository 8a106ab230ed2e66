-- The reading of a keyframes rule is what the grammar says, or its first fault.
use Rattle.std.proofs.Common.{◌≡◌, ℕ, zero, suc, ◌+◌, ◌-◌, ◌<◌, List, [], drop, length, take, refl, ap, sym, ◌∙◌, subst, arith}
use Rattle.std.specs.Prelude.{Option, None, Some, Result, Ok, Err}
use Rattle.css_token.specs.TokenLists.{bytes_of}
use Rattle.css_token.specs.declared.token.Token.{Token}
use Rattle.fix_num.specs.declared.units.Bill.{Bill}
use Rattle.value_types.specs.declared.frame.Frame.{Frame}
use Rattle.sheet_types.specs.declared.declaration.DeclarationParts.{DeclarationParts}
use Rattle.sheet_rules.specs.declared.fault.CssFault.{CssFault}
use Rattle.sheet_rules.specs.Declarations.{solid}
use Rattle.sheet_rules.specs.Faults.{◌>>=◌}
use Rattle.sheet_rules.specs.Frames.{easing_of, put_blocks}
use Rattle.sheet_rules.specs.Keyframes.{FramesFound, after_close, closed_or, frame_at, frames_at, keyframes_at, lone_word, named, supported, wanted}
use Rattle.sheet_rules.specs.RuleGrammar.{IsFaultyKeyframe, IsFaultyKeyframes, IsFaultyKeyframesRule, IsKeyframe, IsKeyframes, IsKeyframesRule}
use Rattle.sheet_rules.specs.RuleGrammar as grammar
use Rattle.sheet_rules.specs.Scanning.{after_spaces, prelude_len}
use Rattle.sheet_rules.proofs.KeyframeReadings.{KeyframeSays, faulty_keyframe_is_read, keyframe_is_read, keyframe_says, some_offsets}
use Rattle.sheet_rules.proofs.KeyframesLemmas.{frames_more}

module _ (text : List ℕ) where
  -- ---- keyframe blocks

  abbrev pub Made : Type 0
  Made = Result (List Frame × List Token) CssFault

  abbrev pub KeyframesSay : ℕ → List Frame → List Token → Made → Type 0
  KeyframesSay used frames ts (Ok found) = IsKeyframes text used frames ts found.0 found.1
  KeyframesSay used frames ts (Err fault) = IsFaultyKeyframes text used ts fault

  -- what a block and those after it say
  with_block : (used : ℕ) (frames : List Frame) (ts : List Token) → after_close (after_spaces ts) ≡ None → (offsets : List Bill) (declared : List DeclarationParts) (next : List Token)
      → IsKeyframe text used (after_spaces ts) offsets declared next → (r : Made)
      → KeyframesSay (used + length offsets) (put_blocks offsets (easing_of None declared) declared frames) next r → KeyframesSay used frames ts r
  with_block used frames ts open_ offsets declared next h (Ok found) more = grammar.keyframe used frames ts offsets declared next found.0 found.1 open_ h more
  with_block used frames ts open_ offsets declared next h (Err fault) more = grammar.later used ts offsets declared next fault open_ h more

  pub keyframes_say : (blocks left used : ℕ) (frames : List Frame) (ts : List Token) → used + left ≡ 64 → left < blocks → KeyframesSay used frames ts (frames_at text blocks left frames ts)
  keyframes_say zero left used frames ts whole more = absurd (omega (arith, more))
  keyframes_say (suc blocks) left used frames ts whole more =
      subst (KeyframesSay used frames ts) (sym (frames_more text blocks left frames ts))
      (by (λ used' left' frames' next whole' more'. keyframes_say blocks left' used' frames' next whole' more') (after_close (after_spaces ts)) refl)
    where
      of_block : ((used' left' : ℕ) (frames' : List Frame) (next : List Token) → used' + left' ≡ 64 → left' < blocks → KeyframesSay used' frames' next (frames_at text blocks left' frames' next))
          → after_close (after_spaces ts) ≡ None → (r : FramesFound) → KeyframeSays text left used whole frames (after_spaces ts) r
          → KeyframesSay used frames ts (r >>= (λ next. frames_at text blocks next.1 next.0 next.2))
      of_block others open_ (Ok found) (offsets, declared, h, made, left_over, some) =
          let few = h.few in
          let used' : used + length offsets + found.1 ≡ 64 = omega (arith, few, left_over, whole) in
          let fewer : found.1 < blocks = omega (arith, left_over, some, more, few, whole) in
          with_block used frames ts open_ offsets declared found.2 h (frames_at text blocks found.1 found.0 found.2)
          (subst (λ fs. KeyframesSay (used + length offsets) fs found.2 (frames_at text blocks found.1 found.0 found.2)) made (others (used + length offsets) found.1 found.0 found.2 used' fewer))
      of_block others open_ (Err fault) h = grammar.here used ts fault open_ h

      by : ((used' left' : ℕ) (frames' : List Frame) (next : List Token) → used' + left' ≡ 64 → left' < blocks → KeyframesSay used' frames' next (frames_at text blocks left' frames' next))
          → (o : Option (List Token)) → after_close (after_spaces ts) ≡ o
          → KeyframesSay used frames ts (closed_or o frames (frame_at text left frames (after_spaces ts) >>= (λ next. frames_at text blocks next.1 next.0 next.2)))
      by others (Some rest) closed = grammar.closed used frames ts rest closed
      by others None open_ = of_block others open_ (frame_at text left frames (after_spaces ts)) (keyframe_says text left used whole frames (after_spaces ts))

  pub keyframes_are_read : (blocks : ℕ) {used : ℕ} {frames made : List Frame} {ts rest : List Token} → IsKeyframes text used frames ts made rest → (left : ℕ) → used + left ≡ 64 → left < blocks
      → frames_at text blocks left frames ts ≡ Ok (made, rest)
  keyframes_are_read zero h left whole more = absurd (omega (arith, more))
  keyframes_are_read (suc blocks) (grammar.closed used frames ts rest closed) left whole more = frames_more text blocks left frames ts ∙ rw closed refl
  keyframes_are_read (suc blocks) (grammar.keyframe used frames ts offsets declared next made rest open_ h others) left whole more =
      let few = h.few in
      let some = some_offsets _ offsets h.spelled in
      frames_more text blocks left frames ts
      ∙ rw (
        open_,
        keyframe_is_read text left used whole frames (after_spaces ts) offsets declared next h,
        keyframes_are_read blocks others (left - length offsets) (omega (arith, few, whole)) (omega (arith, some, more, few, whole)),
      ) refl

  pub faulty_keyframes_are_read : (blocks : ℕ) {used : ℕ} {ts : List Token} {fault : CssFault} → IsFaultyKeyframes text used ts fault → (frames : List Frame) (left : ℕ) → used + left ≡ 64 → left < blocks
      → frames_at text blocks left frames ts ≡ Err fault
  faulty_keyframes_are_read zero h frames left whole more = absurd (omega (arith, more))
  faulty_keyframes_are_read (suc blocks) (grammar.here used ts fault open_ h) frames left whole more =
      frames_more text blocks left frames ts ∙ rw (open_, faulty_keyframe_is_read text left used whole frames (after_spaces ts) fault h) refl
  faulty_keyframes_are_read (suc blocks) (grammar.later used ts offsets declared next fault open_ h others) frames left whole more =
      let few = h.few in
      let some = some_offsets _ offsets h.spelled in
      frames_more text blocks left frames ts
      ∙ rw (
        open_,
        keyframe_is_read text left used whole frames (after_spaces ts) offsets declared next h,
        faulty_keyframes_are_read blocks others (put_blocks offsets (easing_of None declared) declared frames) (left - length offsets) (omega (arith, few, whole)) (omega (arith, some, more, few, whole)),
      ) refl

  -- ---- the rule

  abbrev pub RuleFound : Type 0
  RuleFound = Result (List ℕ × List Frame × List Token) CssFault

  module _ (at : ℕ) (ts : List Token) where
    abbrev framed : List ℕ → Made → RuleFound
    framed name made = made >>= (λ frames. Ok (name, frames.0, frames.1))

    abbrev titled : ℕ → Result (List ℕ) CssFault → RuleFound
    titled count name = name >>= (λ n. framed n (frames_at text 65 64 [] (drop (count + 1) ts)))

    abbrev opened : Result ℕ CssFault → RuleFound
    opened count = count >>= (λ n. titled n (named text (supported at (lone_word (solid (take n ts))))))

    rule_parts : keyframes_at text at ts ≡ opened (wanted (length text) (prelude_len ts))
    unfolding keyframes_at
    rule_parts = refl

    abbrev pub KeyframesRuleSays : RuleFound → Type 0
    KeyframesRuleSays (Ok found) = IsKeyframesRule text ts found.0 found.1 found.2
    KeyframesRuleSays (Err fault) = IsFaultyKeyframesRule text at ts fault

    of_made : (count : ℕ) (word : Token) → prelude_len ts ≡ Some count → lone_word (solid (take count ts)) ≡ Some word → (r : Made) → KeyframesSay 0 [] (drop (count + 1) ts) r
        → KeyframesRuleSays (framed (bytes_of text word) r)
    of_made count word prelude alone (Ok found) h = record { count = count; prelude = prelude; word = word; alone = alone; named = refl; blocks = h }
    of_made count word prelude alone (Err fault) h = grammar.faulty count word fault prelude alone h

    of_word : (count : ℕ) → prelude_len ts ≡ Some count → (o : Option Token) → lone_word (solid (take count ts)) ≡ o → KeyframesRuleSays (titled count (named text (supported at o)))
    of_word count prelude None alone = grammar.unnamed count prelude alone
    of_word count prelude (Some word) alone =
        of_made count word prelude alone (frames_at text 65 64 [] (drop (count + 1) ts)) (keyframes_say 65 64 0 [] (drop (count + 1) ts) refl (omega arith))

    of_prelude : (o : Option ℕ) → prelude_len ts ≡ o → KeyframesRuleSays (opened (wanted (length text) o))
    of_prelude None prelude = grammar.no_brace prelude
    of_prelude (Some count) prelude = of_word count prelude (lone_word (solid (take count ts))) refl

    pub keyframes_rule_says : KeyframesRuleSays (keyframes_at text at ts)
    keyframes_rule_says = subst KeyframesRuleSays (sym rule_parts) (of_prelude (prelude_len ts) refl)

    begun : (count : ℕ) (o : Option Token) → prelude_len ts ≡ Some count → lone_word (solid (take count ts)) ≡ o → keyframes_at text at ts ≡ titled count (named text (supported at o))
    begun count o prelude alone = rule_parts ∙ ap (λ p. opened (wanted (length text) p)) prelude ∙ ap (λ w. titled count (named text (supported at w))) alone

    pub keyframes_rule_is_read : (name : List ℕ) (frames : List Frame) (rest : List Token) → IsKeyframesRule text ts name frames rest → keyframes_at text at ts ≡ Ok (name, frames, rest)
    keyframes_rule_is_read name frames rest h =
        begun h.count (Some h.word) h.prelude h.alone ∙ ap (framed (bytes_of text h.word)) (keyframes_are_read 65 h.blocks 64 refl (omega arith))
        ∙ ap (λ n. Ok (n, frames, rest)) (sym h.named)

    pub faulty_keyframes_rule_is_read : (fault : CssFault) → IsFaultyKeyframesRule text at ts fault → keyframes_at text at ts ≡ Err fault
    faulty_keyframes_rule_is_read fault (grammar.no_brace prelude) = rule_parts ∙ ap (λ o. opened (wanted (length text) o)) prelude
    faulty_keyframes_rule_is_read fault (grammar.unnamed count prelude alone) = begun count None prelude alone
    faulty_keyframes_rule_is_read fault (grammar.faulty count word e prelude alone h) =
        begun count (Some word) prelude alone ∙ ap (framed (bytes_of text word)) (faulty_keyframes_are_read 65 h [] 64 refl (omega arith))

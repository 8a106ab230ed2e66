-- The reading of a rule is what the grammar says, or its first fault.
use Rattle.std.proofs.Common.{◌≡◌, ℕ, ◌+◌, ◌-◌, ◌<◌, ◌≤◌, List, [], ◌∷◌, drop, length, take, refl, ap, sym, ◌∙◌, subst, inl, inr, ◌⊎◌, arith}
use Rattle.std.specs.Prelude.{Option, None, Some, Result, Ok, Err, if◌then◌else◌}
use Rattle.std.proofs.lemmas.Bool.{cases_lt, le-ltb, lt-ltb}
use Rattle.css_token.specs.declared.token.Token.{Token}
use Rattle.fix_num.specs.declared.units.Bill.{Bill}
use Rattle.token_parts.specs.Parts.{TokenPart, token_parts_of}
use Rattle.value_types.specs.declared.frame.Frame.{Frame}
use Rattle.sheet_types.specs.declared.declaration.DeclarationParts.{DeclarationParts}
use Rattle.sheet_rules.specs.declared.block_kind.BlockKind.TheVariants.{Keyframe}
use Rattle.sheet_rules.specs.declared.fault.BoundName.TheVariants as bound
use Rattle.sheet_rules.specs.declared.fault.CssFault.{CssFault}
use Rattle.sheet_rules.specs.declared.fault.CssFault.TheVariants.{Bound}
use Rattle.sheet_rules.specs.Blocks.{Found, block_at}
use Rattle.sheet_rules.specs.Faults.{◌>>=◌}
use Rattle.sheet_rules.specs.Frames.{easing_of, is_comma, offset_before, offset_of, offsets_of, put_blocks}
use Rattle.sheet_rules.specs.Keyframes.{FramesFound, frame_at, limited, offsets_in, supported, wanted}
use Rattle.sheet_rules.specs.RuleGrammar.{IsFaultyKeyframe, IsFaultyKeyframes, IsKeyframe, IsKeyframes}
use Rattle.sheet_rules.specs.RuleGrammar as grammar
use Rattle.sheet_rules.specs.Scanning.{place_of, prelude_len}
use Rattle.sheet_rules.proofs.BlockReadings.{BlockSays, block_is_read, block_says, faulty_block_is_read}

-- ---- offsets

-- offsets are at least one
pub some_offsets : (ps : List TokenPart) (offsets : List Bill) → offsets_of ps ≡ Some offsets → 1 ≤ length offsets
unfolding offsets_of
some_offsets [] offsets e = absurd (cc)
some_offsets (p ∷ []) offsets e = before (offset_of p) (Some []) offsets e
  where
    before : (o : Option Bill) (rest : Option (List Bill)) (offsets : List Bill) → offset_before o rest ≡ Some offsets → 1 ≤ length offsets
    before (Some x) (Some xs) offsets e = let is : x ∷ xs ≡ offsets = cc in let count = ap length is in omega (arith, count)
    before (Some x) None offsets e = absurd (cc)
    before None rest offsets e = absurd (cc)
some_offsets (p ∷ q ∷ ps) offsets e = before (offset_of p) (if is_comma q then offsets_of ps else None) offsets e
  where
    before : (o : Option Bill) (rest : Option (List Bill)) (offsets : List Bill) → offset_before o rest ≡ Some offsets → 1 ≤ length offsets
    before (Some x) (Some xs) offsets e = let is : x ∷ xs ≡ offsets = cc in let count = ap length is in omega (arith, count)
    before (Some x) None offsets e = absurd (cc)
    before None rest offsets e = absurd (cc)

limited_few : (left at : ℕ) (offsets : List Bill) → length offsets ≤ left → limited left at offsets ≡ Ok offsets
limited_few left at offsets few = rw (le-ltb left (length offsets) few) refl

limited_many : (left at : ℕ) (offsets : List Bill) → left < length offsets → limited left at offsets ≡ Err (Bound bound.Offsets at)
limited_many left at offsets many = rw (lt-ltb left (length offsets) many) refl

-- ---- a keyframe block

module _ (text : List ℕ) (left used : ℕ) (whole : used + left ≡ 64) (frames : List Frame) (ts : List Token) where
  abbrev spelled : ℕ → Option (List Bill)
  spelled count = offsets_of (token_parts_of text (take count ts))

  abbrev blocked : List Bill → Found → FramesFound
  blocked offsets block = block >>= (λ b. Ok (put_blocks offsets (easing_of None b.0) b.0 frames, left - length offsets, b.1))

  abbrev offered : ℕ → Result (List Bill) CssFault → FramesFound
  offered count offsets = offsets >>= (λ os. blocked os (block_at Keyframe text 0 64 (drop (count + 1) ts)))

  abbrev opened : Result ℕ CssFault → FramesFound
  opened count = count >>= (λ n. offered n (offsets_in left (place_of (length text) ts) (token_parts_of text (take n ts))))

  keyframe_parts : frame_at text left frames ts ≡ opened (wanted (length text) (prelude_len ts))
  unfolding frame_at
  keyframe_parts = refl

  -- what the result says of the block
  abbrev pub KeyframeSays : FramesFound → Type 0
  KeyframeSays (Ok found) = (offsets : List Bill) × (declared : List DeclarationParts) × IsKeyframe text used ts offsets declared found.2
      × (found.0 ≡ put_blocks offsets (easing_of None declared) declared frames) × (found.1 ≡ left - length offsets) × (1 ≤ length offsets)
  KeyframeSays (Err fault) = IsFaultyKeyframe text used ts fault

  of_block : (count : ℕ) (offsets : List Bill) → prelude_len ts ≡ Some count → spelled count ≡ Some offsets → length offsets ≤ left → (r : Found)
      → BlockSays Keyframe text 0 (drop (count + 1) ts) r → KeyframeSays (blocked offsets r)
  of_block count offsets prelude spelling few (Ok found) h = (
    offsets,
    found.0,
    record { count = count; prelude = prelude; spelled = spelling; few = omega (arith, few, whole); is_block = h },
    refl,
    refl,
    some_offsets (token_parts_of text (take count ts)) offsets spelling,
  )
  of_block count offsets prelude spelling few (Err fault) h = grammar.faulty count offsets fault prelude spelling (omega (arith, few, whole)) h

  of_limit : (count : ℕ) (offsets : List Bill) → prelude_len ts ≡ Some count → spelled count ≡ Some offsets → (length offsets ≤ left) ⊎ (left < length offsets)
      → KeyframeSays (offered count (limited left (place_of (length text) ts) offsets))
  of_limit count offsets prelude spelling (inl few) =
      subst (λ r. KeyframeSays (offered count r)) (sym (limited_few left (place_of (length text) ts) offsets few))
      (of_block count offsets prelude spelling few (block_at Keyframe text 0 64 (drop (count + 1) ts)) (block_says Keyframe text 64 0 (drop (count + 1) ts) refl))
  of_limit count offsets prelude spelling (inr many) =
      subst (λ r. KeyframeSays (offered count r)) (sym (limited_many left (place_of (length text) ts) offsets many))
      (grammar.too_many count offsets prelude spelling (omega (arith, many, whole)))

  few_or_many : (n : ℕ) → (n ≤ left) ⊎ (left < n)
  few_or_many n = elim (cases_lt left n) [ inl h ↦ inr h | inr h ↦ inl h ]

  of_offsets : (count : ℕ) → prelude_len ts ≡ Some count → (o : Option (List Bill)) → spelled count ≡ o
      → KeyframeSays (offered count (supported (place_of (length text) ts) o >>= limited left (place_of (length text) ts)))
  of_offsets count prelude None spelling = grammar.unsupported count prelude spelling
  of_offsets count prelude (Some offsets) spelling = of_limit count offsets prelude spelling (few_or_many (length offsets))

  of_prelude : (o : Option ℕ) → prelude_len ts ≡ o → KeyframeSays (opened (wanted (length text) o))
  of_prelude None prelude = grammar.no_brace prelude
  of_prelude (Some count) prelude = of_offsets count prelude (spelled count) refl

  pub keyframe_says : KeyframeSays (frame_at text left frames ts)
  keyframe_says = subst KeyframeSays (sym keyframe_parts) (of_prelude (prelude_len ts) refl)

  -- and what the grammar says is read
  begun : (count : ℕ) → prelude_len ts ≡ Some count → frame_at text left frames ts ≡ offered count (offsets_in left (place_of (length text) ts) (token_parts_of text (take count ts)))
  begun count prelude = keyframe_parts ∙ ap (λ o. opened (wanted (length text) o)) prelude

  offers : (count : ℕ) (offsets : List Bill) → prelude_len ts ≡ Some count → spelled count ≡ Some offsets
      → frame_at text left frames ts ≡ offered count (limited left (place_of (length text) ts) offsets)
  offers count offsets prelude spelling =
      begun count prelude ∙ ap (λ o. offered count (supported (place_of (length text) ts) o >>= limited left (place_of (length text) ts))) spelling

  pub keyframe_is_read : (offsets : List Bill) (declared : List DeclarationParts) (rest : List Token) → IsKeyframe text used ts offsets declared rest
      → frame_at text left frames ts ≡ Ok (put_blocks offsets (easing_of None declared) declared frames, left - length offsets, rest)
  keyframe_is_read offsets declared rest h =
      let few = h.few in
      offers h.count offsets h.prelude h.spelled ∙ ap (offered h.count) (limited_few left (place_of (length text) ts) offsets (omega (arith, few, whole)))
      ∙ ap (blocked offsets) (block_is_read Keyframe text h.is_block 64 refl)

  pub faulty_keyframe_is_read : (fault : CssFault) → IsFaultyKeyframe text used ts fault → frame_at text left frames ts ≡ Err fault
  faulty_keyframe_is_read fault (grammar.no_brace prelude) = keyframe_parts ∙ ap (λ o. opened (wanted (length text) o)) prelude
  faulty_keyframe_is_read fault (grammar.unsupported count prelude spelling) =
      begun count prelude ∙ ap (λ o. offered count (supported (place_of (length text) ts) o >>= limited left (place_of (length text) ts))) spelling
  faulty_keyframe_is_read fault (grammar.too_many count offsets prelude spelling many) =
      offers count offsets prelude spelling ∙ ap (offered count) (limited_many left (place_of (length text) ts) offsets (omega (arith, many, whole)))
  faulty_keyframe_is_read fault (grammar.faulty count offsets e prelude spelling few h) =
      offers count offsets prelude spelling ∙ ap (offered count) (limited_few left (place_of (length text) ts) offsets (omega (arith, few, whole)))
      ∙ ap (blocked offsets) (faulty_block_is_read Keyframe text h 64 refl)

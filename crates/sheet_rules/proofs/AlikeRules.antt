-- Tokens that say the same are read as the same rules.
use Rattle.std.proofs.Common.{◌≡◌, ℕ, ◌+◌, ◌-◌, Bool, true, false, List, [], ◌∷◌, codes, drop, length, take, refl, ap, sym, subst, ◌∙◌}
use Rattle.std.specs.Prelude.{◌&&◌, ◌==◌, Option, None, Some, Result, Ok, Err, if◌then◌else◌, nat_le, slice_get}
use Rattle.std.specs.Option.{option_map_or}
use Rattle.css_token.specs.TokenLists.{bytes_of}
use Rattle.css_token.specs.declared.token.Kind.{Kind}
use Rattle.css_token.specs.declared.token.Kind.TheVariants as kind
use Rattle.css_token.specs.declared.token.Token.{Token}
use Rattle.fix_num.specs.declared.units.Bill.{Bill}
use Rattle.value_types.specs.declared.frame.Frame.{Frame}
use Rattle.token_parts.specs.Keywords.{is_keyword}
use Rattle.token_parts.specs.Parts.{token_parts_of}
use Rattle.token_parts.specs.declared.fault.ValueFault.{ValueFault}
use Rattle.selectors_mini.specs.Compounds.{CompoundSelector}
use Rattle.selectors_mini.specs.Reading.{selectors_of}
use Rattle.shorthand_text.specs.Declaring.{declared_of}
use Rattle.shorthand_text.specs.KnownNames.{known_name}
use Rattle.shorthand_text.specs.declared.known_name.KnownName.{KnownName}
use Rattle.shorthand_text.specs.declared.longhand.Longhand.{Longhand}
use Rattle.sheet_types.specs.Sheets.{SheetRules}
use Rattle.sheet_types.specs.declared.declaration.DeclarationParts.{DeclarationParts}
use Rattle.sheet_rules.specs.declared.block_kind.BlockKind.{BlockKind}
use Rattle.sheet_rules.specs.declared.scan.Bracket.{Bracket}
use Rattle.sheet_rules.specs.declared.scan.Step.{Step}
use Rattle.sheet_rules.specs.declared.scan.Step.TheVariants.{Stop, Bad, Go}
use Rattle.sheet_rules.specs.declared.fault.CssFault.{CssFault}
use Rattle.sheet_rules.specs.declared.fault.CssFault.TheVariants.{BadToken}
use Rattle.sheet_rules.specs.Alike.{AreAlike, IsAlike, bare_kind}
use Rattle.sheet_rules.specs.Blocks.{after_separators}
use Rattle.sheet_rules.specs.BlockGrammar.{IsBlock, IsBlockEnd, IsColon, IsDeclaration, IsName}
use Rattle.sheet_rules.specs.BlockGrammar as grammar
use Rattle.sheet_rules.specs.Declarations.{declarations_of, ends_important, is_delim, is_dropped, is_ident, is_important, is_mark, judged, solid, unmarked}
use Rattle.sheet_rules.specs.Frames.{offsets_of}
use Rattle.sheet_rules.specs.Keyframes.{after_close, closed_by_kind, lone_word}
use Rattle.sheet_rules.specs.Pairing.{IsValue}
use Rattle.sheet_rules.specs.RuleGrammar.{IsKeyframe, IsKeyframes, IsKeyframesRule, IsRule, IsStyleRule}
use Rattle.sheet_rules.specs.RuleGrammar as rule
use Rattle.sheet_rules.specs.Rules.{is_at_word}
use Rattle.sheet_rules.specs.Scanning.{after_spaces, after_step, is_space_kind, none_open, step_of, value_len}
use Rattle.sheet_rules.specs.SheetGrammar.{AreRules}
use Rattle.sheet_rules.specs.SheetGrammar as sheets
use Rattle.sheet_rules.proofs.AlikeTokens as alike
use Rattle.sheet_rules.proofs.Pairs.{counted_is_value, value_is_counted}
use Rattle.sheet_rules.proofs.ScanLemmas.{value_len_cons, value_len_nil}

-- ---- kinds

delim_bare : alike.IsBare is_delim
delim_bare (kind.Dimension unit) = refl
delim_bare k = refl

ident_bare : alike.IsBare is_ident
ident_bare (kind.Dimension unit) = refl
ident_bare k = refl

at_word_bare : alike.IsBare is_at_word
at_word_bare (kind.Dimension unit) = refl
at_word_bare k = refl

no_delim : (k : Kind) → is_space_kind k ≡ true → is_delim k ≡ false
no_delim kind.Space h = refl
no_delim _ h = cc

no_ident : (k : Kind) → is_space_kind k ≡ true → is_ident k ≡ false
no_ident kind.Space h = refl
no_ident _ h = cc

step_bare : (k : Kind) (stack : List Bracket) → step_of k stack ≡ step_of (bare_kind k) stack
step_bare (kind.Dimension unit) stack = refl
step_bare k stack = refl

ident_solid : (k : Kind) → k ≡ kind.Ident → is_space_kind k ≡ false
ident_solid k e = ap is_space_kind e

at_word_solid : (k : Kind) → is_at_word k ≡ true → is_space_kind k ≡ false
at_word_solid kind.AtWord h = refl
at_word_solid _ h = cc

lone_solid : (k : Kind) → is_ident k ≡ true → is_space_kind k ≡ false
lone_solid kind.Ident h = refl
lone_solid _ h = cc

-- ---- values

none_open_ok : (end other : ℕ) (stack : List Bracket) (n : ℕ) → none_open end stack ≡ Ok n → none_open other stack ≡ Ok n
none_open_ok end other stack n e = by_test (length stack == 0) e where
  by_test : (b : Bool) → (if b then Ok 0 else Err (BadToken end)) ≡ Ok n → (if b then Ok 0 else Err (BadToken other)) ≡ Ok n
  by_test true h = let same : 0 ≡ n = cc in ap Ok same
  by_test false h = cc

step_ok : (at to : ℕ) (s : Step) (r q : Result ℕ CssFault) (n : ℕ) → ((m : ℕ) → r ≡ Ok m → q ≡ Ok m) → after_step at s r ≡ Ok n → after_step to s q ≡ Ok n
step_ok at to Stop r q n h e = e
step_ok at to Bad r q n h e = cc
step_ok at to Go (Ok m) q n h e = let same : m + 1 ≡ n = cc in ap (after_step to Go) (h m refl) ∙ ap Ok same
step_ok at to Go (Err fault) q n h e = cc

dropped_free : (name : KnownName) (place at to : ℕ) (important : Bool) (r : Result (List Longhand) ValueFault) (ds : List DeclarationParts)
    → declarations_of name at place important r ≡ Ok ds → declarations_of name to place important r ≡ Ok ds
dropped_free name place at to important (Ok longhands) ds e = e
dropped_free name place at to important (Err fault) ds e = cc

module _ (text other : List ℕ) where
  abbrev Alike : List Token → List Token → Type 0
  Alike ts us = AreAlike text other ts us

  value_alike : (ts us : List Token) → Alike ts us → (stack : List Bracket) (end to n : ℕ) → value_len end stack ts ≡ Ok n → value_len to stack us ≡ Ok n
  value_alike [] [] h stack end to n e = value_len_nil to stack ∙ none_open_ok end to stack n (sym (value_len_nil end stack) ∙ e)
  value_alike [] (u ∷ us) h stack end to n e = absurd h
  value_alike (t ∷ ts) [] h stack end to n e = absurd h
  value_alike (t ∷ ts) (u ∷ us) h stack end to n e =
      let s = step_of t.kind stack in
      let same : step_of t.kind stack ≡ step_of u.kind stack = step_bare t.kind stack ∙ ap (λ k. step_of k stack) h.0.kind ∙ sym (step_bare u.kind stack) in
      value_len_cons to stack u us
      ∙ ap (λ (p : Step × List Bracket). after_step u.from p.0 (value_len to p.1 us)) (sym same)
      ∙ step_ok t.from u.from s.0 (value_len end s.1 ts) (value_len to s.1 us) n (λ m. value_alike ts us h.1 s.1 end to m) (sym (value_len_cons end stack t ts) ∙ e)

  is_value_alike : (ts us : List Token) (n : ℕ) → Alike ts us → IsValue ts n → IsValue us n
  is_value_alike ts us n h v = counted_is_value 0 us n (value_alike ts us h [] 0 0 n (value_is_counted 0 ts n v))

  mark_alike : (t u : Token) → IsAlike text other t u → is_mark text t ≡ is_mark other u
  mark_alike t u a = alike.word_test text other is_delim (λ bs. is_keyword bs (codes "!")) delim_bare no_delim t u a

  important_alike : (t u : Token) → IsAlike text other t u → is_important text t ≡ is_important other u
  important_alike t u a = alike.word_test text other is_ident (λ bs. is_keyword bs (codes "important")) ident_bare no_ident t u a

  ends_alike : (ts us : List Token) → Alike ts us → ends_important text ts ≡ ends_important other us
  ends_alike ts us h =
      let m = length us in
      ap (λ n. nat_le 2 n && option_map_or (is_mark text) (slice_get ts (n - 2)) false && option_map_or (is_important text) (slice_get ts (n - 1)) false) (alike.length_alike text other ts us h)
      ∙ ap (λ b. nat_le 2 m && b && option_map_or (is_important text) (slice_get ts (m - 1)) false) (alike.test_at text other (is_mark text) (is_mark other) mark_alike (m - 2) ts us h)
      ∙ ap (λ b. nat_le 2 m && option_map_or (is_mark other) (slice_get us (m - 2)) false && b) (alike.test_at text other (is_important text) (is_important other) important_alike (m - 1) ts us h)

  unmarked_alike : (ts us : List Token) → Alike ts us → Alike (unmarked text ts) (unmarked other us)
  unmarked_alike ts us h =
      let P : Bool → Type 0 = λ b. Alike (unmarked text ts) (if b then take (length us - 2) us else us) in
      subst P (ends_alike ts us h) (by_test (ends_important text ts)) where
        by_test : (b : Bool) → Alike (if b then take (length ts - 2) ts else ts) (if b then take (length us - 2) us else us)
        by_test true =
            let Q : ℕ → Type 0 = λ n. Alike (take (length ts - 2) ts) (take (n - 2) us) in
            subst Q (alike.length_alike text other ts us h) (alike.take_alike text other (length ts - 2) ts us h)
        by_test false = h

  judged_known : (block : BlockKind) (place at to : ℕ) (ts us : List Token) (name : KnownName) (ds : List DeclarationParts) → Alike ts us
      → judged block place at text ts (Some name) ≡ Ok ds → judged block place to other us (Some name) ≡ Ok ds
  unfolding judged
  judged_known block place at to ts us name ds h e =
      let value = declared_of name (token_parts_of text (unmarked text ts)) in
      let same : declared_of name (token_parts_of text (unmarked text ts)) ≡ declared_of name (token_parts_of other (unmarked other us)) =
      ap (declared_of name) (alike.parts_alike text other (unmarked text ts) (unmarked other us) (unmarked_alike ts us h)) in
      ap (λ b. if is_dropped block name b then Ok [] else declarations_of name to place b (declared_of name (token_parts_of other (unmarked other us)))) (sym (ends_alike ts us h))
      ∙ ap (λ v. if is_dropped block name (ends_important text ts) then Ok [] else declarations_of name to place (ends_important text ts) v) (sym same)
      ∙ by_drop (is_dropped block name (ends_important text ts)) e
    where
      by_drop : (b : Bool) → (if b then Ok [] else declarations_of name at place (ends_important text ts) (declared_of name (token_parts_of text (unmarked text ts)))) ≡ Ok ds
          → (if b then Ok [] else declarations_of name to place (ends_important text ts) (declared_of name (token_parts_of text (unmarked text ts)))) ≡ Ok ds
      by_drop true k = k
      by_drop false k = dropped_free name place at to (ends_important text ts) _ ds k

  judged_alike : (block : BlockKind) (place at to : ℕ) (ts us : List Token) (name : Option KnownName) (ds : List DeclarationParts) → Alike ts us
      → judged block place at text ts name ≡ Ok ds → judged block place to other us name ≡ Ok ds
  unfolding judged
  judged_alike block place at to ts us None ds h e = e
  judged_alike block place at to ts us (Some name) ds h e = judged_known block place at to ts us name ds h e

  -- ---- blocks

  declaration_alike : (block : BlockKind) (place : ℕ) (name to : Token) (after us : List Token) (ds : List DeclarationParts) (next : List Token) → name.kind ≡ kind.Ident → IsAlike text other name to
      → Alike after us → IsDeclaration block text place name after ds next → (rest : List Token) × IsDeclaration block other place to us ds rest × Alike next rest
  declaration_alike block place name to after us ds next word same h d =
      let spaces = alike.spaces_alike text other after us h in
      let Q : List Token → Type 0 = λ xs. Alike xs (after_spaces us) in
      let s = alike.split text other d.colon.colon d.value (after_spaces us) (subst Q d.colon.stands spaces) in
      let names : known_name (bytes_of text name) ≡ known_name (bytes_of other to) = ap known_name (same.bytes (ident_solid name.kind word)) in
      let front = alike.solid_alike text other (take d.count d.value) (take d.count s.rest) (alike.take_alike text other d.count d.value s.rest s.others) in
      let R : List Token → Type 0 = λ xs. Alike xs (drop d.count s.rest) in (
        drop d.count s.rest,
        record {
          value = s.rest;
          colon = record { colon = s.first; is = alike.kind_same text other kind.Colon refl refl d.colon.colon s.first s.alike d.colon.is; stands = s.is };
          count = d.count;
          is_value = is_value_alike d.value s.rest d.count s.others d.is_value;
          gives = ap (judged block place to.from other (solid (take d.count s.rest))) (sym names)
              ∙ judged_alike block place name.from to.from (solid (take d.count d.value)) (solid (take d.count s.rest)) (known_name (bytes_of text name)) ds front d.gives;
          behind = refl;
        },
        subst R (sym d.behind) (alike.drop_alike text other d.count d.value s.rest s.others),
      )

  end_alike : (block : BlockKind) (at rest us : List Token) → IsBlockEnd block at rest → Alike at us → (others : List Token) × IsBlockEnd block us others × Alike rest others
  end_alike block at rest [] (grammar.text_end is) h = ([], grammar.text_end is, tt)
  end_alike block at rest (u ∷ us) (grammar.text_end is) h = absurd h
  end_alike block at rest [] (grammar.closed t ts o is) h = absurd h
  end_alike block at rest (u ∷ us) (grammar.closed t ts o is) h =
      (us, grammar.closed u us o (alike.kind_same text other kind.CurlyClose refl refl t u h.0 is), h.1)

  pub block_alike : {block : BlockKind} {place : ℕ} {ts rest : List Token} {ds : List DeclarationParts} → IsBlock block text place ts ds rest → (us : List Token) → Alike ts us
      → (others : List Token) × IsBlock block other place us ds others × Alike rest others
  block_alike {block} (grammar.ended place ts rest h) us a =
      let e = end_alike block (after_separators ts) rest (after_separators us) h (alike.separators_alike text other ts us a) in
      (e.0, grammar.ended place us e.0 e.1, e.2)
  block_alike {block} (grammar.declaration place ts name after first others next rest few n declared more) us a =
      let Q : List Token → Type 0 = λ xs. Alike xs (after_separators us) in
      let s = alike.split text other name after (after_separators us) (subst Q n.stands (alike.separators_alike text other ts us a)) in
      let d = declaration_alike block place name s.first after s.rest first next n.is s.alike s.others declared in
      let m = block_alike more d.0 d.2 in (
        m.0,
        grammar.declaration place us s.first s.rest first others d.0 m.0 few
            (record { is = alike.kind_same text other kind.Ident refl refl name s.first s.alike n.is; stands = s.is }) d.1 m.1,
        m.2,
      )

  -- ---- rules

  style_alike : (ts us : List Token) (selectors : List (List CompoundSelector)) (ds : List DeclarationParts) (rest : List Token) → Alike ts us → IsStyleRule text ts selectors ds rest
      → (others : List Token) × IsStyleRule other us selectors ds others × Alike rest others
  style_alike ts us selectors ds rest a h =
      let b = block_alike h.is_block (drop (h.count + 1) us) (alike.drop_alike text other (h.count + 1) ts us a) in (
        b.0,
        record {
          count = h.count;
          prelude = sym (alike.prelude_alike text other ts us a) ∙ h.prelude;
          spelled = ap selectors_of (sym (alike.selectors_alike text other (take h.count ts) (take h.count us) (alike.take_alike text other h.count ts us a))) ∙ h.spelled;
          is_block = b.1;
        },
        b.2,
      )

  keyframe_alike : (used : ℕ) (ts us : List Token) (offsets : List Bill) (ds : List DeclarationParts) (rest : List Token) → Alike ts us → IsKeyframe text used ts offsets ds rest
      → (others : List Token) × IsKeyframe other used us offsets ds others × Alike rest others
  keyframe_alike used ts us offsets ds rest a h =
      let b = block_alike h.is_block (drop (h.count + 1) us) (alike.drop_alike text other (h.count + 1) ts us a) in (
        b.0,
        record {
          count = h.count;
          prelude = sym (alike.prelude_alike text other ts us a) ∙ h.prelude;
          spelled = ap offsets_of (sym (alike.parts_alike text other (take h.count ts) (take h.count us) (alike.take_alike text other h.count ts us a))) ∙ h.spelled;
          few = h.few;
          is_block = b.1;
        },
        b.2,
      )

  kind_closes : (k : Kind) (ts rest us : List Token) → closed_by_kind k ts ≡ Some rest → Alike ts us → (k ≡ kind.CurlyClose) × Alike rest us
  kind_closes kind.CurlyClose ts rest us e h = let same : ts ≡ rest = cc in let P : List Token → Type 0 = λ xs. Alike xs us in (refl, subst P same h)
  kind_closes _ ts rest us e h = cc

  close_alike : (at rest us : List Token) → after_close at ≡ Some rest → Alike at us → (others : List Token) × (after_close us ≡ Some others) × Alike rest others
  close_alike [] rest us e h = cc
  close_alike (t ∷ ts) rest [] e h = absurd h
  close_alike (t ∷ ts) rest (u ∷ us) e h =
      let c = kind_closes t.kind ts rest us e h.1 in
      (us, ap (λ k. closed_by_kind k us) (alike.kind_same text other kind.CurlyClose refl refl t u h.0 c.0), c.1)

  opens_bare : (k : Kind) (ts us : List Token) → closed_by_kind k ts ≡ None → closed_by_kind (bare_kind k) us ≡ None
  opens_bare kind.CurlyClose ts us e = cc
  opens_bare (kind.Dimension unit) ts us e = refl
  opens_bare _ ts us e = refl

  bare_opens : (k : Kind) (us : List Token) → closed_by_kind (bare_kind k) us ≡ None → closed_by_kind k us ≡ None
  bare_opens (kind.Dimension unit) us e = refl
  bare_opens k us e = e

  open_alike : (at us : List Token) → after_close at ≡ None → Alike at us → after_close us ≡ None
  open_alike [] [] e h = refl
  open_alike [] (u ∷ us) e h = absurd h
  open_alike (t ∷ ts) [] e h = absurd h
  open_alike (t ∷ ts) (u ∷ us) e h =
      let P : Kind → Type 0 = λ k. closed_by_kind k us ≡ None in
      bare_opens u.kind us (subst P h.0.kind (opens_bare t.kind ts us e))

  keyframes_alike : {used : ℕ} {frames made : List Frame} {ts rest : List Token} → IsKeyframes text used frames ts made rest → (us : List Token) → Alike ts us
      → (others : List Token) × IsKeyframes other used frames us made others × Alike rest others
  keyframes_alike (rule.closed used frames ts rest closed) us a =
      let c = close_alike (after_spaces ts) rest (after_spaces us) closed (alike.spaces_alike text other ts us a) in
      (c.0, rule.closed used frames us c.0 c.1, c.2)
  keyframes_alike (rule.keyframe used frames ts offsets ds next made rest open_ h others) us a =
      let spaces = alike.spaces_alike text other ts us a in
      let k = keyframe_alike used (after_spaces ts) (after_spaces us) offsets ds next spaces h in
      let m = keyframes_alike others k.0 k.2 in
      (m.0, rule.keyframe used frames us offsets ds k.0 made m.0 (open_alike (after_spaces ts) (after_spaces us) open_ spaces) k.1 m.1, m.2)

  lone_told : (t word : Token) → (if is_ident t.kind then Some t else None) ≡ Some word → (is_ident t.kind ≡ true) × (t ≡ word)
  lone_told t word e = by_test (is_ident t.kind) e where
    by_test : (b : Bool) → (if b then Some t else None) ≡ Some word → (b ≡ true) × (t ≡ word)
    by_test true h = (refl, cc)
    by_test false h = cc

  lone_alike : (ts us : List Token) (word : Token) → Alike ts us → lone_word ts ≡ Some word → (one : Token) × (lone_word us ≡ Some one) × (bytes_of text word ≡ bytes_of other one)
  lone_alike [] us word h e = cc
  lone_alike (t ∷ []) [] word h e = absurd h
  lone_alike (t ∷ []) (u ∷ []) word h e =
      let told = lone_told t word e in
      let none : Option Token = None in (
        u,
        ap (λ b. if b then Some u else none) (sym (alike.kind_test text other is_ident ident_bare t u h.0) ∙ told.0),
        ap (bytes_of text) (sym told.1) ∙ h.0.bytes (lone_solid t.kind told.0),
      )
  lone_alike (t ∷ []) (u ∷ v ∷ vs) word h e = absurd h.1
  lone_alike (t ∷ s ∷ ss) us word h e = cc

  keyframes_rule_alike : (ts us : List Token) (name : List ℕ) (frames : List Frame) (rest : List Token) → Alike ts us → IsKeyframesRule text ts name frames rest
      → (others : List Token) × IsKeyframesRule other us name frames others × Alike rest others
  keyframes_rule_alike ts us name frames rest a h =
      let front = alike.solid_alike text other (take h.count ts) (take h.count us) (alike.take_alike text other h.count ts us a) in
      let l = lone_alike (solid (take h.count ts)) (solid (take h.count us)) h.word front h.alone in
      let k = keyframes_alike h.blocks (drop (h.count + 1) us) (alike.drop_alike text other (h.count + 1) ts us a) in (
        k.0,
        record {
          count = h.count;
          prelude = sym (alike.prelude_alike text other ts us a) ∙ h.prelude;
          word = l.0;
          alone = l.1;
          named = h.named ∙ l.2;
          blocks = k.1;
        },
        k.2,
      )

  rule_alike : (place : ℕ) (sheet : SheetRules) (t u : Token) (ts us : List Token) (made : SheetRules) (rest : List Token) → IsAlike text other t u → Alike ts us
      → IsRule text place sheet t (t ∷ ts) made rest → (others : List Token) × IsRule other place sheet u (u ∷ us) made others × Alike rest others
  rule_alike place sheet t u ts us made rest a h (rule.style selectors ds after no_at_word r) =
      let s = style_alike (t ∷ ts) (u ∷ us) selectors ds rest (a, h) r in
      (s.0, rule.style selectors ds s.0 (sym (alike.kind_test text other is_at_word at_word_bare t u a) ∙ no_at_word) s.1, s.2)
  rule_alike place sheet t u ts us made rest a h (rule.keyframes name frames after at_word keyword r) =
      let k = keyframes_rule_alike ts us name frames rest h r in (
        k.0,
        rule.keyframes name frames k.0 (sym (alike.kind_test text other is_at_word at_word_bare t u a) ∙ at_word)
            (ap (λ bs. is_keyword bs (codes "@keyframes")) (sym (a.bytes (at_word_solid t.kind at_word))) ∙ keyword) k.1,
        k.2,
      )

  nothing_alike : (ts us at : List Token) → Alike ts us → after_spaces ts ≡ [] → after_spaces us ≡ at → at ≡ []
  nothing_alike ts us [] a e f = refl
  nothing_alike ts us (u ∷ vs) a e f =
      let P : List Token → Type 0 = λ xs. Alike xs (u ∷ vs) in
      let Q : List Token → Type 0 = λ xs. Alike (after_spaces ts) xs in
      absurd (subst P e (subst Q f (alike.spaces_alike text other ts us a)))

  pub rules_alike : {place : ℕ} {sheet made : SheetRules} {ts : List Token} → AreRules text place sheet ts made → (us : List Token) → Alike ts us → AreRules other place sheet us made
  rules_alike (sheets.ended place sheet ts stands) us a = sheets.ended place sheet us (nothing_alike ts us (after_spaces us) a stands refl)
  rules_alike (sheets.rule place sheet ts t vs more next made few stands r others) us a =
      let Q : List Token → Type 0 = λ xs. Alike xs (after_spaces us) in
      let s = alike.split text other t vs (after_spaces us) (subst Q stands (alike.spaces_alike text other ts us a)) in
      let k = rule_alike place sheet t s.first vs s.rest more next s.alike s.others r in
      sheets.rule place sheet us s.first s.rest more k.0 made few s.is k.1 (rules_alike others k.0 k.2)

-- Tokens that are read stay read where more tokens follow.
use Rattle.std.proofs.Common.{◌≡◌, ◌≢◌, ℕ, suc, ◌+◌, ◌<◌, Bool, true, false, cond, List, [], ◌∷◌, ◌++◌, drop, length, take, refl, ap, sym, subst, ◌∙◌, inl, inr, arith}
use Rattle.std.specs.Prelude.{Option, None, Some, nat_lt, not}
use Rattle.std.specs.List.{position_or_len, prefix_len}
use Rattle.std.proofs.lemmas.List.Folds.{prefix_len-append}
use Rattle.std.proofs.lemmas.Bool.{cases_Bool, lt-ltb, ltb-true, ne_eqb}
use Rattle.std.proofs.lemmas.List.{drop-append-le, length-append, length-drop, take-append-le}
use Rattle.css_token.specs.TokenLists.{bytes_of}
use Rattle.css_token.specs.declared.token.Kind.{Kind}
use Rattle.css_token.specs.declared.token.Kind.TheVariants as kind
use Rattle.css_token.specs.declared.token.Token.{Token}
use Rattle.shorthand_text.specs.KnownNames.{known_name}
use Rattle.sheet_types.specs.declared.declaration.DeclarationParts.{DeclarationParts}
use Rattle.selectors_mini.specs.Compounds.{CompoundSelector}
use Rattle.selectors_mini.specs.Parts.{parts_of}
use Rattle.selectors_mini.specs.Reading.{selectors_of}
use Rattle.fix_num.specs.declared.units.Bill.{Bill}
use Rattle.value_types.specs.declared.frame.Frame.{Frame}
use Rattle.token_parts.specs.Parts.{token_parts_of}
use Rattle.sheet_rules.specs.declared.block_kind.BlockKind.{BlockKind}
use Rattle.sheet_rules.specs.declared.block_kind.BlockKind.TheVariants.{Attribute, Style, Keyframe}
use Rattle.sheet_rules.specs.Blocks.{after_separators, is_separator}
use Rattle.sheet_rules.specs.BlockGrammar.{IsBlock, IsBlockEnd, IsColon, IsDeclaration, IsName}
use Rattle.sheet_rules.specs.BlockGrammar as grammar
use Rattle.sheet_rules.specs.Declarations.{judged, solid}
use Rattle.sheet_rules.specs.Frames.{offsets_of}
use Rattle.sheet_rules.specs.Keyframes.{after_close, closed_by_kind, lone_word}
use Rattle.sheet_rules.specs.Pairing.{EndsValue, IsPaired, IsValue}
use Rattle.sheet_rules.specs.RuleGrammar.{IsKeyframe, IsKeyframes, IsKeyframesRule, IsRule, IsStyleRule}
use Rattle.sheet_rules.specs.RuleGrammar as rule
use Rattle.sheet_types.specs.Sheets.{SheetRules}
use Rattle.sheet_rules.specs.Scanning.{after_spaces, is_block_start, is_space, prelude_len}

-- ---- runs

-- what follows a run of what passes
abbrev after_run : (Token → Bool) → List Token → List Token
after_run p ts = drop (prefix_len p ts) ts

run_yes : (p : Token → Bool) (t : Token) (ts : List Token) → p t ≡ true → after_run p (t ∷ ts) ≡ after_run p ts
run_yes p t ts h =
    let n = prefix_len p ts in
    let more : 1 + n ≡ suc n = omega arith in
    ap (λ b. drop (cond b (1 + n) 0) (t ∷ ts)) h ∙ ap (λ k. drop k (t ∷ ts)) more

run_no : (p : Token → Bool) (t : Token) (ts : List Token) → p t ≡ false → after_run p (t ∷ ts) ≡ t ∷ ts
run_no p t ts h = ap (λ b. drop (cond b (1 + prefix_len p ts) 0) (t ∷ ts)) h

run_some : (p : Token → Bool) (ts us : List Token) (t : Token) (rest : List Token) → after_run p ts ≡ t ∷ rest → after_run p (ts ++ us) ≡ t ∷ (rest ++ us)
run_some p [] us t rest e = cc
run_some p (x ∷ xs) us t rest e = elim (cases_Bool (p x)) [
  | inl h ↦ run_yes p x (xs ++ us) h ∙ run_some p xs us t rest (sym (run_yes p x xs h) ∙ e)
  | inr h ↦ run_no p x (xs ++ us) h ∙ ap (λ ts. ts ++ us) (sym (run_no p x xs h) ∙ e)
]

run_none : (p : Token → Bool) (ts us : List Token) → after_run p ts ≡ [] → after_run p (ts ++ us) ≡ after_run p us
run_none p [] us e = refl
run_none p (x ∷ xs) us e = elim (cases_Bool (p x)) [
  | inl h ↦ run_yes p x (xs ++ us) h ∙ run_none p xs us (sym (run_yes p x xs h) ∙ e)
  | inr h ↦ let no : x ∷ xs ≡ [] = sym (run_no p x xs h) ∙ e in cc
]

pub spaces_some : (ts us : List Token) (t : Token) (rest : List Token) → after_spaces ts ≡ t ∷ rest → after_spaces (ts ++ us) ≡ t ∷ (rest ++ us)
unfolding after_spaces
spaces_some ts us t rest e = run_some is_space ts us t rest e

pub spaces_none : (ts us : List Token) → after_spaces ts ≡ [] → after_spaces (ts ++ us) ≡ after_spaces us
unfolding after_spaces
spaces_none ts us e = run_none is_space ts us e

separators_some : (ts us : List Token) (t : Token) (rest : List Token) → after_separators ts ≡ t ∷ rest → after_separators (ts ++ us) ≡ t ∷ (rest ++ us)
unfolding after_separators
separators_some ts us t rest e = run_some is_separator ts us t rest e

-- ---- preludes

place_stays : (p : Token → Bool) (ts us : List Token) → position_or_len p ts < length ts → position_or_len p (ts ++ us) ≡ position_or_len p ts
place_stays p ts us h =
    let n = position_or_len p ts in
    prefix_len-append (λ t. not (p t)) ts us ∙ ap (λ b. cond b (length ts + position_or_len p us) n) (ne_eqb n (length ts) (λ e. omega arith))

place_told : (b : Bool) (n count : ℕ) → cond b (Some n) None ≡ Some count → (b ≡ true) × (n ≡ count)
place_told true n count e = (refl, cc)
place_told false n count e = cc

pub prelude_within : (ts : List Token) (count : ℕ) → prelude_len ts ≡ Some count → count < length ts
prelude_within ts count e =
    let n = position_or_len is_block_start ts in
    let told = place_told (nat_lt n (length ts)) n count e in
    let below = ltb-true n (length ts) told.0 in
    let same = told.1 in
    omega arith

pub prelude_stays : (ts us : List Token) (count : ℕ) → prelude_len ts ≡ Some count → prelude_len (ts ++ us) ≡ Some count
prelude_stays ts us count e =
    let n = position_or_len is_block_start ts in
    let told = place_told (nat_lt n (length ts)) n count e in
    let below = ltb-true n (length ts) told.0 in
    let stays = place_stays is_block_start ts us below in
    let long = length-append ts us in
    let within : n < length (ts ++ us) = omega arith in
    let none : Option ℕ = None in
    ap (λ k. cond (nat_lt k (length (ts ++ us))) (Some k) none) stays ∙ ap (λ b. cond b (Some n) none) (lt-ltb n (length (ts ++ us)) within) ∙ ap Some told.1

-- the tokens before the `{`, and those after it
front_stays : (ts us : List Token) (count : ℕ) → prelude_len ts ≡ Some count → take count (ts ++ us) ≡ take count ts
front_stays ts us count e = let within = prelude_within ts count e in take-append-le count ts us (omega arith)

back_stays : (ts us : List Token) (count : ℕ) → prelude_len ts ≡ Some count → drop (count + 1) (ts ++ us) ≡ drop (count + 1) ts ++ us
back_stays ts us count e = let within = prelude_within ts count e in drop-append-le (count + 1) ts us (omega arith)

-- ---- blocks

ends_stay : (ts us : List Token) → 0 < length ts → EndsValue ts → EndsValue (ts ++ us)
ends_stay [] us some h = absurd (omega arith)
ends_stay (t ∷ ts) us some h = h

separators_length : (ts rest : List Token) → after_separators ts ≡ rest → 0 < length rest → 0 < length ts
unfolding after_separators
separators_length ts rest e some =
    let dropped = length-drop (prefix_len is_separator ts) ts in
    let same = ap length e in
    omega arith

end_some : (block : BlockKind) (ts rest : List Token) → block ≢ Attribute → IsBlockEnd block ts rest → 0 < length ts
end_some block ts rest other (grammar.text_end is) = absurd (other is)
end_some block ts rest other (grammar.closed t us o is) = omega arith

module _ (block : BlockKind) (other : block ≢ Attribute) (text : List ℕ) where
  -- a block that is closed has a token
  block_some : {place : ℕ} {ts rest : List Token} {ds : List DeclarationParts} → IsBlock block text place ts ds rest → 0 < length ts
  block_some (grammar.ended place ts rest h) = separators_length ts (after_separators ts) refl (end_some block (after_separators ts) rest other h)
  block_some (grammar.declaration place ts name after first others next rest few is_name declared more) = separators_length ts (name ∷ after) is_name.stands (omega arith)

  module _ (us : List Token) where
    value_stays : (value : List Token) (count : ℕ) → 0 < length (drop count value) → IsValue value count → IsValue (value ++ us) count
    value_stays value count some h =
        let within = h.within in
        let long = length-append value us in
        record {
          within = omega arith;
          paired = subst (IsPaired false) (sym (take-append-le count value us within)) h.paired;
          ended = subst EndsValue (sym (drop-append-le count value us within)) (ends_stay (drop count value) us some h.ended);
        }

    declaration_stays : (place : ℕ) (name : Token) (after : List Token) (declared : List DeclarationParts) (rest : List Token) → 0 < length rest
        → IsDeclaration block text place name after declared rest → IsDeclaration block text place name (after ++ us) declared (rest ++ us)
    declaration_stays place name after declared rest some h =
        let within = h.is_value.within in
        let left : 0 < length (drop h.count h.value) = subst (λ (ts : List Token). 0 < length ts) h.behind some in
        record {
          value = h.value ++ us;
          colon = record { colon = h.colon.colon; is = h.colon.is; stands = spaces_some after us h.colon.colon h.value h.colon.stands };
          count = h.count;
          is_value = value_stays h.value h.count left h.is_value;
          gives = ap (λ ts. judged block place name.from text (solid ts) (known_name (bytes_of text name))) (take-append-le h.count h.value us within) ∙ h.gives;
          behind = ap (λ ts. ts ++ us) h.behind ∙ sym (drop-append-le h.count h.value us within);
        }

    end_stays : (ts at rest : List Token) → after_separators ts ≡ at → IsBlockEnd block at rest → IsBlockEnd block (after_separators (ts ++ us)) (rest ++ us)
    end_stays ts at rest e (grammar.text_end is) = absurd (other is)
    end_stays ts at rest e (grammar.closed t vs o is) =
        subst (λ (xs : List Token). IsBlockEnd block xs (vs ++ us)) (sym (separators_some ts us t vs e)) (grammar.closed t (vs ++ us) o is)

    pub block_stays : {place : ℕ} {ts rest : List Token} {ds : List DeclarationParts} → IsBlock block text place ts ds rest → IsBlock block text place (ts ++ us) ds (rest ++ us)
    block_stays (grammar.ended place ts rest h) = grammar.ended place (ts ++ us) (rest ++ us) (end_stays ts (after_separators ts) rest refl h)
    block_stays (grammar.declaration place ts name after first others next rest few is_name declared more) =
        grammar.declaration place (ts ++ us) name (after ++ us) first others (next ++ us) (rest ++ us) few
        (record { is = is_name.is; stands = separators_some ts us name after is_name.stands })
        (declaration_stays place name after first next (block_some more) declared) (block_stays more)

-- ---- rules

kind_closes : (k : Kind) (ts rest us : List Token) → closed_by_kind k ts ≡ Some rest → closed_by_kind k (ts ++ us) ≡ Some (rest ++ us)
kind_closes kind.CurlyClose ts rest us e = let same : ts ≡ rest = cc in ap (λ xs. Some (xs ++ us)) same
kind_closes _ ts rest us e = cc

kind_opens : (k : Kind) (ts us : List Token) → closed_by_kind k ts ≡ None → closed_by_kind k us ≡ None
kind_opens kind.CurlyClose ts us e = cc
kind_opens _ ts us e = refl

close_stays : (ts at rest us : List Token) → after_spaces ts ≡ at → after_close at ≡ Some rest → after_close (after_spaces (ts ++ us)) ≡ Some (rest ++ us)
close_stays ts [] rest us e closed = cc
close_stays ts (t ∷ vs) rest us e closed = ap after_close (spaces_some ts us t vs e) ∙ kind_closes t.kind vs rest us closed

open_stays : (ts at us : List Token) → after_spaces ts ≡ at → 0 < length at → after_close at ≡ None → after_close (after_spaces (ts ++ us)) ≡ None
open_stays ts [] us e some open_ = absurd (omega arith)
open_stays ts (t ∷ vs) us e some open_ = ap after_close (spaces_some ts us t vs e) ∙ kind_opens t.kind vs (vs ++ us) open_

spaces_stay : (ts at us : List Token) → after_spaces ts ≡ at → 0 < length at → after_spaces (ts ++ us) ≡ at ++ us
spaces_stay ts [] us e some = absurd (omega arith)
spaces_stay ts (t ∷ vs) us e some = spaces_some ts us t vs e

module _ (text : List ℕ) (us : List Token) where
  style_stays : (ts : List Token) (selectors : List (List CompoundSelector)) (declared : List DeclarationParts) (rest : List Token)
      → IsStyleRule text ts selectors declared rest → IsStyleRule text (ts ++ us) selectors declared (rest ++ us)
  style_stays ts selectors declared rest h = record {
    count = h.count;
    prelude = prelude_stays ts us h.count h.prelude;
    spelled = ap (λ xs. selectors_of (parts_of text xs)) (front_stays ts us h.count h.prelude) ∙ h.spelled;
    is_block = subst (λ (xs : List Token). IsBlock Style text 0 xs declared (rest ++ us)) (sym (back_stays ts us h.count h.prelude)) (block_stays Style (λ e. cc) text us h.is_block);
  }

  keyframe_stays : (used : ℕ) (ts : List Token) (offsets : List Bill) (declared : List DeclarationParts) (rest : List Token)
      → IsKeyframe text used ts offsets declared rest → IsKeyframe text used (ts ++ us) offsets declared (rest ++ us)
  keyframe_stays used ts offsets declared rest h = record {
    count = h.count;
    prelude = prelude_stays ts us h.count h.prelude;
    spelled = ap (λ xs. offsets_of (token_parts_of text xs)) (front_stays ts us h.count h.prelude) ∙ h.spelled;
    few = h.few;
    is_block = subst (λ (xs : List Token). IsBlock Keyframe text 0 xs declared (rest ++ us)) (sym (back_stays ts us h.count h.prelude)) (block_stays Keyframe (λ e. cc) text us h.is_block);
  }

  keyframes_stay : {used : ℕ} {frames made : List Frame} {ts rest : List Token} → IsKeyframes text used frames ts made rest → IsKeyframes text used frames (ts ++ us) made (rest ++ us)
  keyframes_stay (rule.closed used frames ts rest closed) = rule.closed used frames (ts ++ us) (rest ++ us) (close_stays ts (after_spaces ts) rest us refl closed)
  keyframes_stay (rule.keyframe used frames ts offsets declared next made rest open_ h others) =
      let within = prelude_within (after_spaces ts) h.count h.prelude in
      rule.keyframe used frames (ts ++ us) offsets declared (next ++ us) made (rest ++ us) (open_stays ts (after_spaces ts) us refl (omega arith) open_)
      (subst (λ (xs : List Token). IsKeyframe text used xs offsets declared (next ++ us)) (sym (spaces_stay ts (after_spaces ts) us refl (omega arith)))
      (keyframe_stays used (after_spaces ts) offsets declared next h))
      (keyframes_stay others)

  keyframes_rule_stays : (ts : List Token) (name : List ℕ) (frames : List Frame) (rest : List Token) → IsKeyframesRule text ts name frames rest → IsKeyframesRule text (ts ++ us) name frames (rest ++ us)
  keyframes_rule_stays ts name frames rest h = record {
    count = h.count;
    prelude = prelude_stays ts us h.count h.prelude;
    word = h.word;
    alone = ap (λ xs. lone_word (solid xs)) (front_stays ts us h.count h.prelude) ∙ h.alone;
    named = h.named;
    blocks = subst (λ (xs : List Token). IsKeyframes text 0 [] xs frames (rest ++ us)) (sym (back_stays ts us h.count h.prelude)) (keyframes_stay h.blocks);
  }

  pub rule_stays : (place : ℕ) (sheet : SheetRules) (t : Token) (ts : List Token) (made : SheetRules) (rest : List Token)
      → IsRule text place sheet t (t ∷ ts) made rest → IsRule text place sheet t (t ∷ (ts ++ us)) made (rest ++ us)
  rule_stays place sheet t ts made rest (rule.style selectors declared after other h) =
      rule.style selectors declared (rest ++ us) other (style_stays (t ∷ ts) selectors declared rest h)
  rule_stays place sheet t ts made rest (rule.keyframes name frames after at_word keyword h) =
      rule.keyframes name frames (rest ++ us) at_word keyword (keyframes_rule_stays ts name frames rest h)

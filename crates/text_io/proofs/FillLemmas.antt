-- What is read into the buffer, over several reads.
use Rattle.std.proofs.Common.{◌≡◌, ℕ, ◌+◌, ◌-◌, ◌<◌, ◌≤◌, suc, cond, eqb, ne_eqb, List, [], ◌∷◌, ◌++◌, length, take, drop, Option, None, Some, inl, inr, IfSome, refl, sym, ap, ◌∙◌, subst, append_assoc, append-nil, length-append, arith}
use Rattle.std.proofs.KnownBytes.{Consumes-nil, Consumes-trans}
use Rattle.std.proofs.lemmas.Bool.{cond-false}
use Rattle.std.proofs.lemmas.List.{take_at, drop_at, length-take, nil_from_length, take-append-drop, drop_more}
use Rattle.std.proofs.lemmas.List.Elements.{All-same, All-take, All-drop, All-nil, All-append}
use Rattle.std.specs.Io.BufRead.{strip_last}
use Rattle.std.specs.Prelude.{IfNone}
use Rattle.std.specs.Io.KnownBytes.{Consumes, IsAtEnd, prepend_known}
use Rattle.text_io.specs.Told.{Told}
use Rattle.text_io.specs.Lines.{lines_of, HasNoFeed, limited_text}
use Rattle.text_io.specs.Buffer.{IsFirstFeed, SameLines, Fills}
use Rattle.text_io.specs.Reader.{TakesLine}
use Rattle.text_io.proofs.LineLemmas.{NotFeed, SameLines-trimmed, lines_of-line, lines_of-last, lines_of-nil, lines_of-none}

-- the bytes were filled in, and those up to the place that was searched have no line feed: neither the kept nor the others
pub record Filled (old new : List ℕ) (taken taken' : ℕ) (before now : Option (List ℕ)) (searched : ℕ) : Type 0 where
  pub given : List ℕ
  pub front : List ℕ
  pub fills : Fills old new taken taken' before now given
  pub split : old ++ given ≡ front ++ drop searched new
  pub front_clear : HasNoFeed front
  pub kept_clear : HasNoFeed (take searched new)
  pub within : searched ≤ length new

SameLines-grown : (xs ys more : List ℕ) → SameLines xs ys → SameLines (xs ++ more) (ys ++ more)
SameLines-grown xs ys more same rest =
    ap lines_of (append_assoc xs more rest) ∙ same (more ++ rest) ∙ ap lines_of (sym (append_assoc ys more rest))

-- a read after all bytes were searched, where only one byte over a line's limit is kept of them
pub Fills-read : (old kept new given : List ℕ) (taken taken' : ℕ) (before now : Option (List ℕ)) (n : ℕ) → HasNoFeed old → 1048576 < n → kept ≡ take n old
    → new ≡ kept ++ given → taken' ≡ taken + length given → Consumes before now given → Fills old new taken taken' before now given
Fills-read old kept new given taken taken' before now n clear over kept_is new_is count gives = record {
  gives = gives;
  count = count;
  same = λ rest. SameLines-grown old (take n old) given (SameLines-trimmed old n clear over) rest
      ∙ ap (λ (xs : List ℕ). lines_of (xs ++ rest)) (sym (new_is ∙ ap (λ (xs : List ℕ). xs ++ given) kept_is));
  size = omega (arith, ap length new_is, ap length kept_is, length-append kept given, length-take n old);
}

-- the front that is kept has no line feed, and the rest is what was given
pub kept_clear : (old kept new given : List ℕ) (n : ℕ) → HasNoFeed old → kept ≡ take n old → new ≡ kept ++ given
    → HasNoFeed (take (length kept) new) × (drop (length kept) new ≡ given)
kept_clear old kept new given n clear kept_is new_is = (
  All-same NotFeed (take (length kept) new) (take n old)
      (ap (take (length kept)) new_is ∙ take_at kept given (length kept) refl ∙ kept_is) (All-take NotFeed n old clear),
  ap (drop (length kept)) new_is ∙ drop_at kept given (length kept) refl,
)

-- where nothing was given, there is no line feed
pub none_clear : (old kept new given : List ℕ) (n : ℕ) → HasNoFeed old → kept ≡ take n old → new ≡ kept ++ given → length given ≡ 0 → HasNoFeed new
none_clear old kept new given n clear kept_is new_is none =
    All-same NotFeed new (take n old)
    (new_is ∙ ap (λ (xs : List ℕ). kept ++ xs) (nil_from_length given none) ∙ append-nil kept ∙ kept_is) (All-take NotFeed n old clear)

pub Fills-trans : (a b c : List ℕ) (t u v : ℕ) (x y z : Option (List ℕ)) (given more : List ℕ) → Fills a b t u x y given → Fills b c u v y z more
    → Fills a c t v x z (given ++ more)
Fills-trans a b c t u v x y z given more first second = record {
  gives = Consumes-trans x y z given more first.gives second.gives;
  count = omega (arith, first.count, second.count, length-append given more);
  same = λ rest. ap (λ (xs : List ℕ). lines_of (xs ++ rest)) (sym (append_assoc a given more))
      ∙ SameLines-grown (a ++ given) b more first.same rest ∙ second.same rest;
  size = omega (arith, first.size, second.size, length-append given more);
}

pub Filled-start : (old : List ℕ) (taken : ℕ) (before : Option (List ℕ)) → Filled old old taken taken before before 0
Filled-start old taken before = record {
  given = [];
  front = [];
  fills = record {
    gives = Consumes-nil before;
    count = omega arith;
    same = λ rest. ap (λ (xs : List ℕ). lines_of (xs ++ rest)) (append-nil old);
    size = omega arith;
  };
  split = append-nil old;
  front_clear = All-nil NotFeed;
  kept_clear = All-nil NotFeed;
  within = omega arith;
}

-- once all kept bytes are searched, no byte that was given so far is a line feed
pub Filled-clear : (old new : List ℕ) (t u : ℕ) (x y : Option (List ℕ)) (searched : ℕ) (filled : Filled old new t u x y searched) → HasNoFeed new
    → HasNoFeed (old ++ filled.given)
Filled-clear old new t u x y searched filled clear =
    All-same NotFeed (old ++ filled.given) (filled.front ++ drop searched new) filled.split
    (All-append NotFeed filled.front (drop searched new) filled.front_clear (All-drop NotFeed searched new clear))

pub Filled-more : (a b c : List ℕ) (t u v : ℕ) (x y z : Option (List ℕ)) (searched n : ℕ) (more : List ℕ) → Filled a b t u x y searched → HasNoFeed b
    → Fills b c u v y z more → n ≤ length c → HasNoFeed (take n c) → drop n c ≡ more → Filled a c t v x z n
Filled-more a b c t u v x y z searched n more filled clear fills within kept rest = record {
  given = filled.given ++ more;
  front = a ++ filled.given;
  fills = Fills-trans a b c t u v x y z filled.given more filled.fills fills;
  split = sym (append_assoc a filled.given more) ∙ ap (λ (xs : List ℕ). a ++ filled.given ++ xs) (sym rest);
  front_clear = Filled-clear a b t u x y searched filled clear;
  kept_clear = kept;
  within = within;
}

-- where the limit of the input was reached before the last read, no byte up to it is a line feed
pub Filled-limit : (a b : List ℕ) (t u : ℕ) (x y : Option (List ℕ)) (searched : ℕ) (more : List ℕ) (filled : Filled a b t u x y searched) → HasNoFeed b
    → u ≡ 67108864 → HasNoFeed (a ++ take (67108864 - t) (filled.given ++ more))
Filled-limit a b t u x y searched more filled clear full =
    let given = filled.given in
    All-same NotFeed (a ++ take (67108864 - t) (given ++ more)) (a ++ given)
    (ap (λ (xs : List ℕ). a ++ xs) (take_at given more (67108864 - t) (omega (arith, filled.fills.count, full))))
    (Filled-clear a b t u x y searched filled clear)

split_at_feed : (bytes : List ℕ) (at : ℕ) → IsFirstFeed bytes at → bytes ≡ take at bytes ++ 10 ∷ drop (at + 1) bytes
split_at_feed bytes at first =
    sym (take-append-drop at bytes)
    ∙ ap (λ (xs : List ℕ). take at bytes ++ xs) (drop_more bytes at 0 first.within ∙ ap (λ (b : ℕ). b ∷ drop (at + 1) bytes) first.here)

-- the line up to the first line feed is cut off
pub cut_found : (old mid new : List ℕ) (t u v : ℕ) (before now : Option (List ℕ)) (given : List ℕ) (at : ℕ) (cut : Option (Option (List ℕ)))
    → Fills old mid t u before now given → IsFirstFeed mid at → cut ≡ Some (limited_text (take at mid) (strip_last 13 (take at mid)))
    → new ≡ drop (at + 1) mid → v ≡ u → IfSome cut (λ line. Told before now (TakesLine line old new t v))
cut_found old mid new t u v before now given at cut fills first cut_is new_is same =
    subst (λ (c : Option (Option (List ℕ))). IfSome c (λ line. Told before now (TakesLine line old new t v))) (sym cut_is) (taken before now fills)
  where
    lines : (x y : Option (List ℕ)) (more : List ℕ) → Fills old mid t u x y given
        → lines_of (old ++ given ++ more) ≡ limited_text (take at mid) (strip_last 13 (take at mid)) ∷ lines_of (new ++ more)
    lines x y more filled =
        filled.same more
        ∙ ap (λ (xs : List ℕ). lines_of (xs ++ more)) (split_at_feed mid at first)
        ∙ ap lines_of (append_assoc (take at mid) (10 ∷ drop (at + 1) mid) more)
        ∙ lines_of-line (take at mid) (drop (at + 1) mid ++ more) first.clear
        ∙ ap (λ (xs : List ℕ). limited_text (take at mid) (strip_last 13 (take at mid)) ∷ lines_of (xs ++ more)) (sym new_is)

    taken : (x y : Option (List ℕ)) → Fills old mid t u x y given → Told x y (TakesLine (limited_text (take at mid) (strip_last 13 (take at mid))) old new t v)
    taken None y filled = tt
    taken (Some x) None filled = absurd filled.gives
    taken (Some x) (Some y) filled = record { given = given; gives = filled.gives; count = same ∙ filled.count; line_is = inl (λ more. lines (Some x) (Some y) more filled) }

-- what is left at the end is the last line, where there is any
pub cut_last : (mid old new : List ℕ) (t u v : ℕ) (before now : Option (List ℕ)) (given : List ℕ) (cut : Option (Option (List ℕ)))
    → Fills old mid t u before now given → HasNoFeed mid → IsAtEnd now → cut ≡ cond (eqb (length mid) 0) None (Some (limited_text mid mid))
    → new ≡ [] → v ≡ u → IfSome cut (λ line. Told before now (TakesLine line old new t v))
cut_last [] old new t u v before now given cut fills clear end cut_is new_is same =
    subst (λ (c : Option (Option (List ℕ))). IfSome c (λ line. Told before now (TakesLine line old new t v))) (sym cut_is) tt
cut_last (b ∷ bs) old new t u v before now given cut fills clear end cut_is new_is same =
    subst (λ (c : Option (Option (List ℕ))). IfSome c (λ line. Told before now (TakesLine line old new t v)))
    (sym (cut_is ∙ cond-false _ _ _ (ne_eqb (suc (length bs)) 0 (omega arith)))) (taken before now fills end)
  where
    lines : (x y : Option (List ℕ)) → Fills old (b ∷ bs) t u x y given → lines_of (old ++ given) ≡ limited_text (b ∷ bs) (b ∷ bs) ∷ lines_of new
    lines x y filled =
        ap lines_of (sym (append-nil (old ++ given)))
        ∙ filled.same []
        ∙ ap lines_of (append-nil (b ∷ bs))
        ∙ lines_of-last (b ∷ bs) clear (omega arith)
        ∙ ap (λ (ls : List (Option (List ℕ))). limited_text (b ∷ bs) (b ∷ bs) ∷ ls) (sym (ap lines_of new_is ∙ lines_of-nil))

    taken : (x y : Option (List ℕ)) → Fills old (b ∷ bs) t u x y given → IsAtEnd y → Told x y (TakesLine (limited_text (b ∷ bs) (b ∷ bs)) old new t v)
    taken None y filled none = tt
    taken (Some x) None filled none = absurd filled.gives
    taken (Some x) (Some y) filled none =
        record { given = given; gives = filled.gives; count = same ∙ filled.count; line_is = inr (none, lines (Some x) (Some y) filled) }

-- where nothing is left, there was nothing
pub cut_none : (mid old new : List ℕ) (t u : ℕ) (before now : Option (List ℕ)) (given : List ℕ) (cut : Option (Option (List ℕ)))
    → Fills old mid t u before now given → IsAtEnd now → cut ≡ cond (eqb (length mid) 0) None (Some (limited_text mid mid))
    → new ≡ [] → IfNone cut (Told (prepend_known old before) (prepend_known new now) (λ xs ys. (xs ≡ []) × (ys ≡ [])))
cut_none (b ∷ bs) old new t u before now given cut fills end cut_is new_is =
    subst (λ (c : Option (Option (List ℕ))). IfNone c (Told (prepend_known old before) (prepend_known new now) (λ xs ys. (xs ≡ []) × (ys ≡ []))))
    (sym (cut_is ∙ cond-false _ _ _ (ne_eqb (suc (length bs)) 0 (omega arith)))) tt
cut_none [] old new t u None now given cut fills end cut_is new_is =
    subst (λ (c : Option (Option (List ℕ))). IfNone c (Unit {0})) (sym cut_is) tt
cut_none [] old new t u (Some x) None given cut fills end cut_is new_is = absurd fills.gives
cut_none [] old new t u (Some x) (Some y) given cut fills end cut_is new_is =
    let none : lines_of (old ++ x) ≡ [] =
    ap (λ (xs : List ℕ). lines_of (old ++ xs)) fills.gives ∙ ap lines_of (sym (append_assoc old given y)) ∙ fills.same y ∙ ap lines_of end ∙ lines_of-nil in
    subst (λ (c : Option (Option (List ℕ))). IfNone c ((old ++ x ≡ []) × (new ++ y ≡ []))) (sym cut_is)
    (lines_of-none (old ++ x) none, ap (λ (xs : List ℕ). xs ++ y) new_is ∙ end)

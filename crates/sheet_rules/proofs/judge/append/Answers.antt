use Rattle.std.proofs.Common.{◌≡◌, [], ◌∷◌, ◌++◌, List, length, map, ap, append-nil, append_assoc, arith, sym, ◌∙◌}
use Rattle.std.specs.Vec.Iter.{into_iter_items}
use Rattle.std.proofs.lemmas.List.{map_push, nil_from_length}
use Rattle.std.proofs.lemmas.List.Elements.{All-head, All-rest, All-same}
use Rattle.shorthand_text.specs.Longhands.{IsLonghand}
use Rattle.sheet_rules.specs.Declarations.{declaration_of}
use Rattle.sheet_rules.proofs.judge.append.Goals as goal

one_more : {X Y : Type 0} (f : X → Y) (now before start : List Y) (xs : List X) (x : X) (y : Y) → now ≡ before ++ y ∷ [] → before ≡ start ++ map f xs → y ≡ f x
    → now ≡ start ++ map f (xs ++ x ∷ [])
one_more f now before start xs x y e b v =
    e ∙ ap (λ l. l ++ y ∷ []) b ∙ append_assoc start (map f xs) (y ∷ []) ∙ ap (λ l. start ++ l) (ap (λ d. map f xs ++ d ∷ []) v ∙ sym (map_push f xs x))

pub new-requires : goal.new-requires
new-requires c =
    let at = c.loop-longhand in
    let x = c.in-Some.longhand in
    let steps : into_iter_items at.longhand-iterator ≡ x ∷ into_iter_items c.next.new.self = c.in-Some.ensures.steps.0 in
    All-head IsLonghand x _ (All-same IsLonghand _ _ (sym steps) at.invariant.all)

pub loop-longhand-preserved : goal.loop-longhand-preserved
loop-longhand-preserved c =
    let at = c.loop-longhand in
    let x = c.in-Some.longhand in
    let steps : into_iter_items at.longhand-iterator ≡ x ∷ into_iter_items c.next.new.self = c.in-Some.ensures.steps.0 in
    record {
      longhands = append_assoc at.yielded (x ∷ []) _ ∙ rw (← steps) at.invariant.longhands;
      found = one_more (declaration_of c.args.place c.args.important) _ _ c.args.found.now.items at.yielded x c.new.result c.in_ok-push.ensures.items at.invariant.found c.new.ensures;
      count =
          let was = at.invariant.count in
          let gone = c.in-Some.ensures.steps.1 in
          let short = ap length steps in
          omega arith;
      all = All-rest IsLonghand x _ _ steps at.invariant.all;
    }

pub returns : goal.returns
returns c =
    let at = c.loop-longhand in
    let none = c.in-None.ensures.steps in
    let empty : into_iter_items at.longhand-iterator ≡ [] = nil_from_length _ (sym at.invariant.count ∙ none.0) in
    let all = sym (append-nil at.yielded) ∙ rw empty at at.invariant.longhands ∙ c.into_iter-longhand-iterator.ensures.into_iter_gives.0 in
    at.invariant.found ∙ ap (λ l. c.args.found.now.items ++ map (declaration_of c.args.place c.args.important) l) all

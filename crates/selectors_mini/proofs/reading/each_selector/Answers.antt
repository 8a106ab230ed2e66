use Rattle.std.proofs.Common.{List, Bor, arith, lt-ltb}
use Rattle.std.proofs.lemmas.List.{length-map}
use Rattle.css_token.specs.declared.token.Token.{Token}
use Rattle.selectors_mini.specs.Parts.{parts_of}
use Rattle.selectors_mini.proofs.Lists.{fault_at, run_more, run_some, too_many, too_long, within_bounds}
use Rattle.selectors_mini.proofs.reading.each_selector.Goals as goal

pub returns-in-Err : goal.returns-in-Err
returns-in-Err c = fault_at (λ (run : Bor (List Token)). parts_of c.args.text.now run.now) c.args.runs.now c.loop-i.i _ c.in-Err.fault (omega arith) c.in-Err.ensures

pub keep-requires : goal.keep-requires
keep-requires c = run_some (λ (run : Bor (List Token)). parts_of c.args.text.now run.now) c.args.runs.now c.loop-i.i _ c.in-Ok.compounds.items c.in-Ok.ensures

pub loop-i-preserved : goal.loop-i-preserved
loop-i-preserved c =
    run_more (λ (run : Bor (List Token)). parts_of c.args.text.now run.now) c.args.runs.now c.loop-i.i _ c.loop-i.has_long c.in-Ok-keep.is_long
    c.loop-i.selectors.items c.keep.new.selectors.items c.in-Ok.compounds.items (omega arith) c.loop-i.invariant c.in-Ok.ensures
    c.in-Ok-keep.ensures.long (λ few short. c.in-Ok-keep.ensures.kept (lt-ltb c.loop-i.i 32 few) short)

pub returns-then-runs-gt-MAX_SELECTORS : goal.returns-then-runs-gt-MAX_SELECTORS
returns-then-runs-gt-MAX_SELECTORS c =
    let size = length-map c.args.runs.now (λ (run : Bor (List Token)). parts_of c.args.text.now run.now) in
    too_many _ _ _ _ (omega arith) c.loop-i.invariant (omega arith)

pub returns-then-has_long : goal.returns-then-has_long
returns-then-has_long c =
    let size = length-map c.args.runs.now (λ (run : Bor (List Token)). parts_of c.args.text.now run.now) in
    too_long _ _ _ _ (omega arith) c.loop-i.invariant (omega arith) c.if-has_long.true

pub returns : goal.returns
returns c =
    let size = length-map c.args.runs.now (λ (run : Bor (List Token)). parts_of c.args.text.now run.now) in
    within_bounds _ _ _ _ (omega arith) c.loop-i.invariant (omega arith) c.if-has_long.false

use Rattle.std.proofs.Common.{◌≡◌, arith, get_or, sym, ◌∙◌}
use Rattle.shorthand_text.proofs.ComponentLemmas.{all_passed, first_here, one_passed}
use Rattle.shorthand_text.proofs.components.take_first.Goals as goal

pub returns-in-Some : goal.returns-in-Some
returns-in-Some g c =
    let same = c.loop-i.invariant.0 in
    let at : get_or c.args.components.now.items c.loop-i.i c.index.result.now ≡ c.index.result.now = rw (← same) (sym c.index.ensures) in
    let found = first_here _ _ c.args.components.now.items c.loop-i.i c.index.result.now c.in-Some.item (omega (arith, c.args.components.now.ok.0)) (rw at (sym c.in_ok-item.ensures ∙ c.in-Some.is)) c.loop-i.invariant.1 in
    (found.0, rw (c.remove.ensures.items, same) found.1)

pub returns : goal.returns
returns g c =
    let same = c.loop-i.invariant.0 in
    let found = all_passed _ _ c.args.components.now.items c.loop-i.i (omega (arith, c.args.components.now.ok.0)) c.loop-i.invariant.1 in
    (found.0, rw same found.1)

pub loop-i-preserved : goal.loop-i-preserved
loop-i-preserved g c =
    let same = c.loop-i.invariant.0 in
    let at : get_or c.args.components.now.items c.loop-i.i c.index.result.now ≡ c.index.result.now = rw (← same) (sym c.index.ensures) in
    (same, one_passed _ _ c.args.components.now.items c.loop-i.i c.index.result.now (omega (arith, c.args.components.now.ok.0)) (rw at (sym c.in_ok-item.ensures ∙ c.in_default.is)) c.loop-i.invariant.1)

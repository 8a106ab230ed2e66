use Rattle.std.proofs.Common.{◌≡◌, map, true, false, arith, sym, ◌∙◌}
use Rattle.std.proofs.lemmas.List.{map-append}
use Rattle.token_parts.specs.Parts.{token_part}
use Rattle.shorthand_text.specs.Components.{component_values_of}
use Rattle.shorthand_text.proofs.ComponentLemmas.{end_step, within_step}
use Rattle.shorthand_text.proofs.components.components.Goals as goal
use Rattle.shorthand_text.proofs.components.components.Goals.{then-not-inside+in_ok-push, else-not-inside}

pub loop-i-preserved : goal.loop-i-preserved
loop-i-preserved c =
    let done = map (λ g. map token_part g.now) c.loop-i.components.items in
    let whole = component_values_of false (map token_part c.args.parts.now) in
    elim c.if-not-inside.branch [
      | then-not-inside+in_ok-push w ↦
          let next = end_step token_part done whole c.args.parts.now c.loop-i.from c.loop-i.i c.loop-i.inside _ c.loop-i.invariant.0 c.loop-i-test.true (sym c.is_inside-inside.ensures ∙ w.if-not-inside.true) c.loop-i.invariant.2 in
          (omega (arith, w.from-is), λ closed. w.from-is, simp (w.components-is, w.from-is, w.if-not-inside.true, w.in_ok-push.ensures.items, map-append) next)
      | else-not-inside w ↦
          let next = within_step token_part done whole c.args.parts.now c.loop-i.from c.loop-i.i c.loop-i.inside _ c.loop-i.invariant.0 c.loop-i-test.true (sym c.is_inside-inside.ensures ∙ w.if-not-inside.false) c.loop-i.invariant.2 in
          (omega (arith, w.from-is, c.loop-i.invariant.0), λ closed. let never : true ≡ false = sym w.if-not-inside.false ∙ closed in absurd (cc), simp (w.components-is, w.from-is, w.if-not-inside.false) next)
    ]

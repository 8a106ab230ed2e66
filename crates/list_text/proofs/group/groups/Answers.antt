use Rattle.std.proofs.Common.{map, false, arith, sym, ◌∙◌}
use Rattle.std.proofs.lemmas.List.{map-append}
use Rattle.token_parts.specs.Parts.{token_part}
use Rattle.list_text.specs.ItemReading.{groups_of}
use Rattle.list_text.proofs.GroupLemmas.{comma_step, other_step}
use Rattle.list_text.proofs.group.groups.Goals as goal
use Rattle.list_text.proofs.group.groups.Goals.{then-parts_items+in_ok-push, else-parts_items}

pub loop-i-preserved : goal.loop-i-preserved
loop-i-preserved c =
    let done = map (λ g. map token_part g.now) c.loop-i.groups.items in
    let whole = groups_of false (map token_part c.args.parts.now) in
    elim c.if-parts_items.branch [
      | then-parts_items+in_ok-push w ↦
          let next = comma_step token_part done whole c.args.parts.now c.loop-i.from c.loop-i.i c.loop-i.inside _ c.loop-i-test.true (sym c.parts_items.ensures ∙ w.if-parts_items.true) c.loop-i.invariant.1 in
          (omega (arith, w.from-is), simp (w.groups-is, w.from-is, w.inside-is, w.in_ok-push.ensures.items, map-append) next)
      | else-parts_items w ↦
          let next = other_step token_part done whole c.args.parts.now c.loop-i.from c.loop-i.i c.loop-i.inside _ c.loop-i.invariant.0 c.loop-i-test.true (sym c.parts_items.ensures ∙ w.if-parts_items.false) c.loop-i.invariant.1 in
          (omega (arith, w.from-is, c.loop-i.invariant.0), simp (w.groups-is, w.from-is, w.inside-is, w.is_inside-inside.ensures) next)
    ]

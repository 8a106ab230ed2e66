use Rattle.std.proofs.Common.{◌<◌, ◌∙◌, length, get_or, map, None, sym, subst, ap, arith}
use Rattle.std.specs.Prelude.{IfSome}
use Rattle.std.proofs.lemmas.Grind.{get_or_default_zero}
use Rattle.std.proofs.lemmas.Option.{slice_get-get_or}
use Rattle.pass_core.specs.declared.plan.Place.{Place}
use Rattle.pass_core.proofs.Schedules.{differs_in}
use Rattle.work_split.proofs.Seating.{all_seated, index_now, next_seated, parent_known, parents_in, room_for, seat_made}
use Rattle.work_split.proofs.Slots.{next_slotted, slot_kept, slot_now}
use Rattle.work_split.proofs.levels.levels_of.Goals as goal

abbrev no_place : Place
no_place = record { element = 0; parent = None; end = 0 }

pub depth_below-depth-requires-clause-known : goal.depth_below-depth-requires-clause-known
depth_below-depth-requires-clause-known g c =
    subst (λ l. IfSome (get_or c.args.places.now c.loop-at.at no_place).parent (λ j. j < length l)) (sym c.as_slice.ensures.value)
    (parent_known c.args.places.now (map (λ x. x.0) c.args.entries.now) c.loop-at.seats.items c.loop-at.depths.items c.loop-at.slots.items c.loop-at.at no_place c.loop-at.invariant.seated
    (parents_in c.args.places.now c.requires.proper) (omega arith))

pub depth_below-depth-requires-clause-small : goal.depth_below-depth-requires-clause-small
depth_below-depth-requires-clause-small g c = λ k d less.
    let count = c.loop-at.invariant.seated.count in
    let long = ap length c.as_slice.ensures.value in
    let small = c.loop-at.invariant.seated.small k (omega arith) in
    let within = c.loop-at-test.true in
    let default = get_or_default_zero c.loop-at.depths.items k d (omega arith) in
    rw c.as_slice.ensures.value (omega arith)

pub slot_above-above-requires : goal.slot_above-above-requires
slot_above-above-requires g c =
    let count = c.loop-at.invariant.seated.count in
    let many = c.loop-at.invariant.slotted.count in
    subst (λ l. IfSome (get_or c.args.places.now c.loop-at.at no_place).parent (λ j. j < length l)) (sym c.as_slice-in-loop-at.ensures.value)
    (subst (λ n. IfSome (get_or c.args.places.now c.loop-at.at no_place).parent (λ j. j < n)) (count ∙ sym many)
    (parent_known c.args.places.now (map (λ x. x.0) c.args.entries.now) c.loop-at.seats.items c.loop-at.depths.items c.loop-at.slots.items c.loop-at.at no_place
    c.loop-at.invariant.seated (parents_in c.args.places.now c.requires.proper) (omega arith)))

pub put_in-requires : goal.put_in-requires
put_in-requires g c =
    room_for c.args.places.now (map (λ x. x.0) c.args.entries.now) c.loop-at.seats.items c.loop-at.depths.items c.loop-at.slots.items c.loop-at.at no_place
    c.loop-at.invariant.seated (parents_in c.args.places.now c.requires.proper) (omega arith) c.depth_below-depth.result
    (rw c.as_slice.ensures.value at c.depth_below-depth.ensures)

pub loop-at-preserved : goal.loop-at-preserved
loop-at-preserved g c =
    let at = c.loop-at in
    let places = c.args.places.now in
    let elements = map (λ x. x.0) c.args.entries.now in
    let before = parents_in places c.requires.proper in
    let room : at.at < length places = omega arith in
    let place_is = slice_get-get_or places at.at no_place room in
    let slots = at.slots.items in
    let slots' = c.push-in-loop-at.new.self.items in
    let inner = at.inner in
    let p = get_or places at.at no_place in
    let made = c.in_ok-push-2.ensures.items in
    let kept = slot_kept places slots slots' inner c.inner_after-inner.result at.at p c.slot_of-slot.result at.invariant.slotted place_is c.slot_of-slot.ensures made
    c.inner_after-inner.ensures in
    let now = slot_now places slots slots' inner c.inner_after-inner.result at.at p c.slot_of-slot.result at.invariant.slotted place_is c.slot_of-slot.ensures made
    c.inner_after-inner.ensures in
    let index = index_now places elements at.seats.items at.depths.items slots at.at no_place at.invariant.seated before room (differs_in places c.requires.proper) in
    let seat_is = seat_made places elements at.seats.items at.depths.items slots at.at no_place at.invariant.seated before room slots' c.row_of-row.result inner
    c.slot_of-slot.result c.slot_above-above.result index c.row_of-row.ensures.here c.slot_of-slot.ensures (rw c.as_slice-in-loop-at.ensures.value at c.slot_above-above.ensures) now kept in
    record {
      seated =
          next_seated places elements at.seats.items at.depths.items slots at.at no_place at.invariant.seated before room c.depth_below-depth.result
          (rw c.as_slice.ensures.value at c.depth_below-depth.ensures) _ c.put_in.new.levels.items c.push.new.self.items slots' index seat_is
          c.in_ok-put_in.ensures.here c.in_ok-put_in.ensures.others c.in_ok-put_in.ensures.count c.in_ok-push.ensures.items kept;
      slotted = next_slotted places slots slots' inner c.inner_after-inner.result at.at p c.slot_of-slot.result at.invariant.slotted place_is c.slot_of-slot.ensures made
          c.inner_after-inner.ensures;
      next = let within = c.row_of-row.ensures.within in omega arith;
    }

pub returns : goal.returns
returns g c =
    all_seated c.args.places.now (map (λ x. x.0) c.args.entries.now) c.loop-at.seats.items c.loop-at.depths.items c.loop-at.slots.items c.loop-at.inner c.loop-at.at
    c.loop-at.invariant.seated c.loop-at.invariant.slotted (omega arith)

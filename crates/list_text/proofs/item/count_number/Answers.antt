use Rattle.std.proofs.Common.{arith, ap, ◌^◌}
use Rattle.std.specs.Prelude.{pos, option_map}
use Rattle.std.specs.Int.{w64}
use Rattle.std.proofs.lemmas.Int.{fits_signed_from_abs, to_z_pos}
use Rattle.timing_types.specs.declared.timing.Count.TheVariants.{Times}
use Rattle.list_text.proofs.ViewLemmas.{natural_size}
use Rattle.list_text.proofs.item.count_number.Goals as goal

pub overflow_cast-result : goal.overflow_cast-result
overflow_cast-result c =
    let size = natural_size 6 (10 ^ 12) c.args.number.now c.in_ok-count.count c.in_ok-count.ensures in
    fits_signed_from_abs w64 (pos c.in_ok-count.count) (omega (arith, size))

pub returns : goal.returns
returns c =
    let size = natural_size 6 (10 ^ 12) c.args.number.now c.in_ok-count.count c.in_ok-count.ensures in
    rw (to_z_pos w64 c.in_ok-count.count (omega (arith, size))) (ap (λ o. option_map (λ k. Times (record { 0 = pos k })) o) c.in_ok-count.ensures)

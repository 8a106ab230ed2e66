use Rattle.std.proofs.Common.{arith, sym}
use Rattle.std.proofs.lemmas.Int.{ints}
use Rattle.fix_num.proofs.ReadingLemmas.{number_told}
use Rattle.value_text.proofs.number.channel.Goals as goal

pub overflow_cast-result : goal.overflow_cast-result
overflow_cast-result c =
    let size = (number_told 0 255 c.args.text.now c.in-Ok.i (sym c.in-Ok.ensures)).1 in
    let low = c.if-i-lt0.false in
    (omega (arith, ints, size), omega (arith, ints, size))

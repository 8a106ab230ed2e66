use Rattle.fix_num.proofs.DecimalLemmas.{are_digits_front}
use Rattle.fix_num.proofs.decimal.split_digits.Goals as goal

pub returns-clause-are_digits : goal.returns-clause-are_digits
returns-clause-are_digits c =
    rw (c.split_at.ensures.front, c.digit_count.ensures.count) (are_digits_front c.args.text.now)

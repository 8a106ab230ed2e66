use Rattle.std.proofs.Common.{arith}
use Rattle.change_styles.proofs.PathLemmas.{kept_at}
use Rattle.change_styles.proofs.styles.with_running.Goals as goal

pub given_at-requires : goal.given_at-requires
given_at-requires c = kept_at c.args.running.now 0 c.one-item.result c.requires (omega arith) c.one-item.is

pub given_at-requires-in-len2 : goal.given_at-requires-in-len2
given_at-requires-in-len2 c =
    kept_at c.args.running.now 0 c.one-item-then-running-lt3.result c.requires (omega arith) c.one-item-then-running-lt3.is

pub given_at-requires-in-len2-2 : goal.given_at-requires-in-len2-2
given_at-requires-in-len2-2 c = kept_at c.args.running.now 1 c.other-item.result c.requires (omega arith) c.other-item.is

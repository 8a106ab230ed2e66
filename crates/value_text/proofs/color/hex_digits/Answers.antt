use Rattle.std.proofs.Common.{arith}
use Rattle.value_text.proofs.HexLemmas.{hex_at}
use Rattle.value_text.proofs.color.hex_digits.Goals as goal

pub pair-requires-in-len6-3-clause-first : goal.pair-requires-in-len6-3-clause-first
pair-requires-in-len6-3-clause-first c = hex_at c.args.text.now 4 c.requires (omega arith)

pub pair-requires-in-len6-3-clause-second : goal.pair-requires-in-len6-3-clause-second
pair-requires-in-len6-3-clause-second c = hex_at c.args.text.now 5 c.requires (omega arith)

pub pair-requires-in-len8-3-clause-first : goal.pair-requires-in-len8-3-clause-first
pair-requires-in-len8-3-clause-first c = hex_at c.args.text.now 4 c.requires (omega arith)

pub pair-requires-in-len8-3-clause-second : goal.pair-requires-in-len8-3-clause-second
pair-requires-in-len8-3-clause-second c = hex_at c.args.text.now 5 c.requires (omega arith)

pub pair-requires-in-len8-4-clause-first : goal.pair-requires-in-len8-4-clause-first
pair-requires-in-len8-4-clause-first c = hex_at c.args.text.now 6 c.requires (omega arith)

pub pair-requires-in-len8-4-clause-second : goal.pair-requires-in-len8-4-clause-second
pair-requires-in-len8-4-clause-second c = hex_at c.args.text.now 7 c.requires (omega arith)

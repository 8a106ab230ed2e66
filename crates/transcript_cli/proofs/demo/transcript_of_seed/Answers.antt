use Rattle.std.proofs.Common.{◌∙◌}
use Rattle.transcript_cli.proofs.Demonstrations.{never_so}
use Rattle.transcript_cli.proofs.demo.transcript_of_seed.Goals as goal

pub unreachable-requires : goal.unreachable-requires
unreachable-requires g c =
    never_so c.args.seed _ _ _ _ _ (c.new-source.ensures ∙ c.in_ok-script_of.ensures) (c.scripts_are_short.ensures.bytes c.args.seed)
    c.replay-status.ensures.replay c.replay-status.ensures.no_usage c.in-Refused.is

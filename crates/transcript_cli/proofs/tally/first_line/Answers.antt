use Rattle.std.proofs.Common.{◌≡◌, ◌+◌, ◌==◌, ◌∙◌, ap, length, min}
use Rattle.std.specs.List.{position_or_len}
use Rattle.transcript_cli.proofs.Tallies.{cuts_front}
use Rattle.transcript_cli.proofs.tally.first_line.Goals as goal

pub returns-clause-cuts : goal.returns-clause-cuts
returns-clause-cuts c =
    let bytes = c.args.bytes.now in
    let end : c.min.result ≡ min (position_or_len (λ b. b == 10) bytes + 1) (length bytes) = c.min.ensures ∙ ap (λ n. min (n + 1) (length bytes)) c.place_of-end.ensures.value in
    rw (c.split_at.ensures.front, c.split_at.ensures.back) (cuts_front bytes c.min.result end c.requires)

use Rattle.command_words.proofs.number.worker_count.Goals as goal

pub returns : goal.returns
returns c =
    let number = c.in_ok-count.ensures in
    (record { digits = number.0.digits; few = number.0.few; low = rw (← number.1) c.if-count-lt1.false; high = rw (← number.1) c.if-count.false }, number.1)

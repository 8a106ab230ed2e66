use Rattle.transcript_cli.proofs.Runs.{demo_run, no_demo, refused_words, replay_run, unread_run, usage_run}
use Rattle.transcript_cli.proofs.run.run.Goals as goal

pub returns-in-Err-Usage-clause-run : goal.returns-in-Err-Usage-clause-run
returns-in-Err-Usage-clause-run g c = usage_run _ _ _ _ (refused_words _ c.in-Err-Usage.field-0 c.in-Err-Usage.field-0-is c.in-Err-Usage.ensures.reading)

pub returns-in-Err-NoMemory-clause-run : goal.returns-in-Err-NoMemory-clause-run
returns-in-Err-NoMemory-clause-run g c = unread_run _ _ _ _

pub returns-in-None-clause-run : goal.returns-in-None-clause-run
returns-in-None-clause-run g c = replay_run _ c.in-Ok.words _ _ _ _ _ _ _ c.in-Ok.ensures.reading c.in-None.is c.replay.ensures.no_usage c.replay.ensures.replay

pub returns-in-None-clause-unread : goal.returns-in-None-clause-unread
returns-in-None-clause-unread g c = λ seed asks. absurd (no_demo _ c.in-Ok.words seed c.in-Ok.ensures.reading c.in-None.is asks)

pub returns-in-Some-clause-run : goal.returns-in-Some-clause-run
returns-in-Some-clause-run g c = demo_run _ c.in-Ok.words c.in-Some.seed _ _ _ _ _ _ _ c.in-Ok.ensures.reading c.in-Some.is c.demonstrate.ensures.demo

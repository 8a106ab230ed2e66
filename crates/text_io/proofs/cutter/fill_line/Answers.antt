use Rattle.std.proofs.Common.{◌++◌, arith}
use Rattle.text_io.specs.Buffer.{pending_of}
use Rattle.text_io.proofs.FillLemmas.{Filled-start, Filled-more, Filled-limit, Fills-trans}
use Rattle.text_io.proofs.cutter.fill_line.Goals as goal

pub reads-init : goal.reads-init
reads-init g c = record {
  filled = Filled-start (pending_of c.args.buffer.now) c.args.buffer.now.taken _;
  limited = c.requires;
  faults = omega arith;
}

pub reads-preserved : goal.reads-preserved
reads-preserved g c =
    let filled = c.reads.invariant.filled in
    let given = c.in-Ok-Some.ensures.given in
    let more = rw c.in-Ok-Some.field-0-is at given.2 in record {
      filled = Filled-more _ (pending_of c.reads.buffer) _ _ _ _ _ _ _ c.reads.searched c.in-Ok-Some.kept given.0 filled c.in_default.ensures given.1 more.1 more.2 more.3;
      limited = c.in-Ok-Some.ensures.limit;
      faults = omega (arith, c.reads.invariant.faults, c.read_more.ensures.faults);
    }

pub returns-in-Ok-None-clause-given : goal.returns-in-Ok-None-clause-given
returns-in-Ok-None-clause-given g c =
    let filled = c.reads.invariant.filled in
    let more = c.in-Ok-None.ensures.given in
    (filled.given ++ more.0, Fills-trans _ _ _ _ _ _ _ _ _ filled.given more.0 filled.fills more.1, λ e. absurd (cc))

pub returns-in-Err-clause-given : goal.returns-in-Err-clause-given
returns-in-Err-clause-given g c =
    let filled = c.reads.invariant.filled in
    let more = c.in-Err.ensures.given in (
      filled.given ++ more.0,
      Fills-trans _ _ _ _ _ _ _ _ _ filled.given more.0 filled.fills more.1,
      λ e. Filled-limit _ (pending_of c.reads.buffer) _ _ _ _ c.reads.searched more.0 filled c.in_default.ensures (c.in-Err.ensures.last e),
    )

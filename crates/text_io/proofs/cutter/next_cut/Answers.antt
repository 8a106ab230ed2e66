use Rattle.text_io.specs.Buffer.{pending_of}
use Rattle.text_io.proofs.FillLemmas.{cut_found, cut_last, cut_none}
use Rattle.text_io.proofs.cutter.next_cut.Goals as goal

pub returns-in-Ok-Some-clause-line : goal.returns-in-Ok-Some-clause-line
returns-in-Ok-Some-clause-line g c =
    let filled = c.in-Ok-Some.ensures.given in
    cut_found (pending_of c.args.buffer.now) (pending_of c.fill_line.new.buffer) (pending_of c.cut_line.new.buffer) _ _ _ _ _ filled.0 c.in-Ok-Some.at _
    filled.1 (rw c.in-Ok-Some.field-0-is at c.in-Ok-Some.ensures.found) c.cut_line.ensures.line c.cut_line.ensures.rest c.cut_line.ensures.taken

pub returns-in-Ok-None-clause-line : goal.returns-in-Ok-None-clause-line
returns-in-Ok-None-clause-line g c =
    let filled = c.in-Ok-None.ensures.given in
    let found = rw c.in-Ok-None.field-0-is at c.in-Ok-None.ensures.found in
    cut_last (pending_of c.fill_line.new.buffer) (pending_of c.args.buffer.now) (pending_of c.cut_rest.new.buffer) _ _ _ _ _ filled.0 _
    filled.1 found.0 found.1 c.cut_rest.ensures.line c.cut_rest.ensures.rest c.cut_rest.ensures.taken

pub returns-in-Ok-None-clause-end : goal.returns-in-Ok-None-clause-end
returns-in-Ok-None-clause-end g c =
    let filled = c.in-Ok-None.ensures.given in
    let found = rw c.in-Ok-None.field-0-is at c.in-Ok-None.ensures.found in
    cut_none (pending_of c.fill_line.new.buffer) (pending_of c.args.buffer.now) (pending_of c.cut_rest.new.buffer) _ _ _ _ filled.0 _
    filled.1 found.1 c.cut_rest.ensures.line c.cut_rest.ensures.rest

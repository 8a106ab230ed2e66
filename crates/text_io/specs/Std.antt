-- What sources and sinks over std's readers and writers show.
use Rattle.std.specs.Prelude.{ℕ}
use Rattle.text_io.specs.declared.std_sink.StdSink.{StdSink}
use Rattle.text_io.specs.declared.std_source.StdSource.{StdSource}

-- the reader that a source stands over
abbrev pub input_of : {I : Type 0} → StdSource I → I
input_of source = source.input

-- how many reads failed
abbrev pub failed_reads : {I : Type 0} → StdSource I → ℕ
failed_reads source = source.failures

-- the writer that a sink stands over
abbrev pub writer_of : {O : Type 0} → StdSink O → O
writer_of sink = sink.output

-- how many writes failed
abbrev pub failed_writes : {O : Type 0} → StdSink O → ℕ
failed_writes sink = sink.failures

-- how many writes took no byte of some, as far as 64 bits count
abbrev pub empty_writes_of : {O : Type 0} → StdSink O → ℕ
empty_writes_of sink = sink.empty_writes

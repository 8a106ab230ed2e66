-- What a reader of lines shows of its fields.
use Rattle.std.specs.Prelude.{ℕ, ◌+◌, ◌≤◌, List, slice_range, Option, None, Some, ⊤}
use Rattle.text_io.specs.declared.limits.TheConstants.{MAX_INPUT, MAX_LINE}
use Rattle.text_io.specs.declared.buffer.TheConstants.{CAPACITY}
use Rattle.text_io.specs.declared.fault.LineFault.{LineFault}
use Rattle.text_io.specs.declared.lines.State.{State}
use Rattle.text_io.specs.declared.lines.State.TheVariants.{Ready, Lent, Failed}

-- the fault that a reader met
abbrev pub fault_of : State → Option LineFault
fault_of Ready = None
fault_of (Lent span) = None
fault_of (Failed fault) = Some fault

-- the text that a reader lends, of these bytes
abbrev pub text_in : List ℕ → State → Option (List ℕ)
text_in bytes Ready = None
text_in bytes (Lent span) = Some (slice_range bytes span.from span.to)
text_in bytes (Failed fault) = None

-- a reader that met no fault took no more than the limit, and what it lends stands in its buffer and is within a line's limit
abbrev pub IsReaderState : ℕ → State → Type 0
IsReaderState taken Ready = taken ≤ MAX_INPUT
IsReaderState taken (Lent span) = (taken ≤ MAX_INPUT) × (span.from ≤ span.to) × (span.to ≤ CAPACITY) × (span.to ≤ span.from + MAX_LINE)
IsReaderState taken (Failed fault) = ⊤

-- The exit status of the program.
use Rattle.std.specs.Prelude.{ℕ}
use Rattle.transcript_cli.specs.declared.status.Status.{Status}
use Rattle.transcript_cli.specs.declared.status.Status.TheVariants.{Done, Refused, Usage, TooMuch, ReadFault, WriteFault, NoMemory}

abbrev pub number_of : Status → ℕ
number_of Done = 0
number_of Refused = 1
number_of Usage = 2
number_of TooMuch = 3
number_of ReadFault = 4
number_of WriteFault = 5
number_of NoMemory = 6

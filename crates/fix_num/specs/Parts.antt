-- The parts of a decimal's text as the code keeps them.
use Rattle.fix_num.specs.declared.parts.Parts.{Parts}
use Rattle.fix_num.specs.Decimal.{Decimal}

-- the decimal of these parts
abbrev pub decimal_parts : Parts → Decimal
decimal_parts p = record { negative = p.negative; whole = p.whole.now; fraction = p.fraction.now }

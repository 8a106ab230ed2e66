-- The sheet of a generated script is a sheet.
use Rattle.std.proofs.Common.{◌≡◌, true, refl}
use Rattle.std.specs.Result.{is_ok}
use Rattle.css_token.specs.Reading.{tokens_of}
use Rattle.sheet_rules.specs.Rules.{sheet_of}
use Rattle.css_token.specs.Fronts.{identifier_len, fraction_len, unsigned_len, number_len, comment_len, closed_piece, lone_piece, numeric_piece, name_piece, mark_piece, piece_at}
use Rattle.value_text.specs.ColorReading.{arguments_of}
use Rattle.value_text.specs.NumberReading.{number_in, integer_in, channel_of}
use Rattle.value_text.specs.Reading.{value_in, declared_reading}
use Rattle.list_text.specs.ItemReading.{time_with, micros_of, properties_of}
use Rattle.list_text.specs.Numbers.{nearest, clamped_nearest}
use Rattle.list_text.specs.Reading.{natural, function_of}
use Rattle.shorthand_text.specs.Declaring.{declared_of}
use Rattle.shorthand_text.specs.KnownNames.{known_name}
use Rattle.shorthand_text.specs.Sides.{keyword_in_all, shorthand_in}
use Rattle.shorthand_text.specs.TimingItems.{transition_item, transition_in}
use Rattle.selectors_mini.specs.Reading.{selectors_of}
use Rattle.sheet_rules.specs.Blocks.{declaration_at, after_separators, block_at}
use Rattle.sheet_rules.specs.Declarations.{judged}
use Rattle.sheet_rules.specs.Rules.{rule_at, item_at, sheet_at}
use Rattle.sheet_rules.specs.Scanning.{after_spaces, value_len}
use Rattle.value_types.specs.Properties.{property_named}
use Rattle.fix_num.specs.Clamping.{clamped_number}
use Rattle.fix_num.specs.Decimal.{units_of, unsigned_of, decimal_of, reading_of}
use Rattle.fix_num.specs.Rounded.{rounded_units, rounded_reading_of}
use Rattle.fix_num.specs.Rounding.{rounded_quotient}
use Rattle.script_gen.specs.Lines.{sheet_text}

pub sheet_there : is_ok (sheet_of sheet_text) ≡ true
unfolding identifier_len fraction_len unsigned_len number_len comment_len closed_piece lone_piece numeric_piece name_piece mark_piece piece_at tokens_of arguments_of number_in integer_in channel_of value_in declared_reading time_with micros_of properties_of nearest clamped_nearest natural function_of declared_of known_name keyword_in_all shorthand_in transition_item transition_in selectors_of declaration_at after_separators block_at judged rule_at item_at sheet_at after_spaces value_len property_named clamped_number units_of unsigned_of decimal_of reading_of rounded_units rounded_reading_of rounded_quotient
sheet_there = refl

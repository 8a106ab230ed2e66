use Rattle.std.proofs.Common.{◌≡◌, ◌++◌, drop}
use Rattle.std.specs.Prelude.{option_map}
use Rattle.selectors_mini.specs.Parts.{parts_of}
use Rattle.selectors_mini.specs.Reading.{compounds_from, compounds_of}
use Rattle.selectors_mini.proofs.reader.compounds_of.Given as goal

-- what was read so far, and then what is read of the rest, is what is read of all
abbrev pub invariant-loop-token : goal.invariant-loop-token
invariant-loop-token l =
    option_map (λ cs. l.ended.items ++ cs) (compounds_from l.place l.compound (parts_of l.text (drop l.token-index l.tokens)))
    ≡ compounds_of (parts_of l.text l.tokens)

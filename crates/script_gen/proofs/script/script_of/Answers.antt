use Rattle.std.proofs.Common.{◌∙◌, ◌++◌, ap}
use Rattle.std.specs.String.{string_bytes}
use Rattle.std.specs.Prelude.{codes}
use Rattle.script_gen.specs.Lines.{sheet_line}
use Rattle.script_gen.proofs.ScriptLemmas.{whole_script}
use Rattle.script_gen.proofs.script.script_of.Goals as goal

pub returns : goal.returns
returns c =
    ap (λ v. v.items) c.into_bytes.ensures.value
    ∙ whole_script c.args.seed c.write_adds.new.draws.number (string_bytes c.writeln.new.self) (string_bytes c.writeln-2.new.self)
    (string_bytes c.write_adds.new.script) (string_bytes c.writeln-3.new.self) (string_bytes c.write_rounds.new.script)
    (string_bytes c.writeln-4.new.self) (string_bytes c.writeln-5.new.self)
    c.in_ok-write_adds.ensures.number
    (c.in_ok-writeln.ensures.bytes ∙ ap (λ t. t ++ (sheet_line ++ codes "\n")) c.new-script.ensures.bytes)
    c.in_ok-writeln-2.ensures.bytes c.in_ok-write_adds.ensures.lines
    c.in_ok-writeln-3.ensures.bytes c.in_ok-write_rounds.ensures c.in_ok-writeln-4.ensures.bytes c.in_ok-writeln-5.ensures.bytes

use Rattle.std.proofs.Common.{◌≡◌, ◌++◌, take, map}
use Rattle.std.specs.Io.{StartsWith}
use Rattle.transcript_text.specs.Fields.{field_text}
use Rattle.transcript_text.specs.Lines.{with_spaces}
use Rattle.transcript_text.proofs.field.push_fields.Given as goal

-- the fields so far are appended
abbrev pub invariant-loop-field : goal.invariant-loop-field
invariant-loop-field l = record {
  ok : l.out.items ≡ l.initial.out.items ++ with_spaces (map field_text (take l.field-index l.fields));
  kept : StartsWith l.out.items l.initial.out.items;
}

use Rattle.std.proofs.Common.{◌≡◌, ◌++◌, map, length}
use Rattle.std.specs.Prelude.{All}
use Rattle.std.specs.Vec.Iter.{into_iter_items, into_iter_len}
use Rattle.shorthand_text.specs.Longhands.{IsLonghand}
use Rattle.sheet_rules.specs.Declarations.{declaration_of}
use Rattle.sheet_rules.proofs.judge.append.Given as goal

-- what the longhands so far declare; the others are still to come
abbrev pub invariant-loop-longhand : goal.invariant-loop-longhand
invariant-loop-longhand l = record {
  longhands : l.yielded ++ into_iter_items l.longhand-iterator ≡ into_iter_items l.initial.longhand-iterator;
  found : l.found.items ≡ l.initial.found.items ++ map (declaration_of l.place l.important) l.yielded;
  count : into_iter_len l.longhand-iterator ≡ length (into_iter_items l.longhand-iterator);
  all : All IsLonghand (into_iter_items l.longhand-iterator);
}

use Rattle.std.proofs.Common.{◌≡◌, ◌==◌, not, refl}
use Rattle.std.specs.Prelude.{take_while}
use Rattle.transcript_text.specs.Items.{kind_word, line_of}
use Rattle.transcript_text.specs.declared.item.Item.{Item}
use Rattle.transcript_text.specs.declared.item.Item.TheVariants as item
use Rattle.transcript_text.proofs.laws.lines_tell_their_kind.Goals as goal

told : (i : Item) → take_while (λ b. not (b == 32)) (line_of i) ≡ kind_word i
told (item.Event e) = refl
told (item.Work frame updated) = refl
told (item.Value n p v) = refl
told (item.Running n p r) = refl
told (item.Completed n p c) = refl
told (item.Animation n a) = refl
told (item.Gone n g) = refl
told (item.Refused l r) = refl

pub returns : goal.returns
returns c = told

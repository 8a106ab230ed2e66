use Rattle.restyle.proofs.WorldEdits.{added}
use Rattle.restyle.proofs.edit.add.Goals as goal

pub returns-in-Ok-clause-answer : goal.returns-in-Ok-clause-answer
returns-in-Ok-clause-answer c =
    (added c.worlds_stay_distinct.ensures.edit c.adds_keep_ancestors.ensures c.args.state.now c.touch.new.state c.add.new.self c.args.node c.args.parent c.args.tag.now c.requires.kept c.len.ensures.tree c.in-Ok.ensures.fault c.in-Ok.ensures.ok c.touch.ensures).0

pub returns-in-Ok-clause-kept : goal.returns-in-Ok-clause-kept
returns-in-Ok-clause-kept c =
    (added c.worlds_stay_distinct.ensures.edit c.adds_keep_ancestors.ensures c.args.state.now c.touch.new.state c.add.new.self c.args.node c.args.parent c.args.tag.now c.requires.kept c.len.ensures.tree c.in-Ok.ensures.fault c.in-Ok.ensures.ok c.touch.ensures).1

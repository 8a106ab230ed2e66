use Rattle.restyle.proofs.WorldEdits.{inserted}
use Rattle.restyle.proofs.edit.insert.Goals as goal

pub returns-in-Ok-clause-answer : goal.returns-in-Ok-clause-answer
returns-in-Ok-clause-answer c =
    (inserted c.worlds_stay_distinct.ensures.edit c.inserts_keep_ancestors.ensures c.args.state.now c.touch.new.state c.insert.new.self c.args.node c.args.sibling c.args.tag.now c.requires.kept c.len.ensures.tree c.in-Ok.ensures.fault c.in-Ok.ensures.ok c.touch.ensures).0

pub returns-in-Ok-clause-kept : goal.returns-in-Ok-clause-kept
returns-in-Ok-clause-kept c =
    (inserted c.worlds_stay_distinct.ensures.edit c.inserts_keep_ancestors.ensures c.args.state.now c.touch.new.state c.insert.new.self c.args.node c.args.sibling c.args.tag.now c.requires.kept c.len.ensures.tree c.in-Ok.ensures.fault c.in-Ok.ensures.ok c.touch.ensures).1

use Rattle.std.proofs.Common.{◌∙◌, ap, refl, [], ◌∷◌, ◌++◌}
use Rattle.std.specs.Prelude.{if◌then◌else◌, is_ok}
use Rattle.restyle.proofs.WorldEdits.{accepted_removal, removed}
use Rattle.restyle.proofs.edit.remove.Goals as goal

pub returns-in-Ok-remove-clause-answer : goal.returns-in-Ok-remove-clause-answer
returns-in-Ok-remove-clause-answer c =
    (removed c.worlds_stay_distinct.ensures.edit c.removals_keep_ancestors.ensures c.args.state.now
    (record {
      tree = c.remove.new.self;
      last_sheets = c.args.state.now.last_sheets;
      sheets = c.args.state.now.sheets;
      entries = c.args.state.now.entries;
      removed = c.push.new.self;
      time = c.args.state.now.time;
      frames = c.args.state.now.frames;
      quiet = c.args.state.now.quiet;
      touched = c.args.state.now.touched;
    })
    c.args.node (record { time = c.args.state.now.time; numbers = c.in-Ok-remove.numbers }) c.requires.kept c.len.ensures.tree
    (accepted_removal c.args.state.now.tree c.args.node c.in-Ok-remove.numbers c.in-Ok-remove.ensures.fault) c.in-Ok-remove.ensures.ok refl refl refl refl refl
    (c.push.ensures.items ∙ ap (λ r. if is_ok r then c.reserve.new.self.items ++ record { time = c.args.state.now.time; numbers = c.in-Ok-remove.numbers } ∷ [] else c.reserve.new.self.items) c.unwrap.ensures
    ∙ ap (λ xs. xs ++ record { time = c.args.state.now.time; numbers = c.in-Ok-remove.numbers } ∷ []) c.reserve.ensures.items) refl refl refl c.in-Ok-remove.ensures.numbers).0

pub returns-in-Ok-remove-clause-kept : goal.returns-in-Ok-remove-clause-kept
returns-in-Ok-remove-clause-kept c =
    (removed c.worlds_stay_distinct.ensures.edit c.removals_keep_ancestors.ensures c.args.state.now
    (record {
      tree = c.remove.new.self;
      last_sheets = c.args.state.now.last_sheets;
      sheets = c.args.state.now.sheets;
      entries = c.args.state.now.entries;
      removed = c.push.new.self;
      time = c.args.state.now.time;
      frames = c.args.state.now.frames;
      quiet = c.args.state.now.quiet;
      touched = c.args.state.now.touched;
    })
    c.args.node (record { time = c.args.state.now.time; numbers = c.in-Ok-remove.numbers }) c.requires.kept c.len.ensures.tree
    (accepted_removal c.args.state.now.tree c.args.node c.in-Ok-remove.numbers c.in-Ok-remove.ensures.fault) c.in-Ok-remove.ensures.ok refl refl refl refl refl
    (c.push.ensures.items ∙ ap (λ r. if is_ok r then c.reserve.new.self.items ++ record { time = c.args.state.now.time; numbers = c.in-Ok-remove.numbers } ∷ [] else c.reserve.new.self.items) c.unwrap.ensures
    ∙ ap (λ xs. xs ++ record { time = c.args.state.now.time; numbers = c.in-Ok-remove.numbers } ∷ []) c.reserve.ensures.items) refl refl refl c.in-Ok-remove.ensures.numbers).1

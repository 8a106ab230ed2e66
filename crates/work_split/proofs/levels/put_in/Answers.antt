use Rattle.std.proofs.Common.{◌≡◌, ◌<◌, ◌+◌, ◌∷◌, [], ◌++◌, length, length-append, ap, sym, ◌∙◌, arith}
use Rattle.work_split.specs.Levels.{level_at}
use Rattle.work_split.proofs.LevelLists.{level_at-set, level_at-set_other, level_at-push, level_at-read}
use Rattle.work_split.proofs.levels.put_in.Goals.{then-depth-len+in_ok-push, else-depth-len}
use Rattle.work_split.proofs.levels.put_in.Goals as goal

pub returns-clause-here : goal.returns-clause-here
returns-clause-here c =
    let levels = c.if-depth-len.levels.items in
    let within : c.args.depth < length levels = elim c.if-depth-len.branch [
      | then-depth-len+in_ok-push w ↦
          let longer : length levels ≡ length c.args.levels.now.items + 1 = ap (λ v. length v.items) w.levels-is ∙ ap length w.in_ok-push.ensures.items ∙ length-append c.args.levels.now.items (w.new.result ∷ []) in
          let all = c.len.ensures in
          let long = c.args.levels.now.ok.0 in
          let same = w.if-depth-len.true in
          let most = c.requires in
          omega arith
      | else-depth-len w ↦
          let as_long : length levels ≡ length c.args.levels.now.items = ap (λ v. length v.items) w.levels-is in
          let all = c.len.ensures in
          let other = w.if-depth-len.false in
          let most = c.requires in
          let long = c.args.levels.now.ok.0 in
          omega arith
    ] in
    level_at-set levels c.args.depth c.push-2.new.self within ∙ c.in_ok-push-2.ensures.items
    ∙ ap (λ l. l ++ c.args.seat ∷ [])
    (ap (λ v. v.items) c.index_mut.ensures.value ∙ sym (level_at-read levels c.args.depth c.index_mut.result.now within)
    ∙ elim c.if-depth-len.branch [
      | then-depth-len+in_ok-push w ↦
          ap (λ v. level_at v.items c.args.depth) w.levels-is ∙ ap (λ l. level_at l c.args.depth) w.in_ok-push.ensures.items
          ∙ level_at-push c.args.levels.now.items c.args.depth w.new.result w.new.ensures.items
      | else-depth-len w ↦ ap (λ v. level_at v.items c.args.depth) w.levels-is
    ])

pub returns-clause-others : goal.returns-clause-others
returns-clause-others c = λ d other.
    level_at-set_other c.if-depth-len.levels.items c.args.depth d c.push-2.new.self other
    ∙ elim c.if-depth-len.branch [
      | then-depth-len+in_ok-push w ↦
          ap (λ v. level_at v.items d) w.levels-is ∙ ap (λ l. level_at l d) w.in_ok-push.ensures.items
          ∙ level_at-push c.args.levels.now.items d w.new.result w.new.ensures.items
      | else-depth-len w ↦ ap (λ v. level_at v.items d) w.levels-is
    ]

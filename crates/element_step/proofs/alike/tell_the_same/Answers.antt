use Rattle.std.proofs.Common.{◌∙◌, sym}
use Rattle.std.proofs.lemmas.Bool.{OnTrue_at, OnTrue_from}
use Rattle.element_step.specs.Alike.{TellTheSame}
use Rattle.element_step.proofs.ToldAlike.{told_by}
use Rattle.element_step.proofs.alike.tell_the_same.Goals as goal

pub returns-then-is_kept_like : goal.returns-then-is_kept_like
returns-then-is_kept_like c =
    let shown = c.if-not-were_shown_alike.ensures in
    let effects = c.if-not-are_without_effects.ensures in
    OnTrue_from c.hand_down_alike.result (TellTheSame c.args.a.now c.args.b.now)
    (λ is. told_by c.args.a.now c.args.b.now shown.0 shown.1 (sym c.declared.ensures ∙ c.if-is_kept_like.ensures ∙ c.declared-2.ensures) effects.0 effects.1
    c.now.result.now c.now-then-is_kept_like.result.now c.now.ensures c.now-then-is_kept_like.ensures (OnTrue_at is c.hand_down_alike.ensures))

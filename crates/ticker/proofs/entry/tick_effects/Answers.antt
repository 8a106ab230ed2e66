use Rattle.std.proofs.Common.{◌≡◌, ◌∙◌, ℕ, ap, arith, refl, rules, subst, sym}
use Rattle.std.specs.Prelude.{List, [], ◌∷◌, ◌==◌, length, true}
use Rattle.std.specs.List.{list_any}
use Rattle.style_data.specs.Entries.{EffectLists}
use Rattle.style_data.specs.TransitionSets.{AreTransitions, TransitionSet}
use Rattle.style_data.specs.declared.gone.Gone.{Gone}
use Rattle.ticker.proofs.InPlace.{ends_by, entry_in_place}
use Rattle.ticker.proofs.entry.tick_effects.Goals as goal

is_none : (n : ℕ) → true ≡ (n == 0) → n ≡ 0
is_none n e = grind (arith, rules)

none_left : (xs : List Gone) → true ≡ (length xs == 0) → xs ≡ []
none_left [] e = refl
none_left (x ∷ xs) e = let h = is_none (length (x ∷ xs)) e in absurd (omega (arith, h))

pub returns-then-not-has_ended_one : goal.returns-then-not-has_ended_one
returns-then-not-has_ended_one c =
    let transitions = c.transitions.ensures.value ∙ ap (λ (e : EffectLists). e.transitions) c.in-Some.ensures in
    entry_in_place c.args.t.0 c.args.entry.now c.see_transitions.new.entry c.see_animations.new.entry (subst AreTransitions transitions c.running.ensures.kept)
    (sym (c.gone.ensures ∙ ap (λ (e : EffectLists). e.gone) c.in-Some.ensures) ∙ none_left c.gone.result.now c.if-is_empty.ensures)
    (sym (c.if-not-has_ended_one.ensures ∙ ap (list_any (ends_by c.args.t.0)) (c.running.ensures.value ∙ ap (λ (ts : TransitionSet). ts.running) transitions)))
    c.see_transitions.ensures c.see_animations.ensures

-- A style change event makes one origin at most of each frame, position, and property or place.
use Rattle.std.proofs.Common.{◌≡◌, arith, ℕ, ◌+◌, ◌≤◌, List, [], ◌++◌, Bool, true, false, Option}
use Rattle.std.specs.Prelude.{if◌then◌else◌, unwrap_or}
use Rattle.animation_names.specs.NameLists.{names_update}
use Rattle.computed_style.specs.Winners.{Declarations}
use Rattle.computed_style.specs.declared.inherited.Down.{Down}
use Rattle.doc_tree.specs.Element.{position_of}
use Rattle.element_step.specs.Rendering.{is_rendered}
use Rattle.element_step.specs.Updates.{ElementUpdate, cancelled_of, entry_after, transitions_of}
use Rattle.element_step.specs.Works.{DocumentEvent, animation_lists_after, animations_before, animations_updated, element_declarations, entry_at, event_at, paired_at, update_at}
use Rattle.style_data.specs.Entries.{EntryParts}
use Rattle.style_data.specs.declared.gone.Gone.{Gone}
use Rattle.ticker.specs.declared.event.Standing.{Standing}
use Rattle.transition_update.specs.declared.event.StyleChangeEvent.{StyleChangeEvent}
use Rattle.restyle.proofs.AnimationOrigins.{animations_count, new_animation_at}
use Rattle.restyle.proofs.EffectCounts.{animation_count, effect_count, gone_count, transition_count}
use Rattle.restyle.proofs.OriginCounts.{total, total-append, total-nil}
use Rattle.restyle.proofs.TransitionOrigins.{new_transition_at, transitions_count}

-- 1 where it is the origin of what an event of this frame starts for an element at this position
abbrev pub new_at : Standing → ℕ → ℕ → ℕ
new_at s generation position = new_transition_at s generation position + new_animation_at s generation position

before_count : (s : Standing) (rendered : Bool) (entry : EntryParts) → total (animation_count s) (animations_before rendered entry) ≤ total (animation_count s) entry.effects.animations
before_count s rendered entry = go rendered entry.rendered
  where
    go : (b c : Bool) → total (animation_count s) (if b then if c then entry.effects.animations else [] else entry.effects.animations) ≤ total (animation_count s) entry.effects.animations
    go true true = omega arith
    go true false = omega (arith, total-nil (animation_count s))
    go false c = omega arith

updated_count : (s : Standing) (w : DocumentEvent) (event : StyleChangeEvent) (rendered : Bool) (entry : EntryParts) (d : Declarations)
    → total (animation_count s) (animations_updated w event rendered entry d).animations + total (gone_count s) (animations_updated w event rendered entry d).gone
    ≤ total (animation_count s) entry.effects.animations + new_animation_at s event.generation event.position
unfolding animations_updated
updated_count s w event rendered entry d =
    omega (
      arith,
      before_count s rendered entry,
      animations_count s (names_update (animations_before rendered entry) (animation_lists_after rendered d) w.sheets event.time event.generation event.position),
    )

after_count : (s : Standing) (x : ElementUpdate) (gone : List Gone)
    → effect_count s (entry_after x gone).effects
    ≡ total (transition_count s) (transitions_of x).running + total (animation_count s) x.animations
    + (total (gone_count s) x.entry.effects.gone + total (gone_count s) (cancelled_of x) + total (gone_count s) gone)
unfolding entry_after
after_count s x gone =
    omega (arith, total-append (gone_count s) (x.entry.effects.gone ++ cancelled_of x) gone, total-append (gone_count s) x.entry.effects.gone (cancelled_of x))

updated_entry_count : (s : Standing) (x : ElementUpdate) (gone : List Gone)
    → total (animation_count s) x.animations + total (gone_count s) gone
    ≤ total (animation_count s) x.entry.effects.animations + new_animation_at s x.event.generation x.event.position
    → effect_count s (entry_after x gone).effects ≤ effect_count s x.entry.effects + new_at s x.event.generation x.event.position
updated_entry_count s x gone animations = omega (arith, after_count s x gone, transitions_count s x, animations)

pub entry_count_at : (s : Standing) (w : DocumentEvent) (n : ℕ) (entry : EntryParts) (parent : Option Down)
    → effect_count s (entry_at w n entry parent).effects ≤ effect_count s entry.effects + new_at s w.generation (unwrap_or (position_of n w.document) 0)
unfolding update_at
entry_count_at s w n entry parent =
    updated_entry_count s (update_at w n entry parent) (paired_at w n entry parent).gone
    (updated_count s w (event_at w n) (is_rendered (element_declarations w n) parent) entry (element_declarations w n))

-- The kinds of events (CSS Transitions 1, section 6; CSS Animations 1, section 5).
use Rattle.std.specs.Prelude.{ℕ}
use Rattle.std.specs.Ordering.{int_cmp, nat_cmp, on, then_cmp}
use Rattle.std.specs.declared.cmp.Ordering.{Ordering}
use Rattle.style_data.specs.declared.event.EventKind.{EventKind}
use Rattle.style_data.specs.declared.event.Key.{Key}
use Rattle.style_data.specs.declared.event.EventKind.TheVariants.{Run, Start, Iteration, End, Cancel}

-- the place of a kind among the events of one moment and one subject
abbrev pub kind_number : EventKind → ℕ
kind_number Run = 0
kind_number Start = 1
kind_number Iteration = 2
kind_number End = 3
kind_number Cancel = 4

-- keys compare by their scheduled time, and then by each field in its turn
abbrev pub key_order : Key → Key → Ordering
key_order =
    then_cmp (on (λ k. k.time.0) int_cmp)
    (then_cmp (on (λ k. k.class) nat_cmp)
    (then_cmp (on (λ k. k.first) nat_cmp)
    (then_cmp (on (λ k. k.second) nat_cmp)
    (then_cmp (on (λ k. k.third) nat_cmp) (on (λ k. k.kind) nat_cmp)))))

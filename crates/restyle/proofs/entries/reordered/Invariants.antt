use Rattle.std.proofs.Common.{◌≡◌, ℕ, false, map, take}
use Rattle.std.specs.Prelude.{unwrap_or}
use Rattle.doc_tree.specs.Element.{numbers_of}
use Rattle.style_data.specs.Entries.{fresh_entry}
use Rattle.restyle.specs.Entries.{IsAligned, entry_left, is_among}
use Rattle.restyle.proofs.entries.reordered.Given as goal

-- the entries of the elements so far are taken, and all others are left
abbrev pub invariant-loop-at : goal.invariant-loop-at
invariant-loop-at l = record {
  list : l.list.items ≡ map (λ e. (e.number, unwrap_or (entry_left l.initial.taken e.number) fresh_entry)) (take l.at l.tree.elements);
  aligned : IsAligned l.taken;
  left : (m : ℕ) → is_among m (numbers_of (take l.at l.tree.elements)) ≡ false → entry_left l.taken m ≡ entry_left l.initial.taken m;
}

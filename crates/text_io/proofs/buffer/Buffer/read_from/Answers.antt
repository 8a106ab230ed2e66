use Rattle.std.proofs.Common.{◌≡◌, ◌+◌, ℕ, List, ◌++◌, take, ap, ◌∙◌, arith}
use Rattle.std.specs.List.{slice_range}
use Rattle.std.specs.Vec.{with_items}
use Rattle.std.proofs.lemmas.List.{with_items_is}
use Rattle.text_io.proofs.RangeLemmas.{range_grown, range_kept}
use Rattle.text_io.proofs.buffer.Buffer.read_from.Goals as goal

pub returns-in-Ok-clause-given : goal.returns-in-Ok-clause-given
returns-in-Ok-clause-given g c =
    let old = c.make_room.new.self in
    let now = c.read_to.new.bytes in
    let given = c.in-Ok.ensures.given in
    let end = old.end + c.in-Ok.read in
    let items : (with_items old.bytes now).items ≡ now = with_items_is old.bytes now (omega arith) in (
      given.0,
      given.1,
      ap (λ (xs : List ℕ). slice_range xs old.start end) items
          ∙ range_grown old.bytes.items now given.0 old.start old.end c.in-Ok.read old.ordered (omega (arith, old.bytes.ok.0, old.whole, old.within))
          (given.2 ∙ ap (λ (xs : List ℕ). take old.end xs ++ given.0) c.deref_mut.ensures.value)
          ∙ ap (λ (xs : List ℕ). xs ++ given.0) c.make_room.ensures.pending,
      given.3,
    )

pub returns-in-Err-clause-err : goal.returns-in-Err-clause-err
returns-in-Err-clause-err g c =
    let old = c.make_room.new.self in
    let now = c.read_to.new.bytes in
    let items : (with_items old.bytes now).items ≡ now = with_items_is old.bytes now (omega arith) in (
      ap (λ (xs : List ℕ). slice_range xs old.start old.end) items
          ∙ range_kept old.bytes.items now old.start old.end (c.read_to.ensures.kept ∙ ap (take old.end) c.deref_mut.ensures.value)
          ∙ c.make_room.ensures.pending,
      c.make_room.ensures.taken,
      c.in-Err.ensures.err,
    )

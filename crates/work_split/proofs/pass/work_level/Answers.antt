use Rattle.std.specs.List.{flat_map}
use Rattle.std.proofs.lemmas.Slice.Zip.{AllZip-long}
use Rattle.work_split.proofs.pass.work_level.Goals as goal

pub put_pieces-requires-clause-count : goal.put_pieces-requires-clause-count
put_pieces-requires-clause-count g c = AllZip-long _ _ _ c.in_ok-pieces.ensures

pub returns : goal.returns
returns g c = record {
  steps = flat_map (λ v. v.items) c.in_ok-pieces.pieces.items;
  outcomes = rw (c.as_slice.ensures.value, c.as_slice-2.ensures.value) at c.in_ok-pieces.ensures;
  now_is = c.put_pieces.ensures;
}

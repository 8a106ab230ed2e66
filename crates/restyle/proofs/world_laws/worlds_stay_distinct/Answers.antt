use Rattle.std.proofs.Common.{◌≢◌, refl, ◌≤◌}
use Rattle.std.proofs.lemmas.List.Elements.{All-nil}
use Rattle.ticker.proofs.Pairs.{pairs_none}
use Rattle.ticker.specs.declared.event.Standing.{Standing}
use Rattle.restyle.proofs.EditOrigins.{edit_distinct}
use Rattle.restyle.proofs.FrameOrigins.{frame_distinct}
use Rattle.restyle.proofs.world_laws.worlds_stay_distinct.Goals as goal

pub returns-clause-new : goal.returns-clause-new
returns-clause-new c = record {
  tree = record { order = tt; numbers = refl };
  order = refl;
  distinct = record { differ = pairs_none (λ (a b : Standing). a ≢ b); created = All-nil (λ (o : Standing). o.first ≤ 0) };
}

pub returns-clause-edit : goal.returns-clause-edit
returns-clause-edit c = edit_distinct

pub returns-clause-frame : goal.returns-clause-frame
returns-clause-frame c = frame_distinct

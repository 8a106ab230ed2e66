use Rattle.restyle.proofs.FirstEvents.{absent_fresh, edited_fresh, frame_starts_none}
use Rattle.restyle.proofs.world_laws.added_elements_start_none.Goals as goal

pub returns : goal.returns
returns c = record { absent = absent_fresh; edit = edited_fresh; frame = frame_starts_none }

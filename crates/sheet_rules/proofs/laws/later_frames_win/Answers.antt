use Rattle.sheet_rules.proofs.LaterFrames.{later_wins}
use Rattle.sheet_rules.proofs.laws.later_frames_win.Goals as goal

pub returns : goal.returns
returns c = later_wins

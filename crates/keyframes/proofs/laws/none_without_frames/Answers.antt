use Rattle.keyframes.proofs.LawLemmas.{no_frames, only_no_frames}
use Rattle.keyframes.proofs.laws.none_without_frames.Goals as goal

pub returns-clause-none : goal.returns-clause-none
returns-clause-none c = no_frames

pub returns-clause-only : goal.returns-clause-only
returns-clause-only c = only_no_frames

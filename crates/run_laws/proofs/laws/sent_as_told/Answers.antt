use Rattle.run_laws.proofs.DeclaredDurations.{ReadingLaws}
use Rattle.run_laws.proofs.SentEvents.{as_told}
use Rattle.run_laws.proofs.laws.sent_as_told.Goals as goal

pub returns : goal.returns
returns c =
    let laws : ReadingLaws = record { sheet = c.sheet_reading_is_exact.ensures.sheet; style = c.style_reading_is_exact.ensures.style } in as_told laws

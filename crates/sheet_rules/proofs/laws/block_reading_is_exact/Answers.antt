use Rattle.std.proofs.Common.{refl}
use Rattle.sheet_rules.proofs.BlockReadings.{block_is_read, faulty_block_is_read}
use Rattle.sheet_rules.proofs.StyleReadings.{read_block, read_faulty_block}
use Rattle.sheet_rules.proofs.laws.block_reading_is_exact.Goals as goal

pub returns-clause-block : goal.returns-clause-block
returns-clause-block c = λ block text ts ds rest. ((λ h. block_is_read block text h 64 refl), read_block block text ts ds rest)

pub returns-clause-fault : goal.returns-clause-fault
returns-clause-fault c = λ block text ts fault. ((λ h. faulty_block_is_read block text h 64 refl), read_faulty_block block text ts fault)

use Rattle.std.proofs.Common.{arith}
use Rattle.std.proofs.lemmas.Grind.{common_steps}
use Rattle.read_json.proofs.Texts.{spelled-none, spelled-read}
use Rattle.read_json.proofs.values.spelled.Goals as goal

pub returns-in_default : goal.returns-in_default
returns-in_default c = grind (arith, common_steps, spelled-none)

pub returns-in-Ok-from_str : goal.returns-in-Ok-from_str
returns-in-Ok-from_str c = grind (arith, common_steps, spelled-read)

pub returns-else-is_memory : goal.returns-else-is_memory
returns-else-is_memory c = grind (arith, common_steps, spelled-read)

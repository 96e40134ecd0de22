use Rattle.std.proofs.Common.{vec_len}
use Rattle.cut_pool.proofs.spares.Spares.give_back.Given as goal

abbrev pub decreases-loop-entry : goal.decreases-loop-entry
decreases-loop-entry l = vec_len l.entries

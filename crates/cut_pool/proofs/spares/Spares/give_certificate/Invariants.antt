use Rattle.std.proofs.Common.{vec_len}
use Rattle.cut_pool.proofs.spares.Spares.give_certificate.Given as goal

abbrev pub decreases-loop-pairs : goal.decreases-loop-pairs
decreases-loop-pairs l = vec_len l.lists

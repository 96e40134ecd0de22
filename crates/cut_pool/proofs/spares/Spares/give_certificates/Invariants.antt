use Rattle.std.proofs.Common.{vec_len}
use Rattle.cut_pool.proofs.spares.Spares.give_certificates.Given as goal

abbrev pub decreases-loop-certificate : goal.decreases-loop-certificate
decreases-loop-certificate l = vec_len l.certificates

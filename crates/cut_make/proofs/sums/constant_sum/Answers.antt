use Rattle.cut_make.proofs.Tables.{zeros}
use Rattle.cut_make.proofs.sums.constant_sum.Goals as goal

pub constant_sum_by-requires-clause-zeros : goal.constant_sum_by-requires-clause-zeros
constant_sum_by-requires-clause-zeros c = zeros 32

pub constant_sum_by-requires-else-len-le-FEW_DECISIONS-clause-zeros : goal.constant_sum_by-requires-else-len-le-FEW_DECISIONS-clause-zeros
constant_sum_by-requires-else-len-le-FEW_DECISIONS-clause-zeros c = zeros 200

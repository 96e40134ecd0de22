use Rattle.cut_make.proofs.Tables.{zeros}
use Rattle.cut_make.proofs.sums.fixed_constant.Goals as goal

pub fixed_constant_by-requires-clause-zeros : goal.fixed_constant_by-requires-clause-zeros
fixed_constant_by-requires-clause-zeros c = zeros 32

pub fixed_constant_by-requires-else-len-le-FEW_DECISIONS-clause-zeros : goal.fixed_constant_by-requires-else-len-le-FEW_DECISIONS-clause-zeros
fixed_constant_by-requires-else-len-le-FEW_DECISIONS-clause-zeros c = zeros 200

use Rattle.hydro_accept.proofs.AllParts.{few_stores}
use Rattle.hydro_accept.proofs.Used.{few_variables, chances_count}
use Rattle.hydro_accept.proofs.Subproblems.{rows_few}
use Rattle.hydro_accept.proofs.laws.within_limits.Goals as goal

pub returns : goal.returns
returns c = record { states = few_stores; decisions = few_variables; randoms = chances_count; rows = rows_few }

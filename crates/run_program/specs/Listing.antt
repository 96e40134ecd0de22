-- How a run ends where risk cuts stop.
use Rattle.policy_robust.specs.declared.risk_cuts.RobustFault.{RobustFault}
use Rattle.policy_robust.specs.declared.risk_cuts.RobustFault.TheVariants as risk_cuts
use Rattle.run_program.specs.declared.status.Status.{Status}
use Rattle.run_program.specs.declared.status.Status.TheVariants.{Range, Memory}

abbrev pub status_of_risk_cuts : RobustFault → Status
status_of_risk_cuts (risk_cuts.Range k m r) = Range k m r
status_of_risk_cuts risk_cuts.Memory = Memory

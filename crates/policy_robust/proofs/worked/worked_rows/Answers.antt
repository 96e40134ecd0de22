use Rattle.policy_robust.proofs.WorkedRiskCuts as rows
use Rattle.policy_robust.proofs.worked.worked_rows.Goals as goal

pub returns : goal.returns
returns c = record { base_risk_cut = rows.base_risk_cut; risk_cut = rows.risk_cut; own_risk_cut = rows.own_risk_cut; worst = rows.worst; risk = rows.risk }

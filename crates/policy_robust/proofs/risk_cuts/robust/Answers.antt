use Rattle.std.proofs.Common.{List, subst}
use Rattle.cut_pool.specs.declared.entry.Entry.{Entry}
use Rattle.policy_robust.specs.RiskCuts.{GivesRiskCuts, risk_cuts_of}
use Rattle.policy_robust.proofs.Adding.{risk_cuts_hold, risk_cuts_under}
use Rattle.policy_robust.proofs.risk_cuts.robust.Goals as goal

pub returns-clause-holds : goal.returns-clause-holds
returns-clause-holds c =
    let p = c.args.problem.now in
    let x = c.args.alternatives.now in
    risk_cuts_hold p x c.parts.ensures.validated c.requires.listed c.args.lists.now c.requires.records c.risk_cuts_of.result (subst (λ (ls : List (List Entry)). GivesRiskCuts c.risk_cuts_of.result (risk_cuts_of p x ls)) c.as_slice.ensures c.risk_cuts_of.ensures.value)

pub returns-clause-worst : goal.returns-clause-worst
returns-clause-worst c =
    let p = c.args.problem.now in
    let x = c.args.alternatives.now in
    risk_cuts_under p x c.parts.ensures.validated c.requires.listed c.args.lists.now c.requires.records c.risk_cuts_of.result (subst (λ (ls : List (List Entry)). GivesRiskCuts c.risk_cuts_of.result (risk_cuts_of p x ls)) c.as_slice.ensures c.risk_cuts_of.ensures.value) c.risk_cuts_of.ensures.fit

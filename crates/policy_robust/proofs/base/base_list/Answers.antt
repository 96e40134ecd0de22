use Rattle.std.proofs.Common.{◌≡◌, ◌∙◌, ap, subst, List, ℕ, IfOk}
use Rattle.theory.specs.declared.cut.Certificate.{Certificate}
use Rattle.cut_check.specs.Bases.{certificate_of}
use Rattle.cut_make.specs.Parts.{repeated}
use Rattle.policy_robust.proofs.Based.{list_made}
use Rattle.policy_robust.proofs.base.base_list.Goals as goal

pub returns : goal.returns
returns c =
    let p = c.args.problem.now in
    let n = c.node-here.result.now in
    let s = c.sub-sub.result.now in
    let is = ap (λ (ws : List ℕ). repeated (certificate_of n s) ws) c.as_slice.ensures ∙ list_made p c.args.node n s c.lo.result.now c.hi.result.now c.parts.ensures.validated c.node-here.ensures c.sub-sub.ensures c.lo.ensures c.hi.ensures in
    subst (λ (list : List Certificate). IfOk c.certificates.result (λ (made : List Certificate). made ≡ list)) is c.certificates.ensures

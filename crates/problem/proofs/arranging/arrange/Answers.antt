use Rattle.std.proofs.Common.{sym, subst}
use Rattle.problem.specs.Arranged.{Arranges}
use Rattle.problem.proofs.Fitting.{arranged_is}
use Rattle.problem.proofs.arranging.arrange.Goals as goal

pub returns : goal.returns
returns c =
    subst (λ a. Arranges (λ p. p) c.validated.result a)
    (sym (arranged_is c.args.parts c.in_ok-order.order c.in_ok-order.longest c.in_ok-lo.lo c.in_ok-lo.hi c.in_ok-order.ensures c.in_ok-lo.ensures))
    c.validated.ensures

use Rattle.std.proofs.Common.{arith}
use Rattle.std.proofs.lemmas.Grind.{common_steps}
use Rattle.problem.proofs.ValidatedFacts.{box_counts}
use Rattle.problem.proofs.validated.Problem.hi.Goals as goal

pub list_at-requires : goal.list_at-requires
list_at-requires c =
    let i = c.self.inside in
    let counts = box_counts (record { parts = i.parts; order = i.order; longest = i.longest; lo = i.lo; hi = i.hi }) c.self.invariant.0 in
    let same = c.self.view_is in
    grind (arith, common_steps)

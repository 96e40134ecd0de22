use Rattle.std.proofs.Common.{arith, ◌∙◌}
use Rattle.problem.specs.Formulas.{too_wide}
use Rattle.problem.proofs.Bounds.{longest_at_most}
use Rattle.problem.proofs.ValidatedFacts.{parts-is_validated}
use Rattle.problem.proofs.validated.Problem.too_wide.Goals as goal

pub traces_above-requires-clause-parts : goal.traces_above-requires-clause-parts
traces_above-requires-clause-parts c = rw c.parts.ensures.value (parts-is_validated c.args.self.now c.parts.ensures.validated)

pub traces_above-requires-clause-longest : goal.traces_above-requires-clause-longest
traces_above-requires-clause-longest c =
    let most = longest_at_most c.args.self.now c.parts.ensures.validated in
    omega arith

pub returns : goal.returns
unfolding too_wide
returns c =
    let e = c.traces_above.ensures in
    let longest = c.from.ensures ∙ c.longest.ensures in
    rw (longest, c.parts.ensures.value) at e

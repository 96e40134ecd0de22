use Rattle.std.proofs.Common.{ℕ, ◌+◌, ◌*◌, ◌^◌, length, Option, ◌∙◌, arith}
use Rattle.problem.specs.declared.parts.ProblemParts.{ProblemParts}
use Rattle.problem.specs.declared.formulas.TooMuch.{TooMuch}
use Rattle.problem.specs.Formulas.{above, first_dictionary, or_then, record_bytes, too_much}
use Rattle.problem.proofs.Bounds.{longest_at_most}
use Rattle.problem.proofs.ValidatedFacts.{parts-is_validated}
use Rattle.problem.proofs.validated.Problem.too_much.Goals as goal

pub first_above-requires-clause-parts : goal.first_above-requires-clause-parts
first_above-requires-clause-parts c = rw c.parts.ensures.value (parts-is_validated c.args.self.now c.parts.ensures.validated)

pub first_above-requires-clause-longest : goal.first_above-requires-clause-longest
first_above-requires-clause-longest c =
    let most = longest_at_most c.args.self.now c.parts.ensures.validated in
    omega arith

abbrev first_of : ProblemParts → ℕ → ℕ → ℕ → Option TooMuch
first_of parts longest k batch =
    or_then (above 1 (2 ^ 24) (k * batch * longest * (length parts.states + 1)))
    (or_then (first_dictionary parts (k * batch) parts.nodes) (above 3 (2 ^ 26) (record_bytes parts (k * batch) batch)))

pub returns : goal.returns
unfolding too_much
returns c = c.first_above.ensures ∙ (λ i. first_of (c.parts.ensures.value i) ((c.from-longest.ensures ∙ c.longest.ensures) i) (c.from.ensures i) (c.from-2.ensures i))

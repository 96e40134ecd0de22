use Rattle.std.proofs.Common.{◌≡◌, Ok, refl}
use Rattle.problem.specs.declared.parts.ProblemParts.{ProblemParts}
use Rattle.read_file.specs.Read.{problem_parts_of}
use Rattle.read_file.proofs.ReadFits.{parts_are_lawful-read}
use Rattle.read_file.proofs.read.read_problem_parts.Goals as goal

pub returns-clause-fits : goal.returns-clause-fits
unfolding problem_parts_of
returns-clause-fits c =
    let parts : ProblemParts = record c.in_ok-graph.graph { scenarios = c.in_ok-scenarios.scenarios } in
    let read : problem_parts_of c.args.bytes.now ≡ Ok parts = rw (c.in_ok-value.ensures, c.in_ok-tables.ensures.value, ← c.in_ok-names.ensures, c.in_ok-graph.ensures, c.in_ok-scenarios.ensures) refl in
    parts_are_lawful-read c.args.bytes.now parts read

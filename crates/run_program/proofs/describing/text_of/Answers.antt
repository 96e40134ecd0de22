use Rattle.std.proofs.Common.{ℕ, List, IfOk, IsOk}
use Rattle.hydro_make.specs.Text.{hydro_at}
use Rattle.read_file.specs.Problem.{problem_at}
use Rattle.theory.specs.Range.{based}
use Rattle.run_program.proofs.Described.{if_given}
use Rattle.run_program.proofs.Reports.{accepts}
use Rattle.run_program.proofs.describing.text_of.Goals as goal

pub returns-clause-accepted : goal.returns-clause-accepted
returns-clause-accepted c =
    let bytes : List ℕ = c.args.description.now in
    accepts (λ v. v.items) c.make.result
    (if_given (λ v. v.items) (λ (text : List ℕ). IsOk (problem_at text)) (hydro_at bytes) c.make.result c.make.ensures (λ text e. c.made_accepted.ensures.problem bytes text e))
    (if_given (λ v. v.items) (λ (text : List ℕ). IfOk (problem_at text) (λ s. IsOk (based s))) (hydro_at bytes) c.make.result c.make.ensures (λ text e. c.made_accepted.ensures.base_fits bytes text e))

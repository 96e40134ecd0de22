-- Chains of a node's stage problems, solved one after another.
use Rattle.std.specs.Prelude.{ℕ, ℤ, List}
use Rattle.problem.specs.Validated.{Validated}
use Rattle.theory.specs.declared.cut.Cut.{Cut}
use Rattle.lp_program.specs.declared.programs.Program.{Program}
use Rattle.lp_program.specs.declared.programs.Answer.{Answer}
use Rattle.lp_program.specs.Chains.{chained}
use Rattle.lp_program.specs.Solving.{Solving}
use Rattle.plan_stage.specs.Nodes.{stage_at, reference_at}

-- the state of a chain of the node m before its first program
abbrev pub begun_at : {Start Chain : Type 0} → Solving Start Chain → Validated → ℕ → Program → Chain
begun_at v p m lp = v.begun (v.started (reference_at p m)) lp

-- Chained: the answers to programs of the node m, solved one after another in a chain
unfoldable pub chain_answers : {Start Chain : Type 0} → Solving Start Chain → Validated → ℕ → List Program → List Answer
chain_answers v p m lps = chained (begun_at v p m) v.next lps

-- Answered: the answer of a chain of one
unfoldable pub stage_answer : {Start Chain : Type 0} → Solving Start Chain → Validated → List (List Cut) → ℕ → List ℤ → List ℤ → Answer
stage_answer v p pools m values state =
    let lp : Program = stage_at p pools m values state in
    (v.next (begun_at v p m lp) lp).0

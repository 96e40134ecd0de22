use Rattle.std.proofs.Common.{◌≡◌, ◌∙◌, ℤ, List, ap, sym}
use Rattle.theory.specs.Problem.{S}
use Rattle.theory.specs.Tree.{times_all}
use Rattle.theory.specs.View.{problem_of}
use Rattle.theory.proofs.Views.{initial-problem_of}
use Rattle.plan_stage.proofs.Alike.{if_ok}
use Rattle.plan_forward.proofs.forward_pass.initial_state.Goals as goal

pub returns : goal.returns
returns c =
    let p = c.args.problem.now in
    let is = ap (times_all S) (c.initial.ensures ∙ sym (initial-problem_of p)) in
    if_ok c.scaled_all.result (λ (x : List ℤ). x ≡ times_all S c.initial.result.now) (λ (x : List ℤ). x ≡ times_all S (problem_of p).initial) (λ x e. e ∙ is) c.scaled_all.ensures

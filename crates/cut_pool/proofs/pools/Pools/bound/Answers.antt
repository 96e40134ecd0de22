use Rattle.std.proofs.Common.{◌≡◌, ℤ, nat_abs, to_z, of_z, ap, ap₂, sym, subst, ◌∙◌}
use mir.Syntax.{w128}
use Rattle.std.proofs.lemmas.Int.{to_z-of_z}
use Rattle.base_num.specs.Sums.{floor_over}
use Rattle.theory.specs.Bound.{bound, Under}
use Rattle.theory.specs.View.{problem_of}
use Rattle.theory.proofs.BoundBelow.{sound_bound}
use Rattle.theory.proofs.ValidatedPremises.{root_shaped-validated}
use Rattle.cut_pool.proofs.Weighted.{have_cuts-fit}
use Rattle.cut_pool.proofs.pools.Pools.bound.Goals as goal

pub returns-clause-sound : goal.returns-clause-sound
returns-clause-sound c = λ sound.
    let p = c.args.problem.now in
    let up = to_z-of_z w128 c.weighted.result (record { sfits = c.weighted.type_inv }) ∙ c.weighted.ensures in
    let under = to_z-of_z w128 c.root_weight.result (record { sfits = c.root_weight.type_inv }) ∙ c.root_weight.ensures.value in
    let is : to_z w128 (of_z w128 c.floor_div.result) ≡ bound (problem_of p) c.args.self.now.lists = to_z-of_z w128 c.floor_div.result (record { sfits = c.floor_div.type_inv }) ∙ c.floor_div.ensures ∙ ap₂ floor_over up (ap nat_abs under) in
    subst (λ (b : ℤ). Under (problem_of p) b) (sym is) (sound_bound (problem_of p) c.args.self.now.lists (root_shaped-validated p c.root_weight.ensures.validated) (have_cuts-fit p c.args.self.now.lists c.root_weight.ensures.validated c.requires) sound)

use Rattle.std.proofs.Common.{ℤ, pos, ◌+ℤ◌, ◌-ℤ◌, ◌*ℤ◌, zip}
use mir.Syntax.{w128}
use Rattle.std.specs.Int.{int_wrap}
use Rattle.base_num.specs.Sums.{total, coefficient, placed}
use Rattle.problem.specs.declared.parts.Row.{Row}
use Rattle.theory.specs.declared.cut.Cut.{Cut}
use Rattle.theory.specs.Problem.{S}
use Rattle.cut_make.specs.Parts.{over_successors}
use Rattle.cut_make.proofs.Tables.{tabled_as}
use Rattle.cut_make.proofs.reduced_costs.add_multipliers.Goals as goal

pub returns-clause-value : goal.returns-clause-value
returns-clause-value c = λ f t. tabled_as _ _ c.add_successors.new.sums
    (λ j i. int_wrap w128
    (f j -ℤ pos S *ℤ total (λ (q : Row × ℤ). q.1 *ℤ coefficient q.0.decisions j) (zip (c.as_slice.ensures i) (c.as_slice-2.ensures i))
    +ℤ over_successors c.args.here.now.pools.now.lists (c.as_slice-4.ensures i) (c.as_slice-5.ensures i) (λ (cut : Cut). coefficient (placed (c.as_slice-3.ensures i) cut.beta) j)))
    (c.add_successors.ensures.value _ (c.add_rows.ensures.value f t))

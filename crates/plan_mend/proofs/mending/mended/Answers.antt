use Rattle.std.proofs.Common.{◌∙◌, sym, ap}
use Rattle.theory.specs.Problem.{node_at}
use Rattle.theory.specs.View.{problem_of}
use Rattle.plan_mend.specs.Mending.{fresh_search, all_met}
use Rattle.plan_mend.proofs.AllFixed.{found_mended, kept_mended}
use Rattle.plan_mend.proofs.mending.mended.Goals as goal

pub returns-then-are_met-clause-value : goal.returns-then-are_met-clause-value
returns-then-are_met-clause-value c =
    let n = node_at (problem_of c.args.problem.now) c.args.node in
    let values = c.args.values.now in
    let x = c.args.state.now in
    let begun = c.in_ok-search.ensures ∙ ap fresh_search c.as_slice.ensures in
    found_mended n values x c.args.decisions c.numbers_of.result c.in_ok-fix_all.field-0 c.in_ok-search.search c.fix_all.new.search begun c.in_ok-fix_all.ensures.value c.numbers_of.ensures
    (sym c.if-are_met.true ∙ c.are_met.ensures ∙ ap (all_met n values x) (c.as_slice-2.ensures ∙ sym c.numbers_of.ensures))

pub returns-else-are_met-clause-value : goal.returns-else-are_met-clause-value
returns-else-are_met-clause-value c =
    let n = node_at (problem_of c.args.problem.now) c.args.node in
    let values = c.args.values.now in
    let x = c.args.state.now in
    let begun = c.in_ok-search.ensures ∙ ap fresh_search c.as_slice.ensures in
    kept_mended n values x c.args.decisions c.as_slice-2.result.now c.in_ok-fix_all.field-0 c.in_ok-search.search c.fix_all.new.search begun c.in_ok-fix_all.ensures.value c.as_slice-2.ensures
    (sym c.if-are_met.false ∙ c.are_met.ensures)

use Rattle.std.proofs.Common.{length, sym, ap, ◌∙◌}
use Rattle.theory.specs.declared.cut.Cut.{Cut}
use Rattle.theory.specs.Problem.{Node}
use Rattle.theory.specs.Range.{range_of}
use Rattle.cut_make.specs.Sized.{Sized}
use Rattle.cut_make.proofs.GivenNode.{Seen, seen}
use Rattle.cut_check.proofs.AcceptedCuts.{cuttable_in_range, slopes_given}
use Rattle.cut_check.proofs.acceptance.making.write_in_range.Goals as goal

pub range_sums-requires-clause-list : goal.range_sums-requires-clause-list
range_sums-requires-clause-list g c =
    let h = c.args.here.now in
    let z : Sized h.pools.now.lists h.node.now h.subproblem.now h.low.now h.weights.now = c.requires.1.1.0 in
    let s : Seen h.weights.now h.node.now h.subproblem.now g.n = seen g.n h.node.now h.subproblem.now h.low.now h.high.now h.weights.now c.requires.0 z.count z.values in
    c.requires.1.1.1.1.0.count ∙ s.count

pub write_by_sums-requires-clause-made : goal.write_by_sums-requires-clause-made
write_by_sums-requires-clause-made g c =
    let h = c.args.here.now in
    cuttable_in_range h.node.now h.subproblem.now h.low.now h.high.now h.weights.now h.pools.now.lists c.args.list.now g.n c.requires.0 c.requires.1.0 c.requires.1.1.0 c.requires.1.1.1.0 c.requires.1.1.1.1.0
    (ap (λ (k : Node). range_of h.pools.now.lists k c.args.list.now) c.requires.0 ∙ c.in_ok-sums.ensures.0)

pub returns-clause-slopes : goal.returns-clause-slopes
returns-clause-slopes g c =
    let h = c.args.here.now in
    ap (λ (cut : Cut). length cut.beta) c.write_by_sums.ensures ∙ slopes_given h.pools.now.lists h.weights.now h.node.now h.subproblem.now h.low.now h.high.now c.args.list.now ∙ sym c.requires.1.1.1.1.1

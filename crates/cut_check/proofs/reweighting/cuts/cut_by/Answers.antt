use Rattle.std.proofs.Common.{◌≡◌, ◌∙◌, None, sym, ap}
use mir.Syntax.{w128}
use Rattle.std.specs.Int.{int_wrap}
use Rattle.theory.specs.Problem.{Node, with_weights}
use Rattle.theory.specs.View.{node_of}
use Rattle.theory.specs.Range.{range_of}
use Rattle.cut_make.specs.Acceptance.{fault_of}
use Rattle.cut_check.proofs.Accepted.{right-fault_of, size-fault_of}
use Rattle.cut_make.proofs.Congruence.{same_read}
use Rattle.cut_check.proofs.Reweighted.{right_count, cut_some, cut_passed, cut_beyond, none_of, accepted}
use Rattle.cut_make.proofs.ValidatedCuttable.{cuttable}
use Rattle.cut_check.proofs.SizeRange.{range_stops}
use Rattle.cut_check.proofs.reweighting.cuts.cut_by.Goals as goal

pub weighted_sums-requires-clause-count : goal.weighted_sums-requires-clause-count
weighted_sums-requires-clause-count c =
    let a = c.args.here.now in
    c.requires.shares.count ∙ right_count a.pools.now.lists a.node.now a.subproblem.now a.low.now a.high.now a.weights.now c.args.list.now c.requires.sized.count c.requires.sized.values c.requires.right

pub returns-in_default : goal.returns-in_default
returns-in_default c =
    let a = c.args.here.now in
    let count = right_count a.pools.now.lists a.node.now a.subproblem.now a.low.now a.high.now a.weights.now c.args.list.now c.requires.sized.count c.requires.sized.values c.requires.right in
    cut_passed a.pools.now.lists (node_of a.node.now a.subproblem.now a.low.now a.high.now) c.args.list.now a.weights.now c.requires.right c.in_default.field-0
    (range_stops a.pools.now.lists a.node.now a.subproblem.now a.low.now a.high.now a.weights.now c.requires.sized c.args.list.now count c.in_default.field-0 (c.in_default.ensures c.args.list.now c.requires.shares))

pub slope_sums-slopes-requires-clause-list : goal.slope_sums-slopes-requires-clause-list
slope_sums-slopes-requires-clause-list c =
    let a = c.args.here.now in
    right_count a.pools.now.lists a.node.now a.subproblem.now a.low.now a.high.now a.weights.now c.args.list.now c.requires.sized.count c.requires.sized.values c.requires.right

pub returns-then-is_some : goal.returns-then-is_some
returns-then-is_some c =
    let a = c.args.here.now in
    let count = right_count a.pools.now.lists a.node.now a.subproblem.now a.low.now a.high.now a.weights.now c.args.list.now c.requires.sized.count c.requires.sized.values c.requires.right in
    let sums = c.in-Ok.ensures c.args.list.now c.requires.shares in
    cut_beyond a.pools.now.lists (node_of a.node.now a.subproblem.now a.low.now a.high.now) c.args.list.now a.weights.now c.requires.right c.remainders_range.result (c.remainders_range.ensures c.args.list.now count c.slope_sums-slopes.ensures.value sums.0) (sym c.if-is_some.ensures)

pub returns : goal.returns
returns c =
    let a = c.args.here.now in
    let k : Node = node_of a.node.now a.subproblem.now a.low.now a.high.now in
    let list = c.args.list.now in
    let count = right_count a.pools.now.lists a.node.now a.subproblem.now a.low.now a.high.now a.weights.now list c.requires.sized.count c.requires.sized.values c.requires.right in
    let sums = c.in-Ok.ensures list c.requires.shares in
    let inside : range_of a.pools.now.lists (with_weights a.weights.now k) list ≡ None = sym (c.remainders_range.ensures list count c.slope_sums-slopes.ensures.value sums.0) ∙ none_of c.remainders_range.result (sym c.if-is_some.ensures) in
    let none : fault_of a.pools.now.lists (with_weights a.weights.now k) list ≡ None = accepted a.pools.now.lists k list a.weights.now c.requires.right inside in
    let made = cuttable a.node.now a.subproblem.now a.low.now a.high.now a.weights.now a.pools.now.lists list c.requires.limits c.requires.sized c.requires.states
    (right-fault_of a.pools.now.lists (with_weights a.weights.now k) list none) (size-fault_of a.pools.now.lists (with_weights a.weights.now k) list none) in
    cut_some a.pools.now.lists k list a.weights.now c.write_cut_of.new.cut none (c.write_cut_of.ensures list a.high.now made c.slope_sums-slopes.ensures.value (same_read c.constant.result (record { sfits = c.constant.type_inv }) ∙ ap (int_wrap w128) c.constant.ensures ∙ sums.1))

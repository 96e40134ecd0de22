use Rattle.std.proofs.Common.{◌∙◌, ℕ, ◌+◌, ◌<◌, max, min, ℤ, List, [], ◌∷◌, length, get_or, drop, map, sym, ap, ap₂, subst, arith}
use Rattle.std.proofs.lemmas.List.{drop_more, get_or_default}
use Rattle.base_graph.specs.Ranks.{greatest}
use Rattle.theory.specs.Problem.{Node, node_at}
use Rattle.theory.specs.View.{problem_of}
use Rattle.theory.proofs.ValidatedParts.{parts_given}
use Rattle.policy_evaluate.specs.TooBig.{stage_cost_size}
use Rattle.policy_evaluate.proofs.Seen.{seen}
use Rattle.policy_evaluate.proofs.Sizing.{highs_counted, lows_counted, most_done, most_goes, node_size-values, values_counted}
use Rattle.policy_evaluate.proofs.stage_sizes.node_size.Goals as goal

pub loop-values-init : goal.loop-values-init
loop-values-init c = omega arith

pub stage_size-size-requires-clause-values : goal.stage_size-size-requires-clause-values
stage_size-size-requires-clause-values c =
    let p = c.args.problem.now in
    let items = c.as_slice-values-items.result.now in
    let i = c.loop-values.values-index in
    let own = parts_given p c.args.node c.node.result.now c.sub-subproblem.result.now c.lo-lows.result.now c.hi-highs.result.now c.parts.ensures.validated c.node.ensures c.sub-subproblem.ensures c.lo-lows.ensures c.hi-highs.ensures in
    let inside : i < length c.node.result.now.values = subst (λ (vs : List (List ℤ)). i < length vs) c.as_slice-values-items.ensures c.loop-values-test.true in
    let item = c.as_slice.ensures ∙ c.values-item.is ∙ get_or_default items i c.values-item.result [] c.loop-values-test.true ∙ ap (λ (vs : List (List ℤ)). get_or vs i []) c.as_slice-values-items.ensures in
    ap (λ (zs : List ℤ). length zs) item ∙ values_counted p c.args.node c.node.result.now c.sub-subproblem.result.now c.lo-lows.result.now c.hi-highs.result.now own i inside

pub stage_size-size-requires-clause-lows : goal.stage_size-size-requires-clause-lows
stage_size-size-requires-clause-lows c =
    let p = c.args.problem.now in
    lows_counted p c.args.node c.node.result.now c.sub-subproblem.result.now c.lo-lows.result.now c.hi-highs.result.now
    (parts_given p c.args.node c.node.result.now c.sub-subproblem.result.now c.lo-lows.result.now c.hi-highs.result.now c.parts.ensures.validated c.node.ensures c.sub-subproblem.ensures c.lo-lows.ensures c.hi-highs.ensures)

pub stage_size-size-requires-clause-highs : goal.stage_size-size-requires-clause-highs
stage_size-size-requires-clause-highs c =
    let p = c.args.problem.now in
    highs_counted p c.args.node c.node.result.now c.sub-subproblem.result.now c.lo-lows.result.now c.hi-highs.result.now
    (parts_given p c.args.node c.node.result.now c.sub-subproblem.result.now c.lo-lows.result.now c.hi-highs.result.now c.parts.ensures.validated c.node.ensures c.sub-subproblem.ensures c.lo-lows.ensures c.hi-highs.ensures)

pub loop-values-preserved : goal.loop-values-preserved
loop-values-preserved c =
    let p = c.args.problem.now in
    let items = c.as_slice-values-items.result.now in
    let i = c.loop-values.values-index in
    let own = parts_given p c.args.node c.node.result.now c.sub-subproblem.result.now c.lo-lows.result.now c.hi-highs.result.now c.parts.ensures.validated c.node.ensures c.sub-subproblem.ensures c.lo-lows.ensures c.hi-highs.ensures in
    let front = drop_more items i c.values-item.result c.loop-values-test.true ∙ ap (λ (v : List ℤ). v ∷ drop (i + 1) items) (sym c.values-item.is) in
    let size = c.stage_size-size.ensures c.node.result.now ∙ ap₂ (λ (n : Node) (v : List ℤ). min (stage_cost_size n v) c.args.cap) (sym own.is) c.as_slice.ensures in
    most_goes (stage_cost_size (node_at (problem_of p) c.args.node)) items c.values-item.result c.args.cap i c.loop-values.most c.max-most.result front c.loop-values.invariant
    (c.max-most.ensures ∙ ap (λ (k : ℕ). max c.loop-values.most k) size)

pub returns : goal.returns
returns c =
    let p = c.args.problem.now in
    let n = c.node.result.now in
    let g : List ℤ → ℕ = stage_cost_size (node_at (problem_of p) c.args.node) in
    most_done g c.as_slice-values-items.result.now c.args.cap c.loop-values.values-index c.loop-values.most c.loop-values-test.false c.loop-values.invariant
    ∙ ap (λ (vs : List (List ℤ)). min (greatest (map g vs)) c.args.cap) c.as_slice-values-items.ensures
    ∙ ap (λ (k : ℕ). min k c.args.cap) (node_size-values p c.args.node n (seen p c.args.node n c.parts.ensures.validated c.requires c.node.ensures))

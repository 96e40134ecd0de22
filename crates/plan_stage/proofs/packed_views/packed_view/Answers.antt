use Rattle.std.proofs.Common.{ℕ, List, map, ap, length, arith}
use Rattle.std.proofs.lemmas.List.{length-map}
use Rattle.theory.specs.Pools.{pool}
use Rattle.cut_pool.specs.FlatCuts.{packed_cut}
use Rattle.plan_stage.proofs.ViewRows.{packed-cut_rows, found-cuts, few-outs}
use Rattle.plan_stage.proofs.packed_views.packed_view.Goals as goal

pub returns-clause-cuts : goal.returns-clause-cuts
returns-clause-cuts c =
    let successors : List ℕ = c.args.stage.now.node.now.successors in
    let cuts = found-cuts c.args.pools.now.lists c.as_slice.result.now successors _ _ c.as_slice.ensures c.in-Some.is c.in_ok-cuts.ensures in
    packed-cut_rows c.args.stage.now.subproblem.now c.args.pools.now.lists successors _ _ _ c.requires.differ c.in_ok-outs_in_order.ensures c.len.ensures cuts

pub returns-clause-view : goal.returns-clause-view
returns-clause-view c =
    let successors : List ℕ = c.args.stage.now.node.now.successors in
    let cuts = found-cuts c.args.pools.now.lists c.as_slice.result.now successors _ _ c.as_slice.ensures c.in-Some.is c.in_ok-cuts.ensures in
    record {
      few = omega (arith, few-outs c.args.stage.now.subproblem.now, ap length c.in_ok-outs_in_order.ensures, c.requires.outs);
      columns = omega (arith, c.len.ensures, ap length cuts, length-map successors (λ (m : ℕ). map packed_cut (pool c.args.pools.now.lists m)), c.requires.decisions, c.requires.successors);
    }

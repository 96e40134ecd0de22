use Rattle.std.proofs.Common.{◌≡◌, ◌+◌, pos, ◌*ℤ◌, List, [], take, zip}
use Rattle.std.specs.List.{sum_by}
use Rattle.base_num.specs.Sums.{total}
use Rattle.theory.specs.declared.cut.Certificate.{Certificate}
use Rattle.theory.specs.Problem.{Realization, Node, with_weights}
use Rattle.theory.specs.View.{node_of}
use Rattle.theory.specs.CutOf.{alpha_at}
use Rattle.cut_make.specs.Congruent.{Congruent}
use Rattle.cut_check.specs.Shares.{Shares}
use Rattle.cut_make.specs.SizeByTerms.{weighted_amount}
use Rattle.cut_check.proofs.reweighting.weighted.weighted_sums.Given as goal

abbrev pub invariant-loop-r : goal.invariant-loop-r
invariant-loop-r l =
    let h = l.here in
    let m : Node = with_weights h.weights.now (node_of h.node.now h.subproblem.now [] []) in
    (list : List Certificate) → Shares h.pools.now.lists h.node.now h.subproblem.now h.low.now h.high.now list l.shares
    → (l.size.total ≡ 0 + sum_by (weighted_amount h.node.now h.subproblem.now h.low.now h.high.now h.pools.now.lists) (take l.r (zip h.weights.now (zip h.node.now.values list))))
    × Congruent l.constant (total (λ (q : Realization × Certificate). pos q.0.weight *ℤ alpha_at h.pools.now.lists m q.0.values q.1) (take l.r (zip m.realizations list)))

use Rattle.std.proofs.Common.{◌≡◌, ℕ, length, None, subst}
use Rattle.theory.specs.Pools.{pool}
use Rattle.cut_make.specs.Acceptance.{pair_fault}
use Rattle.cut_check.proofs.acceptance.walk.check_successor.Goals as goal

pub returns : goal.returns
returns c =
    let pairs : pair_fault c.args.r c.args.i (length (pool c.args.pools.now.lists c.args.node)) 0 0 c.args.pairs.now ≡ None = subst (λ (count : ℕ). pair_fault c.args.r c.args.i count 0 0 c.args.pairs.now ≡ None) c.count.ensures.value c.in_ok-check_pairs.ensures in
    rw pairs (c.check_sum.ensures c.args.node)

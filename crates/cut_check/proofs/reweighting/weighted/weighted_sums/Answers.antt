use Rattle.std.proofs.Common.{◌≡◌, ◌+◌, ◌*◌, ℕ, ℤ, pos, ◌+ℤ◌, ◌*ℤ◌, List, [], length, get_or, zip, refl, ap, sym, ◌∙◌, arith, to_z, of_z}
use mir.Syntax.{w128}
use Rattle.std.specs.List.{sum_by}
use Rattle.theory.specs.declared.cut.Certificate.{Certificate}
use Rattle.theory.specs.Problem.{Realization, Node, with_weights}
use Rattle.theory.specs.View.{node_of}
use Rattle.theory.specs.CutOf.{alpha_at}
use Rattle.cut_make.specs.Congruent.{Congruent}
use Rattle.cut_make.specs.SizeByTerms.{weighted_amount}
use Rattle.cut_check.proofs.Amounts.{take_pairs}
use Rattle.cut_make.proofs.Congruence.{sum_all, same_read}
use Rattle.cut_check.proofs.Realizations.{counted}
use Rattle.cut_check.proofs.Sharing.{listed, amount, own_size, next_size, next_constant}
use Rattle.cut_make.proofs.Weighted.{weighted_all}
use Rattle.cut_check.proofs.reweighting.weighted.weighted_sums.Goals as goal

pub loop-r-init : goal.loop-r-init
loop-r-init c = λ list of. (c.zero-size.ensures, refl)

pub returns-in_default : goal.returns-in_default
returns-in_default c = λ list of.
    let a = c.args.here.now in
    let ws : List ℕ = a.weights.now in
    let r : ℕ = c.loop-r.r in
    let w : ℕ = get_or ws r 0 in
    let q = c.loop-r.invariant list of in
    let more = next_size a.pools.now.lists a.node.now a.subproblem.now a.low.now a.high.now ws list c.args.shares.now c.requires.limits c.requires.sized c.requires.count of r c.loop-r-test.true c.loop-r.size.total w refl q.0 in
    let out = c.in_default.ensures (amount a.pools.now.lists a.node.now a.subproblem.now a.low.now a.high.now ws list c.args.shares.now c.requires.limits c.requires.sized c.requires.count of r c.loop-r-test.true)
    (own_size a.pools.now.lists a.node.now a.subproblem.now a.low.now a.high.now ws list c.args.shares.now c.requires.limits c.requires.sized c.requires.count of r c.loop-r-test.true) in
    record {
      within = more.0;
      before = omega (arith, c.loop-r.size.in_range, q.0);
      beyond = omega (arith, out, more.1);
    }

pub loop-r-preserved : goal.loop-r-preserved
loop-r-preserved c = λ list of.
    let a = c.args.here.now in
    let ws : List ℕ = a.weights.now in
    let r : ℕ = c.loop-r.r in
    let w : ℕ = get_or ws r 0 in
    let q = c.loop-r.invariant list of in
    let x : ℤ = (get_or c.args.shares.now r (record { size = 0; constant = pos 0 })).constant in
    let n : ℕ = amount a.pools.now.lists a.node.now a.subproblem.now a.low.now a.high.now ws list c.args.shares.now c.requires.limits c.requires.sized c.requires.count of r c.loop-r-test.true in
    let more = next_size a.pools.now.lists a.node.now a.subproblem.now a.low.now a.high.now ws list c.args.shares.now c.requires.limits c.requires.sized c.requires.count of r c.loop-r-test.true c.loop-r.size.total w refl q.0 in
    let with : c.in-Some.sum.total ≡ c.loop-r.size.total + w * n = c.in-Some.ensures n (own_size a.pools.now.lists a.node.now a.subproblem.now a.low.now a.high.now ws list c.args.shares.now c.requires.limits c.requires.sized c.requires.count of r c.loop-r-test.true) in
    let read : Congruent (to_z w128 (of_z w128 c.plus_constant-constant.result)) (to_z w128 c.loop-r.constant-bits +ℤ pos w *ℤ x) = same_read c.plus_constant-constant.result (record { sfits = c.plus_constant-constant.type_inv }) ∙ c.plus_constant-constant.ensures in (
      with ∙ more.1,
      next_constant a.pools.now.lists a.node.now a.subproblem.now a.low.now a.high.now ws list c.args.shares.now c.requires.limits c.requires.sized c.requires.count of r c.loop-r-test.true c.loop-r.size.total w (to_z w128 c.loop-r.constant-bits)
          (to_z w128 (of_z w128 c.plus_constant-constant.result)) refl (omega (arith, with, c.in-Some.sum.in_range)) q.1 read,
    )

pub returns : goal.returns
unfolding node_of
returns c = λ list of.
    let a = c.args.here.now in
    let ws : List ℕ = a.weights.now in
    let vs : List (List ℤ) = a.node.now.values in
    let m : Node = with_weights ws (node_of a.node.now a.subproblem.now [] []) in
    let q = c.loop-r.invariant list of in
    let each : length list ≡ length ws = listed a.pools.now.lists a.node.now a.subproblem.now a.low.now a.high.now ws list c.args.shares.now c.requires.limits c.requires.sized c.requires.count of in
    let all = take_pairs ws (zip vs list) c.loop-r.r (length ws) (counted ws vs list (c.requires.sized.values ∙ sym c.requires.sized.count) each) c.loop-r-test.false in
    let f : ℕ × (List ℤ × Certificate) → ℕ = weighted_amount a.node.now a.subproblem.now a.low.now a.high.now a.pools.now.lists in
    let whole : c.loop-r.size.total ≡ 0 + sum_by f (zip ws (zip vs list)) = q.0 ∙ ap (λ (z : List (ℕ × (List ℤ × Certificate))). 0 + sum_by f z) all in (
      omega (arith, whole),
      sum_all (λ (q : Realization × Certificate). pos q.0.weight *ℤ alpha_at a.pools.now.lists m q.0.values q.1) (zip m.realizations list) c.loop-r.r (to_z w128 c.loop-r.constant-bits)
          (weighted_all ws a.node.now.weights vs list c.requires.sized.count c.requires.limits.values (each ∙ c.requires.sized.count) c.loop-r.r c.loop-r-test.false) q.1,
    )

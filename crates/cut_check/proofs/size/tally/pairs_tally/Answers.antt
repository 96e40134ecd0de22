use Rattle.std.proofs.Common.{◌≡◌, ◌+◌, ◌*◌, ℕ, List, length, min, take, zip, subst, arith, refl}
use Rattle.std.specs.List.{sum_by}
use Rattle.theory.specs.declared.cut.Certificate.{Certificate}
use Rattle.cut_make.specs.SizeByTerms.{successors_amount}
use Rattle.cut_check.specs.declared.size.tally.Tally.{Tally}
use Rattle.cut_check.specs.Bounds.{Tallies, cut_bound, weighted_pairs}
use Rattle.cut_check.proofs.Amounts.{pairs_more, take_pairs}
use Rattle.cut_check.proofs.Bounding.{tallies_more}
use Rattle.cut_check.proofs.size.tally.pairs_tally.Goals as goal

pub loop-r-preserved : goal.loop-r-preserved
loop-r-preserved c =
    let h = c.args.here.now in
    let s = h.subproblem.now in
    let f : ℕ × Certificate → ℕ = λ q. q.0 * successors_amount s.decisions s.outs h.pools.now.lists h.node.now.successors q.1.cuts in
    let long : length h.weights.now ≡ min (length h.weights.now) (length c.args.list.now) = omega (arith, c.requires.list) in
    let more = pairs_more f h.weights.now c.args.list.now c.loop-r.r 0 (sum_by f (take c.loop-r.r (zip h.weights.now c.args.list.now))) _ _ 0 c.index-list-r.result c.index-list-r.result long c.loop-r-test.true refl c.index-list-r.is (omega arith) _ refl in
    tallies_more s.decisions s.outs _ c.loop-r.tally c.in_ok-tally.tally _ _ _ (omega (arith, more)) c.loop-r.invariant (c.in_ok-tally.ensures s.decisions s.outs)

pub returns : goal.returns
returns c =
    let h = c.args.here.now in
    let s = h.subproblem.now in
    let f : ℕ × Certificate → ℕ = λ q. q.0 * successors_amount s.decisions s.outs h.pools.now.lists h.node.now.successors q.1.cuts in
    let t : Tally = c.loop-r.tally in
    let long : length h.weights.now ≡ min (length h.weights.now) (length c.args.list.now) = omega (arith, c.requires.list) in
    let all : Tallies s.decisions s.outs (record { multipliers = 0; alpha = 0; slope = 0 }) t (0 + weighted_pairs h.node.now s h.pools.now.lists h.weights.now c.args.list.now) =
    subst (λ (z : List (ℕ × Certificate)). Tallies s.decisions s.outs (record { multipliers = 0; alpha = 0; slope = 0 }) t (0 + sum_by f z)) (take_pairs h.weights.now c.args.list.now c.loop-r.r _ long c.loop-r-test.false) c.loop-r.invariant in
    let within = all.within (cut_bound s.decisions s.outs t) (omega arith) in
    omega (arith, within)

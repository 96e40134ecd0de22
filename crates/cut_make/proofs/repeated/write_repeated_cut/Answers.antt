use Rattle.std.proofs.Common.{ℕ, ◌<◌, List, [], length, All, arith, sym, subst, ◌∙◌}
use Rattle.std.proofs.lemmas.List.{length-map, get_or-map}
use Rattle.theory.specs.declared.cut.Certificate.{Certificate}
use Rattle.theory.specs.CutOf.{scale}
use Rattle.theory.specs.View.{node_of}
use Rattle.cut_make.specs.Parts.{PairsThere, ReducedFit, repeated}
use Rattle.cut_make.proofs.Congruence.{same_read}
use Rattle.cut_make.proofs.repeated.write_repeated_cut.Goals as goal

-- a property of all copies holds of the one
of_one : (P : Certificate → Type 0) (c : Certificate) (ws : List ℕ) → 0 < length ws → All P (repeated c ws) → P c
of_one P c ws h all = subst P (get_or-map (λ (w : ℕ). c) ws 0 0 c h) (all 0 c (subst (λ (k : ℕ). 0 < k) (sym (length-map ws (λ (w : ℕ). c))) h))

pub constant_sum-constant-requires-clause-there : goal.constant_sum-constant-requires-clause-there
constant_sum-constant-requires-clause-there c =
    let h = c.args.here.now in
    let z = c.requires.made.sized in
    of_one (λ (x : Certificate). PairsThere h.pools.now.lists h.node.now.successors x.cuts) c.args.certificate.now h.weights.now (omega (arith, z.count, z.some)) c.requires.made.there

pub constant_sum-constant-requires-clause-small : goal.constant_sum-constant-requires-clause-small
unfolding node_of
constant_sum-constant-requires-clause-small c =
    let h = c.args.here.now in
    let z = c.requires.made.sized in
    of_one (ReducedFit (scale (node_of h.node.now h.subproblem.now [] [])) h.pools.now.lists h.node.now h.subproblem.now) c.args.certificate.now h.weights.now (omega (arith, z.count, z.some)) c.requires.made.reduced

pub returns : goal.returns
returns c = λ high.
    c.write_cut_of.ensures (repeated c.args.certificate.now c.args.here.now.weights.now) high c.requires.made c.repeated_slope_sums-slopes.ensures.value
    (same_read c.constant_sum-constant.result (record { sfits = c.constant_sum-constant.type_inv }) ∙ c.constant_sum-constant.ensures [] [])

use Rattle.std.proofs.Common.{ℕ, ap, refl, sym, arith, ◌∙◌}
use Rattle.std.proofs.lemmas.List.{length-map}
use Rattle.cut_pool.specs.Pooled.{Pooled}
use Rattle.theory.specs.Problem.{with_weights}
use Rattle.theory.specs.View.{node_of}
use Rattle.cut_make.specs.Parts.{repeated}
use Rattle.cut_check.proofs.Basing.{range_same, cut_same, cuttable_same}
use Rattle.cut_check.proofs.Passing.{few-range_of}
use Rattle.cut_check.proofs.base_pools.base_cut.Goals as goal

pub overflow_cast-realization : goal.overflow_cast-realization
overflow_cast-realization c =
    let h = c.of-here.result in
    let z = c.of-here.ensures.parts.sized in
    let small = few-range_of h.pools.now.lists (with_weights h.weights.now (node_of h.node.now h.subproblem.now h.low.now h.high.now)) (repeated c.in_ok-certificate.certificate h.weights.now) c.in-Some.r (sym c.in-Some.ensures) in
    let count = length-map h.weights.now (λ (w : ℕ). c.in_ok-certificate.certificate) in
    grind (arith, small, count, z.count, z.realizations)

pub returns-in-Some : goal.returns-in-Some
returns-in-Some c =
    let h = c.of-here.result in
    let o = c.of-here.ensures in
    let w = c.own_weights.ensures in (
      refl,
      sym (range_same c.args.problem.now c.args.node c.args.pools.now.lists h.pools.now.lists c.own_weights.result.now h.weights.now h.node.now h.subproblem.now h.low.now h.high.now c.in_ok-certificate.certificate o.parts c.requires.known (record { weighs = w.weighs; own = w.own })
          o.weights (ap (λ (x : Pooled). x.lists) o.pools) c.in_ok-certificate.ensures.value c.requires.fit) ∙ sym c.in-Some.ensures,
    )

pub write_repeated_cut-requires-clause-made : goal.write_repeated_cut-requires-clause-made
write_repeated_cut-requires-clause-made c =
    let h = c.of-here.result in
    let o = c.of-here.ensures in
    let w = c.own_weights.ensures in
    cuttable_same c.args.problem.now c.args.node c.args.pools.now.lists h.pools.now.lists c.own_weights.result.now h.weights.now h.node.now h.subproblem.now h.low.now h.high.now c.in_ok-certificate.certificate o.parts c.requires.known (record { weighs = w.weighs; own = w.own })
    o.weights (ap (λ (x : Pooled). x.lists) o.pools) c.in_ok-certificate.ensures.value c.requires.fit (sym c.in_default.ensures)

pub returns : goal.returns
returns c =
    let h = c.of-here.result in
    let o = c.of-here.ensures in
    let w = c.own_weights.ensures in (
      sym (range_same c.args.problem.now c.args.node c.args.pools.now.lists h.pools.now.lists c.own_weights.result.now h.weights.now h.node.now h.subproblem.now h.low.now h.high.now c.in_ok-certificate.certificate o.parts c.requires.known (record { weighs = w.weighs; own = w.own })
          o.weights (ap (λ (x : Pooled). x.lists) o.pools) c.in_ok-certificate.ensures.value c.requires.fit) ∙ sym c.in_default.ensures,
      c.write_repeated_cut.ensures h.high.now ∙ cut_same c.args.problem.now c.args.node c.args.pools.now.lists h.pools.now.lists c.own_weights.result.now h.weights.now h.node.now h.subproblem.now h.low.now h.high.now c.in_ok-certificate.certificate o.parts c.requires.known (record { weighs = w.weighs; own = w.own })
          o.weights (ap (λ (x : Pooled). x.lists) o.pools) c.in_ok-certificate.ensures.value c.requires.fit,
    )

use Rattle.std.proofs.Common.{◌≡◌, ◌≢◌, ℕ, ℤ, pos, ◌<◌, List, length, get_or, set, take, ◌∙◌, ap, subst, arith}
use mir.Syntax.{w128}
use Rattle.std.specs.Int.{int_max}
use Rattle.std.proofs.lemmas.Int.{to_z-of_z}
use Rattle.problem.specs.declared.parts.ProblemParts.{ProblemParts}
use Rattle.problem.specs.Validated.{initial_values}
use Rattle.theory.specs.Bound.{value_of_cut}
use Rattle.journal_load.proofs.Raising.{reaches_start, raised_length, raised_there, left_there}
use Rattle.journal_load.proofs.values.raise.Goals.{then-root-i, else-root-i}
use Rattle.journal_load.proofs.values.raise.Goals as goal

pub value_of_cut-requires : goal.value_of_cut-requires
value_of_cut-requires c =
    let nodes : c.as_slice-root.result.now ≡ c.args.problem.now.parts.root = c.as_slice-root.ensures ∙ ap (λ (r : ProblemParts). r.root) c.parts.ensures.value in
    rw c.initial.ensures (reaches_start c.args.problem.now c.parts.ensures.validated c.loop-i.i (rw nodes at c.loop-i-test.true) c.args.node c.args.cut.now (rw nodes at c.if-root-i.true) c.requires.fits)

pub raise_at-requires : goal.raise_at-requires
raise_at-requires c =
    let nodes : c.as_slice-root.result.now ≡ c.args.problem.now.parts.root = c.as_slice-root.ensures ∙ ap (λ (r : ProblemParts). r.root) c.parts.ensures.value in
    let below : c.loop-i.i < length c.args.problem.now.parts.root = rw nodes at c.loop-i-test.true in
    omega (arith, ap (λ (xs : List ℤ). length xs) c.loop-i.invariant, raised_length c.args.node (value_of_cut c.args.cut.now (initial_values c.args.problem.now.parts)) (take c.loop-i.i c.args.problem.now.parts.root) c.args.values.now, c.requires.count, below)

pub loop-i-preserved : goal.loop-i-preserved
loop-i-preserved c =
    let p = c.args.problem.now in
    let v = value_of_cut c.args.cut.now (initial_values p.parts) in
    let nodes : c.as_slice-root.result.now ≡ p.parts.root = c.as_slice-root.ensures ∙ ap (λ (r : ProblemParts). r.root) c.parts.ensures.value in
    let below : c.loop-i.i < length p.parts.root = rw nodes at c.loop-i-test.true in
    elim c.if-root-i.branch [
      | then-root-i w ↦ raised_there c.args.node v p.parts.root c.args.values.now c.loop-i.i c.loop-i.values c.if-root-i.values below (rw nodes at w.if-root-i.true) c.loop-i.invariant (w.values-is ∙ w.raise_at.ensures ∙ ap (λ (x : ℤ). set c.loop-i.values c.loop-i.i (int_max (get_or c.loop-i.values c.loop-i.i (pos 0)) x)) (to_z-of_z w128 w.value_of_cut.result (record { sfits = w.value_of_cut.type_inv }) ∙ w.value_of_cut.ensures.value ∙ ap (λ (xs : List ℤ). value_of_cut c.args.cut.now xs) w.initial.ensures))
      | else-root-i w ↦ left_there c.args.node v p.parts.root c.args.values.now c.loop-i.i c.loop-i.values c.if-root-i.values below (subst (λ (ms : List ℕ). get_or ms c.loop-i.i 0 ≢ c.args.node) nodes w.if-root-i.false) c.loop-i.invariant w.values-is
    ]

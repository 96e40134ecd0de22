use Rattle.std.proofs.Common.{◌≡◌, ℕ, ◌+◌, ◌<◌, List, [], ◌∷◌, length, sum, arith, ap, ap₂, sym, ◌∙◌}
use Rattle.theory.specs.Problem.{weight_of_successors}
use Rattle.theory.specs.View.{successors_of}
use Rattle.theory.proofs.Views.{successor_weights-successors_of}
use Rattle.std.proofs.lemmas.Bool.Decides.{nat_tests}
use Rattle.cut_make.proofs.scales.successor_weight.Goals as goal

successors : (stop : ℕ) (ms ws : List ℕ) → length ws ≡ length ms → 0 < length ms → stop + sum ws ≡ weight_of_successors stop (successors_of ms ws)
successors stop [] ws e h = absurd (omega arith)
successors stop (m ∷ ms) [] e h = absurd (omega arith)
successors stop (m ∷ ms) (w ∷ ws) e h = ap (λ (k : List ℕ). stop + sum k) (sym (successor_weights-successors_of (m ∷ ms) (w ∷ ws) (sym e)))

pub returns-clause-value : goal.returns-clause-value
returns-clause-value c =
    let some : 0 < length c.args.node.now.successors = grind (arith, nat_tests, c.if-is_empty.false, c.is_empty.ensures) in
    ap₂ ◌+◌ c.from.ensures (c.total.ensures ∙ ap (λ (k : List ℕ). sum k) c.as_slice.ensures) ∙ successors c.args.node.now.stop c.args.node.now.successors c.args.node.now.successor_weights c.requires.successors some

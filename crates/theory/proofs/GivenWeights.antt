-- With given weights only the weights change: a realization's numbers stay, and one certificate is right where it was.
use Rattle.std.proofs.Common.{◌≡◌, ℕ, ℤ, List, [], ◌∷◌, length, suc, arith, refl, ap}
use Rattle.theory.specs.Certificates.{RightAt, Right}
use Rattle.theory.specs.CutOf.{alpha_at, beta_at}
use Rattle.theory.specs.Problem.{Realization, Node, reweighted, with_weights}
use Rattle.theory.specs.declared.cut.Cut.{Cut}
use Rattle.theory.specs.declared.cut.Certificate.{Certificate}

pub alpha_at-with_weights : (pools : List (List Cut)) (ws : List ℕ) (n : Node) (values : List ℤ) (c : Certificate) → alpha_at pools (with_weights ws n) values c ≡ alpha_at pools n values c
alpha_at-with_weights pools ws n values c = refl

pub beta_at-with_weights : (ws : List ℕ) (n : Node) (c : Certificate) (k : ℕ) → beta_at (with_weights ws n) c k ≡ beta_at n c k
beta_at-with_weights ws n c k = refl

length_reweighted : (ws : List ℕ) (rs : List Realization) → length ws ≡ length rs → length (reweighted ws rs) ≡ length rs
length_reweighted [] [] e = refl
length_reweighted [] (r ∷ rs) e = absurd (omega arith)
length_reweighted (w ∷ ws) [] e = absurd (omega arith)
length_reweighted (w ∷ ws) (r ∷ rs) e = ap suc (length_reweighted ws rs (omega arith))

pub right_with_weights : (pools : List (List Cut)) (ws : List ℕ) (n : Node) (list : List Certificate) → length ws ≡ length n.realizations → Right pools n list → Right pools (with_weights ws n) list
right_with_weights pools ws n list e r = record {
  count = omega (arith, length_reweighted ws n.realizations e, r.count);
  each = λ k d h. let q : RightAt pools n _ = r.each k d h in record { rows = q.rows; successors = q.successors; signs = q.signs; pairs = q.pairs };
}

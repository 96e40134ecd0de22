-- Where all pools fit, so do those of each node's successors.
use Rattle.std.proofs.Common.{◌≡◌, ℕ, ◌<◌, true, List, length, All}
use Rattle.std.proofs.lemmas.List.Elements.{All-weaker}
use Rattle.problem.specs.Validated.{Validated, is_validated}
use Rattle.theory.specs.declared.cut.Cut.{Cut}
use Rattle.theory.specs.Problem.{Successor, node_at}
use Rattle.theory.specs.View.{problem_of}
use Rattle.theory.specs.Pools.{pool}
use Rattle.theory.specs.Fit.{CutFits, FitFor}
use Rattle.theory.proofs.ValidatedPremises.{successors-validated, have_cuts-successors}
use Rattle.cut_pool.specs.AtNodes.{PoolsFit}

pub fit_for-fit : (p : Validated) (pools : List (List Cut)) (m : ℕ) → is_validated p ≡ true → m < length p.parts.nodes → PoolsFit p pools → FitFor (problem_of p) (length p.parts.nodes) pools m
fit_for-fit p pools m e h f = record {
  lists = f.lists;
  some = have_cuts-successors p pools m e h f.some;
  cuts = All-weaker (λ (l : Successor). l.node < length p.parts.nodes) (λ (l : Successor). All (CutFits (node_at (problem_of p) l.node)) (pool pools l.node)) (λ l i. f.cuts l.node i) (node_at (problem_of p) m).successors (successors-validated p m e h);
}

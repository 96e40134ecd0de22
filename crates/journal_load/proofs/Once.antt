-- No node stands twice in an entry: ranks rise from step to step.
use Rattle.std.proofs.Common.{◌≡◌, ℕ, ◌+◌, ◌≤◌, ◌<◌, ◌==◌, Bool, true, false, List, [], ◌∷◌, length, Option, Some, refl, ap, arith, if◌then◌else◌}
use Rattle.std.specs.List.{AllByRecursion}
use Rattle.std.proofs.lemmas.Bool.Decides.{nat_tests}
use Rattle.base_num.proofs.Tests.{and_first, and_second}
use Rattle.base_graph.specs.Ranks.{rank}
use Rattle.base_graph.proofs.Falling.{rank_falls}
use Rattle.problem.specs.Validated.{Validated, graph_of}
use Rattle.cut_pool.specs.declared.entry.EntryStep.{EntryStep}
use Rattle.journal_record.specs.Shape.{may_stand, is_path_backwards}
use Rattle.journal_record.proofs.LongestPath.{Graph, led}
use Rattle.journal_record.proofs.Taken.{is_node}

-- 1 where the nodes are the same
abbrev pub here : ℕ → ℕ → ℕ
here n m = if n == m then 1 else 0

pub here_same : (n m : ℕ) → n ≡ m → here n m ≡ 1
here_same n m e = grind (arith, nat_tests)

here_other : (n m : ℕ) → (n ≡ m → ⊥) → here n m ≡ 0
here_other n m e = grind (arith, nat_tests)

-- how often the node m stands in these steps
abbrev pub times : ℕ → List EntryStep → ℕ
times m [] = 0
times m (s ∷ ss) = here s.node m + times m ss

module _ (p : Validated) (g : Graph p) (m : ℕ) where
  -- behind a node of the same rank or a higher one it does not stand
  none : (k : ℕ) (ss : List EntryStep) → is_path_backwards p (Some k) ss ≡ true → rank (graph_of p.parts) m ≤ rank (graph_of p.parts) k → times m ss ≡ 0
  none k [] path low = refl
  none k (s ∷ ss) path low =
      let stands : may_stand p (Some k) (length ss == 0) s.node ≡ true = and_first (may_stand p (Some k) (length ss == 0) s.node) (is_path_backwards p (Some s.node) ss) path in
      let later : is_path_backwards p (Some s.node) ss ≡ true = and_second (may_stand p (Some k) (length ss == 0) s.node) (is_path_backwards p (Some s.node) ss) path in
      let falls = rank_falls (graph_of p.parts) s.node k g.known g.acyclic (led p k (length ss == 0) s.node stands) in
      let other : here s.node m ≡ 0 = here_other s.node m (λ e. absurd (omega (arith, low, falls, ap (rank (graph_of p.parts)) e))) in
      omega (arith, other, none s.node ss later (omega (arith, low, falls)))

  pub once : (before : Option ℕ) (ss : List EntryStep) → is_path_backwards p before ss ≡ true → times m ss ≤ 1
  once before [] path = omega arith
  once before (s ∷ ss) path =
      let later : is_path_backwards p (Some s.node) ss ≡ true = and_second (may_stand p before (length ss == 0) s.node) (is_path_backwards p (Some s.node) ss) path in
      by (s.node == m) refl later (once (Some s.node) ss later)
    where
      by : (b : Bool) → (s.node == m) ≡ b → is_path_backwards p (Some s.node) ss ≡ true → times m ss ≤ 1 → (if b then 1 else 0) + times m ss ≤ 1
      by true e later few =
          let same : s.node ≡ m = grind (arith, nat_tests) in
          omega (arith, none s.node ss later (omega (arith, ap (rank (graph_of p.parts)) same)))
      by false e later few = omega (arith, few)

-- each step is at a node of the problem
pub known_steps : (p : Validated) (before : Option ℕ) (ss : List EntryStep) → is_path_backwards p before ss ≡ true → AllByRecursion (λ (s : EntryStep). s.node < length p.parts.nodes) ss
known_steps p before [] path = tt
known_steps p before (s ∷ ss) path = (
  is_node p before (length ss == 0) s.node (and_first (may_stand p before (length ss == 0) s.node) (is_path_backwards p (Some s.node) ss) path),
  known_steps p (Some s.node) ss (and_second (may_stand p before (length ss == 0) s.node) (is_path_backwards p (Some s.node) ss) path),
)

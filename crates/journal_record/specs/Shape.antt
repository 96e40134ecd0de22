-- Which entries a problem can have.
use Rattle.std.specs.Prelude.{◌≡◌, ◌==◌, ℕ, ◌<◌, ◌≤◌, ◌^◌, Bool, true, ◌&&◌, ◌||◌, not, List, [], ◌∷◌, length, Option, Some, None, option_map, unwrap_or, nat_lt, nat_eq, FitsSigned, All}
use Rattle.std.specs.List.{list_any, AllByRecursion}
use Rattle.std.specs.Int.{w64}
use Rattle.problem.specs.declared.parts.Subproblem.{Subproblem}
use Rattle.problem.specs.Parts.{successors_at, weights_at}
use Rattle.problem.specs.Validated.{Validated, subproblem_of}
use Rattle.theory.specs.declared.cut.Certificate.{Certificate}
use Rattle.cut_pool.specs.declared.entry.Entry.{Entry}
use Rattle.cut_pool.specs.declared.entry.EntryStep.{EntryStep}
use Rattle.journal_record.specs.declared.sizes.Sizes.{Sizes}

-- a node's realizations, its subproblem's rows, and its successors
abbrev pub sizes_of : Validated → ℕ → Sizes
sizes_of p m = record {
  realizations = length (weights_at p.parts m);
  rows = unwrap_or (option_map (λ (s : Subproblem). length s.rows) (subproblem_of p m)) 0;
  successors = length (successors_at p.parts m);
}

-- the node m is among these
abbrev pub is_among : List ℕ → ℕ → Bool
is_among ms m = list_any (λ k. nat_eq k m) ms

-- the node leads to the one of the step before, where there is such a step
abbrev pub leads_on : Validated → ℕ → Option ℕ → Bool
leads_on p m None = true
leads_on p m (Some k) = is_among (successors_at p.parts m) k

-- The node of a step: a node of the problem that leads to the one of the step before, and in the last step a successor of the root.
abbrev pub may_stand : Validated → Option ℕ → Bool → ℕ → Bool
may_stand p before last m = nat_lt m (length p.parts.nodes) && leads_on p m before && (not last || is_among p.parts.root m)

-- Read backwards these steps are a path from the root to a node that leads to the one before them.
abbrev pub is_path_backwards : Validated → Option ℕ → List EntryStep → Bool
is_path_backwards p before [] = true
is_path_backwards p before (s ∷ ss) = may_stand p before (length ss == 0) s.node && is_path_backwards p (Some s.node) ss

-- one multiplier per row, and one list of pairs per successor
pub record SuitsSizes (z : Sizes) (c : Certificate) : Type 0 where
  pub rows : length c.rows ≡ z.rows
  pub cuts : length c.cuts ≡ z.successors

-- one certificate per realization of the node
pub record StepSuits (p : Validated) (s : EntryStep) : Type 0 where
  pub count : length s.list ≡ (sizes_of p s.node).realizations
  pub each : AllByRecursion (SuitsSizes (sizes_of p s.node)) s.list

-- At least one step; read backwards the nodes are a path from the root; and each step has its node's sizes.
pub record Writable (p : Validated) (e : Entry) : Type 0 where
  pub some_step : 0 < length e.steps
  pub path : is_path_backwards p None e.steps ≡ true
  pub steps : AllByRecursion (StepSuits p) e.steps

-- The numbers are those that their types have.

abbrev pub PairFits : ℕ × ℕ → Type 0
PairFits q = (q.0 < 2 ^ 32) × (q.1 < 2 ^ 64)

abbrev pub PairsFit : List (ℕ × ℕ) → Type 0
PairsFit qs = (length qs < 2 ^ 32) × AllByRecursion PairFits qs

pub record CertificateFits (c : Certificate) : Type 0 where
  pub rows : AllByRecursion (λ z. FitsSigned w64 z) c.rows
  pub cuts : AllByRecursion PairsFit c.cuts

abbrev pub StepFits : EntryStep → Type 0
StepFits s = AllByRecursion CertificateFits s.list

pub record EntryFits (e : Entry) : Type 0 where
  pub iteration : e.iteration < 2 ^ 32
  pub unanswered : e.unanswered < 2 ^ 32
  pub steps : AllByRecursion StepFits e.steps

-- So many entries of one iteration, that the problem can have.
pub record IsBatch (p : Validated) (iteration count : ℕ) (es : List Entry) : Type 0 where
  pub counted : length es ≡ count
  pub same : AllByRecursion (λ e. e.iteration ≡ iteration) es
  pub each : AllByRecursion (Writable p) es
  pub numbers : AllByRecursion EntryFits es

-- Counts and numbers that have room in the fields of the text.

abbrev pub CountsFit : Certificate → Type 0
CountsFit c = All (λ qs. length qs < 2 ^ 32) c.cuts

pub record NodeFits (s : EntryStep) : Type 0 where
  pub node : s.node < 2 ^ 16
  pub counts : All CountsFit s.list

pub record StepsFit (e : Entry) : Type 0 where
  pub count : length e.steps < 2 ^ 16
  pub each : All NodeFits e.steps

-- Each list of pairs has at most n.

abbrev pub StepWithin : ℕ → EntryStep → Type 0
StepWithin n s = AllByRecursion (λ (c : Certificate). AllByRecursion (λ qs. length qs ≤ n) c.cuts) s.list

abbrev pub PairsWithin : ℕ → Entry → Type 0
PairsWithin n e = AllByRecursion (StepWithin n) e.steps

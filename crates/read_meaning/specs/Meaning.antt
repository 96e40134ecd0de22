-- Defines by the names of a problem file when numbers satisfy a stage, which trees are policies, their costs, bounds and cuts.
use Rattle.std.specs.Prelude.{◌≡◌, ℕ, ◌+◌, ◌*◌, ◌<◌, ℤ, pos, ◌+ℤ◌, ◌*ℤ◌, List, [], ◌∷◌, map, sum, All, Contains, true, Option, Some, None, option_map, unwrap_or, IsSomeAnd, bytes_eq, if◌then◌else◌}
use Rattle.base_num.specs.Sums.{dot}
use Rattle.theory.specs.Fraction.{Fraction, ◌≤ᶠ◌, nothing, plus, times, over, weighted}
use Rattle.read_profile.specs.File.{Name, Numbers, Constraint, State, Stage, FileRealization, FileSuccessor, FileNode, File}

-- a number for each state, in units of 1/N
abbrev pub Volumes : Type 0
Volumes = Name → Option ℤ

abbrev pub in_units : ℕ → Option ℤ → Option ℤ
in_units units o = option_map (λ z. pos units *ℤ z) o

-- incoming variables have the incoming volumes, random variables the realized values, and each constraint is kept
pub record Satisfies (units : ℕ) (s : Stage) (r : FileRealization) (x : Volumes) (y : Numbers) : Type 0 where
  pub states : All (λ (t : State). x t.name ≡ Some (y t.before)) s.states
  pub randoms : All (λ (v : Name). in_units units (r.support v) ≡ Some (y v)) s.randoms
  pub constraints : All (λ (c : Constraint). c units y ≡ true) s.constraints

-- the outgoing volumes
abbrev pub leaving : List State → Numbers → Volumes
leaving [] y k = None
leaving (s ∷ ss) y k = if bytes_eq s.name k then Some (y s.after) else leaving ss y k

abbrev pub starting : File → ℕ → Volumes
starting f units s = in_units units (f.initial s)

-- ---- policies

mutual
  -- a branch for each realization: its numbers, the plan after it, and the branches beside it
  pub data FilePlan : Type 0 where
    no_branch : FilePlan
    branch : Numbers → Plans → FilePlan → FilePlan

  -- a plan for each successor
  pub data Plans : Type 0 where
    no_plan : Plans
    plan : FilePlan → Plans → Plans

abbrev mutual
  -- at a node with these incoming volumes there is a branch for each of these realizations, which satisfies the stage, and so on after it
  pub Meets : File → ℕ → FileNode → List FileRealization → Volumes → FilePlan → Type 0
  Meets f units n [] x no_branch = Unit {0}
  Meets f units n (r ∷ rs) x no_branch = ⊥
  Meets f units n [] x (branch y ps p) = ⊥
  Meets f units n (r ∷ rs) x (branch y ps p) = Satisfies units n.stage r x y × MeetAfter f units n.successors (leaving n.stage.states y) ps × Meets f units n rs x p

  pub MeetAfter : File → ℕ → List FileSuccessor → Volumes → Plans → Type 0
  MeetAfter f units [] x no_plan = Unit {0}
  MeetAfter f units (l ∷ ls) x no_plan = ⊥
  MeetAfter f units [] x (plan p ps) = ⊥
  MeetAfter f units (l ∷ ls) x (plan p ps) = IsSomeAnd (f.nodes l.node) (λ n. Meets f units n n.realizations x p) × MeetAfter f units ls x ps

-- a plan for each successor of the root, from the initial volumes on
abbrev pub IsPolicy : File → ℕ → Plans → Type 0
IsPolicy f units ps = MeetAfter f units f.root (starting f units) ps

-- ---- costs

abbrev pub stage_cost : ℕ → Stage → Numbers → Fraction
stage_cost units s y = record { up = s.objective units y; under = units }

abbrev pub file_successor_weights : List FileSuccessor → List ℕ
file_successor_weights ls = map (λ (l : FileSuccessor). l.weight) ls

-- the average by the weights, in which a stop weight counts with a cost of 0; 0 of nothing
abbrev pub average : ℕ → List ℕ → List Fraction → Fraction
average stop [] costs = nothing
average stop (w ∷ ws) costs = over (weighted (w ∷ ws) costs) (stop + sum (w ∷ ws))

-- the cost of branches together, over the total of their weights
abbrev pub mean : List FileRealization → Fraction → Fraction
mean rs together = over together (sum (map (λ (r : FileRealization). r.weight) rs))

abbrev mutual
  -- the sum over the branches of weight times (the stage's cost and the average cost of the plans after it)
  pub branches_cost : File → ℕ → FileNode → List FileRealization → FilePlan → Fraction
  branches_cost f units n rs no_branch = nothing
  branches_cost f units n [] (branch y ps p) = nothing
  branches_cost f units n (r ∷ rs) (branch y ps p) = plus (times r.weight (plus (stage_cost units n.stage y) (average n.stop (file_successor_weights n.successors) (costs f units n.successors ps)))) (branches_cost f units n rs p)

  pub costs : File → ℕ → List FileSuccessor → Plans → List Fraction
  costs f units ls no_plan = []
  costs f units [] (plan p ps) = []
  costs f units (l ∷ ls) (plan p ps) = unwrap_or (option_map (λ (n : FileNode). mean n.realizations (branches_cost f units n n.realizations p)) (f.nodes l.node)) nothing ∷ costs f units ls ps

abbrev pub file_plan_cost : File → ℕ → FileNode → FilePlan → Fraction
file_plan_cost f units n p = mean n.realizations (branches_cost f units n n.realizations p)

abbrev pub file_policy_cost : File → ℕ → Plans → Fraction
file_policy_cost f units ps = average 0 (file_successor_weights f.root) (costs f units f.root ps)

-- ---- what the program promises

-- the scale of cuts and bounds
abbrev pub cut_scale : ℕ
cut_scale = 16777216

-- no policy costs less than b / S
abbrev pub IsBound : File → ℤ → Type 0
IsBound f b = (units : ℕ) (ps : Plans) → 0 < units → IsPolicy f units ps → record { up = b; under = cut_scale } ≤ᶠ file_policy_cost f units ps

-- some policy costs at most u / S
abbrev pub IsUpper : File → ℤ → Type 0
IsUpper f u = (units : ℕ) × (ps : Plans) × (0 < units) × IsPolicy f units ps × (file_policy_cost f units ps ≤ᶠ record { up = u; under = cut_scale })

-- these volumes can come to the node: at the start, or by numbers that satisfy the stage of a node that leads there
pub data Comes (f : File) (units : ℕ) : Name → Volumes → Type 0 where
  first : (l : FileSuccessor) → Contains f.root l → Comes f units l.node (starting f units)
  next : (k : Name) (n : FileNode) (x : Volumes) (r : FileRealization) (y : Numbers) (l : FileSuccessor) → Comes f units k x → f.nodes k ≡ Some n → Contains n.realizations r → Satisfies units n.stage r x y → Contains n.successors l → Comes f units l.node (leaving n.stage.states y)

-- (alpha + beta·x) / S is at most the cost of any plan from the node k on, whatever volumes x come to it
abbrev pub IsCut : File → Name → ℤ → List ℤ → Type 0
IsCut f k alpha beta = (units : ℕ) (n : FileNode) (x : Volumes) (xs : List ℤ) (p : FilePlan) → 0 < units → f.nodes k ≡ Some n → Comes f units k x → map x f.states ≡ map Some xs
    → Meets f units n n.realizations x p → record { up = alpha *ℤ pos units +ℤ dot beta xs; under = cut_scale * units } ≤ᶠ file_plan_cost f units n p

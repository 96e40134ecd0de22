-- Reads a problem file by the names that stand in it. A part that does not stand in the document in this form is None.
-- Source: StochOptFormat 1.0 (Dowson and others) and MathOptFormat, in the profile of docs/use/FORMAT.md.
use Rattle.std.specs.Prelude.{ℕ, ℤ, pos, ◌+ℤ◌, ◌*ℤ◌, List, [], ◌∷◌, Bool, ◌&&◌, Option, Some, None, option_map, codes, bytes_eq, int_lt, int_le, unsigned_abs, if◌then◌else◌}
use Rattle.std.specs.Ordering.{int_eq}
use Rattle.std.specs.Option.{option_or}
use Rattle.serde_json.specs.Data.{Data, Items, no_items, item, Members, no_members, member}
use Rattle.serde_json.specs.Find.{get, as_number, as_integer, as_str, as_array, as_object}
use Rattle.serde_json.specs.Read.{read}
use Rattle.base_num.specs.Sums.{total}

-- a text's bytes
abbrev pub Name : Type 0
Name = List ℕ

-- a number for each variable, in units of 1/N: the number x stands for x/N
abbrev pub Numbers : Type 0
Numbers = Name → ℤ

-- by N and the numbers of the variables: a function's value in units of 1/N, and whether a constraint is kept
abbrev pub Function : Type 0
Function = ℕ → Numbers → ℤ

abbrev pub Constraint : Type 0
Constraint = ℕ → Numbers → Bool

-- a state, with the variable of its incoming value and that of its outgoing one
pub record State : Type 0 where
  pub name : Name
  pub before : Name
  pub after : Name

pub record Stage : Type 0 where
  pub states : List State
  pub randoms : List Name
  pub objective : Function
  pub constraints : List Constraint

-- a realization of a node: its weight, and a number for each random variable
pub record FileRealization : Type 0 where
  pub weight : ℕ
  pub support : Name → Option ℤ

pub record FileSuccessor : Type 0 where
  pub node : Name
  pub weight : ℕ

pub record FileNode : Type 0 where
  pub stage : Stage
  pub realizations : List FileRealization
  pub successors : List FileSuccessor
  pub stop : ℕ

-- the names of the states and of the nodes stand in byte order
pub record File : Type 0 where
  pub states : List Name
  pub initial : Name → Option ℤ
  pub root : List FileSuccessor
  pub names : List Name
  pub nodes : Name → Option FileNode

-- ---- looking into a document

infixl 10 ◌>>=◌
abbrev pub ◌>>=◌ : {A B : Type 0} → Option A → (A → Option B) → Option B
None >>= f = None
(Some x) >>= f = f x

abbrev pub both : {A B C : Type 0} → (A → B → C) → Option A → Option B → Option C
both f a b = a >>= λ x. option_map (f x) b

-- the value that f gives of the member under a key, which has to be there
abbrev pub under : {A : Type 0} → Name → (Data → Option A) → Data → Option A
under k f d = get k d >>= f

-- the value that f gives of a member, or x where it is absent
abbrev pub or_absent : {A : Type 0} → A → (Data → Option A) → Option Data → Option A
or_absent x f None = Some x
or_absent x f (Some d) = f d

abbrev pub each : {A : Type 0} → (Data → Option A) → Items → Option (List A)
each f no_items = Some []
each f (item d ds) = both ◌∷◌ (f d) (each f ds)

abbrev pub each_member : {A : Type 0} → (Name → Data → Option A) → Members → Option (List A)
each_member f no_members = Some []
each_member f (member k d ms) = both ◌∷◌ (f k d) (each_member f ms)

-- a whole number, which has neither a point nor an exponent
abbrev pub whole_number : Data → Option ℤ
whole_number d = as_number d >>= as_integer

-- one of at least 0
abbrev pub natural : Data → Option ℕ
natural d = whole_number d >>= λ z. if int_lt z (pos 0) then None else Some (unsigned_abs z)

-- ---- one stage

-- a coefficient times a variable
abbrev pub term_of : Data → Option (Numbers → ℤ)
term_of d = both (λ c v y. c *ℤ y v) (under (codes "coefficient") whole_number d) (under (codes "variable") as_str d)

-- the sum of the terms, and the constant
unfoldable pub affine_of : Data → Option Function
affine_of d = both (λ ts k units y. total (λ (t : Numbers → ℤ). t y) ts +ℤ pos units *ℤ k) (under (codes "terms") as_array d >>= each term_of) (or_absent (pos 0) whole_number (get (codes "constant") d))

unfoldable pub variable_of : Data → Option Function
variable_of d = option_map (λ v units y. y v) (option_or (get (codes "name") d) (get (codes "variable") d) >>= as_str)

unfoldable pub function_of : Data → Option Function
function_of d = do
  kind ← under (codes "type") as_str d
  if bytes_eq kind (codes "Variable") then variable_of d else (if bytes_eq kind (codes "ScalarAffineFunction") then affine_of d else None)

-- whether a number in units of 1/N lies in the set
unfoldable pub set_of : Data → Option (ℕ → ℤ → Bool)
set_of d = do
  kind ← under (codes "type") as_str d
  if bytes_eq kind (codes "EqualTo") then option_map (λ v units z. int_eq z (pos units *ℤ v)) (under (codes "value") whole_number d)
      else (if bytes_eq kind (codes "GreaterThan") then option_map (λ l units z. int_le (pos units *ℤ l) z) (under (codes "lower") whole_number d)
      else (if bytes_eq kind (codes "LessThan") then option_map (λ u units z. int_le z (pos units *ℤ u)) (under (codes "upper") whole_number d)
      else (if bytes_eq kind (codes "Interval") then both (λ l u units z. int_le (pos units *ℤ l) z && int_le z (pos units *ℤ u)) (under (codes "lower") whole_number d) (under (codes "upper") whole_number d)
      else None)))

-- the function lies in the set
unfoldable pub constraint_of : Data → Option Constraint
constraint_of d = both (λ (f : Function) (s : ℕ → ℤ → Bool) units y. s units (f units y)) (under (codes "function") function_of d) (under (codes "set") set_of d)

-- the function to minimise; 0 where any feasible decision will do
unfoldable pub objective_of : Data → Option Function
objective_of d = do
  sense ← under (codes "sense") as_str d
  if bytes_eq sense (codes "min") then under (codes "function") function_of d else (if bytes_eq sense (codes "feasibility") then Some (λ units y. pos 0) else None)

abbrev pub state_of : Name → Data → Option State
state_of name d = both (λ before after. record { name = name; before = before; after = after }) (under (codes "in") as_str d) (under (codes "out") as_str d)

unfoldable pub file_stage_of : Data → Option Stage
file_stage_of d = do
  model ← get (codes "subproblem") d
  states ← or_absent no_members as_object (get (codes "state_variables") d) >>= each_member state_of
  randoms ← or_absent no_items as_array (get (codes "random_variables") d) >>= each as_str
  objective ← under (codes "objective") objective_of model
  constraints ← under (codes "constraints") as_array model >>= each constraint_of
  Some (record { states = states; randoms = randoms; objective = objective; constraints = constraints })

-- ---- the policy graph

abbrev pub successor_of : Name → Data → Option FileSuccessor
successor_of k d = option_map (λ w. record { node = k; weight = w }) (natural d)

abbrev pub realization_of : Data → Option FileRealization
realization_of d = option_map (λ w. record { weight = w; support = λ v. under (codes "support") (under v whole_number) d }) (under (codes "probability") natural d)

-- where none is listed, one without random values
abbrev pub or_certain : List FileRealization → List FileRealization
or_certain [] = record { weight = 1; support = λ v. None } ∷ []
or_certain (r ∷ rs) = r ∷ rs

-- a node of a file
unfoldable pub file_node_of : Data → Data → Option FileNode
file_node_of file d = do
  stage ← under (codes "subproblem") as_str d >>= λ p. under (codes "subproblems") (under p file_stage_of) file
  realizations ← or_absent no_items as_array (get (codes "realizations") d) >>= each realization_of
  successors ← or_absent no_members as_object (get (codes "successors") d) >>= each_member successor_of
  stop ← or_absent 0 natural (get (codes "stop") d)
  Some (record { stage = stage; realizations = or_certain realizations; successors = successors; stop = stop })

-- a whole number, or an object whose `initial_value` is one
abbrev pub initial_of : Data → Option ℤ
initial_of d = option_or (whole_number d) (under (codes "initial_value") whole_number d)

unfoldable pub file_of : Data → Option File
file_of d = do
  root ← get (codes "root") d
  states ← or_absent no_members as_object (get (codes "state_variables") root) >>= each_member (λ k x. Some k)
  successors ← under (codes "successors") as_object root >>= each_member successor_of
  names ← under (codes "nodes") as_object d >>= each_member (λ k x. Some k)
  Some (record { states = states; initial = λ s. under (codes "state_variables") (under s initial_of) root; root = successors; names = names; nodes = λ k. under (codes "nodes") (under k (file_node_of d)) d })

-- the file that the bytes of version 1 state
unfoldable pub file_at : List ℕ → Option File
file_at bytes = do
  d ← read bytes
  major ← under (codes "version") (under (codes "major") whole_number) d
  if int_eq major (pos 1) then file_of d else None

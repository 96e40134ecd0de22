-- Says of the lines of a report what they claim of the problem file itself.
use Rattle.std.specs.Prelude.{◌≡◌, ℕ, List, All, Option, Some, IfSome, IsSome, slice_get, Ok, ⊤}
use Rattle.theory.specs.declared.cut.Cut.{Cut}
use Rattle.read_profile.specs.File.{Name, File, file_at}
use Rattle.read_meaning.specs.Meaning.{Plans, IsPolicy, file_policy_cost, IsBound, IsCut, IsUpper}
use Rattle.hydro_read.specs.declared.plants.Plants.{Plants}
use Rattle.hydro_read.specs.Plants.{plants_at}
use Rattle.hydro_make.specs.Plan.{Plan, Workable}
use Rattle.hydro_make.specs.PlanCost.{plan_cost}
use Rattle.policy_report.specs.SoundLines.{Claims, Lines}
use Rattle.run_program.specs.Causes.{Ends, Written}
use Rattle.run_program.specs.declared.status.Status.{Status}
use Rattle.run_words.specs.declared.command.Command.{Command}

-- the cut holds at the node of this number, in the byte order of names
abbrev pub CutOfFile : File → ℕ → Cut → Type 0
CutOfFile f m c = IfSome (slice_get f.names m) (λ k. IsCut f k c.alpha c.beta)

-- the claims of lines on the file; nothing of risk cuts and worst bounds
abbrev pub claims_in : File → Claims
claims_in f = record { cuts = CutOfFile f; bounds = IsBound f; uppers = IsUpper f; risk_cuts = λ m c. ⊤; worsts = λ b. ⊤ }

-- The bytes are a problem file, each node of which can be read. In each line of the text that begins with the word `cut` stands a cut
-- that holds at its node, in each that begins with `bound` or `iteration` a number that no policy of the file costs less than, and in each
-- that begins with `upper` one that some policy of the file costs at most.
pub record MeantText (bytes text : List ℕ) : Type 0 where
  pub file : File
  pub said : file_at bytes ≡ Some file
  pub nodes : All (λ (k : Name). IsSome (file.nodes k)) file.names
  pub lines : Lines (claims_in file) text

-- The text is a problem file whose policies are the workable plans of the description: each comes with one of the other that costs the same.
pub record DescribedFile (description text : List ℕ) : Type 0 where
  pub plants : Plants
  pub file : File
  pub described : plants_at description ≡ Ok plants
  pub said : file_at text ≡ Some file
  pub policy : (units : ℕ) (plan : Plan) → Workable plants units plan → (ps : Plans) × IsPolicy file units ps × (file_policy_cost file units ps ≡ plan_cost plants units plan)
  pub plan : (units : ℕ) (ps : Plans) → IsPolicy file units ps → (plan : Plan) × Workable plants units plan × (plan_cost plants units plan ≡ file_policy_cost file units ps)

-- the text is a problem file, each node of which can be read
pub record IsFile (text : List ℕ) : Type 0 where
  pub file : File
  pub said : file_at text ≡ Some file
  pub nodes : All (λ (k : Name). IsSome (file.nodes k)) file.names

-- the meaning of what was written, over any disk: of a task its report, which means what the file in the source says; the file that a description means;
-- a generated file
abbrev pub Meant : Option Command → Ends → Status → Type 0
Meant asked e status = Written asked (λ command bytes text. MeantText bytes text) DescribedFile IsFile e status

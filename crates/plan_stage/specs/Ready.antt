-- Says what a solver makes ready for each node of a problem, before it solves any.
use Rattle.std.specs.Prelude.{◌≡◌, ℕ, List, length, slice_get, Some}
use Rattle.std.proofs.Props.{props}
use Rattle.problem.specs.Validated.{Validated}
use Rattle.lp_program.specs.declared.programs.Program.{Program}
use Rattle.lp_program.specs.Proper.{Extends}
use Rattle.lp_program.specs.Solving.{Solving}
use Rattle.plan_stage.specs.Nodes.{reference_at}
use Rattle.plan_stage.specs.Orders.{solving_orders}

-- the start that the reference program of the node m makes; a chain may begin from there with each program that extends it
pub record IsReady {Start Chain : Type 0} (v : Solving Start Chain) (suits : Start → Program → Type 0) (p : Validated) (m : ℕ) (start : Start) : Type 0 where
  pub made : start ≡ v.started (reference_at p m)
  pub begins : (lp : Program) → Extends (reference_at p m) lp → suits start lp

-- one for each node
pub record AreStarts {Start Chain : Type 0} (v : Solving Start Chain) (suits : Start → Program → Type 0) (p : Validated) (starts : List Start) : Type 0 where
  pub count : length starts ≡ length p.parts.nodes
  pub each : (m : ℕ) (start : Start) → slice_get starts m ≡ Some start → IsReady v suits p m start

-- a start for each node, and the order in which its realizations are solved
pub record AreReady {Start Chain : Type 0} (v : Solving Start Chain) (suits : Start → Program → Type 0) (p : Validated) (starts : List Start) (orders : List (List ℕ)) : Type 0 where
  pub starts_ready : AreStarts v suits p starts
  pub orders_ready : orders ≡ solving_orders p.parts

-- two proofs of it are equal
pub AreReady-prop : {Start Chain : Type 0} (v : Solving Start Chain) (suits : Start → Program → Type 0) (p : Validated) (starts : List Start) (orders : List (List ℕ)) → IsSet Start → ((start : Start) (lp : Program) → IsProp (suits start lp)) → IsProp (AreReady v suits p starts orders)
AreReady-prop v suits p starts orders set once = Prim.hlevel props

-- A property of each text that a description gives holds of the one that code answers.
use Rattle.std.proofs.Common.{◌≡◌, ℕ, List, IfOk, Result, Ok, Err}
use Rattle.hydro_read.specs.Steps.{HydroGives}
use Rattle.hydro_read.specs.declared.refusal.HydroFault.{HydroFault}
use Rattle.hydro_read.specs.declared.refusal.HydroRefusal.{HydroRefusal}

pub if_given : {X : Type 0} (view : X → List ℕ) (P : List ℕ → Type 0) (read : Result (List ℕ) HydroRefusal) (r : Result X HydroFault) → HydroGives view r read → ((text : List ℕ) → read ≡ Ok text → P text) → IfOk r (λ x. P (view x))
if_given view P read (Ok x) h each = each (view x) h
if_given view P read (Err e) h each = tt

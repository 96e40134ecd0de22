-- The constraints that the reader finds are those that the file says, and its bounds and rows are kept where these are.
use Rattle.std.proofs.Common.{◌≡◌, ℕ, zero, suc, ℤ, List, [], length, map, replicate, Some, Ok, refl, ◌++◌, ◌∷◌}
use Rattle.std.proofs.lemmas.List.{length-replicate}
use Rattle.serde_json.specs.Data.{Data, Items}
use Rattle.read_json.specs.Fields.{present_at, object_at}
use Rattle.read_json.proofs.Accepted.{then-Ok}
use Rattle.read_profile.specs.File.{Constraint, each, constraint_of}
use Rattle.read_stage.specs.declared.variables.Variables.{Variables}
use Rattle.read_stage.specs.declared.constraint.Constraints.{Constraints}
use Rattle.read_stage.specs.Function.{function_at}
use Rattle.read_stage.specs.Sides.{no_sides, set_at}
use Rattle.read_stage.specs.Boxes.{sides_of}
use Rattle.read_stage.specs.Constraint.{constraint_at, no_constraints, constraints_at}
use Rattle.read_stage.proofs.FileEach.{walk_items-says}
use Rattle.read_stage.proofs.FileSays.{present-says}
use Rattle.read_stage.proofs.FileSets.{set-says}
use Rattle.read_stage.proofs.FileSplit.{Split}
use Rattle.read_stage.proofs.FileFunctions.{function-says}
use Rattle.read_stage.proofs.FileKept.{Bounded, Kept, joined-kept}

-- before the first constraint no variable has sides
none-narrowed : (n v : ℕ) → sides_of (replicate n no_sides) v ≡ no_sides
none-narrowed zero v = refl
none-narrowed (suc n) zero = refl
none-narrowed (suc n) (suc v) = none-narrowed n v

none-bounded : (units n : ℕ) (ys : List ℤ) → Bounded units ys (replicate n no_sides)
none-bounded units n ys v lt = rw (none-narrowed n v) (tt, tt)

-- one constraint is said, and it is kept with those before it where bounds and rows are
constraint-says : (vars : Variables) → Split vars → (p : ℕ) (found next : Constraints) (i : ℕ) (d : Data) (done : List Constraint) → constraint_at vars p found i d ≡ Ok next → Kept vars found done
    → (c : Constraint) × (constraint_of d ≡ Some c) × Kept vars next (done ++ c ∷ [])
unfolding constraint_at constraint_of
constraint-says vars split p found next i d done e k =
    then-Ok (present_at _ _) _ next e (λ inner is_inner e.
    then-Ok (object_at _ _) _ next e (λ members is_members e.
    then-Ok (present_at _ _) _ next e (λ other is_other e.
    then-Ok (object_at _ _) _ next e (λ others is_others e.
    then-Ok (function_at _ _ _) _ next e (λ f is_f e.
    then-Ok (set_at _ _) _ next e (λ sides is_sides e.
    let one = function-says vars.names _ inner f is_f in
    let set = set-says _ other sides is_sides in (
      (λ units y. set.0 units (one.0 units y)),
      rw (present-says _ _ inner is_inner, one.1, present-says _ _ other is_other, set.1) refl,
      joined-kept vars split _ found next f sides one.0 set.0 done one.2 set.2 e k,
    )))))))

-- all constraints are said, and they are kept where bounds and rows are
pub constraints-say : (vars : Variables) → Split vars → (p : ℕ) (ds : Items) (found : Constraints) → constraints_at vars p ds ≡ Ok found → (cs : List Constraint) × (each constraint_of ds ≡ Some cs) × Kept vars found cs
unfolding constraints_at
constraints-say vars split p ds found e =
    walk_items-says (Kept vars) (constraint_at vars p) constraint_of (λ found next i d done e k. constraint-says vars split p found next i d done e k) ds (no_constraints (length vars.names)) found 0 [] e (record {
      long = length-replicate (length vars.names) no_sides;
      free = λ v random. none-narrowed (length vars.names) v;
      same = λ units y. (λ h. (none-bounded units (length vars.names) (map y vars.names), tt), λ h. tt);
    })

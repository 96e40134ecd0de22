-- The bounds and rows that the reader makes of constraints are kept where the constraints are that the file says.
use Rattle.std.proofs.Common.{◌≡◌, ◌↔◌, ℕ, zero, suc, ◌<◌, ◌==◌, ℤ, List, [], ◌∷◌, ◌++◌, length, map, Bool, true, false, slice_get, slice_set, Option, Some, None, unwrap_or, Ok, if◌then◌else◌, refl, sym, ap, subst, ◌∙◌, arith}
use Rattle.std.specs.List.{AllByRecursion}
use Rattle.std.proofs.lemmas.List.{length-set, length-map}
use Rattle.std.proofs.lemmas.Bool.{true≢false, eqb-true, eqb-false}
use Rattle.std.proofs.lemmas.Option.{same_Some}
use Rattle.base_num.specs.Sums.{dot, entry}
use Rattle.problem.specs.declared.parts.Row.{Row}
use Rattle.problem.specs.declared.refusal.Place.{Place}
use Rattle.read_json.proofs.Accepted.{then-Ok, Ok-is}
use Rattle.read_stage.specs.declared.role.Role.{Role}
use Rattle.read_stage.specs.declared.role.Role.TheVariants.{Random}
use Rattle.read_stage.specs.declared.variables.Variables.{Variables}
use Rattle.read_stage.specs.declared.function.Function as functions
use Rattle.read_stage.specs.declared.sides.RowSides.{RowSides}
use Rattle.read_stage.specs.declared.constraint.Constraints.{Constraints}
use Rattle.read_stage.specs.Roles.{is_random}
use Rattle.read_stage.specs.Sides.{no_sides, intersection, shifted_at}
use Rattle.read_stage.specs.Rows.{row_of}
use Rattle.read_stage.specs.Boxes.{sides_of}
use Rattle.read_stage.specs.Constraint.{narrowed_by, narrowed, bounded, joined_at}
use Rattle.read_stage.specs.Said.{Between}
use Rattle.read_profile.specs.File.{Numbers, Function, Constraint}
use Rattle.read_stage.proofs.FileSplit.{Split}
use Rattle.read_stage.proofs.FileRows.{row_sum, row-is}
use Rattle.read_stage.proofs.FileFunctions.{FunctionSaid}
use Rattle.read_stage.proofs.FileSets.{Within, meet-is, shift-is}

-- ---- the sides of v after it was narrowed, and of others

later : (o : Option RowSides) (b : RowSides) (bs : List RowSides) (v : ℕ) (s : RowSides) → sides_of (narrowed_by o (b ∷ bs) (suc v) s) (suc v) ≡ sides_of (narrowed_by o bs v s) v
later None b bs v s = refl
later (Some t) b bs v s = refl

narrowed-here : (bounds : List RowSides) (v : ℕ) (s : RowSides) → v < length bounds → sides_of (narrowed bounds v s) v ≡ intersection (sides_of bounds v) s
unfolding narrowed
narrowed-here [] v s lt = absurd (omega arith)
narrowed-here (b ∷ bs) zero s lt = refl
narrowed-here (b ∷ bs) (suc v) s lt = later (slice_get bs v) b bs v s ∙ narrowed-here bs v s (omega arith)

narrowed-other : (bounds : List RowSides) (v w : ℕ) (s : RowSides) → (w ≡ v → ⊥) → sides_of (narrowed bounds v s) w ≡ sides_of bounds w
unfolding narrowed
narrowed-other bounds v w s other = by (slice_get bounds v)
  where
    kept : (bs : List RowSides) (v w : ℕ) (t : RowSides) → (w ≡ v → ⊥) → slice_get (slice_set bs v t) w ≡ slice_get bs w
    kept [] v w t o = refl
    kept (b ∷ bs) zero zero t o = absurd (o refl)
    kept (b ∷ bs) zero (suc w) t o = refl
    kept (b ∷ bs) (suc v) zero t o = refl
    kept (b ∷ bs) (suc v) (suc w) t o = kept bs v w t (λ e. o (ap suc e))

    by : (o : Option RowSides) → sides_of (narrowed_by o bounds v s) w ≡ sides_of bounds w
    by None = refl
    by (Some b) = ap (λ o. unwrap_or o no_sides) (kept bounds v w (intersection b s) other)

narrowed-long : (bounds : List RowSides) (v : ℕ) (s : RowSides) → length (narrowed bounds v s) ≡ length bounds
unfolding narrowed
narrowed-long bounds v s = by (slice_get bounds v)
  where
    by : (o : Option RowSides) → length (narrowed_by o bounds v s) ≡ length bounds
    by None = refl
    by (Some b) = length-set bounds v (intersection b s)

-- all bounds are kept
abbrev pub Bounded : ℕ → List ℤ → List RowSides → Type 0
Bounded units ys bounds = (v : ℕ) → v < length ys → Within units (sides_of bounds v) (entry ys v)

-- they are kept after v was narrowed where they were kept before and v lies between the sides
bounded-more : (units : ℕ) (ys : List ℤ) (bounds : List RowSides) (v : ℕ) (s : RowSides) → v < length ys → length bounds ≡ length ys
    → Bounded units ys (narrowed bounds v s) ↔ (Bounded units ys bounds × Within units s (entry ys v))
bounded-more units ys bounds v s lt long = (to, from)
  where
    here : sides_of (narrowed bounds v s) v ≡ intersection (sides_of bounds v) s
    here = narrowed-here bounds v s (omega (arith, lt, long))

    to : Bounded units ys (narrowed bounds v s) → Bounded units ys bounds × Within units s (entry ys v)
    to all =
        let both = (meet-is (sides_of bounds v) s units (entry ys v)).0 (subst (λ t. Within units t (entry ys v)) here (all v lt)) in
        (λ w l. each w l (w == v) refl both.0, both.1)
      where
        each : (w : ℕ) → w < length ys → (b : Bool) → (w == v) ≡ b → Within units (sides_of bounds v) (entry ys v) → Within units (sides_of bounds w) (entry ys w)
        each w l true is h = subst (λ u. Within units (sides_of bounds u) (entry ys u)) (sym (eqb-true w v is)) h
        each w l false is h = subst (λ t. Within units t (entry ys w)) (narrowed-other bounds v w s (eqb-false w v is)) (all w l)

    from : Bounded units ys bounds × Within units s (entry ys v) → Bounded units ys (narrowed bounds v s)
    from h w l = each (w == v) refl
      where
        each : (b : Bool) → (w == v) ≡ b → Within units (sides_of (narrowed bounds v s) w) (entry ys w)
        each true is = subst (λ u. Within units (sides_of (narrowed bounds v s) u) (entry ys u)) (sym (eqb-true w v is)) (subst (λ t. Within units t (entry ys v)) (sym here) ((meet-is (sides_of bounds v) s units (entry ys v)).1 (h.0 v lt, h.1)))
        each false is = subst (λ t. Within units t (entry ys w)) (sym (narrowed-other bounds v w s (eqb-false w v is))) (h.0 w l)

-- random variables have no sides: their bounds are rows
abbrev pub Unbounded : Variables → List RowSides → Type 0
Unbounded vars bounds = (v : ℕ) → slice_get vars.uses.roles v ≡ Some Random → sides_of bounds v ≡ no_sides

-- ---- one constraint more

each-more : {A : Type 0} (P : A → Type 0) (xs : List A) (x : A) → AllByRecursion P (xs ++ x ∷ []) ↔ (AllByRecursion P xs × P x)
each-more P [] x = (λ h. (tt, h.0), λ h. (h.1, tt))
each-more P (z ∷ zs) x = let tail = each-more P zs x in (λ h. ((h.0, (tail.0 h.1).0), (tail.0 h.1).1), λ h. (h.0.0, tail.1 (h.0.1, h.1)))

-- the bounded variable is the one variable of the function, and not random
bounded-is : (roles : List Role) (o : Option ℕ) (v : ℕ) → bounded roles o ≡ Some v → (o ≡ Some v) × (slice_get roles v ≡ Some Random → ⊥)
unfolding bounded
bounded-is roles None v e = cc
bounded-is roles (Some w) v e = by (is_random (slice_get roles w)) refl e
  where
    by : (b : Bool) → is_random (slice_get roles w) ≡ b → (if b then None else Some w) ≡ Some v → (Some w ≡ Some v) × (slice_get roles v ≡ Some Random → ⊥)
    by true is e = cc
    by false is e = (e, λ h. true≢false (sym (ap is_random (ap (slice_get roles) (same_Some w v e) ∙ h)) ∙ is))

-- a row's value lies between its sides
abbrev pub Holds : Variables → ℕ → List ℤ → Row → Type 0
Holds vars units ys row = Between units row.low row.high (row_sum vars ys row)

-- the constraints found so far are kept where those said so far are
pub record Kept (vars : Variables) (found : Constraints) (cs : List Constraint) : Type 0 where
  pub long : length found.bounds ≡ length vars.names
  pub free : Unbounded vars found.bounds
  pub same : (units : ℕ) (y : Numbers) → AllByRecursion (λ (c : Constraint). c units y ≡ true) cs ↔ (Bounded units (map y vars.names) found.bounds × AllByRecursion (Holds vars units (map y vars.names)) found.rows)

-- one constraint more: a function f that the file says to be F, and sides that hold what lies in its set
pub joined-kept : (vars : Variables) → Split vars → (at : Place) (found next : Constraints) (f : functions.Function) (sides : RowSides) (F : Function) (s : ℕ → ℤ → Bool) (cs : List Constraint)
    → FunctionSaid vars.names f F → ((units : ℕ) (z : ℤ) → (s units z ≡ true) ↔ Within units sides z)
    → joined_at vars at found f sides (bounded vars.uses.roles f.single) ≡ Ok next → Kept vars found cs → Kept vars next (cs ++ (λ units y. s units (F units y)) ∷ [])
unfolding joined_at row_of
joined-kept vars split at found next f sides F s cs says set e k = by (bounded vars.uses.roles f.single) refl e
  where
    c : Constraint
    c = λ units y. s units (F units y)

    by : (o : Option ℕ) → bounded vars.uses.roles f.single ≡ o → joined_at vars at found f sides o ≡ Ok next → Kept vars next (cs ++ c ∷ [])
    by (Some v) is e =
        let which = bounded-is vars.uses.roles f.single v is in
        let one = says.single v which.0 in
        subst (λ n. Kept vars n (cs ++ c ∷ [])) (Ok-is _ next e) (record {
          long = narrowed-long found.bounds v sides ∙ k.long;
          free = λ w random. narrowed-other found.bounds v w sides (λ same. which.1 (ap (slice_get vars.uses.roles) (sym same) ∙ random)) ∙ k.free w random;
          same = λ units y.
              let ys : List ℤ = map y vars.names in
              let more = bounded-more units ys found.bounds v sides (omega (arith, one.0, length-map vars.names y)) (k.long ∙ sym (length-map vars.names y)) in
              let last = each-more (λ (c : Constraint). c units y ≡ true) cs c in
              let here = set units (F units y) in (
                λ h. let a = (k.same units y).0 (last.0 h).0 in (more.1 (a.0, subst (Within units sides) (one.1 units y) (here.0 (last.0 h).1)), a.1),
                λ h. let b = more.0 h.0 in last.1 ((k.same units y).1 (b.0, h.1), here.1 (subst (Within units sides) (sym (one.1 units y)) b.1)),
              );
        })
    by None is e =
        then-Ok (shifted_at _ _ _) _ next e (λ shifted is_shifted e.
        let row : Row = row_of vars f.coefficients shifted in
        subst (λ n. Kept vars n (cs ++ c ∷ [])) (Ok-is _ next e) (record {
          long = k.long;
          free = k.free;
          same = λ units y.
              let ys : List ℤ = map y vars.names in
              let value = row-is vars split ys f.coefficients shifted (length-map vars.names y) in
              let last = each-more (λ (c : Constraint). c units y ≡ true) cs c in
              let rows = each-more (Holds vars units ys) found.rows row in
              let here = set units (F units y) in
              let moved = shift-is at f.constant sides shifted is_shifted units (dot f.coefficients ys) in (
                λ h. let a = (k.same units y).0 (last.0 h).0 in (a.0, rows.1 (a.1, subst (Within units shifted) (sym value) (moved.0 (subst (Within units sides) (says.value units y) (here.0 (last.0 h).1))))),
                λ h. let b = rows.0 h.1 in last.1 ((k.same units y).1 (h.0, b.0), here.1 (subst (Within units sides) (sym (says.value units y)) (moved.1 (subst (Within units shifted) value b.1)))),
              );
        }))

-- The rows of the constraints that were read fit their subproblem, and the bounds are small.
use Rattle.std.proofs.Common.{◌≡◌, ◌≤◌, ◌<◌, ◌+◌, ◌==◌, ℕ, zero, suc, ℤ, pos, List, [], ◌∷◌, length, replicate, map, Bool, true, false, ◌&&◌, not, nat_le, nat_lt, slice_get, slice_set, Option, Some, None, Ok, unsigned_abs, if◌then◌else◌, refl, sym, subst, ◌∙◌, arith}
use Rattle.std.specs.List.{list_all, AllByRecursion}
use Rattle.std.specs.Ordering.{int_eq}
use Rattle.std.proofs.lemmas.Bool.{and_from, le-leb, lt-ltb, eqb-true, true≢false}
use Rattle.std.proofs.lemmas.Bool.Decides.{Decides-int_eq}
use Rattle.std.proofs.lemmas.Int.{ints}
use Rattle.std.proofs.lemmas.List.{length-map}
use Rattle.std.proofs.lemmas.Option.{same_Some}
use Rattle.serde_json.specs.Data.{Data, Items}
use Rattle.serde_json.specs.Events.{items_len}
use Rattle.base_num.specs.Sums.{entry}
use Rattle.base_num.proofs.Tests.{and_first, and_second}
use Rattle.problem.specs.Limits.{is_small, are_small, term_fits, terms_fit, row_fits}
use Rattle.problem.specs.declared.parts.Row.{Row}
use Rattle.problem.specs.declared.parts.Subproblem.{Subproblem}
use Rattle.problem.specs.declared.refusal.Place.{Place}
use Rattle.read_json.specs.Fields.{present_at, object_at}
use Rattle.read_json.proofs.Accepted.{then-Ok, Ok-is, list_all-push, walk_items-Ok}
use Rattle.read_stage.specs.declared.variables.Variables.{Variables}
use Rattle.read_stage.specs.declared.function.Function.{Function}
use Rattle.read_stage.specs.declared.sides.RowSides.{RowSides}
use Rattle.read_stage.specs.declared.constraint.Constraints.{Constraints}
use Rattle.read_stage.specs.Function.{function_at}
use Rattle.read_stage.specs.Sides.{no_sides, set_at, shifted_at}
use Rattle.read_stage.specs.Rows.{picked_coefficients, terms_from, row_of}
use Rattle.read_stage.specs.Constraint.{narrowed_by, narrowed, joined_at, constraint_at, no_constraints, constraints_at}
use Rattle.read_stage.proofs.SmallFunctions.{function_at-small}
use Rattle.read_stage.proofs.SidesFit.{SidesFit, AreBounds, set_at-fits, shifted_at-fits, SidesFit-bounds, intersection-bounds}

-- ---- the terms of a row

pub entry-small : (xs : List ℤ) (k : ℕ) → are_small xs ≡ true → is_small (entry xs k) ≡ true
entry-small [] k e = refl
entry-small (x ∷ xs) zero e = and_first (is_small x) (are_small xs) e
entry-small (x ∷ xs) (suc k) e = entry-small xs k (and_second (is_small x) (are_small xs) e)

pub picked_coefficients-small : (vs : List ℕ) (xs : List ℤ) → are_small xs ≡ true → are_small (picked_coefficients vs xs) ≡ true
unfolding picked_coefficients
picked_coefficients-small [] xs e = refl
picked_coefficients-small (v ∷ vs) xs e = and_from (is_small (entry xs v)) (are_small (map (entry xs) vs)) (entry-small xs v e) (picked_coefficients-small vs xs e)

pub length-picked_coefficients : (vs : List ℕ) (xs : List ℤ) → length (picked_coefficients vs xs) ≡ length vs
unfolding picked_coefficients
length-picked_coefficients vs xs = length-map vs (entry xs)

not_zero : (x : ℤ) → int_eq x (pos 0) ≡ false → not (unsigned_abs x == 0) ≡ true
not_zero x e = by (unsigned_abs x == 0) refl
  where
    by : (t : Bool) → (unsigned_abs x == 0) ≡ t → not t ≡ true
    by true h =
        let zero_is : x ≡ pos 0 = omega (arith, ints, eqb-true (unsigned_abs x) 0 h) in
        absurd (true≢false (sym ((Decides-int_eq x (pos 0)).1 zero_is) ∙ e))
    by false h = refl

kept_fits : (count least k : ℕ) (x : ℤ) → least ≤ k → k < count → is_small x ≡ true → int_eq x (pos 0) ≡ false → term_fits count least (k, x) ≡ true
kept_fits count least k x le lt small some =
    and_from (nat_le least k && nat_lt k count && is_small x) (not (unsigned_abs x == 0))
    (and_from (nat_le least k && nat_lt k count) (is_small x) (and_from (nat_le least k) (nat_lt k count) (le-leb least k le) (lt-ltb k count lt)) small)
    (not_zero x some)

terms_from-fit : (count least k : ℕ) (xs : List ℤ) → least ≤ k → k + length xs ≡ count → are_small xs ≡ true → terms_fit count least (terms_from k xs) ≡ true
terms_from-fit count least k [] le is small = refl
terms_from-fit count least k (x ∷ xs) le is small =
    let tail = and_second (is_small x) (are_small xs) small in
    by (int_eq x (pos 0)) refl (terms_from-fit count least (k + 1) xs (omega arith) (omega arith) tail) (terms_from-fit count (k + 1) (k + 1) xs (omega arith) (omega arith) tail)
  where
    more : List (ℕ × ℤ)
    more = terms_from (k + 1) xs

    by : (b : Bool) → int_eq x (pos 0) ≡ b → terms_fit count least more ≡ true → terms_fit count (k + 1) more ≡ true → terms_fit count least (if b then more else (k, x) ∷ more) ≡ true
    by true e skipped kept = skipped
    by false e skipped kept = and_from (term_fits count least (k, x)) (terms_fit count (k + 1) more) (kept_fits count least k x le (omega arith) (and_first (is_small x) (are_small xs) small) e) kept

row_terms : (count : ℕ) (vs : List ℕ) (xs : List ℤ) → length vs ≡ count → are_small xs ≡ true → terms_fit count 0 (terms_from 0 (picked_coefficients vs xs)) ≡ true
row_terms count vs xs is small = terms_from-fit count 0 0 (picked_coefficients vs xs) (omega arith) (omega (arith, length-picked_coefficients vs xs)) (picked_coefficients-small vs xs small)

-- ---- rows

-- a subproblem of a problem with so many states has the counts of its variables
pub record HasCounts (states : ℕ) (s : Subproblem) (vars : Variables) : Type 0 where
  pub decisions : length vars.decisions ≡ length s.decisions
  pub incoming : length vars.uses.incoming ≡ states
  pub randoms : length vars.uses.randoms ≡ length s.randoms

pub row_of-fits : (states : ℕ) (s : Subproblem) (vars : Variables) (xs : List ℤ) (sides : RowSides) → HasCounts states s vars → are_small xs ≡ true → SidesFit sides → row_fits states s (row_of vars xs sides) ≡ true
unfolding row_of
row_of-fits states s vars xs sides counts small fits =
    rw (fits, row_terms (length s.decisions) vars.decisions xs counts.decisions small, row_terms states vars.uses.incoming xs counts.incoming small, row_terms (length s.randoms) vars.uses.randoms xs counts.randoms small) refl

-- ---- constraints

all_found : {A : Type 0} (P : A → Type 0) (xs : List A) (i : ℕ) (x : A) → AllByRecursion P xs → slice_get xs i ≡ Some x → P x
all_found P [] i x all e = cc
all_found P (y ∷ ys) zero x all e = subst P (same_Some y x e) all.0
all_found P (y ∷ ys) (suc i) x all e = all_found P ys i x all.1 e

all-set : {A : Type 0} (P : A → Type 0) (xs : List A) (i : ℕ) (x : A) → AllByRecursion P xs → P x → AllByRecursion P (slice_set xs i x)
all-set P [] i x all p = tt
all-set P (y ∷ ys) zero x all p = (p, all.1)
all-set P (y ∷ ys) (suc i) x all p = (all.0, all-set P ys i x all.1 p)

all-replicate : {A : Type 0} (P : A → Type 0) (n : ℕ) (x : A) → P x → AllByRecursion P (replicate n x)
all-replicate P zero x p = tt
all-replicate P (suc n) x p = (p, all-replicate P n x p)

narrowed_by-bounds : (o : Option RowSides) (bounds : List RowSides) (v : ℕ) (sides : RowSides) → slice_get bounds v ≡ o → AllByRecursion AreBounds bounds → AreBounds sides → AllByRecursion AreBounds (narrowed_by o bounds v sides)
narrowed_by-bounds None bounds v sides is all p = all
narrowed_by-bounds (Some before) bounds v sides is all p = all-set AreBounds bounds v _ all (intersection-bounds before sides (all_found AreBounds bounds v before all is) p)

narrowed-bounds : (bounds : List RowSides) (v : ℕ) (sides : RowSides) → AllByRecursion AreBounds bounds → AreBounds sides → AllByRecursion AreBounds (narrowed bounds v sides)
unfolding narrowed
narrowed-bounds bounds v sides all p = narrowed_by-bounds (slice_get bounds v) bounds v sides refl all p

-- the bounds are small, and the rows pass a test
pub record Fit (test : Row → Bool) (found : Constraints) : Type 0 where
  pub bounds : AllByRecursion AreBounds found.bounds
  pub rows : list_all test found.rows ≡ true

-- a test that each row of small coefficients between sides in order passes
abbrev pub PassesRows : (Row → Bool) → Variables → Type 0
PassesRows test vars = (xs : List ℤ) (sides : RowSides) → are_small xs ≡ true → SidesFit sides → test (row_of vars xs sides) ≡ true

joined_at-fits : (test : Row → Bool) (vars : Variables) (at : Place) (found next : Constraints) (f : Function) (sides : RowSides) (o : Option ℕ) → PassesRows test vars
    → are_small f.coefficients ≡ true → SidesFit sides → joined_at vars at found f sides o ≡ Ok next → Fit test found → Fit test next
unfolding joined_at
joined_at-fits test vars at found next f sides (Some v) passes small fits e so_far =
    subst (Fit test) (Ok-is _ next e) (record { bounds = narrowed-bounds found.bounds v sides so_far.bounds (SidesFit-bounds sides fits); rows = so_far.rows })
joined_at-fits test vars at found next f sides None passes small fits e so_far =
    then-Ok (shifted_at _ _ _) _ next e (λ shifted is e.
    subst (Fit test) (Ok-is _ next e) (record {
      bounds = so_far.bounds;
      rows = list_all-push test found.rows _ so_far.rows (passes f.coefficients shifted small (shifted_at-fits at f.constant sides shifted fits is));
    }))

constraint_at-fits : (test : Row → Bool) (vars : Variables) (p : ℕ) (found next : Constraints) (i : ℕ) (d : Data) → PassesRows test vars → constraint_at vars p found i d ≡ Ok next → Fit test found → Fit test next
unfolding constraint_at
constraint_at-fits test vars p found next i d passes e so_far =
    then-Ok (present_at _ _) _ next e (λ inner is e.
    then-Ok (object_at _ _) _ next e (λ members is e.
    then-Ok (present_at _ _) _ next e (λ other is e.
    then-Ok (object_at _ _) _ next e (λ others is e.
    then-Ok (function_at _ _ _) _ next e (λ f is_f e.
    then-Ok (set_at _ _) _ next e (λ sides is_sides e.
    joined_at-fits test vars _ found next f sides _ passes (function_at-small _ _ inner f is_f).coefficients (set_at-fits _ other sides is_sides) e so_far))))))

no_constraints-fit : (test : Row → Bool) (n : ℕ) → Fit test (no_constraints n)
no_constraints-fit test n = record { bounds = all-replicate AreBounds n no_sides (record { low = refl; high = refl }); rows = refl }

pub constraints_at-fit : (test : Row → Bool) (vars : Variables) (p : ℕ) (ds : Items) (found : Constraints) → PassesRows test vars → constraints_at vars p ds ≡ Ok found → Fit test found
unfolding constraints_at
constraints_at-fit test vars p ds found passes e =
    walk_items-Ok (λ i found. Fit test found) (constraint_at vars p) (λ found next i d e. constraint_at-fits test vars p found next i d passes e)
    ds _ found 0 (items_len ds) (omega arith) e (no_constraints-fit test (length vars.names))

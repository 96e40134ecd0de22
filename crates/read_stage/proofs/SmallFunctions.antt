-- The coefficients and the constant of a function that was read are small.
use Rattle.std.proofs.Common.{◌≡◌, ℕ, zero, suc, ℤ, pos, List, [], ◌∷◌, length, Bool, true, slice_set, Option, Some, None, Ok, bytes_eq, refl, subst, arith}
use Rattle.std.specs.List.{list_all}
use Rattle.std.proofs.lemmas.Bool.{and_from}
use Rattle.serde_json.specs.Data.{Data}
use Rattle.base_num.proofs.Tests.{and_first, and_second}
use Rattle.problem.specs.Limits.{is_small, are_small}
use Rattle.problem.specs.declared.refusal.Place.{Place}
use Rattle.read_json.specs.Fields.{present_at, string_at, array_at}
use Rattle.read_json.specs.Limits.{known_at, limited_at}
use Rattle.read_json.proofs.Accepted.{then-Ok, Ok-is, test-Ok, either-Ok, EachFrom-any, list_all-push, whole_at-small, limited_at-small, walk_list-Ok}
use Rattle.read_stage.specs.declared.function.Site.{Site}
use Rattle.read_stage.specs.declared.function.Site.TheVariants.{Objective}
use Rattle.read_stage.specs.declared.function.Function.{Function}
use Rattle.read_stage.specs.Function.{zeros, zero_function, single_function, variable_function_at, terms_at, constant_at, coefficient_at, coefficients_at, affine_function_at, function_at}
use Rattle.read_stage.specs.Objective.{costs_at, objective_at}

pub record IsSmall (f : Function) : Type 0 where
  pub coefficients : are_small f.coefficients ≡ true
  pub constant : is_small f.constant ≡ true

zeros-small : (n : ℕ) → are_small (zeros n) ≡ true
zeros-small zero = refl
zeros-small (suc n) = zeros-small n

-- one entry that passes a test in the place of another
list_all-set : {A : Type 0} (test : A → Bool) (xs : List A) (i : ℕ) (x : A) → list_all test xs ≡ true → test x ≡ true → list_all test (slice_set xs i x) ≡ true
list_all-set test [] i x h e = refl
list_all-set test (y ∷ ys) zero x h e = and_from (test x) (list_all test ys) e (and_second (test y) (list_all test ys) h)
list_all-set test (y ∷ ys) (suc i) x h e = and_from (test y) (list_all test (slice_set ys i x)) (and_first (test y) (list_all test ys) h) (list_all-set test ys i x (and_second (test y) (list_all test ys) h) e)

zero_function-small : (n : ℕ) → IsSmall (zero_function n)
zero_function-small n = record { coefficients = zeros-small n; constant = refl }

single_function-small : (n v : ℕ) → IsSmall (single_function n v)
single_function-small n v = record { coefficients = list_all-set is_small (zeros n) v (pos 1) (zeros-small n) refl; constant = refl }

variable_function_at-small : (names : List (List ℕ)) (at : Place) (d : Data) (f : Function) → variable_function_at names at d ≡ Ok f → IsSmall f
unfolding variable_function_at
variable_function_at-small names at d f e =
    then-Ok (present_at at _) _ f e (λ inner is e.
    then-Ok (string_at at _) _ f e (λ name is e.
    then-Ok (known_at at _) _ f e (λ v is e.
    subst IsSmall (Ok-is _ f e) (single_function-small _ v))))

coefficients_at-small : (at : Place) (sums found : List ℤ) → coefficients_at at sums ≡ Ok found → are_small found ≡ true
unfolding coefficients_at coefficient_at
coefficients_at-small at sums found e =
    walk_list-Ok (λ i xs. are_small xs ≡ true) (λ i x. Unit {0}) (λ xs i sum. coefficient_at at xs sum) each sums [] found 0 (length sums) (omega arith) (EachFrom-any 0 sums) e refl
  where
    each : (xs next : List ℤ) (i : ℕ) (sum : ℤ) → Unit {0} → coefficient_at at xs sum ≡ Ok next → are_small xs ≡ true → are_small next ≡ true
    each xs next i sum any step small =
        then-Ok (limited_at at sum) _ next step (λ z is e.
        subst (λ ys. are_small ys ≡ true) (Ok-is _ next e) (list_all-push is_small xs z small (limited_at-small at sum z is)))

constant_at-small : (at : Place) (o : Option Data) (z : ℤ) → constant_at at o ≡ Ok z → is_small z ≡ true
unfolding constant_at
constant_at-small at None z e = subst (λ x. is_small x ≡ true) (Ok-is (pos 0) z e) refl
constant_at-small at (Some d) z e = whole_at-small at d z e

affine_function_at-small : (names : List (List ℕ)) (site : Site) (d : Data) (f : Function) → affine_function_at names site d ≡ Ok f → IsSmall f
unfolding affine_function_at
affine_function_at-small names site d f e =
    then-Ok (present_at _ _) _ f e (λ inner is e.
    then-Ok (array_at _ _) _ f e (λ terms is e.
    then-Ok (terms_at _ _ _) _ f e (λ sums is e.
    then-Ok (constant_at _ _) _ f e (λ constant is_constant e.
    then-Ok (coefficients_at _ _) _ f e (λ coefficients is e.
    subst IsSmall (Ok-is _ f e) (record { coefficients = coefficients_at-small _ sums coefficients is; constant = constant_at-small _ _ constant is_constant }))))))

pub function_at-small : (names : List (List ℕ)) (site : Site) (d : Data) (f : Function) → function_at names site d ≡ Ok f → IsSmall f
unfolding function_at
function_at-small names site d f e =
    then-Ok (present_at _ _) _ f e (λ inner is e.
    then-Ok (string_at _ _) _ f e (λ kind is e.
    either-Ok (bytes_eq kind _) _ _ f e (λ e. variable_function_at-small names _ d f e) (λ e. affine_function_at-small names site d f (test-Ok (bytes_eq kind _) _ _ _ f e).1)))

costs_at-small : (names : List (List ℕ)) (p : ℕ) (d : Data) (f : Function) → costs_at names p d ≡ Ok f → IsSmall f
unfolding costs_at
costs_at-small names p d f e = then-Ok (present_at _ _) _ f e (λ inner is e. function_at-small names (Objective p) inner f e)

pub objective_at-small : (names : List (List ℕ)) (p : ℕ) (d : Data) (f : Function) → objective_at names p d ≡ Ok f → IsSmall f
unfolding objective_at
objective_at-small names p d f e =
    then-Ok (present_at _ _) _ f e (λ inner is e.
    then-Ok (string_at _ _) _ f e (λ sense is e.
    either-Ok (bytes_eq sense _) _ _ f e (λ e. costs_at-small names p d f e) (λ e. subst IsSmall (Ok-is _ f (test-Ok (bytes_eq sense _) _ _ _ f e).1) (zero_function-small _))))

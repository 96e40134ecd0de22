-- The function that the reader gives has the value that the file says.
use Rattle.std.proofs.Common.{◌≡◌, ℕ, zero, suc, ◌<◌, ℤ, pos, ◌+ℤ◌, ◌*ℤ◌, List, [], ◌∷◌, ◌++◌, length, map, slice_set, Option, Some, Ok, position, codes, bytes_eq, refl, sym, ap, subst, ◌∙◌, arith}
use Rattle.std.proofs.lemmas.List.{append-nil, append_assoc, length-set, length-replicate, length-map}
use Rattle.serde_json.specs.Data.{Data}
use Rattle.base_num.specs.Sums.{total, dot, entry}
use Rattle.base_num.proofs.Ring.{ring, var, num, ◌⊕◌, ◌⊗◌}
use Rattle.problem.specs.declared.refusal.Place.{Place}
use Rattle.read_json.specs.Steps.{walk_list}
use Rattle.read_json.specs.Fields.{present_at, string_at, array_at}
use Rattle.read_json.specs.Limits.{known_at, limited_at}
use Rattle.read_json.proofs.Accepted.{then-Ok, Ok-is, known_at-Ok, limited_at-is}
use Rattle.read_json.proofs.Answered.{step-Ok}
use Rattle.read_json.proofs.Distinct.{name_of, found-name}
use Rattle.read_profile.specs.File as file
use Rattle.read_profile.specs.File.{Name, Numbers, affine_of, variable_of, function_of, objective_of}
use Rattle.read_stage.specs.declared.function.Site.{Site}
use Rattle.read_stage.specs.declared.function.Site.TheVariants.{Objective}
use Rattle.read_stage.specs.declared.function.Function.{Function}
use Rattle.read_stage.specs.Function.{zeros, zero_function, variable_function_at, terms_at, constant_at, coefficient_at, coefficients_at, affine_function_at, function_at}
use Rattle.read_stage.specs.Objective.{costs_at, objective_at}
use Rattle.read_stage.proofs.FileSays.{present-says, string-says, array-says, constant-says, chosen}
use Rattle.read_stage.proofs.FileTerms.{dot_zeros, entry_map, terms-say}

-- F has the value of f at the numbers of the variables, and is the one variable that f is, where f is one
pub record FunctionSaid (names : List Name) (f : Function) (F : file.Function) : Type 0 where
  pub value : (units : ℕ) (y : Numbers) → F units y ≡ dot f.coefficients (map y names) +ℤ pos units *ℤ f.constant
  pub single : (v : ℕ) → f.single ≡ Some v → (v < length names) × ((units : ℕ) (y : Numbers) → F units y ≡ entry (map y names) v)
  pub long : length f.coefficients ≡ length names

-- a function is said, and it is f
abbrev pub SaysFunction : List Name → Function → Option file.Function → Type 0
SaysFunction names f o = (F : file.Function) × (o ≡ Some F) × FunctionSaid names f F

-- ---- one variable

dot_single : (n v : ℕ) (ys : List ℤ) → v < n → length ys ≡ n → dot (slice_set (zeros n) v (pos 1)) ys ≡ entry ys v
dot_single zero v ys lt e = absurd (omega arith)
dot_single (suc n) v [] lt e = absurd (omega arith)
dot_single (suc n) zero (y ∷ ys) lt e = ap (λ k. pos 1 *ℤ y +ℤ k) (dot_zeros n ys) ∙ ring (y ∷ []) (num (pos 1) ⊗ var 0 ⊕ num (pos 0)) (var 0) tt
dot_single (suc n) (suc v) (y ∷ ys) lt e = ap (λ k. pos 0 *ℤ y +ℤ k) (dot_single n v ys (omega arith) (omega arith)) ∙ ring (y ∷ entry ys v ∷ []) (num (pos 0) ⊗ var 0 ⊕ var 1) (var 1) tt

-- without a constant
no_constant : (z units : ℤ) → z ≡ z +ℤ units *ℤ pos 0
no_constant z units = ring (z ∷ units ∷ []) (var 0) (var 0 ⊕ var 1 ⊗ num (pos 0)) tt

variable-says : (names : List Name) (at : Place) (d : Data) (f : Function) → variable_function_at names at d ≡ Ok f → SaysFunction names f (variable_of d)
unfolding variable_function_at variable_of name_of
variable-says names at d f e =
    then-Ok (present_at _ _) _ f e (λ inner is_inner e.
    then-Ok (string_at _ _) _ f e (λ name is_name e.
    then-Ok (known_at _ _) _ f e (λ v is_v e.
    let there = found-name names name v (known_at-Ok _ (position (bytes_eq name) names) v is_v) in
    let one : (y : Numbers) → y name ≡ entry (map y names) v = λ y. sym (entry_map y names v there.0 ∙ ap y there.1) in (
      (λ units y. y name),
      rw (present-says _ _ inner is_inner, string-says _ inner name is_name) refl,
      subst (λ g. FunctionSaid names g (λ units y. y name)) (Ok-is _ f e) (record {
        value = λ units y. one y ∙ sym (dot_single (length names) v (map y names) there.0 (length-map names y)) ∙ no_constant _ (pos units);
        single = λ w is. let same : v ≡ w = cc in subst (λ w. (w < length names) × ((units : ℕ) (y : Numbers) → y name ≡ entry (map y names) w)) same (there.0, λ units y. one y);
        long = length-set (zeros (length names)) v (pos 1) ∙ length-replicate (length names) (pos 0);
      }),
    ))))

-- ---- terms and a constant

-- the limit changes nothing
coefficients-walk : (at : Place) (sums found all : List ℤ) (i : ℕ) → walk_list (λ found i sum. coefficient_at at found sum) found i sums ≡ Ok all → found ++ sums ≡ all
unfolding walk_list coefficient_at
coefficients-walk at [] found all i e = append-nil found ∙ Ok-is found all e
coefficients-walk at (s ∷ ss) found all i e =
    let first = step-Ok _ _ all e in
    then-Ok (limited_at at s) _ first.0 first.1 (λ z is e.
    sym (append_assoc found (s ∷ []) ss) ∙ ap (λ (xs : List ℤ). xs ++ ss) (ap (λ t. found ++ t ∷ []) (limited_at-is at s z is) ∙ Ok-is _ first.0 e) ∙ coefficients-walk at ss first.0 all (suc i) first.2)

coefficients-are : (at : Place) (sums found : List ℤ) → coefficients_at at sums ≡ Ok found → sums ≡ found
unfolding coefficients_at
coefficients-are at sums found e = coefficients-walk at sums [] found 0 e

affine-says : (names : List Name) (site : Site) (d : Data) (f : Function) → affine_function_at names site d ≡ Ok f → SaysFunction names f (affine_of d)
unfolding affine_function_at affine_of
affine-says names site d f e =
    then-Ok (present_at _ _) _ f e (λ inner is_inner e.
    then-Ok (array_at _ _) _ f e (λ terms is_terms e.
    then-Ok (terms_at _ _ _) _ f e (λ sums is_sums e.
    then-Ok (constant_at _ _) _ f e (λ constant is_constant e.
    then-Ok (coefficients_at _ _) _ f e (λ coefficients are e.
    let said = terms-say names site terms sums is_sums in
    let same : sums ≡ coefficients = coefficients-are _ sums coefficients are in
    let F : file.Function = λ units y. total (λ (t : Numbers → ℤ). t y) said.0 +ℤ pos units *ℤ constant in (
      F,
      rw (present-says _ _ inner is_inner, array-says _ inner terms is_terms, said.1, constant-says _ _ constant is_constant) refl,
      subst (λ g. FunctionSaid names g F) (Ok-is _ f e) (record {
        value = λ units y. ap (λ k. k +ℤ pos units *ℤ constant) (sym (said.3 y) ∙ ap (λ xs. dot xs (map y names)) same);
        single = λ v is. absurd cc;
        long = ap length (sym same) ∙ said.2;
      }),
    ))))))

pub function-says : (names : List Name) (site : Site) (d : Data) (f : Function) → function_at names site d ≡ Ok f → SaysFunction names f (function_of d)
unfolding function_at function_of
function-says names site d f e =
    then-Ok (present_at _ _) _ f e (λ inner is_inner e.
    then-Ok (string_at _ _) _ f e (λ kind is_kind e.
    rw (present-says _ _ inner is_inner, string-says _ inner kind is_kind)
    (chosen (SaysFunction names f) (bytes_eq kind (codes "Variable")) _ _ f _ _ e (λ e. variable-says names _ d f e) (λ e.
    chosen (SaysFunction names f) (bytes_eq kind (codes "ScalarAffineFunction")) _ _ f _ _ e (λ e. affine-says names site d f e) (λ e. absurd cc)))))

-- ---- what a stage costs

zero-says : (names : List Name) → FunctionSaid names (zero_function (length names)) (λ units y. pos 0)
zero-says names = record {
  value = λ units y. sym (dot_zeros (length names) (map y names)) ∙ no_constant _ (pos units);
  single = λ v is. absurd cc;
  long = length-replicate (length names) (pos 0);
}

costs-say : (names : List Name) (p : ℕ) (d : Data) (f : Function) → costs_at names p d ≡ Ok f → SaysFunction names f (file.under (codes "function") function_of d)
unfolding costs_at
costs-say names p d f e =
    then-Ok (present_at _ _) _ f e (λ inner is_inner e.
    rw (present-says _ _ inner is_inner) (function-says names (Objective p) inner f e))

pub objective-says : (names : List Name) (p : ℕ) (d : Data) (f : Function) → objective_at names p d ≡ Ok f → SaysFunction names f (objective_of d)
unfolding objective_at objective_of
objective-says names p d f e =
    then-Ok (present_at _ _) _ f e (λ inner is_inner e.
    then-Ok (string_at _ _) _ f e (λ sense is_sense e.
    rw (present-says _ _ inner is_inner, string-says _ inner sense is_sense)
    (chosen (SaysFunction names f) (bytes_eq sense (codes "min")) _ _ f _ _ e (λ e. costs-say names p d f e) (λ e.
    chosen (SaysFunction names f) (bytes_eq sense (codes "feasibility")) _ _ f _ _ e (λ e. ((λ units y. pos 0), refl, subst (λ g. FunctionSaid names g (λ units y. pos 0)) (Ok-is _ f e) (zero-says names))) (λ e. absurd cc)))))

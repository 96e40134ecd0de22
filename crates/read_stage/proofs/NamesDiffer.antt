-- No two decisions and random variables of a subproblem have the same name.
use Rattle.std.proofs.Common.{◌≡◌, ◌<◌, ◌≤◌, ◌+◌, ◌==◌, ℕ, zero, suc, List, [], ◌∷◌, length, map, Bool, true, false, not, if◌then◌else◌, bytes_eq, refl, sym, subst, arith}
use Rattle.std.specs.List.{AllByRecursion, IsDistinct, list_all, list_any}
use Rattle.std.proofs.lemmas.Bool.{and_from, ne_eqb}
use Rattle.std.proofs.lemmas.Option.{same_Some, slice_get_within}
use Rattle.base_num.proofs.Tests.{all_at}
use Rattle.problem.specs.Limits.{is_name}
use Rattle.read_stage.specs.declared.role.Role.{Role}
use Rattle.read_stage.specs.declared.role.Role.TheVariants.{Random}
use Rattle.read_stage.specs.Decisions.{is_decision, decisions_from}
use Rattle.read_json.proofs.Distinct.{each-weaker, each-map, none-of, distinct-image, name_of, names-apart}
use Rattle.read_stage.proofs.UsesFit.{HasRole}

-- ---- the numbers of the decisions

-- each is at least the first variable's
pub decisions_from-above : (k : ℕ) (roles : List Role) → AllByRecursion (λ w. k ≤ w) (decisions_from k roles)
decisions_from-above k [] = tt
decisions_from-above k (r ∷ rs) = by (is_decision r) (each-weaker (λ w. k + 1 ≤ w) (λ w. k ≤ w) (decisions_from (k + 1) rs) (λ w h. omega (arith, h)) (decisions_from-above (k + 1) rs))
  where
    by : (b : Bool) → AllByRecursion (λ w. k ≤ w) (decisions_from (k + 1) rs) → AllByRecursion (λ w. k ≤ w) (if b then k ∷ decisions_from (k + 1) rs else decisions_from (k + 1) rs)
    by true more = (omega arith, more)
    by false more = more

pub decisions_from-below : (k n : ℕ) (roles : List Role) → k + length roles ≤ n → AllByRecursion (λ w. w < n) (decisions_from k roles)
decisions_from-below k n [] within = tt
decisions_from-below k n (r ∷ rs) within = by (is_decision r) (decisions_from-below (k + 1) n rs (omega (arith, within)))
  where
    by : (b : Bool) → AllByRecursion (λ w. w < n) (decisions_from (k + 1) rs) → AllByRecursion (λ w. w < n) (if b then k ∷ decisions_from (k + 1) rs else decisions_from (k + 1) rs)
    by true more = (omega (arith, within), more)
    by false more = more

later : (k : ℕ) (rs : List Role) → AllByRecursion (λ w. (k == w) ≡ false) (decisions_from (k + 1) rs)
later k rs = each-weaker (λ w. k + 1 ≤ w) (λ w. (k == w) ≡ false) (decisions_from (k + 1) rs) (λ w h. ne_eqb k w (λ e. omega (arith, h, e))) (decisions_from-above (k + 1) rs)

pub decisions_from-differ : (k : ℕ) (roles : List Role) → IsDistinct (λ a b. a == b) (decisions_from k roles)
unfolding IsDistinct
decisions_from-differ k [] = tt
decisions_from-differ k (r ∷ rs) = by (is_decision r) (decisions_from-differ (k + 1) rs)
  where
    by : (b : Bool) → IsDistinct (λ a b. a == b) (decisions_from (k + 1) rs) → IsDistinct (λ a b. a == b) (if b then k ∷ decisions_from (k + 1) rs else decisions_from (k + 1) rs)
    by true more = (later k rs, more)
    by false more = more

-- a random variable is none of them, where the first role is that of variable k
random-apart : (roles : List Role) (k v j : ℕ) → k + v ≡ j → HasRole roles Random v → AllByRecursion (λ w. (w == j) ≡ false) (decisions_from k roles)
random-apart [] k v j is has = tt
random-apart (r ∷ rs) k zero j is has =
    subst (λ r. AllByRecursion (λ w. (w == j) ≡ false) (decisions_from k (r ∷ rs))) (sym (same_Some r Random has))
    (each-weaker (λ w. k + 1 ≤ w) (λ w. (w == j) ≡ false) (decisions_from (k + 1) rs) (λ w h. ne_eqb w j (λ e. omega (arith, h, e, is))) (decisions_from-above (k + 1) rs))
random-apart (r ∷ rs) k (suc v) j is has = by (is_decision r) (random-apart rs (k + 1) v j (omega arith) has)
  where
    by : (b : Bool) → AllByRecursion (λ w. (w == j) ≡ false) (decisions_from (k + 1) rs) → AllByRecursion (λ w. (w == j) ≡ false) (if b then k ∷ decisions_from (k + 1) rs else decisions_from (k + 1) rs)
    by true more = (ne_eqb k j (λ e. omega (arith, is, e)), more)
    by false more = more

-- ---- the names of some variables

-- a property of each pair, taken the other way round
turned : {A B : Type 0} (R : A → B → Type 0) (xs : List A) (ys : List B) → AllByRecursion (λ y. AllByRecursion (λ x. R x y) xs) ys → AllByRecursion (λ x. AllByRecursion (R x) ys) xs
turned R [] ys all = tt
turned {A} R (x ∷ xs) ys all = (
  each-weaker (λ y. R x y × AllByRecursion (λ x. R x y) xs) (R x) ys (λ y h. h.0) all,
  turned R xs ys (each-weaker (λ y. R x y × AllByRecursion (λ x. R x y) xs) (λ y. AllByRecursion (λ x. R x y) xs) ys (λ y h. h.1) all),
)

pub names-differ : (names : List (List ℕ)) (vs : List ℕ) → IsDistinct bytes_eq names → AllByRecursion (λ v. v < length names) vs → IsDistinct (λ a b. a == b) vs → IsDistinct bytes_eq (map (name_of names) vs)
names-differ names vs differ within apart = distinct-image (λ a b. a == b) bytes_eq (name_of names) (λ v. v < length names) (λ v w one other e. names-apart names v w differ one other e) vs within apart

pub are-names : (names : List (List ℕ)) (vs : List ℕ) → list_all is_name names ≡ true → AllByRecursion (λ v. v < length names) vs → list_all is_name (map (name_of names) vs) ≡ true
unfolding name_of
are-names names [] all within = refl
are-names names (v ∷ vs) all within = and_from (is_name (name_of names v)) (list_all is_name (map (name_of names) vs)) (all_at is_name names v [] all within.0) (are-names names vs all within.1)

-- each of some names is none of the others
none-among : (names : List (List ℕ)) (vs ws : List ℕ) → IsDistinct bytes_eq names → AllByRecursion (λ v. v < length names) vs → AllByRecursion (λ w. w < length names) ws → AllByRecursion (λ v. AllByRecursion (λ w. (v == w) ≡ false) ws) vs
    → list_all (λ n. not (list_any (bytes_eq n) (map (name_of names) ws))) (map (name_of names) vs) ≡ true
none-among names [] ws differ within_v within_w apart = refl
none-among names (v ∷ vs) ws differ within_v within_w apart =
    let none : list_any (bytes_eq (name_of names v)) (map (name_of names) ws) ≡ false = none-of (bytes_eq (name_of names v)) (map (name_of names) ws) (each-map (name_of names) (λ n. bytes_eq (name_of names v) n ≡ false) ws (other_names ws within_v.0 within_w apart.0)) in
    rw (none, none-among names vs ws differ within_v.1 within_w apart.1) refl
  where
    other_names : (us : List ℕ) → v < length names → AllByRecursion (λ w. w < length names) us → AllByRecursion (λ w. (v == w) ≡ false) us → AllByRecursion (λ w. bytes_eq (name_of names v) (name_of names w) ≡ false) us
    other_names [] here there apart = tt
    other_names (u ∷ us) here there apart = (names-apart names v u differ here there.0 apart.0, other_names us here there.1 apart.1)

within_roles : (roles : List Role) (n : ℕ) (role : Role) (vs : List ℕ) → length roles ≡ n → AllByRecursion (HasRole roles role) vs → AllByRecursion (λ v. v < n) vs
within_roles roles n role vs long all = each-weaker (HasRole roles role) (λ v. v < n) vs (λ v has. omega (arith, slice_get_within roles v role has, long)) all

-- the names of the decisions and of the random variables are all different
pub record AllDiffer (names : List (List ℕ)) (decisions randoms : List ℕ) : Type 0 where
  pub decisions_differ : IsDistinct bytes_eq (map (name_of names) decisions)
  pub randoms_differ : IsDistinct bytes_eq (map (name_of names) randoms)
  pub apart : list_all (λ n. not (list_any (bytes_eq n) (map (name_of names) randoms))) (map (name_of names) decisions) ≡ true
  pub named : list_all is_name (map (name_of names) randoms) ≡ true

pub all-differ : (names : List (List ℕ)) (roles : List Role) (randoms : List ℕ) → list_all is_name names ≡ true → IsDistinct bytes_eq names → length roles ≡ length names → AllByRecursion (HasRole roles Random) randoms → IsDistinct (λ a b. a == b) randoms
    → AllDiffer names (decisions_from 0 roles) randoms
all-differ names roles randoms named differ long has apart =
    let within_decisions = decisions_from-below 0 (length names) roles (omega (arith, long)) in
    let within_randoms = within_roles roles (length names) Random randoms long has in
    let each = each-weaker (HasRole roles Random) (λ v. AllByRecursion (λ w. (w == v) ≡ false) (decisions_from 0 roles)) randoms (λ v is_random. random-apart roles 0 v v (omega arith) is_random) has in
    record {
      decisions_differ = names-differ names (decisions_from 0 roles) differ within_decisions (decisions_from-differ 0 roles);
      randoms_differ = names-differ names randoms differ within_randoms apart;
      apart = none-among names (decisions_from 0 roles) randoms differ within_decisions within_randoms (turned (λ v w. (v == w) ≡ false) (decisions_from 0 roles) randoms each);
      named = are-names names randoms named within_randoms;
    }

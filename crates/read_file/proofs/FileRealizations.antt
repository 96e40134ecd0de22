-- Realizations, with the values of their random variables.
use Rattle.std.proofs.Common.{◌≡◌, ◌==◌, ℕ, suc, ℤ, List, [], ◌∷◌, ◌++◌, length, map, Bool, true, false, if◌then◌else◌, codes, Option, Some, None, option_map, Result, Ok, nat_le, unsigned_abs, refl, sym, ap, subst, ◌∙◌, arith}
use Rattle.std.proofs.lemmas.Bool.{eqb-true}
use Rattle.std.proofs.lemmas.List.{append-nil, append_assoc}
use Rattle.std.proofs.lemmas.Option.{same_Some}
use Rattle.serde_json.specs.Data.{Data, Items, no_items, item, Members}
use Rattle.serde_json.specs.Events.{items_len}
use Rattle.serde_json.specs.Find.{get, get_member}
use Rattle.problem.specs.declared.refusal.Part.{Part}
use Rattle.problem.specs.declared.refusal.Part.TheVariants as part_kinds
use Rattle.problem.specs.declared.refusal.Place.{Place}
use Rattle.problem.specs.declared.refusal.Refusal.{Refusal}
use Rattle.problem.specs.declared.refusal.RefusalKind.TheVariants as kinds
use Rattle.read_json.specs.Steps.{walk_list}
use Rattle.read_json.specs.Fields.{place, whole_at, weight_at, present_at, object_at}
use Rattle.read_json.specs.Limits.{members_at}
use Rattle.read_json.proofs.Accepted.{then-Ok, Ok-is, test-Ok}
use Rattle.read_json.proofs.Answered.{step-Ok}
use Rattle.read_profile.specs.File.{FileRealization, ◌>>=◌, under, whole_number, each, realization_of, or_certain}
use Rattle.read_stage.proofs.FileSays.{present-says, whole_number-says, members-say}
use Rattle.read_stage.proofs.FileEach.{walk_items-says}
use Rattle.read_file.specs.declared.realizations.Realizations.{Realizations}
use Rattle.read_file.specs.Values.{random_value_at, values_at}
use Rattle.read_file.specs.Realizations.{at_node, no_realizations, realization_at, certain_at, listed_at, realizations_at}
use Rattle.read_file.specs.Said.{Together, RealizationSaid}
use Rattle.read_file.proofs.FileWeights.{weight-says}
use Rattle.read_file.proofs.FileFound.{alike, under-object}
use Rattle.read_file.proofs.FileSuccessors.{together-push}

-- ---- values

value-says : (p : Place) (support : Members) (found next : List ℤ) (name : List ℕ) → random_value_at p support found name ≡ Ok next → (z : ℤ) × (next ≡ found ++ z ∷ []) × ((get_member name support >>= whole_number) ≡ Some z)
unfolding random_value_at
value-says p support found next name e =
    then-Ok (present_at _ _) _ next e (λ inner is_inner e.
    then-Ok (whole_at _ _) _ next e (λ z is_z e.
    (z, sym (Ok-is _ next e), ap (λ o. o >>= whole_number) (present-says p (get_member name support) inner is_inner) ∙ whole_number-says p inner z is_z)))

step : Part → ℕ → ℕ → Members → List ℤ → ℕ → List ℕ → Result (List ℤ) Refusal
step part a b support found i name = random_value_at (place part a b i) support found name

values-go : (part : Part) (a b : ℕ) (support : Members) (names : List (List ℕ)) (found all : List ℤ) (i : ℕ) → walk_list (step part a b support) found i names ≡ Ok all
    → (zs : List ℤ) × (all ≡ found ++ zs) × (map (λ v. get_member v support >>= whole_number) names ≡ map Some zs)
unfolding walk_list step
values-go part a b support [] found all i e = ([], sym (append-nil found ∙ Ok-is found all e), refl)
values-go part a b support (name ∷ names) found all i e =
    let first = step-Ok _ _ all e in
    let one = value-says (place part a b i) support found first.0 name first.1 in
    let tail = values-go part a b support names first.0 all (suc i) first.2 in
    (one.0 ∷ tail.0, tail.1 ∙ ap (λ zs. zs ++ tail.0) one.1 ∙ append_assoc found (one.0 ∷ []) tail.0, rw (one.2, tail.2) refl)

-- each random variable has its value under its name
pub values-say : (part : Part) (a b : ℕ) (names : List (List ℕ)) (support : Members) (zs : List ℤ) → values_at part a b names support ≡ Ok zs → map (λ v. get_member v support >>= whole_number) names ≡ map Some zs
unfolding values_at step
values-say part a b names support zs e = let all = values-go part a b support names [] zs 0 e in all.2 ∙ ap (map Some) (sym all.1)

-- ---- realizations

-- realizations by their numbers are those by their names
abbrev pub RealizationsSaid : List (List ℕ) → Realizations → List FileRealization → Type 0
RealizationsSaid randoms found rs = Together (RealizationSaid randoms) rs found.weights found.values

realization-says : (n : ℕ) (randoms : List (List ℕ)) (found next : Realizations) (r : ℕ) (d : Data) (done : List FileRealization) → realization_at n randoms found r d ≡ Ok next → RealizationsSaid randoms found done
    → (x : FileRealization) × (realization_of d ≡ Some x) × RealizationsSaid randoms next (done ++ x ∷ [])
unfolding realization_at
realization-says n randoms found next r d done e so_far =
    then-Ok (object_at _ _) _ next e (λ all is e.
    then-Ok (members_at _ _) _ next e (λ support is_support e.
    then-Ok (present_at _ _) _ next e (λ inner is_inner e.
    then-Ok (weight_at _ _) _ next e (λ weight is_weight e.
    then-Ok (values_at _ _ _ _ _) _ next e (λ values is_values e.
    let x : FileRealization = record { weight = unsigned_abs weight; support = λ v. under (codes "support") (under v whole_number) d } in
    let under_names = alike x.support (λ v. get_member v support >>= whole_number) (λ v. under-object (get (codes "support") d) support (members-say _ _ support is_support) v whole_number) randoms in
    let one : RealizationSaid randoms x (unsigned_abs weight) values = record { weight = refl; values = under_names ∙ values-say part_kinds.Support n r randoms support values is_values } in (
      x,
      rw (present-says _ (get (codes "probability") d) inner is_inner, weight-says _ inner weight is_weight) refl,
      subst (λ c. RealizationsSaid randoms c (done ++ x ∷ [])) (Ok-is _ next e) (together-push (RealizationSaid randoms) done found.weights found.values x (unsigned_abs weight) values so_far one),
    ))))))

-- realizations that are listed are not empty
some-listed : (d : Data) (ds : Items) (rs : List FileRealization) → each realization_of (item d ds) ≡ Some rs → or_certain rs ≡ rs
some-listed d ds rs e = by (realization_of d) (each realization_of ds) e
  where
    by : (o : Option FileRealization) (os : Option (List FileRealization)) → (o >>= λ r. option_map (◌∷◌ r) os) ≡ Some rs → or_certain rs ≡ rs
    by None os e = cc
    by (Some r) None e = cc
    by (Some r) (Some qs) e = subst (λ rs. or_certain rs ≡ rs) (same_Some (r ∷ qs) rs e) refl

certain-says : (p : Place) (randoms : List (List ℕ)) (c : Realizations) → certain_at p randoms ≡ Ok c → RealizationsSaid randoms c (or_certain [])
unfolding certain_at
certain-says p randoms c e =
    let part_kinds = test-Ok (length randoms == 0) _ _ p c e in
    subst (λ c. RealizationsSaid randoms c (or_certain [])) (Ok-is _ c part_kinds.1) (record { weight = refl; values = none randoms (eqb-true (length randoms) 0 part_kinds.0) }, tt)
  where
    none : (names : List (List ℕ)) → length names ≡ 0 → map {A = List ℕ} {B = Option ℤ} (λ v. None) names ≡ []
    none [] e = refl
    none (n ∷ names) e = absurd (omega arith)

pub realizations-say : (n : ℕ) (randoms : List (List ℕ)) (ds : Items) (c : Realizations) → realizations_at n randoms ds ≡ Ok c → (rs : List FileRealization) × (each realization_of ds ≡ Some rs) × RealizationsSaid randoms c (or_certain rs)
unfolding realizations_at
realizations-say n randoms no_items c e = ([], refl, certain-says (at_node n) randoms c (test-Ok (nat_le 0 100) (certain_at (at_node n) randoms) kinds.TooLarge (at_node n) c e).1)
realizations-say n randoms (item d ds) c e =
    let all = walk_items-says (RealizationsSaid randoms) (realization_at n randoms) realization_of (λ found next r d done e so_far. realization-says n randoms found next r d done e so_far) (item d ds) no_realizations c 0 []
    (listed (items_len (item d ds) == 0) refl (test-Ok (nat_le (items_len (item d ds)) 100) _ _ _ c e).1) tt in
    (all.0, all.1, subst (RealizationsSaid randoms c) (sym (some-listed d ds all.0 all.1)) all.2)
  where
    listed : (b : Bool) → (items_len (item d ds) == 0) ≡ b → (if b then certain_at (at_node n) randoms else listed_at n randoms (item d ds)) ≡ Ok c → listed_at n randoms (item d ds) ≡ Ok c
    listed true none h = absurd (omega (arith, eqb-true (items_len (item d ds)) 0 none))
    listed false some h = h

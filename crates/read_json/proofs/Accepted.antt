-- Facts that follow where tests, walks and limits answer Ok.
use Rattle.std.proofs.Common.{◌≡◌, ◌+◌, ◌^◌, ℕ, suc, ℤ, pos, List, [], ◌∷◌, ◌++◌, length, Bool, true, false, if◌then◌else◌, Option, Some, None, Result, Ok, Err, nat_lt, int_lt, unsigned_abs, refl, sym, ap, subst, ◌∙◌, arith}
use Rattle.std.specs.List.{AllByRecursion, list_all}
use Rattle.std.proofs.lemmas.Bool.{le-leb, lt-ltb}
use Rattle.std.proofs.lemmas.List.{append-nil, append_assoc}
use Rattle.std.proofs.lemmas.List.Folds.{list_all-append}
use Rattle.std.proofs.lemmas.Int.{ints}
use Rattle.serde_json.specs.Data.{Data, Items, no_items, item, Members, no_members, member}
use Rattle.serde_json.specs.Events.{items_len, members_len}
use Rattle.problem.specs.declared.refusal.Refusal.{Refusal}
use Rattle.problem.specs.declared.refusal.RefusalKind.{RefusalKind}
use Rattle.problem.specs.declared.refusal.RefusalKind.TheVariants as kinds
use Rattle.problem.specs.declared.refusal.Place.{Place}
use Rattle.problem.specs.Limits.{is_small, is_name}
use Rattle.read_json.specs.Steps.{◌>>=◌, walk_items, walk_members, walk_list}
use Rattle.read_json.specs.Fields.{fault_at, refuse, key_at, string_at, weight_at, whole_at, keys_of}
use Rattle.read_json.specs.Limits.{name_at, limited_at, known_at}
use Rattle.read_json.proofs.Answered.{step-Ok, whole_at-Ok, limited_at-Ok}

-- an Ok says that a step and those after it are Ok
pub then-Ok : {A B E G : Type 0} (r : Result A E) (f : A → Result B E) (y : B) → (r >>= f) ≡ Ok y → ((x : A) → r ≡ Ok x → f x ≡ Ok y → G) → G
then-Ok (Ok x) f y e next = next x refl e
then-Ok (Err r) f y e next = absurd cc

pub Ok-is : {A E : Type 0} (x y : A) → ◌≡◌ {A = Result A E} (Ok x) (Ok y) → x ≡ y
Ok-is x y e = cc

-- a test that refuses where it fails, with any refusal
pub tested-Ok : {A E : Type 0} (b : Bool) (r : Result A E) (refusal : E) (y : A) → (if b then r else Err refusal) ≡ Ok y → (b ≡ true) × (r ≡ Ok y)
tested-Ok true r refusal y e = (refl, e)
tested-Ok false r refusal y e = cc

-- a test that refuses where it fails
pub test-Ok : {A : Type 0} (b : Bool) (r : Result A Refusal) (kind : RefusalKind) (p : Place) (y : A) → (if b then r else refuse kind p) ≡ Ok y → (b ≡ true) × (r ≡ Ok y)
test-Ok b r kind p y e = tested-Ok b r (fault_at kind p) y e

-- a test that refuses where it holds
pub unless-Ok : {A : Type 0} (b : Bool) (r : Result A Refusal) (kind : RefusalKind) (p : Place) (y : A) → (if b then refuse kind p else r) ≡ Ok y → (b ≡ false) × (r ≡ Ok y)
unless-Ok true r kind p y e = cc
unless-Ok false r kind p y e = (refl, e)

-- one way or the other
pub either-Ok : {A G : Type 0} (b : Bool) (r s : Result A Refusal) (y : A) → (if b then r else s) ≡ Ok y → (r ≡ Ok y → G) → (s ≡ Ok y → G) → G
either-Ok true r s y e one other = one e
either-Ok false r s y e one other = other e

-- one more that passes a test
pub list_all-push : {A : Type 0} (test : A → Bool) (xs : List A) (x : A) → list_all test xs ≡ true → test x ≡ true → list_all test (xs ++ x ∷ []) ≡ true
list_all-push test xs x h e = rw (list_all-append test xs (x ∷ []), h, e) refl

-- ---- numbers and names

pub whole_at-small : (p : Place) (d : Data) (z : ℤ) → whole_at p d ≡ Ok z → is_small z ≡ true
whole_at-small p d z e = le-leb (unsigned_abs z) (2 ^ 40) (whole_at-Ok p d z e)

pub limited_at-small : (p : Place) (x z : ℤ) → limited_at p x ≡ Ok z → is_small z ≡ true
limited_at-small p x z e = le-leb (unsigned_abs z) (2 ^ 40) (limited_at-Ok p x z e)

pub limited_at-is : (p : Place) (x z : ℤ) → limited_at p x ≡ Ok z → x ≡ z
unfolding limited_at
limited_at-is p x z e = Ok-is x z (test-Ok _ _ kinds.TooLarge p z e).1

-- a number that is not below 1 is at least 1 in absolute value
positive : (z : ℤ) → int_lt z (pos 1) ≡ false → nat_lt 0 (unsigned_abs z) ≡ true
positive z e = lt-ltb 0 (unsigned_abs z) (omega (arith, ints))

pub weight_at-positive : (p : Place) (d : Data) (z : ℤ) → weight_at p d ≡ Ok z → nat_lt 0 (unsigned_abs z) ≡ true
unfolding weight_at
weight_at-positive p d z e =
    let number = step-Ok (whole_at p d) _ z e in
    let parts = unless-Ok _ _ kinds.Weight p z number.2 in
    subst (λ x. nat_lt 0 (unsigned_abs x) ≡ true) (Ok-is number.0 z parts.1) (positive number.0 parts.0)

pub key_at-name : (p : Place) (k name : List ℕ) → key_at p k ≡ Ok name → (k ≡ name) × (is_name name ≡ true)
unfolding key_at
key_at-name p k name e =
    let parts = test-Ok _ _ kinds.TooLarge p name e in
    let same = Ok-is k name parts.1 in
    (same, subst (λ n. is_name n ≡ true) same parts.0)

pub name_at-name : (p : Place) (d : Data) (name : List ℕ) → name_at p d ≡ Ok name → is_name name ≡ true
unfolding name_at
name_at-name p d name e = let text = step-Ok (string_at p d) _ name e in (key_at-name p text.0 name text.2).1

pub known_at-Ok : (p : Place) (o : Option ℕ) (i : ℕ) → known_at p o ≡ Ok i → o ≡ Some i
unfolding known_at
known_at-Ok p None i e = cc
known_at-Ok p (Some j) i e = cc

-- ---- walks: what holds at the start and is kept by each step holds at the end

module _ {A : Type 0} (P : ℕ → A → Type 0) where
  pub walk_items-Ok : (step : A → ℕ → Data → Result A Refusal) → ((found next : A) (i : ℕ) (d : Data) → step found i d ≡ Ok next → P i found → P (suc i) next)
      → (ds : Items) (found whole : A) (i n : ℕ) → i + items_len ds ≡ n → walk_items step found i ds ≡ Ok whole → P i found → P n whole
  unfolding walk_items
  walk_items-Ok step keep no_items found whole i n count is p =
      let same : i ≡ n = omega arith in
      subst (λ x. P n x) (Ok-is found whole is) (subst (λ j. P j found) same p)
  walk_items-Ok step keep (item d ds) found whole i n count is p =
      let first = step-Ok _ _ whole is in
      walk_items-Ok step keep ds first.0 whole (suc i) n (omega arith) first.2 (keep found first.0 i d first.1 p)

-- a property of each entry with its number, where the first entry's number is i
abbrev pub EachFrom : {B : Type 0} → (ℕ → B → Type 0) → ℕ → List B → Type 0
EachFrom Q i [] = Unit {0}
EachFrom Q i (x ∷ xs) = Q i x × EachFrom Q (suc i) xs

pub EachFrom-any : {B : Type 0} (i : ℕ) (xs : List B) → EachFrom (λ i x. Unit {0}) i xs
EachFrom-any i [] = tt
EachFrom-any i (x ∷ xs) = (tt, EachFrom-any (suc i) xs)

module _ {A B : Type 0} (P : ℕ → A → Type 0) (Q : ℕ → B → Type 0) where
  pub walk_list-Ok : (step : A → ℕ → B → Result A Refusal) → ((found next : A) (i : ℕ) (x : B) → Q i x → step found i x ≡ Ok next → P i found → P (suc i) next)
      → (xs : List B) (found whole : A) (i n : ℕ) → i + length xs ≡ n → EachFrom Q i xs → walk_list step found i xs ≡ Ok whole → P i found → P n whole
  unfolding walk_list
  walk_list-Ok step keep [] found whole i n count all is p =
      let same : i ≡ n = omega arith in
      subst (λ x. P n x) (Ok-is found whole is) (subst (λ j. P j found) same p)
  walk_list-Ok step keep (x ∷ xs) found whole i n count all is p =
      let first = step-Ok _ _ whole is in
      walk_list-Ok step keep xs first.0 whole (suc i) n (omega arith) all.1 first.2 (keep found first.0 i x all.0 first.1 p)

-- each member
abbrev pub AllMembers : (List ℕ → Data → Type 0) → Members → Type 0
AllMembers Q no_members = Unit {0}
AllMembers Q (member k d ms) = Q k d × AllMembers Q ms

pub AllMembers-any : (ms : Members) → AllMembers (λ k d. Unit {0}) ms
AllMembers-any no_members = tt
AllMembers-any (member k d ms) = (tt, AllMembers-any ms)

module _ {A : Type 0} (P : ℕ → A → Type 0) (Q : List ℕ → Data → Type 0) where
  pub walk_members-Ok : (step : A → ℕ → List ℕ → Data → Result A Refusal) → ((found next : A) (i : ℕ) (k : List ℕ) (d : Data) → Q k d → step found i k d ≡ Ok next → P i found → P (suc i) next)
      → (ms : Members) (found whole : A) (i n : ℕ) → i + members_len ms ≡ n → AllMembers Q ms → walk_members step found i ms ≡ Ok whole → P i found → P n whole
  unfolding walk_members
  walk_members-Ok step keep no_members found whole i n count all is p =
      let same : i ≡ n = omega arith in
      subst (λ x. P n x) (Ok-is found whole is) (subst (λ j. P j found) same p)
  walk_members-Ok step keep (member k d ms) found whole i n count all is p =
      let first = step-Ok _ _ whole is in
      walk_members-Ok step keep ms first.0 whole (suc i) n (omega arith) all.1 first.2 (keep found first.0 i k d all.0 first.1 p)

-- a property that each step states of its key holds of all keys
pub walk_members-keys : {A : Type 0} (Q : List ℕ → Type 0) (step : A → ℕ → List ℕ → Data → Result A Refusal) → ((found next : A) (i : ℕ) (k : List ℕ) (d : Data) → step found i k d ≡ Ok next → Q k)
    → (ms : Members) (found whole : A) (i : ℕ) → walk_members step found i ms ≡ Ok whole → AllByRecursion Q (keys_of ms)
unfolding walk_members
walk_members-keys Q step says no_members found whole i is = tt
walk_members-keys Q step says (member k d ms) found whole i is =
    let first = step-Ok _ _ whole is in
    (says found first.0 i k d first.1, walk_members-keys Q step says ms first.0 whole (suc i) first.2)

-- the names of the members, one after another, where each step adds the name of its key
pub walk_members-adds : {A : Type 0} (names : A → List (List ℕ)) (step : A → ℕ → List ℕ → Data → Result A Refusal)
    → ((found next : A) (i : ℕ) (k : List ℕ) (d : Data) → step found i k d ≡ Ok next → names next ≡ names found ++ k ∷ [])
    → (ms : Members) (found whole : A) (i : ℕ) → walk_members step found i ms ≡ Ok whole → names whole ≡ names found ++ keys_of ms
unfolding walk_members
walk_members-adds names step adds no_members found whole i is = ap names (sym (Ok-is found whole is)) ∙ sym (append-nil (names found))
walk_members-adds names step adds (member k d ms) found whole i is =
    let first = step-Ok _ _ whole is in
    walk_members-adds names step adds ms first.0 whole (suc i) first.2 ∙ ap (λ (ns : List (List ℕ)). ns ++ keys_of ms) (adds found first.0 i k d first.1) ∙ append_assoc (names found) (k ∷ []) (keys_of ms)

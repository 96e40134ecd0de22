-- Facts that follow where steps, tests, walks and readings answer Ok.
use Rattle.std.proofs.Common.{◌≡◌, ◌≤◌, ◌<◌, ◌≤ℤ◌, ◌+◌, ℕ, suc, ℤ, pos, List, [], ◌∷◌, ◌++◌, length, map, position, bytes_eq, Bool, true, ◌&&◌, if◌then◌else◌, Option, Some, None, Result, Ok, int_le, unsigned_abs, sym, ap, subst, ◌∙◌, arith}
use Rattle.std.specs.List.{AllByRecursion}
use Rattle.std.proofs.lemmas.List.{append-nil, append_assoc, length_push, map-append}
use Rattle.std.proofs.lemmas.Int.{ints}
use Rattle.serde_json.specs.Data.{Data, Items, no_items, item, Members, no_members, member}
use Rattle.serde_json.specs.Events.{items_len}
use Rattle.serde_json.specs.Find.{get_member}
use Rattle.base_num.proofs.Tests.{and_first, and_second}
use Rattle.read_json.specs.Steps.{walk_members, walk_items, walk_list}
use Rattle.read_json.specs.Values.{integer_or}
use Rattle.read_json.specs.Fields.{keys_of}
pub use Rattle.read_json.proofs.Accepted.{then-Ok, Ok-is}
use Rattle.read_json.proofs.Accepted.{tested-Ok}
use Rattle.read_json.proofs.Distinct.{each-push}
use Rattle.read_json.proofs.Rising.{known-position}
use Rattle.hydro_read.specs.declared.refusal.HydroRefusal.{HydroRefusal}
use Rattle.hydro_read.specs.declared.refusal.HydroKind.{HydroKind}
use Rattle.hydro_read.specs.declared.refusal.HydroKind.TheVariants as kinds
use Rattle.hydro_read.specs.declared.place.HydroPlace.{HydroPlace}
use Rattle.hydro_read.specs.Fields.{Within, fault_at, hydro_refuse, greatest_number, hydro_present_at, hydro_string_at, within_at, hydro_value_at, hydro_number_at, amount_at, amount_or_zero_at, natural_at, hydro_entry_at, hydro_entries_at}
use Rattle.hydro_read.specs.Names.{is_hydro_name, hydro_key_at, hydro_known_at, named_at}
use Rattle.hydro_read.specs.Described.{AreEntries, IsAmount}

-- a test that refuses where it fails
pub test-Ok : {A : Type 0} (b : Bool) (r : Result A HydroRefusal) (kind : HydroKind) (p : HydroPlace) (y : A) → (if b then r else hydro_refuse kind p) ≡ Ok y → (b ≡ true) × (r ≡ Ok y)
test-Ok b r kind p y e = tested-Ok b r (fault_at kind p) y e

-- ---- numbers

at_most : (a b : ℤ) → int_le a b ≡ true → a ≤ℤ b
at_most a b e = omega (arith, ints)

within_at-Ok : (p : HydroPlace) (least most x z : ℤ) → within_at p least most x ≡ Ok z → Within least most z
within_at-Ok p least most x z e =
    let parts = test-Ok (int_le least x && int_le x most) _ kinds.Limit p z e in
    subst (Within least most) (Ok-is x z parts.1) (record {
      low = at_most least x (and_first (int_le least x) (int_le x most) parts.0);
      high = at_most x most (and_second (int_le least x) (int_le x most) parts.0);
    })

pub hydro_value_at-Ok : (p : HydroPlace) (least most : ℤ) (d : Data) (z : ℤ) → hydro_value_at p least most d ≡ Ok z → Within least most z
unfolding hydro_value_at
hydro_value_at-Ok p least most d z e = then-Ok (integer_or _ _ d) _ z e (λ x is e. within_at-Ok p least most x z e)

pub hydro_number_at-Ok : (p : HydroPlace) (least most : ℤ) (o : Option Data) (z : ℤ) → hydro_number_at p least most o ≡ Ok z → Within least most z
unfolding hydro_number_at
hydro_number_at-Ok p least most o z e = then-Ok (hydro_present_at _ _) _ z e (λ d is e. hydro_value_at-Ok p least most d z e)

pub amount_at-Ok : (p : HydroPlace) (o : Option Data) (z : ℤ) → amount_at p o ≡ Ok z → IsAmount z
unfolding amount_at
amount_at-Ok p o z e = hydro_number_at-Ok p (pos 0) greatest_number o z e

pub amount_or_zero_at-Ok : (p : HydroPlace) (o : Option Data) (z : ℤ) → amount_or_zero_at p o ≡ Ok z → IsAmount z
unfolding amount_or_zero_at
amount_or_zero_at-Ok p None z e = subst IsAmount (Ok-is (pos 0) z e) (record { low = omega (arith, ints); high = omega (arith, ints) })
amount_or_zero_at-Ok p (Some d) z e = hydro_value_at-Ok p (pos 0) greatest_number d z e

-- a number from least to most that is not negative
natural : (least most : ℕ) (z : ℤ) → Within (pos least) (pos most) z → (least ≤ unsigned_abs z) × (unsigned_abs z ≤ most)
natural least most z w = (omega (arith, ints, w.low, w.high), omega (arith, ints, w.low, w.high))

pub natural_at-Ok : (p : HydroPlace) (least most : ℕ) (o : Option Data) (n : ℕ) → natural_at p least most o ≡ Ok n → (least ≤ n) × (n ≤ most)
unfolding natural_at
natural_at-Ok p least most o n e =
    then-Ok (hydro_number_at _ _ _ _) _ n e (λ z is e. subst (λ m. (least ≤ m) × (m ≤ most)) (Ok-is _ n e) (natural least most z (hydro_number_at-Ok p (pos least) (pos most) o z is)))

-- ---- names

pub hydro_key_at-Ok : (p : HydroPlace) (k name : List ℕ) → hydro_key_at p k ≡ Ok name → (k ≡ name) × (is_hydro_name name ≡ true)
unfolding hydro_key_at
hydro_key_at-Ok p k name e =
    let parts = test-Ok (is_hydro_name k) _ kinds.Limit p name e in
    let same = Ok-is k name parts.1 in
    (same, subst (λ n. is_hydro_name n ≡ true) same parts.0)

hydro_known_at-Ok : (p : HydroPlace) (o : Option ℕ) (i : ℕ) → hydro_known_at p o ≡ Ok i → o ≡ Some i
unfolding hydro_known_at
hydro_known_at-Ok p None i e = cc
hydro_known_at-Ok p (Some j) i e = cc

pub named_at-Ok : (p : HydroPlace) (names : List (List ℕ)) (o : Option Data) (i : ℕ) → named_at p names o ≡ Ok i → i < length names
unfolding named_at
named_at-Ok p names o i e =
    then-Ok (hydro_present_at _ _) _ i e (λ d is e.
    then-Ok (hydro_string_at _ _) _ i e (λ text is e.
    (known-position names text i (hydro_known_at-Ok p (position (bytes_eq text) names) i e)).0))

-- ---- walks that add one entry at each step

-- one more entry, of which these hold
pub record Added {A : Type 0} (Q N : A → Type 0) (found next : List A) : Type 0 where
  pub entry : A
  pub is : next ≡ found ++ entry ∷ []
  pub fits : Q entry
  pub named : N entry

pub added : {A : Type 0} {Q N : A → Type 0} (found next : List A) (x : A) → ◌≡◌ {A = Result (List A) HydroRefusal} (Ok (found ++ x ∷ [])) (Ok next) → Q x → N x → Added Q N found next
added found next x e q n = record { entry = x; is = sym (Ok-is (found ++ x ∷ []) next e); fits = q; named = n }

-- as many as were added to none
pub from_none : (a b : ℕ) → a ≡ 0 + b → a ≡ b
from_none a b e = omega arith

one_more : {A : Type 0} (xs : List A) (x : A) → length (xs ++ x ∷ []) ≡ suc (length xs)
one_more xs x = omega (arith, length_push xs x)

module _ {A : Type 0} (Q : A → Type 0) (name : A → List ℕ) where
  -- the entries added for the members fit, and have their keys as names
  pub walk_members-each : (step : List A → ℕ → List ℕ → Data → Result (List A) HydroRefusal)
      → ((found next : List A) (i : ℕ) (k : List ℕ) (d : Data) → step found i k d ≡ Ok next → Added Q (λ x. name x ≡ k) found next)
      → (ms : Members) (found whole : List A) (i : ℕ) → walk_members step found i ms ≡ Ok whole → AllByRecursion Q found → AllByRecursion Q whole × (map name whole ≡ map name found ++ keys_of ms)
  unfolding walk_members
  walk_members-each step adds no_members found whole i e all =
      let same = Ok-is found whole e in
      (subst (AllByRecursion Q) same all, ap (map name) (sym same) ∙ sym (append-nil (map name found)))
  walk_members-each step adds (member k d ms) found whole i e all =
      then-Ok (step found i k d) _ whole e (λ next is e.
      let a = adds found next i k d is in
      let tail = walk_members-each step adds ms next whole (suc i) e (subst (AllByRecursion Q) (sym a.is) (each-push Q found a.entry all a.fits)) in
      let named : map name next ≡ map name found ++ k ∷ [] = ap (map name) a.is ∙ map-append name found (a.entry ∷ []) ∙ ap (λ (n : List ℕ). map name found ++ n ∷ []) a.named in
      (tail.0, tail.1 ∙ ap (λ (ns : List (List ℕ)). ns ++ keys_of ms) named ∙ append_assoc (map name found) (k ∷ []) (keys_of ms)))

module _ {A : Type 0} (Q : A → Type 0) where
  -- the entries added for the items fit, and are as many
  pub walk_items-each : (step : List A → ℕ → Data → Result (List A) HydroRefusal)
      → ((found next : List A) (i : ℕ) (d : Data) → step found i d ≡ Ok next → Added Q (λ x. Unit {0}) found next)
      → (ds : Items) (found whole : List A) (i : ℕ) → walk_items step found i ds ≡ Ok whole → AllByRecursion Q found → AllByRecursion Q whole × (length whole ≡ length found + items_len ds)
  unfolding walk_items
  walk_items-each step adds no_items found whole i e all =
      let same = Ok-is found whole e in
      let count : length found ≡ length found + 0 = omega arith in
      (subst (AllByRecursion Q) same all, ap length (sym same) ∙ count)
  walk_items-each step adds (item d ds) found whole i e all =
      then-Ok (step found i d) _ whole e (λ next is e.
      let a = adds found next i d is in
      let tail = walk_items-each step adds ds next whole (suc i) e (subst (AllByRecursion Q) (sym a.is) (each-push Q found a.entry all a.fits)) in
      let count : length next ≡ suc (length found) = ap length a.is ∙ one_more found a.entry in
      (tail.0, omega (arith, tail.1, count)))

  -- the entries added for a list fit, and are as many
  pub walk_list-each : {B : Type 0} (step : List A → ℕ → B → Result (List A) HydroRefusal)
      → ((found next : List A) (i : ℕ) (x : B) → step found i x ≡ Ok next → Added Q (λ x. Unit {0}) found next)
      → (xs : List B) (found whole : List A) (i : ℕ) → walk_list step found i xs ≡ Ok whole → AllByRecursion Q found → AllByRecursion Q whole × (length whole ≡ length found + length xs)
  unfolding walk_list
  walk_list-each step adds [] found whole i e all =
      let same = Ok-is found whole e in
      let count : length found ≡ length found + 0 = omega arith in
      (subst (AllByRecursion Q) same all, ap length (sym same) ∙ count)
  walk_list-each step adds (x ∷ xs) found whole i e all =
      then-Ok (step found i x) _ whole e (λ next is e.
      let a = adds found next i x is in
      let tail = walk_list-each step adds xs next whole (suc i) e (subst (AllByRecursion Q) (sym a.is) (each-push Q found a.entry all a.fits)) in
      let count : length next ≡ suc (length found) = ap length a.is ∙ one_more found a.entry in
      (tail.0, omega (arith, tail.1, count)))

-- ---- numbers under names

hydro_entry_at-adds : (p : HydroPlace) (least : ℤ) (ms : Members) (found next : List ℤ) (i : ℕ) (name : List ℕ) → hydro_entry_at p least ms found i name ≡ Ok next → Added (Within least greatest_number) (λ x. Unit {0}) found next
unfolding hydro_entry_at
hydro_entry_at-adds p least ms found next i name e =
    then-Ok (hydro_number_at _ _ _ _) _ next e (λ z is e. added found next z e (hydro_number_at-Ok p least greatest_number (get_member name ms) z is) tt)

pub hydro_entries_at-Ok : (p : HydroPlace) (least : ℤ) (names : List (List ℕ)) (ms : Members) (zs : List ℤ) → hydro_entries_at p least names ms ≡ Ok zs → AreEntries (length names) least zs
unfolding hydro_entries_at
hydro_entries_at-Ok p least names ms zs e =
    let w = walk_list-each (Within least greatest_number) (hydro_entry_at p least ms) (λ found next i name e. hydro_entry_at-adds p least ms found next i name e) names [] zs 0 e tt in
    record { many = from_none (length zs) (length names) w.1; each = w.0 }

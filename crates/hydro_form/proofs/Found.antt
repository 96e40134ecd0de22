-- Where the keys of numbered members are found.
use Rattle.std.proofs.Common.{◌≡◌, ℕ, zero, suc, ◌+◌, ◌-◌, ◌<◌, ◌≤◌, ◌⊎◌, inl, inr, List, length, true, false, Some, position, bytes_eq, Equal, Greater, nat_cmp, is_eq, refl, sym, ap, ◌∙◌, arith}
use Rattle.std.specs.List.{position_or_len}
use Rattle.std.specs.Cmp.Lexicographic.{slice_cmp}
use Rattle.std.proofs.lemmas.Bool.{cases_lt, lt-ltb}
use Rattle.std.proofs.lemmas.Cmp.{nat_list_cmp_total, tied_itself}
use Rattle.std.proofs.lemmas.Map.Text.{is_eq-slice_cmp}
use Rattle.serde_json.specs.Data.{Data}
use Rattle.serde_json.specs.Events.{members_len}
use Rattle.serde_json.specs.Find.{get_member}
use Rattle.read_json.specs.Fields.{keys_of}
use Rattle.hydro_form.specs.Listed.{members_from}

pub members_len-from : (key : ℕ → List ℕ) (value : ℕ → Data) (i n : ℕ) → members_len (members_from key value i n) ≡ n
members_len-from key value i zero = refl
members_len-from key value i (suc n) = ap suc (members_len-from key value (suc i) n)

pub length-keys : (key : ℕ → List ℕ) (value : ℕ → Data) (i n : ℕ) → length (keys_of (members_from key value i n)) ≡ n
length-keys key value i zero = refl
length-keys key value i (suc n) = ap suc (length-keys key value (suc i) n)

same : (xs : List ℕ) → slice_cmp nat_cmp xs xs ≡ Equal
same xs = tied_itself nat_list_cmp_total xs

pub eq_itself : (xs : List ℕ) → bytes_eq xs xs ≡ true
eq_itself xs = sym (is_eq-slice_cmp xs xs) ∙ ap is_eq (same xs)

differ : (xs ys : List ℕ) → slice_cmp nat_cmp xs ys ≡ Greater → bytes_eq xs ys ≡ false
differ xs ys h = sym (is_eq-slice_cmp xs ys) ∙ ap is_eq h

module _ (key : ℕ → List ℕ) (value : ℕ → Data) (count : ℕ) (above : (j k : ℕ) → j < k → k < count → slice_cmp nat_cmp (key k) (key j) ≡ Greater) where
  place_from : (m i n : ℕ) → i ≤ m → m < i + n → m < count → (i < m) ⊎ (m ≤ i) → position_or_len (bytes_eq (key m)) (keys_of (members_from key value i n)) ≡ m - i
  place_from m i zero low high few c = absurd (omega arith)
  place_from m i (suc n) low high few (inl h) =
      rw (differ (key m) (key i) (above i m h few), place_from m (suc i) n (omega arith) (omega arith) few (cases_lt (suc i) m)) (omega arith)
  place_from m i (suc n) low high few (inr h) = let e : m ≡ i = omega arith in rw (e, eq_itself (key i)) (omega arith)

  pub known_from : (m n : ℕ) → m < n → m < count → position (bytes_eq (key m)) (keys_of (members_from key value 0 n)) ≡ Some m
  known_from m n h few =
      let p : position_or_len (bytes_eq (key m)) (keys_of (members_from key value 0 n)) ≡ m = place_from m 0 n (omega arith) (omega arith) few (cases_lt 0 m) ∙ omega arith in
      rw (p, length-keys key value 0 n, lt-ltb m n h) refl

  found_from : (m i n : ℕ) → i ≤ m → m < i + n → m < count → (i < m) ⊎ (m ≤ i) → get_member (key m) (members_from key value i n) ≡ Some (value m)
  found_from m i zero low high few c = absurd (omega arith)
  found_from m i (suc n) low high few (inl h) = rw (above i m h few) (found_from m (suc i) n (omega arith) (omega arith) few (cases_lt (suc i) m))
  found_from m i (suc n) low high few (inr h) = let e : m ≡ i = omega arith in rw (e, same (key i)) refl

  pub member_at : (m n : ℕ) → m < n → m < count → get_member (key m) (members_from key value 0 n) ≡ Some (value m)
  member_at m n h few = found_from m 0 n (omega arith) (omega arith) few (cases_lt 0 m)

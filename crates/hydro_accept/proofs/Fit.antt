-- Names of plants are short and of ASCII, and so are those made of them.
use Rattle.std.proofs.Common.{◌≡◌, ℕ, zero, suc, ◌<◌, ◌≤◌, ◌&&◌, List, [], ◌∷◌, length, get_or, Bool, true, false, nat_lt, nat_le, IsUtf8, refl, arith}
use Rattle.std.specs.List.{list_all}
use Rattle.std.proofs.lemmas.Bool.{leb-true}
use Rattle.std.proofs.lemmas.Bool.Decides.{nat_tests}
use Rattle.std.proofs.lemmas.Str.{IsUtf8-append, IsUtf8-from_ascii}
use Rattle.base_num.proofs.Tests.{and_first, and_second}
use Rattle.hydro_read.specs.declared.plants.Plants.{Plants}
use Rattle.hydro_read.specs.Names.{is_hydro_name, is_name_byte}
use Rattle.hydro_read.specs.Described.{IsPlants}
use Rattle.hydro_form.specs.Listed.{digit}
use Rattle.hydro_make.specs.Layout.{numbered_reservoir, thermal, line, bus}
use Rattle.hydro_make.specs.Columns.{named, state_name, before_name, after_name, variable_name, chance_name, column_name}
use Rattle.hydro_accept.proofs.Listing.{OfStores, OfChances, OfColumns}
use Rattle.hydro_accept.proofs.Stands.{reservoir_is, thermal_is, line_is, bus_is}

pub name_short : (k : List ℕ) → is_hydro_name k ≡ true → length k ≤ 16
unfolding is_hydro_name
name_short k e = leb-true (length k) 16 (middle (nat_lt 0 (length k)) (nat_le (length k) 16) (list_all is_name_byte k) e)
  where
    middle : (a b c : Bool) → (a && b && c) ≡ true → b ≡ true
    middle true true c e = refl
    middle true false c e = e
    middle false b c e = absurd cc

letters_ascii : (x : ℕ) → is_name_byte x ≡ true → x < 128
letters_ascii x e = grind (arith, nat_tests)

bytes_ascii : (k : List ℕ) → list_all is_name_byte k ≡ true → (j : ℕ) → get_or k j 0 < 128
bytes_ascii [] e j = omega arith
bytes_ascii (x ∷ k) e zero = letters_ascii x (and_first (is_name_byte x) (list_all is_name_byte k) e)
bytes_ascii (x ∷ k) e (suc j) = bytes_ascii k (and_second (is_name_byte x) (list_all is_name_byte k) e) j

name_utf8 : (k : List ℕ) → is_hydro_name k ≡ true → IsUtf8 k
unfolding is_hydro_name
name_utf8 k e = IsUtf8-from_ascii k (bytes_ascii k (last (nat_lt 0 (length k)) (nat_le (length k) 16) (list_all is_name_byte k) e))
  where
    last : (a b c : Bool) → (a && b && c) ≡ true → c ≡ true
    last true true c e = e
    last true false c e = absurd cc
    last false b c e = absurd cc

-- a text that is made of a name: short, and UTF-8
pub record IsFit (k : List ℕ) : Type 0 where
  pub few : length k ≤ 128
  pub utf8 : IsUtf8 k

one_letter : (x : ℕ) (k : List ℕ) → x < 128 → is_hydro_name k ≡ true → IsFit (x ∷ 58 ∷ k)
one_letter x k small e =
    let few = name_short k e in
    record { few = omega (arith, few); utf8 = IsUtf8-append (x ∷ 58 ∷ []) k (IsUtf8-from_ascii (x ∷ 58 ∷ []) at) (name_utf8 k e) }
  where
    at : (j : ℕ) → get_or (x ∷ 58 ∷ []) j 0 < 128
    at zero = small
    at (suc zero) = omega arith
    at (suc (suc j)) = omega arith

two_letters : (x n : ℕ) (k : List ℕ) → x < 128 → is_hydro_name k ≡ true → IsFit (x ∷ digit n ∷ 58 ∷ k)
two_letters x n k small e =
    let few = name_short k e in
    record { few = omega (arith, few); utf8 = IsUtf8-append (x ∷ digit n ∷ 58 ∷ []) k (IsUtf8-from_ascii (x ∷ digit n ∷ 58 ∷ []) at) (name_utf8 k e) }
  where
    at : (j : ℕ) → get_or (x ∷ digit n ∷ 58 ∷ []) j 0 < 128
    at zero = small
    at (suc zero) = omega arith
    at (suc (suc zero)) = omega arith
    at (suc (suc (suc j))) = omega arith

module _ (h : Plants) (i : IsPlants h) where
  pub fit_columns : OfColumns h (λ c. IsFit (column_name h c))
  unfolding column_name before_name variable_name after_name chance_name named
  fit_columns = record {
    stores = record { volume = λ j p. one_letter 105 (numbered_reservoir h j).name (omega arith) (reservoir_is h i j p).name; way = λ j k p low high. two_letters 97 k (numbered_reservoir h j).name (omega arith) (reservoir_is h i j p).name };
    chances = record { inflow = λ j p. one_letter 119 (numbered_reservoir h j).name (omega arith) (reservoir_is h i j p).name; demand = λ b p. one_letter 100 (bus h b).name (omega arith) (bus_is h i b p).name };
    variables = record {
      volume = λ j p. one_letter 111 (numbered_reservoir h j).name (omega arith) (reservoir_is h i j p).name;
      way = λ j k p low high. two_letters 98 k (numbered_reservoir h j).name (omega arith) (reservoir_is h i j p).name;
      turbine = λ j p. one_letter 113 (numbered_reservoir h j).name (omega arith) (reservoir_is h i j p).name;
      spill = λ j p. one_letter 122 (numbered_reservoir h j).name (omega arith) (reservoir_is h i j p).name;
      thermal = λ n p. one_letter 103 (thermal h n).name (omega arith) (thermal_is h i n p).name;
      line = λ l p. one_letter 108 (line h l).name (omega arith) (line_is h i l p).name;
      deficit = λ b p. one_letter 117 (bus h b).name (omega arith) (bus_is h i b p).name;
    };
  }

  pub fit_stores : OfStores h (λ s. IsFit (state_name h s))
  unfolding state_name named
  fit_stores = record { volume = λ j p. one_letter 118 (numbered_reservoir h j).name (omega arith) (reservoir_is h i j p).name; way = λ j k p low high. two_letters 112 k (numbered_reservoir h j).name (omega arith) (reservoir_is h i j p).name }

  pub fit_chances : OfChances h (λ c. IsFit (chance_name h c))
  unfolding chance_name named
  fit_chances = record { inflow = λ j p. one_letter 119 (numbered_reservoir h j).name (omega arith) (reservoir_is h i j p).name; demand = λ b p. one_letter 100 (bus h b).name (omega arith) (bus_is h i b p).name }

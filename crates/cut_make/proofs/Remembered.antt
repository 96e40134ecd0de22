-- What is known of the first numbers, and of one more.
use Rattle.std.proofs.Common.{◌≡◌, ◌≢◌, ℕ, ◌+◌, ◌<◌, Bool, true, false, nat_eq, ℤ, pos, List, length, set, refl, sym, subst, arith}
use Rattle.std.proofs.lemmas.Bool.Decides.{nat_tests}
use Rattle.std.proofs.lemmas.List.{length-set, get_or-set_same, get_or-set_other}
use Rattle.base_num.specs.Sums.{entry}

pub known_more : (P : ℕ → ℤ → Type 0) (known : List ℤ) (r : ℕ) (z : ℤ) → ((q : ℕ) → q < r → q < length known → P q (entry known q)) → P r z
    → (q : ℕ) → q < r + 1 → q < length (set known r z) → P q (entry (set known r z) q)
known_more P known r z before new q below inside = by (nat_eq q r) refl
  where
    long : q < length known
    long = subst (λ (n : ℕ). q < n) (length-set known r z) inside

    by : (b : Bool) → nat_eq q r ≡ b → P q (entry (set known r z) q)
    by true same =
        let is : q ≡ r = grind (arith, nat_tests, same) in
        subst (λ (i : ℕ). P i (entry (set known r z) i)) (sym is) (subst (P r) (sym (get_or-set_same known r z (pos 0) (subst (λ (i : ℕ). i < length known) is long))) new)
    by false differ =
        let other : q ≢ r = λ e. grind (arith, nat_tests, differ, e) in
        subst (P q) (sym (get_or-set_other known r q z (pos 0) other)) (before q (grind (arith, nat_tests, differ, below)) long)

-- Cuts that come after the first of those before them.
use Rattle.std.proofs.Common.{◌≡◌, ◌∙◌, ◌⊎◌, ⊎_elim, ℕ, ◌+◌, ◌-◌, ◌^◌, ◌<◌, ◌≤◌, ℤ, pos, ◌+ℤ◌, ◌*ℤ◌, ◌≤ℤ◌, ◌<ℤ◌, inl, inr, true, nat_lt, List, length, length-drop, take, drop, get_or, arith, ap, sym, subst}
use Rattle.std.proofs.lemmas.Bool.{cases_lt}
use Rattle.std.proofs.lemmas.Grind.{common_steps}
use Rattle.std.proofs.lemmas.Int.{ints}
use Rattle.std.proofs.lemmas.List.{length-take, get_or-take, get_or-drop}
use Rattle.lp_program.specs.PackedCut.{PackedCut}
use Rattle.lp_program.specs.Covering.{value_of, packed_cut_at, IsBefore}
use Rattle.lp_scan.specs.Bounds.{AreBounds, IsFirst, IsLimit}
use Rattle.lp_scan.specs.Values.{Valued}
use Rattle.lp_scan.proofs.Below.{bounds_end}
use Rattle.lp_scan.proofs.Covered.{for_more, itself, not_less}

pub before_trans : (p q r : ℕ) (x y z : ℤ) → IsBefore p x q y → IsBefore q y r z → IsBefore p x r z
before_trans p q r x y z a b = ⊎_elim
    (λ (u : y <ℤ x). let c = not_less q r y z b in inl (omega (arith, ints, u, c)))
    (λ (u : (y ≤ℤ x) × (p ≤ q)). let u0 = u.0 in let u1 = u.1 in ⊎_elim
    (λ (v : z <ℤ y). inl (omega (arith, ints, u0, v)))
    (λ (v : (z ≤ℤ y) × (q ≤ r)). let v0 = v.0 in let v1 = v.1 in inr (omega (arith, ints, u0, v0), omega (arith, u1, v1))) b) a

less_trans : (x y z : ℤ) → x ≤ℤ y → y <ℤ z → x <ℤ z
less_trans x y z h l = omega (arith, ints, h, l)

-- a limit of a base and a value is one of the same base and value
pub same_limit : (shift limit : ℕ) (start base top value : ℤ) → start ≡ base → top ≡ value → IsLimit shift start top limit → IsLimit shift base value limit
same_limit shift limit start base top value e f h = subst (λ (z : ℤ). IsLimit shift base z limit) f (subst (λ (z : ℤ). IsLimit shift z top limit) e h)

-- a cut whose bound is of a value below another has one below it
pub bounded_below : (cs : List PackedCut) (xs : List ℤ) (bounds : List ℕ) (base value : ℤ) (shift limit k : ℕ) → AreBounds shift base cs xs (length xs) bounds → k < length bounds → IsLimit shift base value limit → get_or bounds k 0 < limit → value_of (packed_cut_at cs k) xs <ℤ value
bounded_below cs xs bounds base value shift limit k b there is below = less_trans (value_of (packed_cut_at cs k) xs) ((base +ℤ pos (get_or bounds k 0)) *ℤ pos (2 ^ shift)) value (bounds_end cs xs bounds base shift k b there) (is (get_or bounds k 0) below)

-- cuts with lesser values are passed
pub passes : (cs : List PackedCut) (xs : List ℤ) (from to : ℕ) (best : Valued) (value : ℤ) → value ≡ best.1 → IsFirst cs xs from best → ((k : ℕ) → from ≤ k → k < to → value_of (packed_cut_at cs k) xs <ℤ value) → IsFirst cs xs to best
passes cs xs from to best value e h less = record {
  there = h.there;
  value = h.value;
  first = λ j l. ⊎_elim (λ (a : j < from). h.first j a) (λ (a : from ≤ j). inl (subst (λ (x : ℤ). value_of (packed_cut_at cs j) xs <ℤ x) e (less j a l))) (cases_lt j from);
}

-- the first is the next one itself
pub takes_itself : (cs : List PackedCut) (xs : List ℤ) (number : ℕ) (best : Valued) → number ≡ best.0 → IsFirst cs xs number best → IsFirst cs xs (number + 1) best
takes_itself cs xs number best e h = record {
  there = h.there;
  value = h.value;
  first = for_more (λ (j : ℕ). IsBefore best.0 best.1 j (value_of (packed_cut_at cs j) xs)) number h.first
      (subst (λ (j : ℕ). IsBefore best.0 best.1 j (value_of (packed_cut_at cs j) xs)) (sym e) (subst (λ (x : ℤ). IsBefore best.0 best.1 best.0 x) h.value (itself best.0 best.1)));
}

-- the first of the first so far and the next one
pub takes : (cs : List PackedCut) (xs : List ℤ) (number : ℕ) (value : ℤ) (best new : Valued) → number < length cs → value ≡ value_of (packed_cut_at cs number) xs → (new ≡ best) ⊎ (new ≡ (number, value)) → IsBefore new.0 new.1 best.0 best.1 → IsBefore new.0 new.1 number value → IsFirst cs xs number best → IsFirst cs xs (number + 1) new
takes cs xs number value best new there is one former other h = record {
  there = ⊎_elim (λ (e : new ≡ best). subst (λ (v : Valued). v.0 < length cs) (sym e) h.there) (λ (e : new ≡ (number, value)). subst (λ (v : Valued). v.0 < length cs) (sym e) there) one;
  value = ⊎_elim (λ (e : new ≡ best). subst (λ (v : Valued). v.1 ≡ value_of (packed_cut_at cs v.0) xs) (sym e) h.value) (λ (e : new ≡ (number, value)). subst (λ (v : Valued). v.1 ≡ value_of (packed_cut_at cs v.0) xs) (sym e) is) one;
  first = for_more (λ (j : ℕ). IsBefore new.0 new.1 j (value_of (packed_cut_at cs j) xs)) number (λ j l. before_trans new.0 best.0 j new.1 best.1 _ former (h.first j l)) (subst (λ (x : ℤ). IsBefore new.0 new.1 number x) is other);
}

nat_below : (x y : ℕ) → nat_lt x y ≡ true → x < y
nat_below x y e = grind (arith, common_steps, e)

-- a bound of a part is below a limit where the greatest of the part is
pub part_below : (bounds : List ℕ) (from to k most limit : ℕ) → from ≤ k → k < to → to ≤ length bounds → ((i : ℕ) → i < length (take (to - from) (drop from bounds)) → get_or (take (to - from) (drop from bounds)) i 0 ≤ most) → nat_lt most limit ≡ true → get_or bounds k 0 < limit
part_below bounds from to k most limit f t l all less =
    let i : ℕ = k - from in
    let same : from + i ≡ k = omega (arith, f) in
    let inside : i < to - from = omega (arith, f, t) in
    let there : i < length (take (to - from) (drop from bounds)) = omega (arith, inside, l, length-take (to - from) (drop from bounds), length-drop from bounds) in
    let at : get_or (take (to - from) (drop from bounds)) i 0 ≡ get_or bounds k 0 = get_or-take (to - from) (drop from bounds) i 0 inside ∙ get_or-drop from bounds i 0 ∙ ap (λ (n : ℕ). get_or bounds n 0) same in
    let up = all i there in
    omega (arith, up, at, nat_below most limit less)

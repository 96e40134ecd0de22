-- Find the greatest of some cuts by their numbers, and turn these into places.
use Rattle.std.proofs.Common.{◌≡◌, ◌∙◌, ℕ, suc, ◌+◌, ◌<◌, ◌^◌, ℤ, Bool, true, false, cond, int_lt, List, [], ◌∷◌, length, map, get_or, All, Option, Some, None, arith, refl, ap, sym, subst}
use Rattle.std.specs.Option.{option_map}
use Rattle.std.proofs.lemmas.Grind.{common_steps}
use Rattle.std.proofs.lemmas.Int.{ints}
use Rattle.std.proofs.lemmas.List.{get_or-map, length-map}
use Rattle.lp_program.specs.PackedCut.{PackedCut, no_packed_cut}
use Rattle.lp_program.specs.Covering.{value_of, packed_cut_at}
use Rattle.lp_scale.specs.Walks.{walk}
use Rattle.lp_scan.specs.Values.{Valued, greater_valued}
use Rattle.lp_scan.specs.Packed.{with_program_row, greater_or}
use Rattle.lp_scan.proofs.Covered.{above, not_above}

below : (x y z : ℤ) → int_lt x y ≡ true → int_lt y z ≡ true → int_lt x z ≡ true
below x y z e f = let a = above x y e in let b = above y z f in grind (arith, ints, common_steps, a, b)

not_below : (x y z : ℤ) → int_lt x y ≡ false → int_lt y z ≡ false → int_lt x z ≡ false
not_below x y z e f = let a = not_above x y e in let b = not_above y z f in grind (arith, ints, common_steps, a, b)

-- take two values in, one after the other, or the greater of both
both_in : (b : Option Valued) (w v : Valued) (g : Bool) → int_lt w.1 v.1 ≡ g → cond g (greater_valued b v) (greater_valued b w) ≡ greater_valued (greater_valued b w) v
both_in None w v true e = ap (λ (t : Bool). cond t (Some v) (Some w)) (sym e)
both_in None w v false e = ap (λ (t : Bool). cond t (Some v) (Some w)) (sym e)
both_in (Some u) w v g e = by (int_lt u.1 w.1) refl g e
  where
    by : (h : Bool) → int_lt u.1 w.1 ≡ h → (g : Bool) → int_lt w.1 v.1 ≡ g → cond g (greater_valued (Some u) v) (cond h (Some w) (Some u)) ≡ greater_valued (cond h (Some w) (Some u)) v
    by true f true e = ap (λ (t : Bool). cond t (Some v) (Some u)) (below u.1 w.1 v.1 f e) ∙ ap (λ (t : Bool). cond t (Some v) (Some w)) (sym e)
    by true f false e = ap (λ (t : Bool). cond t (Some v) (Some w)) (sym e)
    by false f true e = refl
    by false f false e = ap (λ (t : Bool). cond t (Some v) (Some u)) (sym (not_below u.1 w.1 v.1 f e))

-- take one value more in, by its number or by its row
one_in : (b s : Option Valued) (first : ℕ) (whole : List ℕ) (j : ℕ) (v : ℤ) → greater_or b (option_map (with_program_row first whole) (greater_valued s (j, v))) ≡ greater_valued (greater_or b (option_map (with_program_row first whole) s)) (first + get_or whole j 0, v)
one_in b None first whole j v = refl
one_in b (Some w) first whole j v = by (int_lt w.1 v) refl
  where
    by : (g : Bool) → int_lt w.1 v ≡ g → greater_or b (option_map (with_program_row first whole) (cond g (Some (j, v)) (Some w))) ≡ greater_valued (greater_valued b (with_program_row first whole w)) (first + get_or whole j 0, v)
    by true e = both_in b (with_program_row first whole w) (first + get_or whole j 0, v) true e
    by false e = both_in b (with_program_row first whole w) (first + get_or whole j 0, v) false e

-- walk over the cuts at some places
numbered : (xs : List ℤ) (first : ℕ) (all : List PackedCut) (whole ps : List ℕ) (j k : ℕ) (b s : Option Valued) → ((i : ℕ) → i < length ps → get_or whole (j + i) 0 ≡ get_or ps i 0) → greater_or b (option_map (with_program_row first whole) (walk (λ i b (c : PackedCut). greater_valued b (i, value_of c xs)) j s (map (packed_cut_at all) ps))) ≡ walk (λ k b (p : ℕ). greater_valued b (first + p, value_of (packed_cut_at all p) xs)) k (greater_or b (option_map (with_program_row first whole) s)) ps
numbered xs first all whole [] j k b s h = refl
numbered xs first all whole (p ∷ ps) j k b s h =
    let v : ℤ = value_of (packed_cut_at all p) xs in
    let here : get_or whole j 0 ≡ p = (let e : j ≡ j + 0 = omega arith in ap (λ (i : ℕ). get_or whole i 0) e) ∙ h 0 (omega arith) in
    numbered xs first all whole ps (suc j) (suc k) b (greater_valued s (j, v)) (λ i l. (let e : suc j + i ≡ j + suc i = omega arith in ap (λ (n : ℕ). get_or whole n 0) e) ∙ h (suc i) (omega (arith, l)))
    ∙ ap (λ (r : Option Valued). walk (λ k b (p : ℕ). greater_valued b (first + p, value_of (packed_cut_at all p) xs)) (suc k) r ps) (one_in b s first whole j v ∙ ap (λ (q : ℕ). greater_valued (greater_or b (option_map (with_program_row first whole) s)) (first + q, v)) here)

-- find the same greatest by numbers and by places
pub by_numbers : (xs : List ℤ) (first : ℕ) (b : Option Valued) (all cuts : List PackedCut) (ps : List ℕ) → cuts ≡ map (packed_cut_at all) ps → greater_or b (option_map (with_program_row first ps) (walk (λ i b (c : PackedCut). greater_valued b (i, value_of c xs)) 0 None cuts)) ≡ walk (λ k b (p : ℕ). greater_valued b (first + p, value_of (packed_cut_at all p) xs)) 0 b ps
by_numbers xs first b all cuts ps e = rw e (numbered xs first all ps ps 0 0 b None (λ i l. let z : 0 + i ≡ i = omega arith in ap (λ (n : ℕ). get_or ps n 0) z))

-- bound the rows of places that are below the number of cuts
pub rows_fit : (first n : ℕ) (ps : List ℕ) → first + n < 2 ^ 64 → All (λ (p : ℕ). p < n) ps → All (λ (p : ℕ). first + p < 2 ^ 64) ps
rows_fit first n ps h below k d l = let m = below k d l in omega (arith, h, m)

-- hold of the cuts at places what holds of all
pub holds_at : (P : PackedCut → Type 0) (all cuts : List PackedCut) (ps : List ℕ) → cuts ≡ map (packed_cut_at all) ps → All (λ (p : ℕ). p < length all) ps → All P all → All P cuts
holds_at P all cuts ps e below holds k d l =
    let m : k < length ps = omega (arith, l, ap length e, length-map ps (packed_cut_at all)) in
    subst P (sym (ap (λ (cs : List PackedCut). get_or cs k d) e ∙ get_or-map (packed_cut_at all) ps k 0 d m)) (holds (get_or ps k 0) no_packed_cut (below k 0 m))

-- Sums over all variables, states and chances, by their kinds.
use Rattle.std.proofs.Common.{◌≡◌, ℕ, ℤ, pos, ◌+ℤ◌, ◌*ℤ◌, neg_ℤ, flat_map, List, [], ◌∷◌, ◌++◌, map, Bool, true, false, nat_le, if◌then◌else◌, refl, ap, ap₂, ◌∙◌}
use lib.IntN.{zero-*ℤ, +ℤ_idr}
use Rattle.base_num.specs.Sums.{total}
use Rattle.base_num.proofs.Fronts.{total-append}
use Rattle.base_num.proofs.Sums.{total_ext}
use Rattle.base_num.proofs.Ring.{ring, var, ◌⊕◌, ⊖}
use Rattle.hydro_read.specs.declared.plants.Plants.{Plants}
use Rattle.hydro_make.specs.Layout.{HydroStore, volume_of, way_of, Variable, after, turbine_of, spill_of, thermal_of, line_of, deficit_of, Chance, inflow_of, demand_of, travel, all_reservoirs, all_thermals, all_lines, all_buses, steps, ways, stores, variables_of, hydro_variables, chances}
use Rattle.hydro_make.proofs.Lists.{total-map, total-flat_map}

-- the terms of a reservoir's variables
abbrev pub of_reservoir : Plants → (Variable → ℤ) → ℕ → ℤ
of_reservoir h f i = f (after (volume_of i)) +ℤ (f (turbine_of i) +ℤ (f (spill_of i) +ℤ total (λ k. f (after (way_of i k))) (steps (travel h i))))

pub total-hydro_variables : (h : Plants) (f : Variable → ℤ) → total f (hydro_variables h)
    ≡ total (of_reservoir h f) (all_reservoirs h) +ℤ total (λ i. f (thermal_of i)) (all_thermals h) +ℤ total (λ l. f (line_of l)) (all_lines h) +ℤ total (λ b. f (deficit_of b)) (all_buses h)
total-hydro_variables h f =
    let rs : List Variable = flat_map (variables_of h) (all_reservoirs h) in
    let ts : List Variable = map thermal_of (all_thermals h) in
    let ls : List Variable = map line_of (all_lines h) in
    total-append f (rs ++ ts ++ ls) (map deficit_of (all_buses h))
    ∙ ap₂ ◌+ℤ◌ (total-append f (rs ++ ts) ls ∙ ap₂ ◌+ℤ◌ (total-append f rs ts ∙ ap₂ ◌+ℤ◌ (total-flat_map f (variables_of h) (all_reservoirs h) ∙ total_ext (λ i. total f (variables_of h i)) (of_reservoir h f) (all_reservoirs h) block) (total-map f thermal_of (all_thermals h))) (total-map f line_of (all_lines h)))
    (total-map f deficit_of (all_buses h))
  where
    block : (i : ℕ) → total f (variables_of h i) ≡ of_reservoir h f i
    block i = ap (λ (z : ℤ). f (after (volume_of i)) +ℤ (f (turbine_of i) +ℤ (f (spill_of i) +ℤ z))) (total-map f (λ k. after (way_of i k)) (steps (travel h i)))

-- the terms of the water that is k stages away
abbrev pub of_way : Plants → (HydroStore → ℤ) → ℕ → ℤ
of_way h f k = total (λ i. if nat_le k (travel h i) then f (way_of i k) else pos 0) (all_reservoirs h)

one_way : (b : Bool) (f : HydroStore → ℤ) (s : HydroStore) → total f (if b then s ∷ [] else []) ≡ (if b then f s else pos 0)
one_way true f s = +ℤ_idr (f s)
one_way false f s = refl

total-ways : (h : Plants) (f : HydroStore → ℤ) (k : ℕ) → total f (ways h k) ≡ of_way h f k
total-ways h f k =
    total-flat_map f (λ i. if nat_le k (travel h i) then way_of i k ∷ [] else []) (all_reservoirs h)
    ∙ total_ext (λ i. total f (if nat_le k (travel h i) then way_of i k ∷ [] else [])) (λ i. if nat_le k (travel h i) then f (way_of i k) else pos 0) (all_reservoirs h) (λ i. one_way (nat_le k (travel h i)) f (way_of i k))

pub total-stores : (h : Plants) (f : HydroStore → ℤ) → total f (stores h) ≡ of_way h f 1 +ℤ (of_way h f 2 +ℤ (of_way h f 3 +ℤ pos 0)) +ℤ total (λ i. f (volume_of i)) (all_reservoirs h)
total-stores h f =
    total-append f (flat_map (ways h) (steps 3)) (map volume_of (all_reservoirs h))
    ∙ ap₂ ◌+ℤ◌ (total-flat_map f (ways h) (steps 3) ∙ total_ext (λ k. total f (ways h k)) (of_way h f) (steps 3) (total-ways h f)) (total-map f volume_of (all_reservoirs h))

pub total-chances : (h : Plants) (f : Chance → ℤ) → total f (chances h) ≡ total (λ i. f (inflow_of i)) (all_reservoirs h) +ℤ total (λ b. f (demand_of b)) (all_buses h)
total-chances h f = total-append f (map inflow_of (all_reservoirs h)) (map demand_of (all_buses h)) ∙ ap₂ ◌+ℤ◌ (total-map f inflow_of (all_reservoirs h)) (total-map f demand_of (all_buses h))

pub none : (x : ℤ) → pos 0 *ℤ x ≡ pos 0
none x = zero-*ℤ x

pub total-neg : {A : Type 0} (f : A → ℤ) (xs : List A) → total (λ x. neg_ℤ (f x)) xs ≡ neg_ℤ (total f xs)
total-neg f [] = refl
total-neg f (x ∷ xs) = ap (λ (z : ℤ). neg_ℤ (f x) +ℤ z) (total-neg f xs) ∙ ring (f x ∷ total f xs ∷ []) (⊖ (var 0) ⊕ ⊖ (var 1)) (⊖ (var 0 ⊕ var 1)) tt

pub if_none : (b : Bool) (x : ℤ) → x ≡ pos 0 → (if b then x else pos 0) ≡ pos 0
if_none true x e = e
if_none false x e = refl

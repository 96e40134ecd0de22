-- Sums that pass their greatest before the last entry.
use Rattle.std.proofs.Common.{◌≡◌, ◌≤◌, ◌<◌, ◌+◌, ℕ, List, [], ◌∷◌, length, map, sum, take, get_or, refl, ap, arith}
use Rattle.std.specs.List.{fold, sum_by}
use Rattle.std.proofs.lemmas.Bool.{lt-leb}
use Rattle.std.proofs.lemmas.List.Sums.{sum_by_more_le}
use Rattle.hydro_read.specs.declared.refusal.HydroKind.TheVariants as kinds
use Rattle.hydro_read.specs.declared.place.HydroPlace.{HydroPlace}
use Rattle.hydro_read.specs.declared.plants.Reservoir.{Reservoir}
use Rattle.hydro_read.specs.declared.plants.Inflow.{Inflow}
use Rattle.hydro_read.specs.Fields.{hydro_whole, hydro_refuse}
use Rattle.hydro_read.specs.Grid.{travel_stages, state_count, state_count_at}
use Rattle.hydro_read.specs.Stages.{total_inflow_weight, total_at}

fold-map : {A : Type 0} (f : A → ℕ) (a : ℕ) (xs : List A) → fold (λ (a x : ℕ). a + x) a (map f xs) ≡ fold (λ (a : ℕ) (x : A). a + f x) a xs
fold-map f a [] = refl
fold-map f a (x ∷ xs) = fold-map f (a + f x) xs

sum-map : {A : Type 0} (f : A → ℕ) (xs : List A) → sum (map f xs) ≡ sum_by f xs
sum-map f xs = fold-map f 0 xs

-- the sum so far and the next entry are within the whole sum
map-past : {A : Type 0} (f : A → ℕ) (xs : List A) (i : ℕ) (x d : A) → i < length xs → x ≡ get_or xs i d → sum (map f (take i xs)) + f x ≤ sum (map f xs)
map-past f xs i x d lt is = omega (arith, sum-map f (take i xs), sum-map f xs, sum_by_more_le f xs i d lt, ap f is)

pub total-past : (p : HydroPlace) (xs : List Inflow) (left i : ℕ) (x d : Inflow) → i < length xs → x ≡ get_or xs i d → left + total_inflow_weight (take i xs) ≡ 65535 → left < x.weight → total_at p xs ≡ hydro_refuse kinds.Limit p
unfolding total_at total_inflow_weight
total-past p xs left i x d lt is so_far past =
    let over : 65535 < sum (map (λ (f : Inflow). f.weight) xs) = omega (arith, map-past (λ (f : Inflow). f.weight) xs i x d lt is, so_far, past) in
    rw (lt-leb (sum (map (λ (f : Inflow). f.weight) xs)) 65535 over) refl

pub states-past : (rs : List Reservoir) (left i stages : ℕ) (x d : Reservoir) → i < length rs → x ≡ get_or rs i d → stages ≡ travel_stages x.downstream → left + length rs + sum (map (λ (r : Reservoir). travel_stages r.downstream) (take i rs)) ≡ 50 → left < stages → state_count_at rs ≡ hydro_refuse kinds.States hydro_whole
unfolding state_count_at state_count
states-past rs left i stages x d lt is same so_far past =
    let travels = sum (map (λ (r : Reservoir). travel_stages r.downstream) rs) in
    let over : 50 < length rs + travels = omega (arith, map-past (λ (r : Reservoir). travel_stages r.downstream) rs i x d lt is, same, so_far, past) in
    rw (lt-leb (length rs + travels) 50 over) refl

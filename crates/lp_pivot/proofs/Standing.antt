-- Lists that are changed in place, each entry by its number.
use Rattle.std.proofs.Common.{◌≡◌, ◌+◌, ◌<◌, ◌≤◌, ℕ, suc, List, [], ◌∷◌, length, get_or, slice_set, take, drop, Some, refl, ap, sym}
use Rattle.std.specs.Option.{option_map}
use Rattle.base_num.specs.Each.{each_from}
use Rattle.base_num.proofs.Each.{behind, each_step, each_done, some_same}
use Rattle.lp_pivot.specs.Standings.{map_from}

pub each_some : {A B : Type 0} (f : ℕ → A → B) (j : ℕ) (xs : List A) → each_from (λ j x. Some (f j x)) j xs ≡ Some (map_from f j xs)
each_some f j [] = refl
each_some {A} {B} f j (x ∷ xs) = ap (option_map (λ (ys : List B). f j x ∷ ys)) (each_some f (suc j) xs)

-- entry k takes its new value
pub map_step : {A : Type 0} (f : ℕ → A → A) (whole xs : List A) (k : ℕ) (d y : A) → k < length xs → y ≡ f k (get_or xs k d) → Some whole ≡ behind (take k xs) (each_from (λ j x. Some (f j x)) k (drop k xs)) → Some whole ≡ behind (take (k + 1) (slice_set xs k y)) (each_from (λ j x. Some (f j x)) (k + 1) (drop (k + 1) (slice_set xs k y)))
map_step f whole xs k d y h e w = each_step (λ j x. Some (f j x)) (Some whole) xs k d y h (ap Some (sym e)) w

pub map_done : {A : Type 0} (f : ℕ → A → A) (whole xs : List A) (k : ℕ) → length xs ≤ k → Some whole ≡ behind (take k xs) (each_from (λ j x. Some (f j x)) k (drop k xs)) → xs ≡ whole
map_done f whole xs k h w = sym (some_same (each_done (λ j x. Some (f j x)) (Some whole) xs k h w))

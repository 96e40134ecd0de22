-- The variables stand at their places.
use Rattle.std.proofs.Common.{◌≡◌, ℕ, zero, suc, ◌+◌, ℤ, pos, List, [], ◌∷◌, ◌++◌, length, map, flat_map, get_or, All, refl, sym, ap, ap₂, subst, ◌∙◌, arith}
use Rattle.std.specs.List.{range_with_len}
use Rattle.std.proofs.lemmas.List.{length-append, length-map, map-append, get_or-map}
use Rattle.std.proofs.lemmas.List.FromFn.{length-range_with_len, get_or-range_with_len, fill_by_all}
use Rattle.base_num.specs.Sums.{entry}
use Rattle.base_graph.specs.Paths.{numbers}
use Rattle.base_graph.proofs.Numbers.{flat_map_more}
use Rattle.hydro_read.specs.declared.plants.Plants.{Plants}
use Rattle.hydro_make.specs.Layout.{way_of, Variable, after, turbine_of, spill_of, thermal_of, line_of, deficit_of, travel, all_reservoirs, all_thermals, all_lines, all_buses, steps, variables_of, hydro_variables, variables_before, store_place, layout_place}
use Rattle.hydro_make.specs.Trees.{choice_of, value_with}
use Rattle.hydro_make.proofs.Lists.{entry-map}

range_append : (a m n : ℕ) → range_with_len a (m + n) ≡ range_with_len a m ++ range_with_len (a + m) n
range_append a zero n = let e : zero + n ≡ n = omega arith in let f : a ≡ a + 0 = omega arith in ap₂ range_with_len f e
range_append a (suc m) n =
    let e : suc m + n ≡ suc (m + n) = omega arith in
    let f : a + 1 + m ≡ a + suc m = omega arith in
    ap (range_with_len a) e ∙ ap (λ ks. a ∷ ks) (range_append (a + 1) m n ∙ ap (λ (k : ℕ). range_with_len (a + 1) m ++ range_with_len k n) f)

-- numbers that rise by 1
rising : (f : ℕ → ℕ) (a b n : ℕ) → ((k : ℕ) → f (b + k) ≡ a + k) → map f (range_with_len b n) ≡ range_with_len a n
rising f a b zero h = refl
rising f a b (suc n) h =
    let e : b ≡ b + 0 = omega arith in
    let z : a + 0 ≡ a = omega arith in
    ap₂ ◌∷◌ (ap f e ∙ h 0 ∙ z) (rising f (a + 1) (b + 1) n (λ k. let p : b + 1 + k ≡ b + suc k = omega arith in let q : a + suc k ≡ a + 1 + k = omega arith in ap f p ∙ h (suc k) ∙ q))

-- the places of these variables are the numbers from a on
abbrev pub Run : Plants → List Variable → ℕ → Type 0
Run h ds a = map (layout_place h) ds ≡ range_with_len a (length ds)

run-append : (h : Plants) (xs ys : List Variable) (a : ℕ) → Run h xs a → Run h ys (a + length xs) → Run h (xs ++ ys) a
run-append h xs ys a p q = map-append (layout_place h) xs ys ∙ ap₂ ◌++◌ p q ∙ sym (range_append a (length xs) (length ys)) ∙ ap (range_with_len a) (sym (length-append xs ys))

pub map_map : {A B C : Type 0} (f : B → C) (g : A → B) (xs : List A) → map f (map g xs) ≡ map (λ x. f (g x)) xs
map_map f g [] = refl
map_map f g (x ∷ xs) = ap (λ ys. f (g x) ∷ ys) (map_map f g xs)

-- variables of one kind
run_kind : (h : Plants) (kind : ℕ → Variable) (n a : ℕ) → ((i : ℕ) → layout_place h (kind i) ≡ a + i) → Run h (map kind (numbers n)) a
run_kind h kind n a e =
    map_map (layout_place h) kind (numbers n) ∙ rising (λ i. layout_place h (kind i)) a 0 n (λ k. let z : 0 + k ≡ k = omega arith in ap (λ (i : ℕ). layout_place h (kind i)) z ∙ e k)
    ∙ ap (range_with_len a) (sym (length-map (numbers n) kind ∙ length-range_with_len 0 n))

run_reservoir : (h : Plants) (j : ℕ) → Run h (variables_of h j) (variables_before h j)
run_reservoir h j =
    let a : ℕ = variables_before h j in
    let two : a + 2 ≡ a + 1 + 1 = omega arith in
    let ways : ℕ → Variable = λ k. after (way_of j k) in
    ap {B = List ℕ} (λ (ks : List ℕ). a ∷ (a + 1) ∷ ks)
    (ap₂ ◌∷◌ two (map_map (layout_place h) ways (steps (travel h j)) ∙ map_map (λ k. a + 2 + k) suc (numbers (travel h j)) ∙ rising (λ k. a + 2 + suc k) (a + 1 + 1 + 1) 0 (travel h j) (λ k. omega arith)
    ∙ ap (range_with_len (a + 1 + 1 + 1)) (sym (length-map (steps (travel h j)) ways ∙ length-map (numbers (travel h j)) suc ∙ length-range_with_len 0 (travel h j)))))

run_reservoirs : (h : Plants) (n : ℕ) → Run h (flat_map (variables_of h) (numbers n)) 0
run_reservoirs h zero = refl
run_reservoirs h (suc n) =
    let e : suc n ≡ n + 1 = omega arith in
    let z : variables_before h n ≡ 0 + variables_before h n = omega arith in
    subst (λ (ds : List Variable). Run h ds 0) (sym (ap (λ (k : ℕ). flat_map (variables_of h) (numbers k)) e ∙ flat_map_more (variables_of h) n))
    (run-append h (flat_map (variables_of h) (numbers n)) (variables_of h n) 0 (run_reservoirs h n) (subst (λ (a : ℕ). Run h (variables_of h n) a) z (run_reservoir h n)))

pub run_variables : (h : Plants) → Run h (hydro_variables h) 0
run_variables h =
    let rs : List Variable = flat_map (variables_of h) (all_reservoirs h) in
    let ts : List Variable = map thermal_of (all_thermals h) in
    let ls : List Variable = map line_of (all_lines h) in
    let lt : length ts ≡ length h.thermals = length-map (all_thermals h) thermal_of ∙ length-range_with_len 0 (length h.thermals) in
    let ll : length ls ≡ length h.lines = length-map (all_lines h) line_of ∙ length-range_with_len 0 (length h.lines) in
    let at : length (rs ++ ts) ≡ variables_before h (length h.reservoirs) + length h.thermals = length-append rs ts ∙ ap (λ (k : ℕ). length rs + k) lt in
    let al : length (rs ++ ts ++ ls) ≡ variables_before h (length h.reservoirs) + length h.thermals + length h.lines = length-append (rs ++ ts) ls ∙ ap₂ ◌+◌ at ll in
    run-append h (rs ++ ts ++ ls) (map deficit_of (all_buses h)) 0
    (run-append h (rs ++ ts) ls 0
    (run-append h rs ts 0 (run_reservoirs h (length h.reservoirs)) (run_kind h thermal_of (length h.thermals) (0 + length rs) (λ i. omega arith)))
    (run_kind h line_of (length h.lines) (0 + length (rs ++ ts)) (λ l. omega (arith, at))))
    (run_kind h deficit_of (length h.buses) (0 + length (rs ++ ts ++ ls)) (λ b. omega (arith, al)))

-- the value at a variable's place
pub at_place : (h : Plants) (x : Variable → ℤ) → All (λ d. entry (map x (hydro_variables h)) (layout_place h d) ≡ x d) (hydro_variables h)
at_place h x k d p =
    let place : layout_place h (get_or (hydro_variables h) k d) ≡ k =
    sym (get_or-map (layout_place h) (hydro_variables h) k d 0 p) ∙ ap (λ (ks : List ℕ). get_or ks k 0) (run_variables h) ∙ get_or-range_with_len 0 (length (hydro_variables h)) k 0 p ∙ zero_plus k in
    ap (entry (map x (hydro_variables h))) place ∙ entry-map x (hydro_variables h) k d p
  where
    zero_plus : (i : ℕ) → 0 + i ≡ i
    zero_plus i = omega arith

-- as many decisions as there are variables, by their places
pub by_places : (h : Plants) (u : List ℤ) → length u ≡ length (hydro_variables h) → u ≡ map (value_with (choice_of h u) (λ s. entry u (store_place h s))) (hydro_variables h)
by_places h u e =
    fill_by_all (entry u) u (length (hydro_variables h)) (pos 0) e (λ k p. refl) ∙ ap (map (entry u)) (sym (run_variables h)) ∙ map_map (entry u) (layout_place h) (hydro_variables h) ∙ each (hydro_variables h)
  where
    same : (d : Variable) → entry u (layout_place h d) ≡ value_with (choice_of h u) (λ s. entry u (store_place h s)) d
    same (after s) = refl
    same (turbine_of j) = refl
    same (spill_of j) = refl
    same (thermal_of i) = refl
    same (line_of l) = refl
    same (deficit_of b) = refl

    each : (ds : List Variable) → map (λ d. entry u (layout_place h d)) ds ≡ map (value_with (choice_of h u) (λ s. entry u (store_place h s))) ds
    each [] = refl
    each (d ∷ ds) = ap₂ ◌∷◌ (same d) (each ds)

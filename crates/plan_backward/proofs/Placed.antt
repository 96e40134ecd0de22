-- Certificates at the places of their realizations, and the values of realizations in an order.
use Rattle.std.proofs.Common.{◌≡◌, ◌≢◌, ℕ, zero, suc, ◌<◌, Bool, true, false, nat_eq, ℤ, List, [], ◌∷◌, ◌++◌, length, get_or, set, take, drop, replicate, All, Contains, Some, slice_get, refl, ap, sym, subst, ◌∙◌, arith}
use Rattle.std.proofs.lemmas.Bool.Decides.{nat_tests}
use Rattle.std.proofs.lemmas.List.{length-map, length-replicate, length-set, get_or-set_same, get_or-set_other, map-append, take-append-drop}
use Rattle.std.proofs.lemmas.List.Elements.{All-head, All-map, All-tail}
use Rattle.problem.specs.declared.parts.ProblemParts.{ProblemParts}
use Rattle.theory.specs.declared.cut.Certificate.{Certificate}
use Rattle.plan_stage.specs.Orders.{node_values_at, solving_order}
use Rattle.plan_stage.proofs.NearBy.{length-solving_order, solving_order_all, solving_order_below}
use Rattle.plan_backward.specs.Certifying.{blank, order_at, placed, values_of}

-- the last certificate is placed first
pub placed-push : (order : List ℕ) (i : ℕ) (cs : List Certificate) (c : Certificate) (list : List Certificate) → length cs ≡ length order → placed (order ++ i ∷ []) (cs ++ c ∷ []) list ≡ placed order cs (set list i c)
placed-push [] i [] c list e = refl
placed-push [] i (d ∷ cs) c list e = absurd (omega (arith, e))
placed-push (j ∷ order) i [] c list e = absurd (omega (arith, e))
placed-push (j ∷ order) i (d ∷ cs) c list e = ap (λ (l : List Certificate). set l j d) (placed-push order i cs c list (omega (arith, e)))

pub length-placed : (order : List ℕ) (cs list : List Certificate) → length (placed order cs list) ≡ length list
length-placed [] cs list = refl
length-placed (i ∷ order) [] list = refl
length-placed (i ∷ order) (c ∷ cs) list = length-set (placed order cs list) i c ∙ length-placed order cs list

-- a number that is another than the first stands in the rest
in_rest : (i k : ℕ) (order : List ℕ) → Contains (i ∷ order) k → k ≢ i → Contains order k
in_rest i k order (zero, inside, is) other = absurd (other (sym is))
in_rest i k order (suc j, inside, is) other = (j, omega (arith, inside), is)

not_there : (k : ℕ) → Contains [] k → ⊥
not_there k c = omega (arith, c.1)

-- what holds of each certificate holds of each that is placed, where each place has one
at_place : (P : Certificate → Type 0) (order : List ℕ) (cs list : List Certificate) (k : ℕ) (d : Certificate) → length cs ≡ length order → All P cs → k < length list → Contains order k → P (get_or (placed order cs list) k d)
at_place P [] cs list k d e all h c = absurd (not_there k c)
at_place P (i ∷ order) [] list k d e all h c = absurd (omega (arith, e))
at_place P (i ∷ order) (x ∷ cs) list k d e all h c = by (nat_eq k i) refl (λ other. at_place P order cs list k d (omega (arith, e)) (All-tail P x cs all) h (in_rest i k order c other))
  where
    by : (b : Bool) → nat_eq k i ≡ b → (k ≢ i → P (get_or (placed order cs list) k d)) → P (get_or (set (placed order cs list) i x) k d)
    by true same rest =
        let is : k ≡ i = grind (arith, nat_tests, same) in
        subst (λ (j : ℕ). P (get_or (set (placed order cs list) i x) j d)) (sym is)
        (subst P (sym (get_or-set_same (placed order cs list) i x d (omega (arith, h, is, length-placed order cs list)))) (All-head P x cs all))
    by false differ rest =
        let other : k ≢ i = λ e. grind (arith, nat_tests, differ, e) in
        subst P (sym (get_or-set_other (placed order cs list) i k x d other)) (rest other)

module _ (values : List (List ℤ)) (cs : List Certificate) (count : length cs ≡ length (solving_order values)) where
  abbrev in_places : List Certificate
  in_places = placed (solving_order values) cs (replicate (length (solving_order values)) blank)

  pub length-in_places : length in_places ≡ length values
  length-in_places = length-placed (solving_order values) cs (replicate (length (solving_order values)) blank) ∙ length-replicate (length (solving_order values)) blank ∙ length-solving_order values

  pub all_in_places : (P : Certificate → Type 0) → All P cs → All P in_places
  all_in_places P all = λ k d h.
      let inside : k < length values = omega (arith, h, length-in_places) in
      at_place P (solving_order values) cs (replicate (length (solving_order values)) blank) k d count all (omega (arith, inside, length-replicate (length (solving_order values)) blank, length-solving_order values)) (solving_order_all values k inside)

-- the values of some realizations
module _ (parts : ProblemParts) (m : ℕ) where
  pub length-values_of : (order : List ℕ) → length (values_of parts m order) ≡ length order
  length-values_of order = length-map order (λ i. get_or (node_values_at parts m) i [])

  pub all-values_of : (P : List ℤ → Type 0) (order : List ℕ) → All P (node_values_at parts m) → All (λ i. i < length (node_values_at parts m)) order → All P (values_of parts m order)
  all-values_of P order all known = All-map P (λ i. get_or (node_values_at parts m) i []) order (λ k d h. all (get_or order k d) [] (known k d h))

  -- the values of the first one
  pub head-values_of : (order : List ℕ) (d : ℕ) → 0 < length order → get_or (values_of parts m order) 0 [] ≡ get_or (node_values_at parts m) (get_or order 0 d) []
  head-values_of [] d some = absurd (omega (arith, some))
  head-values_of (i ∷ order) d some = refl

  pub first-values_of : (order : List ℕ) → 0 < length order → slice_get (values_of parts m order) 0 ≡ Some (get_or (values_of parts m order) 0 [])
  first-values_of [] some = absurd (omega (arith, some))
  first-values_of (i ∷ order) some = refl

  pub parts-values_of : (count : ℕ) (order : List ℕ) → values_of parts m (take count order) ++ values_of parts m (drop count order) ≡ values_of parts m order
  parts-values_of count order = sym (map-append (λ i. get_or (node_values_at parts m) i []) (take count order) (drop count order)) ∙ ap (λ (l : List ℕ). values_of parts m l) (take-append-drop count order)

  pub order_known : All (λ i. i < length (node_values_at parts m)) (order_at parts m)
  order_known = solving_order_below (node_values_at parts m)

  pub length-order_at : length (order_at parts m) ≡ length (node_values_at parts m)
  length-order_at = length-solving_order (node_values_at parts m)

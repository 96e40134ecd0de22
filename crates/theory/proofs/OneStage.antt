-- One stage: a certificate's numbers are at most the cost of each decision, with the successors' values.
use Rattle.std.proofs.Common.{◌≡◌, ℕ, zero, suc, ◌<◌, ◌≤◌, ℤ, pos, negsuc, ◌+ℤ◌, ◌*ℤ◌, ◌-ℤ◌, neg_ℤ, ◌≤ℤ◌, List, [], ◌∷◌, length, All, zip, Option, Some, None, IsSome, arith, refl, ap, ap₂, sym, ◌∙◌}
use lib.IntN.{zero-*ℤ}
use Rattle.base_num.specs.Sums.{sum_to, total, entry, dot, Term, at_terms, coefficient, placed}
use Rattle.base_num.proofs.Order.{le_refl, le_of_eq, le_trans, le_add, le_scale, le_flip, box_least_is}
use Rattle.base_num.proofs.Ring.{ring, var, num, ◌⊕◌, ◌⊗◌, ⊖}
use Rattle.base_num.proofs.Sums.{sum_ext, sum_zero, sum_add, sum_times, sum_le, total_ext, total_add, total_times, total_le, sum_terms, dot_placed, dot_sum, entry_past}
use Rattle.theory.specs.Certificates.{SignRight, cut_at}
use Rattle.theory.specs.Cost.{stage}
use Rattle.theory.specs.CutOf.{side_of, side, scale, over_pairs, over_rows, reduced_cost, box_least, alpha_at, beta_at}
use Rattle.theory.specs.Pools.{scaled_value}
use Rattle.theory.specs.Problem.{S, Successor, Node}
use Rattle.theory.specs.Tree.{InBox, AtLeast, AtMost, RowHolds, Decides, next_state}
use Rattle.theory.proofs.Fractions.{between}
use Rattle.theory.proofs.Lists.{All-zip, All-both}
use Rattle.problem.specs.declared.parts.Row.{Row}
use Rattle.theory.specs.declared.cut.Cut.{Cut}
use Rattle.theory.specs.declared.cut.Certificate.{Certificate}

-- a row
row_low : (o : Option ℤ) (k units : ℕ) (g l : ℤ) → IsSome o → AtLeast o units (l +ℤ pos units *ℤ g) → (pos (suc k) *ℤ (side_of o -ℤ g) *ℤ pos units) ≤ℤ (pos (suc k) *ℤ l)
row_low None k units g l s h = cc
row_low (Some x) k units g l s h =
    between (pos (suc k) *ℤ (x -ℤ g) *ℤ pos units) (pos (suc k) *ℤ (pos units *ℤ x) +ℤ neg_ℤ (pos (suc k) *ℤ (pos units *ℤ g))) (pos (suc k) *ℤ (l +ℤ pos units *ℤ g) +ℤ neg_ℤ (pos (suc k) *ℤ (pos units *ℤ g))) (pos (suc k) *ℤ l)
    (ring (pos (suc k) ∷ x ∷ g ∷ pos units ∷ []) (var 0 ⊗ (var 1 ⊕ ⊖ (var 2)) ⊗ var 3) (var 0 ⊗ (var 3 ⊗ var 1) ⊕ ⊖ (var 0 ⊗ (var 3 ⊗ var 2))) tt)
    (le_add (pos (suc k) *ℤ (pos units *ℤ x)) (pos (suc k) *ℤ (l +ℤ pos units *ℤ g)) (neg_ℤ (pos (suc k) *ℤ (pos units *ℤ g))) (neg_ℤ (pos (suc k) *ℤ (pos units *ℤ g))) (le_scale (suc k) (pos units *ℤ x) (l +ℤ pos units *ℤ g) h) (le_refl (neg_ℤ (pos (suc k) *ℤ (pos units *ℤ g)))))
    (ring (pos (suc k) ∷ l ∷ g ∷ pos units ∷ []) (var 0 ⊗ (var 1 ⊕ var 3 ⊗ var 2) ⊕ ⊖ (var 0 ⊗ (var 3 ⊗ var 2))) (var 0 ⊗ var 1) tt)

row_high : (o : Option ℤ) (k units : ℕ) (g l : ℤ) → IsSome o → AtMost o units (l +ℤ pos units *ℤ g) → (negsuc k *ℤ (side_of o -ℤ g) *ℤ pos units) ≤ℤ (negsuc k *ℤ l)
row_high None k units g l s h = cc
row_high (Some x) k units g l s h =
    between (negsuc k *ℤ (x -ℤ g) *ℤ pos units) (negsuc k *ℤ (pos units *ℤ x) +ℤ neg_ℤ (negsuc k *ℤ (pos units *ℤ g))) (negsuc k *ℤ (l +ℤ pos units *ℤ g) +ℤ neg_ℤ (negsuc k *ℤ (pos units *ℤ g))) (negsuc k *ℤ l)
    (ring (negsuc k ∷ x ∷ g ∷ pos units ∷ []) (var 0 ⊗ (var 1 ⊕ ⊖ (var 2)) ⊗ var 3) (var 0 ⊗ (var 3 ⊗ var 1) ⊕ ⊖ (var 0 ⊗ (var 3 ⊗ var 2))) tt)
    (le_add (negsuc k *ℤ (pos units *ℤ x)) (negsuc k *ℤ (l +ℤ pos units *ℤ g)) (neg_ℤ (negsuc k *ℤ (pos units *ℤ g))) (neg_ℤ (negsuc k *ℤ (pos units *ℤ g))) (le_flip k (l +ℤ pos units *ℤ g) (pos units *ℤ x) h) (le_refl (neg_ℤ (negsuc k *ℤ (pos units *ℤ g)))))
    (ring (negsuc k ∷ l ∷ g ∷ pos units ∷ []) (var 0 ⊗ (var 1 ⊕ var 3 ⊗ var 2) ⊕ ⊖ (var 0 ⊗ (var 3 ⊗ var 2))) (var 0 ⊗ var 1) tt)

abbrev row_part : List ℤ → List ℤ → Row → ℤ
row_part xi u row = at_terms row.decisions (entry u) +ℤ at_terms row.states (entry xi)

row_step : (units : ℕ) (values xi u : List ℤ) (row : Row) (y : ℤ) → SignRight row y → RowHolds units values xi u row
    → (y *ℤ (side row y -ℤ at_terms row.randoms (entry values)) *ℤ pos units) ≤ℤ (y *ℤ row_part xi u row)
row_step units values xi u row (pos zero) s h = le_of_eq (pos 0 *ℤ (pos 0 -ℤ at_terms row.randoms (entry values)) *ℤ pos units) (pos 0 *ℤ row_part xi u row)
    (ring (at_terms row.randoms (entry values) ∷ pos units ∷ row_part xi u row ∷ []) (num (pos 0) ⊗ (num (pos 0) ⊕ ⊖ (var 0)) ⊗ var 1) (num (pos 0) ⊗ var 2) tt)
row_step units values xi u row (pos (suc k)) s h = row_low row.low k units (at_terms row.randoms (entry values)) (row_part xi u row) s h.low
row_step units values xi u row (negsuc k) s h = row_high row.high k units (at_terms row.randoms (entry values)) (row_part xi u row) s h.high

-- sums of coefficients at numbers are sums of the terms' values
sum_factor : (n : ℕ) (w : ℤ) (ts : List Term) (x : ℕ → ℤ) → ((j : ℕ) → n ≤ j → x j ≡ pos 0) → sum_to n (λ j. w *ℤ coefficient ts j *ℤ x j) ≡ w *ℤ at_terms ts x
sum_factor n w ts x e =
    sum_ext n (λ j. w *ℤ coefficient ts j *ℤ x j) (λ j. w *ℤ (coefficient ts j *ℤ x j)) (λ j p. ring (w ∷ coefficient ts j ∷ x j ∷ []) (var 0 ⊗ var 1 ⊗ var 2) (var 0 ⊗ (var 1 ⊗ var 2)) tt)
    ∙ sum_times n w (λ j. coefficient ts j *ℤ x j) ∙ ap (λ (k : ℤ). w *ℤ k) (sum_terms n ts x e)

pub sum_total : {A : Type 0} (n : ℕ) (f : A → ℕ → ℤ) (g : A → ℤ) (x : ℕ → ℤ) (xs : List A) → ((a : A) → sum_to n (λ j. f a j *ℤ x j) ≡ g a) → sum_to n (λ j. total (λ a. f a j) xs *ℤ x j) ≡ total g xs
sum_total n f g x [] h = sum_zero n (λ j. pos 0 *ℤ x j) (λ k p. zero-*ℤ (x k))
sum_total n f g x (a ∷ xs) h =
    sum_ext n (λ j. (f a j +ℤ total (λ b. f b j) xs) *ℤ x j) (λ j. f a j *ℤ x j +ℤ total (λ b. f b j) xs *ℤ x j)
    (λ j p. ring (f a j ∷ total (λ b. f b j) xs ∷ x j ∷ []) ((var 0 ⊕ var 1) ⊗ var 2) (var 0 ⊗ var 2 ⊕ var 1 ⊗ var 2) tt)
    ∙ sum_add n (λ j. f a j *ℤ x j) (λ j. total (λ b. f b j) xs *ℤ x j)
    ∙ ap₂ ◌+ℤ◌ (h a) (sum_total n f g x xs h)

rows_sum : (d : ℕ) (n : Node) (c : Certificate) (part : Row → List Term) (x : ℕ → ℤ) → ((j : ℕ) → d ≤ j → x j ≡ pos 0)
    → sum_to d (λ j. over_rows n c (λ row y. coefficient (part row) j) *ℤ x j) ≡ over_rows n c (λ row y. at_terms (part row) x)
rows_sum d n c part x e = sum_total d (λ (q : Row × ℤ) j. q.1 *ℤ coefficient (part q.0) j) (λ (q : Row × ℤ). q.1 *ℤ at_terms (part q.0) x) x (zip n.rows c.rows) (λ q. sum_factor d q.1 (part q.0) x e)

pairs_sum : (d : ℕ) (pools : List (List Cut)) (n : Node) (c : Certificate) (x : ℕ → ℤ) → ((j : ℕ) → d ≤ j → x j ≡ pos 0)
    → sum_to d (λ j. over_pairs pools n c (λ cut. coefficient (placed n.outs cut.beta) j) *ℤ x j) ≡ over_pairs pools n c (λ cut. at_terms (placed n.outs cut.beta) x)
pairs_sum d pools n c x e =
    sum_total d (λ (q : Successor × List (ℕ × ℕ)) j. total (λ (s : ℕ × ℕ). pos s.1 *ℤ coefficient (placed n.outs (cut_at pools q.0 s).beta) j) q.1)
    (λ (q : Successor × List (ℕ × ℕ)). total (λ (s : ℕ × ℕ). pos s.1 *ℤ at_terms (placed n.outs (cut_at pools q.0 s).beta) x) q.1) x (zip n.successors c.cuts)
    (λ q. sum_total d (λ (s : ℕ × ℕ) j. pos s.1 *ℤ coefficient (placed n.outs (cut_at pools q.0 s).beta) j) (λ (s : ℕ × ℕ). pos s.1 *ℤ at_terms (placed n.outs (cut_at pools q.0 s).beta) x) x q.1
    (λ s. sum_factor d (pos s.1) (placed n.outs (cut_at pools q.0 s).beta) x e))

-- a sum over pairs of a f + g, taken apart
pub total_linear : {A : Type 0} (a : ℤ) (f g h : A → ℤ) (xs : List A) → ((x : A) → h x ≡ a *ℤ f x +ℤ g x) → total h xs ≡ a *ℤ total f xs +ℤ total g xs
total_linear a f g h xs e = total_ext h (λ x. a *ℤ f x +ℤ g x) xs e ∙ total_add (λ x. a *ℤ f x) g xs ∙ ap (λ (k : ℤ). k +ℤ total g xs) (total_times a f xs)

pairs_linear : (pools : List (List Cut)) (n : Node) (c : Certificate) (a : ℤ) (f g h : Cut → ℤ) → ((x : Cut) → h x ≡ a *ℤ f x +ℤ g x)
    → over_pairs pools n c h ≡ a *ℤ over_pairs pools n c f +ℤ over_pairs pools n c g
pairs_linear pools n c a f g h e =
    total_ext (λ (q : Successor × List (ℕ × ℕ)). total (λ (s : ℕ × ℕ). pos s.1 *ℤ h (cut_at pools q.0 s)) q.1)
    (λ (q : Successor × List (ℕ × ℕ)). a *ℤ total (λ (s : ℕ × ℕ). pos s.1 *ℤ f (cut_at pools q.0 s)) q.1 +ℤ total (λ (s : ℕ × ℕ). pos s.1 *ℤ g (cut_at pools q.0 s)) q.1) (zip n.successors c.cuts)
    (λ q. total_linear a (λ (s : ℕ × ℕ). pos s.1 *ℤ f (cut_at pools q.0 s)) (λ (s : ℕ × ℕ). pos s.1 *ℤ g (cut_at pools q.0 s)) (λ (s : ℕ × ℕ). pos s.1 *ℤ h (cut_at pools q.0 s)) q.1
    (λ s. ap (λ (k : ℤ). pos s.1 *ℤ k) (e (cut_at pools q.0 s)) ∙ ring (pos s.1 ∷ a ∷ f (cut_at pools q.0 s) ∷ g (cut_at pools q.0 s) ∷ []) (var 0 ⊗ (var 1 ⊗ var 2 ⊕ var 3)) (var 1 ⊗ (var 0 ⊗ var 2) ⊕ var 0 ⊗ var 3) tt))
    ∙ total_linear a (λ (q : Successor × List (ℕ × ℕ)). total (λ (s : ℕ × ℕ). pos s.1 *ℤ f (cut_at pools q.0 s)) q.1) (λ (q : Successor × List (ℕ × ℕ)). total (λ (s : ℕ × ℕ). pos s.1 *ℤ g (cut_at pools q.0 s)) q.1)
    (λ (q : Successor × List (ℕ × ℕ)). a *ℤ total (λ (s : ℕ × ℕ). pos s.1 *ℤ f (cut_at pools q.0 s)) q.1 +ℤ total (λ (s : ℕ × ℕ). pos s.1 *ℤ g (cut_at pools q.0 s)) q.1) (zip n.successors c.cuts) (λ q. refl)

pairs_dot : (pools : List (List Cut)) (n : Node) (c : Certificate) (u : List ℤ) → over_pairs pools n c (λ cut. at_terms (placed n.outs cut.beta) (entry u)) ≡ over_pairs pools n c (λ cut. dot cut.beta (next_state n u))
pairs_dot pools n c u =
    total_ext (λ (q : Successor × List (ℕ × ℕ)). total (λ (s : ℕ × ℕ). pos s.1 *ℤ at_terms (placed n.outs (cut_at pools q.0 s).beta) (entry u)) q.1)
    (λ (q : Successor × List (ℕ × ℕ)). total (λ (s : ℕ × ℕ). pos s.1 *ℤ dot (cut_at pools q.0 s).beta (next_state n u)) q.1) (zip n.successors c.cuts)
    (λ q. total_ext (λ (s : ℕ × ℕ). pos s.1 *ℤ at_terms (placed n.outs (cut_at pools q.0 s).beta) (entry u)) (λ (s : ℕ × ℕ). pos s.1 *ℤ dot (cut_at pools q.0 s).beta (next_state n u)) q.1
    (λ s. ap (λ (k : ℤ). pos s.1 *ℤ k) (dot_placed n.outs (cut_at pools q.0 s).beta (entry u))))

-- the whole numbers of one stage
total_by : {A : Type 0} (f : A → ℤ) (c : ℤ) (xs : List A) → total (λ x. f x *ℤ c) xs ≡ total f xs *ℤ c
total_by f c [] = sym (zero-*ℤ c)
total_by f c (x ∷ xs) = ap (λ (k : ℤ). f x *ℤ c +ℤ k) (total_by f c xs) ∙ ring (f x ∷ c ∷ total f xs ∷ []) (var 0 ⊗ var 1 ⊕ var 2 ⊗ var 1) ((var 0 ⊕ var 2) ⊗ var 1) tt

sum_two : (n : ℕ) (a b : ℤ) (f g x : ℕ → ℤ) → sum_to n (λ k. (a *ℤ f k -ℤ b *ℤ g k) *ℤ x k) ≡ a *ℤ sum_to n (λ k. f k *ℤ x k) -ℤ b *ℤ sum_to n (λ k. g k *ℤ x k)
sum_two zero a b f g x = ring (a ∷ b ∷ []) (num (pos 0)) (var 0 ⊗ num (pos 0) ⊕ ⊖ (var 1 ⊗ num (pos 0))) tt
sum_two (suc n) a b f g x =
    ap (λ (k : ℤ). (a *ℤ f 0 -ℤ b *ℤ g 0) *ℤ x 0 +ℤ k) (sum_two n a b (λ k. f (suc k)) (λ k. g (suc k)) (λ k. x (suc k)))
    ∙ ring (a ∷ b ∷ f 0 ∷ g 0 ∷ x 0 ∷ sum_to n (λ k. f (suc k) *ℤ x (suc k)) ∷ sum_to n (λ k. g (suc k) *ℤ x (suc k)) ∷ [])
    ((var 0 ⊗ var 2 ⊕ ⊖ (var 1 ⊗ var 3)) ⊗ var 4 ⊕ (var 0 ⊗ var 5 ⊕ ⊖ (var 1 ⊗ var 6))) (var 0 ⊗ (var 2 ⊗ var 4 ⊕ var 5) ⊕ ⊖ (var 1 ⊗ (var 3 ⊗ var 4 ⊕ var 6))) tt

sum_three : (n : ℕ) (a b : ℤ) (f g h x : ℕ → ℤ) → sum_to n (λ k. (a *ℤ f k -ℤ b *ℤ g k +ℤ h k) *ℤ x k) ≡ a *ℤ sum_to n (λ k. f k *ℤ x k) -ℤ b *ℤ sum_to n (λ k. g k *ℤ x k) +ℤ sum_to n (λ k. h k *ℤ x k)
sum_three zero a b f g h x = ring (a ∷ b ∷ []) (num (pos 0)) (var 0 ⊗ num (pos 0) ⊕ ⊖ (var 1 ⊗ num (pos 0)) ⊕ num (pos 0)) tt
sum_three (suc n) a b f g h x =
    ap (λ (k : ℤ). (a *ℤ f 0 -ℤ b *ℤ g 0 +ℤ h 0) *ℤ x 0 +ℤ k) (sum_three n a b (λ k. f (suc k)) (λ k. g (suc k)) (λ k. h (suc k)) (λ k. x (suc k)))
    ∙ ring (a ∷ b ∷ f 0 ∷ g 0 ∷ h 0 ∷ x 0 ∷ sum_to n (λ k. f (suc k) *ℤ x (suc k)) ∷ sum_to n (λ k. g (suc k) *ℤ x (suc k)) ∷ sum_to n (λ k. h (suc k) *ℤ x (suc k)) ∷ [])
    ((var 0 ⊗ var 2 ⊕ ⊖ (var 1 ⊗ var 3) ⊕ var 4) ⊗ var 5 ⊕ (var 0 ⊗ var 6 ⊕ ⊖ (var 1 ⊗ var 7) ⊕ var 8)) (var 0 ⊗ (var 2 ⊗ var 5 ⊕ var 6) ⊕ ⊖ (var 1 ⊗ (var 3 ⊗ var 5 ⊕ var 7)) ⊕ (var 4 ⊗ var 5 ⊕ var 8)) tt

-- d·u
reduced_sum : (pools : List (List Cut)) (n : Node) (c : Certificate) (u : List ℤ) → length u ≤ length n.costs
    → sum_to (length n.costs) (λ j. reduced_cost pools n c j *ℤ entry u j) ≡ scale n *ℤ dot n.costs u -ℤ pos S *ℤ over_rows n c (λ row y. at_terms row.decisions (entry u)) +ℤ over_pairs pools n c (λ cut. dot cut.beta (next_state n u))
reduced_sum pools n c u le =
    sum_three (length n.costs) (scale n) (pos S) (entry n.costs) (λ j. over_rows n c (λ row y. coefficient row.decisions j)) (λ j. over_pairs pools n c (λ cut. coefficient (placed n.outs cut.beta) j)) (entry u)
    ∙ ap (λ (k : ℤ). scale n *ℤ k -ℤ pos S *ℤ sum_to (length n.costs) (λ j. over_rows n c (λ row y. coefficient row.decisions j) *ℤ entry u j) +ℤ sum_to (length n.costs) (λ j. over_pairs pools n c (λ cut. coefficient (placed n.outs cut.beta) j) *ℤ entry u j)) (sym (dot_sum n.costs u))
    ∙ ap₂ (λ (k m : ℤ). scale n *ℤ dot n.costs u -ℤ pos S *ℤ k +ℤ m) (rows_sum (length n.costs) n c (λ row. row.decisions) (entry u) (λ j q. entry_past u (length n.costs) j le q))
    (pairs_sum (length n.costs) pools n c (entry u) (λ j q. entry_past u (length n.costs) j le q) ∙ pairs_dot pools n c u)

-- B_r·x
beta_at_sum : (n : Node) (c : Certificate) (xi : List ℤ) → length xi ≤ length n.state_costs
    → sum_to (length n.state_costs) (λ k. beta_at n c k *ℤ entry xi k) ≡ scale n *ℤ dot n.state_costs xi -ℤ pos S *ℤ over_rows n c (λ row y. at_terms row.states (entry xi))
beta_at_sum n c xi le =
    sum_two (length n.state_costs) (scale n) (pos S) (entry n.state_costs) (λ k. over_rows n c (λ row y. coefficient row.states k)) (entry xi)
    ∙ ap₂ (λ (k m : ℤ). scale n *ℤ k -ℤ pos S *ℤ m) (sym (dot_sum n.state_costs xi)) (rows_sum (length n.state_costs) n c (λ row. row.states) (entry xi) (λ j q. entry_past xi (length n.state_costs) j le q))

-- all rows at once
rows_step : (units : ℕ) (values xi u : List ℤ) (n : Node) (c : Certificate) → All (λ (q : Row × ℤ). SignRight q.0 q.1) (zip n.rows c.rows) → All (RowHolds units values xi u) n.rows
    → (over_rows n c (λ row y. side row y -ℤ at_terms row.randoms (entry values)) *ℤ pos units) ≤ℤ (over_rows n c (λ row y. at_terms row.decisions (entry u)) +ℤ over_rows n c (λ row y. at_terms row.states (entry xi)))
rows_step units values xi u n c s h =
    between (over_rows n c (λ row y. side row y -ℤ at_terms row.randoms (entry values)) *ℤ pos units)
    (total (λ (q : Row × ℤ). q.1 *ℤ (side q.0 q.1 -ℤ at_terms q.0.randoms (entry values)) *ℤ pos units) (zip n.rows c.rows))
    (total (λ (q : Row × ℤ). q.1 *ℤ row_part xi u q.0) (zip n.rows c.rows))
    (over_rows n c (λ row y. at_terms row.decisions (entry u)) +ℤ over_rows n c (λ row y. at_terms row.states (entry xi)))
    (sym (total_by (λ (q : Row × ℤ). q.1 *ℤ (side q.0 q.1 -ℤ at_terms q.0.randoms (entry values))) (pos units) (zip n.rows c.rows)))
    (total_le (λ (q : Row × ℤ). SignRight q.0 q.1 × RowHolds units values xi u q.0) (λ (q : Row × ℤ). q.1 *ℤ (side q.0 q.1 -ℤ at_terms q.0.randoms (entry values)) *ℤ pos units) (λ (q : Row × ℤ). q.1 *ℤ row_part xi u q.0) (zip n.rows c.rows)
    (All-both (λ (q : Row × ℤ). SignRight q.0 q.1) (λ (q : Row × ℤ). RowHolds units values xi u q.0) (zip n.rows c.rows) s (All-zip (RowHolds units values xi u) n.rows c.rows h))
    (λ q r. row_step units values xi u q.0 q.1 r.0 r.1))
    (total_ext (λ (q : Row × ℤ). q.1 *ℤ row_part xi u q.0) (λ (q : Row × ℤ). q.1 *ℤ at_terms q.0.decisions (entry u) +ℤ q.1 *ℤ at_terms q.0.states (entry xi)) (zip n.rows c.rows)
    (λ q. ring (q.1 ∷ at_terms q.0.decisions (entry u) ∷ at_terms q.0.states (entry xi) ∷ []) (var 0 ⊗ (var 1 ⊕ var 2)) (var 0 ⊗ var 1 ⊕ var 0 ⊗ var 2) tt)
    ∙ total_add (λ (q : Row × ℤ). q.1 *ℤ at_terms q.0.decisions (entry u)) (λ (q : Row × ℤ). q.1 *ℤ at_terms q.0.states (entry xi)) (zip n.rows c.rows))

-- the boxes
boxes_step : (units : ℕ) (pools : List (List Cut)) (n : Node) (c : Certificate) (u : List ℤ) → length n.decision_low ≡ length n.costs → InBox units n.decision_low n.decision_high u
    → (pos units *ℤ sum_to (length n.costs) (λ j. box_least n j (reduced_cost pools n c j))) ≤ℤ sum_to (length n.costs) (λ j. reduced_cost pools n c j *ℤ entry u j)
boxes_step units pools n c u e b =
    between (pos units *ℤ sum_to (length n.costs) (λ j. box_least n j (reduced_cost pools n c j))) (sum_to (length n.costs) (λ j. pos units *ℤ box_least n j (reduced_cost pools n c j)))
    (sum_to (length n.costs) (λ j. reduced_cost pools n c j *ℤ entry u j)) (sum_to (length n.costs) (λ j. reduced_cost pools n c j *ℤ entry u j))
    (sym (sum_times (length n.costs) (pos units) (λ j. box_least n j (reduced_cost pools n c j))))
    (sum_le (length n.costs) (λ j. pos units *ℤ box_least n j (reduced_cost pools n c j)) (λ j. reduced_cost pools n c j *ℤ entry u j)
    (λ j p. let q : j < length n.decision_low = omega arith in box_least_is units (reduced_cost pools n c j) (entry n.decision_low j) (entry n.decision_high j) (entry u j) (b.above j q) (b.below j q)))
    refl

assemble : (sc : ℤ) (s n : ℕ) (cst w m r ra rb pa pb cu ex : ℤ) → (pos n *ℤ m) ≤ℤ (sc *ℤ cu -ℤ pos s *ℤ ra +ℤ pb) → (r *ℤ pos n) ≤ℤ (ra +ℤ rb)
    → ((sc *ℤ (cst +ℤ w) +ℤ pos s *ℤ r +ℤ pa +ℤ m) *ℤ pos n +ℤ (sc *ℤ ex -ℤ pos s *ℤ rb)) ≤ℤ (sc *ℤ (pos n *ℤ cst +ℤ pos n *ℤ w +ℤ cu +ℤ ex) +ℤ (pos n *ℤ pa +ℤ pb))
assemble sc s n cst w m r ra rb pa pb cu ex h k =
    let x : ℤ = sc *ℤ (cst +ℤ w) *ℤ pos n +ℤ pa *ℤ pos n +ℤ sc *ℤ ex -ℤ pos s *ℤ rb in
    between ((sc *ℤ (cst +ℤ w) +ℤ pos s *ℤ r +ℤ pa +ℤ m) *ℤ pos n +ℤ (sc *ℤ ex -ℤ pos s *ℤ rb)) (x +ℤ (pos n *ℤ m +ℤ pos s *ℤ (r *ℤ pos n))) (x +ℤ (sc *ℤ cu -ℤ pos s *ℤ ra +ℤ pb +ℤ pos s *ℤ (ra +ℤ rb))) (sc *ℤ (pos n *ℤ cst +ℤ pos n *ℤ w +ℤ cu +ℤ ex) +ℤ (pos n *ℤ pa +ℤ pb))
    (ring (sc ∷ pos s ∷ pos n ∷ cst ∷ w ∷ m ∷ r ∷ rb ∷ pa ∷ ex ∷ [])
    ((var 0 ⊗ (var 3 ⊕ var 4) ⊕ var 1 ⊗ var 6 ⊕ var 8 ⊕ var 5) ⊗ var 2 ⊕ (var 0 ⊗ var 9 ⊕ ⊖ (var 1 ⊗ var 7)))
    (var 0 ⊗ (var 3 ⊕ var 4) ⊗ var 2 ⊕ var 8 ⊗ var 2 ⊕ var 0 ⊗ var 9 ⊕ ⊖ (var 1 ⊗ var 7) ⊕ (var 2 ⊗ var 5 ⊕ var 1 ⊗ (var 6 ⊗ var 2))) tt)
    (le_add x x (pos n *ℤ m +ℤ pos s *ℤ (r *ℤ pos n)) (sc *ℤ cu -ℤ pos s *ℤ ra +ℤ pb +ℤ pos s *ℤ (ra +ℤ rb)) (le_refl x)
    (le_add (pos n *ℤ m) (sc *ℤ cu -ℤ pos s *ℤ ra +ℤ pb) (pos s *ℤ (r *ℤ pos n)) (pos s *ℤ (ra +ℤ rb)) h (le_scale s (r *ℤ pos n) (ra +ℤ rb) k)))
    (ring (sc ∷ pos s ∷ pos n ∷ cst ∷ w ∷ cu ∷ ra ∷ rb ∷ pa ∷ ex ∷ pb ∷ [])
    (var 0 ⊗ (var 3 ⊕ var 4) ⊗ var 2 ⊕ var 8 ⊗ var 2 ⊕ var 0 ⊗ var 9 ⊕ ⊖ (var 1 ⊗ var 7) ⊕ (var 0 ⊗ var 5 ⊕ ⊖ (var 1 ⊗ var 6) ⊕ var 10 ⊕ var 1 ⊗ (var 6 ⊕ var 7)))
    (var 0 ⊗ (var 2 ⊗ var 3 ⊕ var 2 ⊗ var 4 ⊕ var 5 ⊕ var 9) ⊕ (var 2 ⊗ var 8 ⊕ var 10)) tt)

pub stage_whole : (units : ℕ) (pools : List (List Cut)) (n : Node) (values xi u : List ℤ) (c : Certificate) → length n.decision_low ≡ length n.costs → length xi ≡ length n.state_costs
    → All (λ (q : Row × ℤ). SignRight q.0 q.1) (zip n.rows c.rows) → Decides units n values xi u
    → (alpha_at pools n values c *ℤ pos units +ℤ sum_to (length n.state_costs) (λ k. beta_at n c k *ℤ entry xi k)) ≤ℤ (scale n *ℤ (stage units n values xi u).up +ℤ over_pairs pools n c (λ cut. scaled_value units (next_state n u) cut))
stage_whole units pools n values xi u c e ex s d =
    between (alpha_at pools n values c *ℤ pos units +ℤ sum_to (length n.state_costs) (λ k. beta_at n c k *ℤ entry xi k))
    (alpha_at pools n values c *ℤ pos units +ℤ (scale n *ℤ dot n.state_costs xi -ℤ pos S *ℤ over_rows n c (λ row y. at_terms row.states (entry xi))))
    (scale n *ℤ (stage units n values xi u).up +ℤ (pos units *ℤ over_pairs pools n c (λ cut. cut.alpha) +ℤ over_pairs pools n c (λ cut. dot cut.beta (next_state n u))))
    (scale n *ℤ (stage units n values xi u).up +ℤ over_pairs pools n c (λ cut. scaled_value units (next_state n u) cut))
    (ap (λ (k : ℤ). alpha_at pools n values c *ℤ pos units +ℤ k) (beta_at_sum n c xi (omega arith)))
    (assemble (scale n) S units n.constant (dot n.random_costs values) (sum_to (length n.costs) (λ j. box_least n j (reduced_cost pools n c j))) (over_rows n c (λ row y. side row y -ℤ at_terms row.randoms (entry values)))
    (over_rows n c (λ row y. at_terms row.decisions (entry u))) (over_rows n c (λ row y. at_terms row.states (entry xi))) (over_pairs pools n c (λ cut. cut.alpha)) (over_pairs pools n c (λ cut. dot cut.beta (next_state n u)))
    (dot n.costs u) (dot n.state_costs xi)
    (le_trans (pos units *ℤ sum_to (length n.costs) (λ j. box_least n j (reduced_cost pools n c j))) (sum_to (length n.costs) (λ j. reduced_cost pools n c j *ℤ entry u j)) (scale n *ℤ dot n.costs u -ℤ pos S *ℤ over_rows n c (λ row y. at_terms row.decisions (entry u)) +ℤ over_pairs pools n c (λ cut. dot cut.beta (next_state n u)))
    (boxes_step units pools n c u e d.box)
    (le_of_eq (sum_to (length n.costs) (λ j. reduced_cost pools n c j *ℤ entry u j)) (scale n *ℤ dot n.costs u -ℤ pos S *ℤ over_rows n c (λ row y. at_terms row.decisions (entry u)) +ℤ over_pairs pools n c (λ cut. dot cut.beta (next_state n u))) (reduced_sum pools n c u (omega (arith, d.box.count)))))
    (rows_step units values xi u n c s d.rows))
    (ap (λ (k : ℤ). scale n *ℤ (stage units n values xi u).up +ℤ k)
    (sym (pairs_linear pools n c (pos units) (λ cut. cut.alpha) (λ cut. dot cut.beta (next_state n u)) (λ cut. scaled_value units (next_state n u) cut)
    (λ cut. ring (cut.alpha ∷ pos units ∷ dot cut.beta (next_state n u) ∷ []) (var 0 ⊗ var 1 ⊕ var 2) (var 1 ⊗ var 0 ⊕ var 2) tt))))

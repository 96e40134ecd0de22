-- A table is filled node by node, each after its successors.
use Rattle.std.proofs.Common.{◌≡◌, ◌∙◌, ℕ, ◌+◌, ◌<◌, ◌≤◌, true, List, [], ◌∷◌, length, get_or, set, take, Contains, ◌⊎◌, inl, inr, sym, subst, arith}
use Rattle.std.proofs.Math.Logic.{⊎_elim}
use Rattle.std.proofs.lemmas.Bool.{cases_eq}
use Rattle.std.proofs.lemmas.List.{length-set, get_or-set_other, get_or-set_same, take_all, take_more}
use Rattle.std.proofs.lemmas.List.Elements.{Contains-append_cases}
use Rattle.base_graph.proofs.Paths.{one_of}
use Rattle.problem.specs.Parts.{successors_at}
use Rattle.problem.specs.Validated.{Validated, is_validated}
use Rattle.theory.proofs.ValidatedOrder.{ordered-validated}
use Rattle.policy_evaluate.specs.Tables.{IsNodeTable, StandsForNode}
use Rattle.policy_evaluate.proofs.Ordered.{led_before, ordered_there}

-- the entries of a table at the nodes that are done
pub record IsFilled (p : Validated) (f : ℕ → ℕ → ℕ) (cap : ℕ) (done table : List ℕ) : Type 0 where
  pub count : length table ≡ length p.parts.nodes
  pub each : (m : ℕ) → Contains done m → StandsForNode p f cap m (get_or table m 0)

last_one : (m k : ℕ) → Contains (m ∷ []) k → m ≡ k
last_one m k c = ⊎_elim (λ e. e) (λ d. absurd (omega (arith, d.1))) (one_of m [] k c)

-- along the order of the problem
module _ (p : Validated) (e : is_validated p ≡ true) (ms : List ℕ) (is : ms ≡ p.order) where
  pub filled_before : (f : ℕ → ℕ → ℕ) (cap i : ℕ) (table : List ℕ) → i < length ms → IsFilled p f cap (take i ms) table → (k : ℕ) → Contains (successors_at p.parts (get_or ms i 0)) k → StandsForNode p f cap k (get_or table k 0)
  filled_before f cap i table h t k c = t.each k (led_before p e ms is i k h c)

  pub filled_more : (f : ℕ → ℕ → ℕ) (cap i v : ℕ) (table : List ℕ) → i < length ms → IsFilled p f cap (take i ms) table → StandsForNode p f cap (get_or ms i 0) v → IsFilled p f cap (take (i + 1) ms) (set table (get_or ms i 0) v)
  filled_more f cap i v table h t s = record { count = length-set table m v ∙ t.count; each = each }
    where
      m : ℕ
      m = get_or ms i 0

      inside : m < length table
      inside = omega (arith, ordered_there p e ms is i h, t.count)

      here : (k : ℕ) → k ≡ m → StandsForNode p f cap k (get_or (set table m v) k 0)
      here k same = subst (λ (j : ℕ). StandsForNode p f cap j (get_or (set table m v) j 0)) (sym same) (subst (StandsForNode p f cap m) (sym (get_or-set_same table m v 0 inside)) s)

      other : (k : ℕ) → (k ≡ m → ⊥) → Contains (take i ms) k → StandsForNode p f cap k (get_or (set table m v) k 0)
      other k not c = subst (StandsForNode p f cap k) (sym (get_or-set_other table m k v 0 not)) (t.each k c)

      by : (k : ℕ) → Contains (take i ms) k ⊎ Contains (m ∷ []) k → (k ≡ m) ⊎ (k ≡ m → ⊥) → StandsForNode p f cap k (get_or (set table m v) k 0)
      by k c (inl same) = here k same
      by k (inl c) (inr not) = other k not c
      by k (inr c) (inr not) = absurd (not (sym (last_one m k c)))

      each : (k : ℕ) → Contains (take (i + 1) ms) k → StandsForNode p f cap k (get_or (set table m v) k 0)
      each k c = by k (Contains-append_cases (take i ms) (m ∷ []) k (subst (λ (ks : List ℕ). Contains ks k) (take_more ms i 0 h) c)) (cases_eq k m)

  pub filled_all : (f : ℕ → ℕ → ℕ) (cap i : ℕ) (table : List ℕ) → length ms ≤ i → IsFilled p f cap (take i ms) table → IsNodeTable p f cap table
  filled_all f cap i table h t = record { count = t.count; each = λ m k. t.each m (subst (λ (ks : List ℕ). Contains ks m) (sym (take_all i ms h ∙ is)) (ordered-validated p e m k)) }

-- One cut more: pools stay sound where it holds, no pool gets shorter, and neither a value nor the bound gets lower.
use Rattle.std.proofs.Common.{◌≡◌, ℕ, zero, suc, ◌<◌, ℤ, pos, ◌*ℤ◌, ◌≤ℤ◌, List, [], ◌∷◌, ◌++◌, length, All, sum, arith, refl, ap, sym, subst}
use Rattle.std.proofs.Common.{length-append}
use Rattle.std.proofs.lemmas.Int.{ints, clamps}
use Rattle.std.proofs.lemmas.List.Elements.{All-push}
use Rattle.base_num.proofs.Floors.{floor_more}
use Rattle.base_num.proofs.Order.{le_refl, le_scale}
use Rattle.base_num.proofs.Sums.{total_le}
use Rattle.theory.specs.Bound.{greatest_cut_value, value, weighted_value, bound}
use Rattle.theory.specs.Pools.{Holds, pool, Sound, push}
use Rattle.theory.specs.Premises.{HaveCuts}
use Rattle.theory.specs.Problem.{Successor, Problem, successor_weights}
use Rattle.theory.proofs.WorkedCertificates.{pools}
use Rattle.theory.specs.declared.cut.Cut.{Cut}

-- a property of the pool of k, with the new cut where k is m
pub push_at : (pools : List (List Cut)) (m k : ℕ) (c : Cut) (P : List Cut → Type 0) → P (pool pools k) → (k ≡ m → P (pool pools m ++ c ∷ [])) → P (pool (push pools m c) k)
push_at [] m k c P h g = h
push_at (q ∷ qs) zero zero c P h g = g refl
push_at (q ∷ qs) zero (suc k) c P h g = h
push_at (q ∷ qs) (suc m) zero c P h g = h
push_at (q ∷ qs) (suc m) (suc k) c P h g = push_at qs m k c P h (λ e. g (ap suc e))

pub push_sound : (p : Problem) (pools : List (List Cut)) (m : ℕ) (c : Cut) → Sound p pools → Holds p m c → Sound p (push pools m c)
push_sound p pools m c s h k = push_at pools m k c (All (Holds p k)) (s k) (λ e. subst (λ (j : ℕ). All (Holds p j) (pool pools m ++ c ∷ [])) (sym e) (All-push (Holds p m) (pool pools m) c (s m) h))

-- lengths
longer : (cs : List Cut) (c : Cut) → 0 < length (cs ++ c ∷ [])
longer cs c = omega (arith, length-append cs (c ∷ []))

pub kept_some : (pools : List (List Cut)) (m k : ℕ) (c : Cut) → 0 < length (pool pools k) → 0 < length (pool (push pools m c) k)
kept_some pools m k c h = push_at pools m k c (λ cs. 0 < length cs) h (λ e. longer (pool pools m) c)

pub pushed_some : (pools : List (List Cut)) (m : ℕ) (c : Cut) → m < length pools → 0 < length (pool (push pools m c) m)
pushed_some [] m c h = absurd (omega arith)
pushed_some (q ∷ qs) zero c h = longer q c
pushed_some (q ∷ qs) (suc m) c h = pushed_some qs m c (omega arith)

-- values
greatest_more : (cs : List Cut) (c : Cut) (x : List ℤ) → 0 < length cs → greatest_cut_value cs x ≤ℤ greatest_cut_value (cs ++ c ∷ []) x
greatest_more [] c x h = absurd (omega arith)
greatest_more (d ∷ []) c x h = omega (arith, ints, clamps)
greatest_more (d ∷ (e ∷ es)) c x h = omega (arith, ints, clamps, greatest_more (e ∷ es) c x (omega arith))

pub value_more : (pools : List (List Cut)) (m : ℕ) (c : Cut) (k : ℕ) (x : List ℤ) → 0 < length (pool pools k) → value pools k x ≤ℤ value (push pools m c) k x
value_more pools m c k x h = push_at pools m k c (λ cs. value pools k x ≤ℤ greatest_cut_value cs x) (le_refl (value pools k x))
    (λ e. subst (λ (j : ℕ). value pools k x ≤ℤ greatest_cut_value (pool pools j ++ c ∷ []) x) e (greatest_more (pool pools k) c x h))

-- the bound
pub bound_more : (p : Problem) (pools : List (List Cut)) (m : ℕ) (c : Cut) → 0 < sum (successor_weights p.root) → HaveCuts pools p.root → bound p pools ≤ℤ bound p (push pools m c)
bound_more p pools m c z h =
    floor_more (weighted_value pools p.initial p.root) (weighted_value (push pools m c) p.initial p.root) (sum (successor_weights p.root)) z
    (total_le (λ (l : Successor). 0 < length (pool pools l.node)) (λ (l : Successor). pos l.weight *ℤ value pools l.node p.initial) (λ (l : Successor). pos l.weight *ℤ value (push pools m c) l.node p.initial) p.root h
    (λ l q. le_scale l.weight (value pools l.node p.initial) (value (push pools m c) l.node p.initial) (value_more pools m c l.node p.initial q)))

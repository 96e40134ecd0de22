-- The base cuts are sound: base certificates are right where each successor has a cut.
use Rattle.std.proofs.Common.{◌≡◌, ℕ, zero, suc, ◌*◌, ◌<◌, ℤ, pos, List, [], ◌∷◌, ◌++◌, length, map, replicate, All, zip, Contains, sym, ◌∙◌, subst, mul-pos, add-zero}
use Rattle.std.proofs.lemmas.List.{length-map, length-set, length-replicate}
use Rattle.std.proofs.lemmas.List.Elements.{All-nil, All-cons, All-head, All-tail, All-weaker, All-contains}
use Rattle.theory.specs.Base.{base_certificate, base_list, base_pools, base}
use Rattle.theory.specs.Certificates.{SignRight, PairsRight, RightAt, Right}
use Rattle.theory.specs.CutOf.{cut_of}
use Rattle.theory.specs.Pools.{Holds, pool, Sound, push}
use Rattle.theory.specs.Premises.{InOrder}
use Rattle.theory.specs.Problem.{S, Realization, Successor, Node, Problem, node_at}
use Rattle.theory.proofs.Appending.{push_sound, kept_some, pushed_some}
use Rattle.theory.proofs.Duality.{scale_some, weak_duality}
use Rattle.problem.specs.declared.parts.Row.{Row}
use Rattle.theory.specs.declared.cut.Cut.{Cut}

-- base certificates are right
signs : (rows : List Row) → All (λ (q : Row × ℤ). SignRight q.0 q.1) (zip rows (map (λ (row : Row). pos 0) rows))
signs [] = All-nil (λ (q : Row × ℤ). SignRight q.0 q.1)
signs (r ∷ rs) = All-cons (λ (q : Row × ℤ). SignRight q.0 q.1) (r, pos 0) (zip rs (map (λ (row : Row). pos 0) rs)) tt (signs rs)

-- a successor of some weight with a cut
abbrev Ready : List (List Cut) → Successor → Type 0
Ready pools l = (0 < l.weight) × (0 < length (pool pools l.node))

pairs : (pools : List (List Cut)) (ls : List Successor) → All (Ready pools) ls → All (PairsRight pools) (zip ls (map (λ (l : Successor). (0, S * l.weight) ∷ []) ls))
pairs pools [] h = All-nil (PairsRight pools)
pairs pools (l ∷ ls) h =
    let a : Ready pools l = All-head (Ready pools) l ls h in
    All-cons (PairsRight pools) (l, (0, S * l.weight) ∷ []) (zip ls (map (λ (l : Successor). (0, S * l.weight) ∷ []) ls))
    (record {
      rising = tt;
      there = All-cons (λ (s : ℕ × ℕ). s.0 < length (pool pools l.node)) (0, S * l.weight) [] a.1 (All-nil (λ (s : ℕ × ℕ). s.0 < length (pool pools l.node)));
      positive = All-cons (λ (s : ℕ × ℕ). 0 < s.1) (0, S * l.weight) [] (mul-pos scale_some a.0) (All-nil (λ (s : ℕ × ℕ). 0 < s.1));
      sum = add-zero (S * l.weight);
    })
    (pairs pools ls (All-tail (Ready pools) l ls h))

base_right_at : (pools : List (List Cut)) (n : Node) → All (Ready pools) n.successors → RightAt pools n (base_certificate n)
base_right_at pools n h = record { rows = length-map n.rows (λ (row : Row). pos 0); successors = length-map n.successors (λ (l : Successor). (0, S * l.weight) ∷ []); signs = signs n.rows; pairs = pairs pools n.successors h }

all_same : {A B : Type 0} (P : B → Type 0) (b : B) (xs : List A) → P b → All P (map (λ (x : A). b) xs)
all_same P b [] h = All-nil P
all_same P b (x ∷ xs) h = All-cons P b (map (λ x. b) xs) h (all_same P b xs h)

pub base_right : (pools : List (List Cut)) (n : Node) → All (Ready pools) n.successors → Right pools n (base_list n)
base_right pools n h = record { count = length-map n.realizations (λ (r : Realization). base_certificate n); each = all_same (RightAt pools n) (base_certificate n) n.realizations (base_right_at pools n h) }

-- one node after the other
abbrev Done : List (List Cut) → ℕ → Type 0
Done pools k = 0 < length (pool pools k)

pub sound_steps : (p : Problem) (count : ℕ) (done ms : List ℕ) (pools : List (List Cut)) → length pools ≡ count → All (Done pools) done → InOrder p count done ms → Sound p pools → Sound p (base_pools p ms pools)
sound_steps p count done [] pools e d o s = s
sound_steps p count done (m ∷ ms) pools e d o s =
    let n : Node = node_at p m in
    let c : Cut = cut_of pools n (base_list n) in
    let ready : All (Ready pools) n.successors = All-weaker (λ (l : Successor). (0 < l.weight) × Contains done l.node) (Ready pools) (λ l h. (h.0, All-contains (Done pools) done l.node d h.1)) n.successors o.2 in
    sound_steps p count (m ∷ done) ms (push pools m c) (length-set pools m (pool pools m ++ c ∷ []) ∙ e)
    (All-cons (Done (push pools m c)) m done (pushed_some pools m c (subst (λ (k : ℕ). m < k) (sym e) o.0)) (All-weaker (Done pools) (Done (push pools m c)) (λ k h. kept_some pools m k c h) done d))
    o.3 (push_sound p pools m c s (weak_duality p pools m (base_list n) o.1 s (base_right pools n ready)))

pub no_cuts : (count m : ℕ) (P : Cut → Type 0) → All P (pool (replicate count []) m)
no_cuts zero m P = All-nil P
no_cuts (suc count) zero P = All-nil P
no_cuts (suc count) (suc m) P = no_cuts count m P

pub sound_base : (p : Problem) (count : ℕ) (order : List ℕ) → InOrder p count [] order → Sound p (base p count order)
sound_base p count order o = sound_steps p count [] order (replicate count []) (length-replicate count []) (All-nil (Done (replicate count []))) o (λ m. no_cuts count m (Holds p m))

-- each node of the order has a cut
pub base_kept : (p : Problem) (ms : List ℕ) (pools : List (List Cut)) (k : ℕ) → 0 < length (pool pools k) → 0 < length (pool (base_pools p ms pools) k)
base_kept p [] pools k h = h
base_kept p (m ∷ ms) pools k h = let c : Cut = cut_of pools (node_at p m) (base_list (node_at p m)) in base_kept p ms (push pools m c) k (kept_some pools m k c h)

base_some : (p : Problem) (count : ℕ) (done ms : List ℕ) (pools : List (List Cut)) → length pools ≡ count → InOrder p count done ms → All (Done (base_pools p ms pools)) ms
base_some p count done [] pools e o = All-nil (Done pools)
base_some p count done (m ∷ ms) pools e o =
    let c : Cut = cut_of pools (node_at p m) (base_list (node_at p m)) in
    All-cons (Done (base_pools p ms (push pools m c))) m ms (base_kept p ms (push pools m c) m (pushed_some pools m c (subst (λ (k : ℕ). m < k) (sym e) o.0)))
    (base_some p count (m ∷ done) ms (push pools m c) (length-set pools m (pool pools m ++ c ∷ []) ∙ e) o.3)

pub base_cuts : (p : Problem) (count : ℕ) (order : List ℕ) → InOrder p count [] order → All (Done (base p count order)) order
base_cuts p count order o = base_some p count [] order (replicate count []) (length-replicate count []) o

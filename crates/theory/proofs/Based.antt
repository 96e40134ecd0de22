-- The base cuts in order: each node done has one cut, which holds and fits.
use Rattle.std.proofs.Common.{◌≡◌, ℕ, zero, suc, get_or, ◌<◌, ◌-◌, ◌^◌, pos, ◌≤ℤ◌, true, List, [], ◌∷◌, ◌++◌, length, replicate, All, Contains, Option, Some, None, Result, Ok, Err, ◌⊎◌, inl, inr, refl, sym, ap, ◌∙◌, subst, mul-pos, length-append, arith}
use Rattle.std.proofs.Math.Logic.{⊎_elim}
use Rattle.std.proofs.lemmas.List.{length-set, length-replicate, get_or-set_same, get_or-set_other}
use Rattle.std.proofs.lemmas.List.Elements.{All-push, All-weaker}
use Rattle.base_graph.proofs.Paths.{one_of}
use Rattle.base_graph.proofs.Placing.{behind}
use Rattle.problem.specs.Validated.{Validated, is_validated}
use Rattle.theory.specs.declared.cut.Cut.{Cut}
use Rattle.theory.specs.Problem.{Successor, Problem, node_at}
use Rattle.theory.specs.View.{problem_of}
use Rattle.theory.specs.Pools.{pool, push, Holds, Sound}
use Rattle.theory.specs.CutOf.{divisor, cut_of}
use Rattle.theory.specs.Size.{size_of, RangeAt}
use Rattle.theory.specs.Range.{range_of, unless, base_from, based}
use Rattle.theory.specs.Base.{base_list, base_pools, base}
use Rattle.theory.specs.Fit.{CutFits, Fit, FitFor}
use Rattle.theory.specs.Premises.{InOrder, Narrow}
use Rattle.theory.proofs.Duality.{scale_some, weak_duality}
use Rattle.theory.proofs.SizeToFit.{size_to_fit}
use Rattle.theory.proofs.SoundBase.{base_right, no_cuts}
use Rattle.theory.proofs.Appending.{push_at, push_sound}
use Rattle.theory.proofs.Ranges.{none-range_of, within-range_of, some-range_of}
use Rattle.theory.proofs.ValidatedOrder.{Fresh, in_order-validated, fresh-validated, ordered-validated}
use Rattle.theory.proofs.ValidatedPremises.{narrow-validated}

-- the base cut of a node over the cuts made before
abbrev pub base_cut : Problem → List (List Cut) → ℕ → Cut
base_cut p pools m = cut_of pools (node_at p m) (base_list (node_at p m))

abbrev pub InRange : Problem → List (List Cut) → ℕ → Type 0
InRange p pools m = size_of pools (node_at p m) (base_list (node_at p m)) ≤ℤ pos (2 ^ 127 - 1)

-- each node done has one cut, which holds and fits, and the others have none; the nodes ms are still to come
pub record Filled (p : Problem) (count : ℕ) (done ms : List ℕ) (pools : List (List Cut)) : Type 0 where
  pub lists : length pools ≡ count
  pub order : InOrder p count done ms
  pub fresh : Fresh done ms
  pub every : (k : ℕ) → k < count → Contains done k ⊎ Contains ms k
  pub sound : Sound p pools
  pub fits : (k : ℕ) → All (CutFits (node_at p k)) (pool pools k)
  pub one : (k : ℕ) → Contains done k → length (pool pools k) ≡ 1
  pub none : (k : ℕ) → (Contains done k → ⊥) → length (pool pools k) ≡ 0

empty : (count k : ℕ) → length (pool (replicate count []) k) ≡ 0
empty zero k = refl
empty (suc count) zero = refl
empty (suc count) (suc k) = empty count k

-- before the first node
pub filled_none : (p : Problem) (count : ℕ) (order : List ℕ) → InOrder p count [] order → Fresh [] order → ((k : ℕ) → k < count → Contains order k) → Filled p count [] order (replicate count [])
filled_none p count order o f every = record {
  lists = length-replicate count [];
  order = o;
  fresh = f;
  every = λ k h. inr (every k h);
  sound = λ k. no_cuts count k (Holds p k);
  fits = λ k. no_cuts count k (CutFits (node_at p k));
  one = λ k c. absurd (omega (arith, c.1));
  none = λ k c. empty count k;
}

-- after one node more
module _ (p : Problem) (count : ℕ) (done : List ℕ) (m : ℕ) (ms : List ℕ) (pools : List (List Cut)) (f : Filled p count done (m ∷ ms) pools) where
  some_done : (k : ℕ) → Contains done k → 0 < length (pool pools k)
  some_done k c = omega (arith, f.one k c)

  pub divisor_some : 0 < divisor (node_at p m)
  divisor_some = mul-pos (mul-pos scale_some f.order.1.successors) f.order.1.realizations

  -- the node's successors have cuts, and these fit
  pub fit_for : FitFor p count pools m
  fit_for = record {
    lists = f.lists;
    some = All-weaker (λ (l : Successor). (0 < l.weight) × Contains done l.node) (λ (l : Successor). 0 < length (pool pools l.node)) (λ l q. some_done l.node q.1) (node_at p m).successors f.order.2;
    cuts = λ i d h. f.fits (get_or (node_at p m).successors i d).node;
  }

  holds : Holds p m (base_cut p pools m)
  holds = weak_duality p pools m (base_list (node_at p m)) f.order.1 f.sound (base_right pools (node_at p m) (All-weaker (λ (l : Successor). (0 < l.weight) × Contains done l.node) (λ (l : Successor). (0 < l.weight) × (0 < length (pool pools l.node))) (λ l q. (q.0, some_done l.node q.1)) (node_at p m).successors f.order.2))

  with_cut : (c : Cut) → Holds p m c → CutFits (node_at p m) c → Filled p count (m ∷ done) ms (push pools m c)
  with_cut c h fit = record {
    lists = length-set pools m (pool pools m ++ c ∷ []) ∙ f.lists;
    order = f.order.3;
    fresh = f.fresh.1;
    every = λ k l. ⊎_elim (λ d. inl (behind m done k d)) (λ d. ⊎_elim (λ e. inl (0, omega arith, e)) (λ r. inr r) (one_of m ms k d)) (f.every k l);
    sound = push_sound p pools m c f.sound h;
    fits = λ k. push_at pools m k c (All (CutFits (node_at p k))) (f.fits k) (λ e. subst (λ (j : ℕ). All (CutFits (node_at p j)) (pool pools m ++ c ∷ [])) (sym e) (All-push (CutFits (node_at p m)) (pool pools m) c (f.fits m) fit));
    one = λ k d. ⊎_elim (λ e. subst (λ (j : ℕ). length (pool (push pools m c) j) ≡ 1) e here) (λ r. other k (λ e. f.fresh.0 (subst (λ (j : ℕ). Contains done j) e r)) ∙ f.one k r) (one_of m done k d);
    none = λ k d. other k (λ e. d (0, omega arith, sym e)) ∙ f.none k (λ r. d (behind m done k r));
  }
    where
      inside : m < length pools
      inside = omega (arith, f.lists, f.order.0)

      here : length (pool (push pools m c) m) ≡ 1
      here = ap (λ (cs : List Cut). length cs) (get_or-set_same pools m (pool pools m ++ c ∷ []) [] inside) ∙ omega (arith, length-append (pool pools m) (c ∷ []), f.none m f.fresh.0)

      other : (k : ℕ) → (k ≡ m → ⊥) → length (pool (push pools m c) k) ≡ length (pool pools k)
      other k e = ap (λ (cs : List Cut). length cs) (get_or-set_other pools m k (pool pools m ++ c ∷ []) [] e)

  pub filled_more : Narrow (node_at p m) → InRange p pools m → Filled p count (m ∷ done) ms (push pools m (base_cut p pools m))
  filled_more narrow size = with_cut (base_cut p pools m) holds (size_to_fit pools (node_at p m) (base_list (node_at p m)) f.order.1.successors f.order.1.realizations narrow size)

  -- the definition goes on, or names the node and the realization
  pub based_more : InRange p pools m → base_from p (m ∷ ms) pools ≡ base_from p ms (push pools m (base_cut p pools m))
  based_more size = ap (λ (o : Option ℕ). unless o m (base_from p ms (push pools m (base_cut p pools m)))) (none-range_of pools (node_at p m) (base_list (node_at p m)) divisor_some size)

  pub based_past : (r : ℕ) → RangeAt pools (node_at p m) (base_list (node_at p m)) r → base_from p (m ∷ ms) pools ≡ Err (m, r)
  based_past r past = ap (λ (o : Option ℕ). unless o m (base_from p ms (push pools m (base_cut p pools m)))) (some-range_of pools (node_at p m) (base_list (node_at p m)) r divisor_some past)

-- an answer that is there
unless-Ok : (o : Option ℕ) (m : ℕ) (answer : Result (List (List Cut)) (ℕ × ℕ)) (pools : List (List Cut)) → unless o m answer ≡ Ok pools → (o ≡ None) × (answer ≡ Ok pools)
unless-Ok None m answer pools e = (refl, e)
unless-Ok (Some r) m answer pools e = absurd (no e)
  where
    no : (let o : Result (List (List Cut)) (ℕ × ℕ) = Err (m, r) in o ≡ Ok pools) → ⊥
    no e = cc

same_ok : (x y : List (List Cut)) → (let o : Result (List (List Cut)) (ℕ × ℕ) = Ok x in o ≡ Ok y) → x ≡ y
same_ok x y e = cc

base_pools-from : (p : Problem) (ms : List ℕ) (pools answer : List (List Cut)) → base_from p ms pools ≡ Ok answer → base_pools p ms pools ≡ answer
base_pools-from p [] pools answer e = same_ok pools answer e
base_pools-from p (m ∷ ms) pools answer e = base_pools-from p ms (push pools m (base_cut p pools m)) answer (unless-Ok (range_of pools (node_at p m) (base_list (node_at p m))) m (base_from p ms (push pools m (base_cut p pools m))) answer e).1

filled-from : (p : Problem) (count : ℕ) (done ms : List ℕ) (pools answer : List (List Cut)) → ((m : ℕ) → m < count → Narrow (node_at p m)) → Filled p count done ms pools → base_from p ms pools ≡ Ok answer → (all : List ℕ) × Filled p count all [] answer
filled-from p count done [] pools answer narrow f e = (done, subst (λ (k : List (List Cut)). Filled p count done [] k) (same_ok pools answer e) f)
filled-from p count done (m ∷ ms) pools answer narrow f e =
    let u = unless-Ok (range_of pools (node_at p m) (base_list (node_at p m))) m (base_from p ms (push pools m (base_cut p pools m))) answer e in
    filled-from p count (m ∷ done) ms (push pools m (base_cut p pools m)) answer narrow
    (filled_more p count done m ms pools f (narrow m f.order.0) (within-range_of pools (node_at p m) (base_list (node_at p m)) u.0)) u.1

-- when no node is left, each has one cut
pub one-filled : (p : Problem) (count : ℕ) (done : List ℕ) (pools : List (List Cut)) → Filled p count done [] pools → (m : ℕ) → m < count → length (pool pools m) ≡ 1
one-filled p count done pools f m h = ⊎_elim (f.one m) (λ d. absurd (omega (arith, d.1))) (f.every m h)

pub fit-filled : (p : Problem) (count : ℕ) (done : List ℕ) (pools : List (List Cut)) → Filled p count done [] pools → Fit p count pools
fit-filled p count done pools f = record { lists = f.lists; some = λ m h. omega (arith, one-filled p count done pools f m h); cuts = λ m h. f.fits m }

-- the base cuts of a validated problem
pub filled-validated : (p : Validated) → is_validated p ≡ true → Filled (problem_of p) (length p.parts.nodes) [] p.order (replicate (length p.parts.nodes) [])
filled-validated p e = filled_none (problem_of p) (length p.parts.nodes) p.order (in_order-validated p e) (fresh-validated p e) (ordered-validated p e)

pub base-based : (p : Validated) (pools : List (List Cut)) → based p ≡ Ok pools → base (problem_of p) (length p.parts.nodes) p.order ≡ pools
unfolding based
base-based p pools e = base_pools-from (problem_of p) p.order (replicate (length p.parts.nodes) []) pools e

pub filled-based : (p : Validated) (pools : List (List Cut)) → is_validated p ≡ true → based p ≡ Ok pools → (all : List ℕ) × Filled (problem_of p) (length p.parts.nodes) all [] pools
unfolding based
filled-based p pools e is = filled-from (problem_of p) (length p.parts.nodes) [] p.order (replicate (length p.parts.nodes) []) pools (λ m h. narrow-validated p m e h) (filled-validated p e) is

pub sound-based : (p : Validated) (pools : List (List Cut)) → is_validated p ≡ true → based p ≡ Ok pools → Sound (problem_of p) pools
sound-based p pools e is = (filled-based p pools e is).1.sound

pub one-based : (p : Validated) (pools : List (List Cut)) → is_validated p ≡ true → based p ≡ Ok pools → (m : ℕ) → m < length p.parts.nodes → length (pool pools m) ≡ 1
one-based p pools e is = let f = filled-based p pools e is in one-filled (problem_of p) (length p.parts.nodes) f.0 pools f.1

pub fit-based : (p : Validated) (pools : List (List Cut)) → is_validated p ≡ true → based p ≡ Ok pools → Fit (problem_of p) (length p.parts.nodes) pools
fit-based p pools e is = let f = filled-based p pools e is in fit-filled (problem_of p) (length p.parts.nodes) f.0 pools f.1

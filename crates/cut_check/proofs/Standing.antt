-- The base cuts made so far, and those still to be made.
use Rattle.std.proofs.Common.{◌≡◌, ℕ, ◌<◌, ◌^◌, true, List, [], ◌∷◌, ◌+◌, drop, get_or, length, replicate, Option, Some, None, Ok, Err, refl, sym, ap, ◌∙◌, subst, arith}
use Rattle.std.proofs.lemmas.List.{drop_more}
use Rattle.problem.specs.Validated.{Validated, is_validated}
use Rattle.theory.specs.declared.cut.Cut.{Cut}
use Rattle.theory.specs.Problem.{node_at}
use Rattle.theory.specs.View.{problem_of}
use Rattle.theory.specs.Pools.{pool, push}
use Rattle.theory.specs.Range.{range_of, unless, base_from, based}
use Rattle.theory.specs.Base.{base_list}
use Rattle.theory.specs.Fit.{FitFor}
use Rattle.theory.proofs.Ranges.{within-range_of}
use Rattle.theory.proofs.Based.{Filled, base_cut, fit_for, filled_more, filled-validated}
use Rattle.theory.proofs.ValidatedPremises.{narrow-validated}

-- the pools hold the base cuts of the nodes done, and those of ms over them give the answer
pub record Standing (p : Validated) (ms : List ℕ) (pools : List (List Cut)) : Type 0 where
  pub done : List ℕ
  pub filled : Filled (problem_of p) (length p.parts.nodes) done ms pools
  pub tail : base_from (problem_of p) ms pools ≡ based p

-- before the first node
pub standing_none : (p : Validated) → is_validated p ≡ true → Standing p p.order (replicate (length p.parts.nodes) [])
unfolding based
standing_none p e = record { done = []; filled = filled-validated p e; tail = refl }

-- after the last
pub standing_all : (p : Validated) (pools : List (List Cut)) → Standing p [] pools → based p ≡ Ok pools
standing_all p pools s = sym s.tail

module _ (p : Validated) (m : ℕ) (ms : List ℕ) (pools : List (List Cut)) (s : Standing p (m ∷ ms) pools) where
  abbrev passed : Option ℕ
  passed = range_of pools (node_at (problem_of p) m) (base_list (node_at (problem_of p) m))

  pub standing_known : m < length p.parts.nodes
  standing_known = s.filled.order.0

  pub standing_fit : FitFor (problem_of p) (length p.parts.nodes) pools m
  standing_fit = fit_for (problem_of p) (length p.parts.nodes) s.done m ms pools s.filled

  pub standing_few : length (pool pools m) < 2 ^ 24
  standing_few = omega (arith, s.filled.none m s.filled.fresh.0)

  -- one cut more
  pub standing_more : is_validated p ≡ true → passed ≡ None → Standing p ms (push pools m (base_cut (problem_of p) pools m))
  standing_more e none = record {
    done = m ∷ s.done;
    filled = filled_more (problem_of p) (length p.parts.nodes) s.done m ms pools s.filled (narrow-validated p m e standing_known) (within-range_of pools (node_at (problem_of p) m) (base_list (node_at (problem_of p) m)) none);
    tail = sym (ap (λ (o : Option ℕ). unless o m (base_from (problem_of p) ms (push pools m (base_cut (problem_of p) pools m)))) none) ∙ s.tail;
  }

  -- no cut
  pub standing_past : (r : ℕ) → passed ≡ Some r → based p ≡ Err (m, r)
  standing_past r some = sym s.tail ∙ ap (λ (o : Option ℕ). unless o m (base_from (problem_of p) ms (push pools m (base_cut (problem_of p) pools m)))) some

-- the node that comes next
pub standing_at : (p : Validated) (order : List ℕ) (i : ℕ) (pools : List (List Cut)) → i < length order → Standing p (drop i order) pools → Standing p (get_or order i 0 ∷ drop (i + 1) order) pools
standing_at p order i pools h s = subst (λ (ms : List ℕ). Standing p ms pools) (drop_more order i 0 h) s

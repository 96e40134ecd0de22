-- Properties that stay when a cut is added: it holds and fits, and its node has one cut more.
use Rattle.std.proofs.Common.{◌≡◌, ℕ, ◌+◌, ◌≤◌, ◌<◌, true, List, [], ◌∷◌, ◌++◌, length, All, None, sym, ap, subst, ◌∙◌, length-append, arith}
use Rattle.std.proofs.lemmas.List.{length-set}
use Rattle.std.proofs.lemmas.List.Elements.{All-push}
use Rattle.problem.specs.Validated.{Validated, is_validated}
use Rattle.theory.specs.declared.cut.Cut.{Cut}
use Rattle.theory.specs.Problem.{Problem, node_at}
use Rattle.theory.specs.Pools.{pool, push, Holds, Sound}
use Rattle.theory.specs.Fit.{CutFits, Fit}
use Rattle.theory.specs.View.{problem_of}
use Rattle.theory.proofs.Appending.{push_at, push_sound, kept_some}
use Rattle.theory.proofs.Duality.{weak_duality}
use Rattle.theory.proofs.SizeToFit.{size_to_fit}
use Rattle.theory.proofs.ValidatedPremises.{shaped-validated, narrow-validated}
use Rattle.cut_pool.specs.AtNodes.{PoolsFit}
use Rattle.cut_pool.specs.declared.entry.EntryStep.{EntryStep}
use Rattle.cut_check.proofs.Accepted.{right-fault_of, size-fault_of}
use Rattle.journal_load.proofs.Once.{here, here_same}
use Rattle.journal_load.specs.Cuts.{cut_of_step, fault_of_step}

pub push_fit : (p : Problem) (count : ℕ) (pools : List (List Cut)) (m : ℕ) (c : Cut) → Fit p count pools → CutFits (node_at p m) c → Fit p count (push pools m c)
push_fit p count pools m c f fits = record {
  lists = length-set pools m (pool pools m ++ c ∷ []) ∙ f.lists;
  some = λ k h. kept_some pools m k c (f.some k h);
  cuts = λ k h. push_at pools m k c (All (CutFits (node_at p k))) (f.cuts k h)
      (λ e. subst (λ (j : ℕ). All (CutFits (node_at p j)) (pool pools m ++ c ∷ [])) (sym e) (All-push (CutFits (node_at p m)) (pool pools m) c (subst (λ (j : ℕ). All (CutFits (node_at p j)) (pool pools j)) e (f.cuts k h)) fits));
}

pub push_count : (pools : List (List Cut)) (m : ℕ) (c : Cut) (k : ℕ) → length (pool (push pools m c) k) ≤ length (pool pools k) + here m k
push_count pools m c k =
    push_at pools m k c (λ cs. length cs ≤ length (pool pools k) + here m k) (omega arith)
    (λ e. omega (arith, length-append (pool pools m) (c ∷ []), here_same m k (sym e), ap (λ (j : ℕ). length (pool pools j)) e))

module _ (p : Validated) (validated : is_validated p ≡ true) (pools : List (List Cut)) (s : EntryStep) (known : s.node < length p.parts.nodes) (none : fault_of_step p pools s ≡ None) where
  cut_fits : CutFits (node_at (problem_of p) s.node) (cut_of_step p pools s)
  cut_fits =
      let shaped = shaped-validated p s.node validated known in
      size_to_fit pools (node_at (problem_of p) s.node) s.list shaped.successors shaped.realizations (narrow-validated p s.node validated known) (size-fault_of pools (node_at (problem_of p) s.node) s.list none)

  cut_holds : Sound (problem_of p) pools → Holds (problem_of p) s.node (cut_of_step p pools s)
  cut_holds sound = weak_duality (problem_of p) pools s.node s.list (shaped-validated p s.node validated known) sound (right-fault_of pools (node_at (problem_of p) s.node) s.list none)

  pub fit_more : PoolsFit p pools → PoolsFit p (push pools s.node (cut_of_step p pools s))
  fit_more fit = push_fit (problem_of p) (length p.parts.nodes) pools s.node (cut_of_step p pools s) fit cut_fits

  pub sound_more : Sound (problem_of p) pools → Sound (problem_of p) (push pools s.node (cut_of_step p pools s))
  sound_more sound = push_sound (problem_of p) pools s.node (cut_of_step p pools s) sound (cut_holds sound)

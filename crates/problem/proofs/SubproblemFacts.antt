-- Facts that the limits of a subproblem state, one by one.
use Rattle.std.proofs.Common.{◌≡◌, ◌≤◌, ℕ, true, ◌&&◌, length, nat_lt, arith}
use Rattle.std.specs.List.{list_all}
use Rattle.std.proofs.lemmas.Bool.Decides.{nat_tests}
use Rattle.std.proofs.lemmas.Grind.{common_steps}
use Rattle.base_num.proofs.Tests.{and_first, and_second}
use Rattle.problem.specs.declared.parts.Subproblem.{Subproblem}
use Rattle.problem.specs.Limits.{subproblem_fits, names_fit, bounds_fit, outs_differ, counts_fit, costs_fit, decision_fits, is_bound, row_fits}

module _ (states : ℕ) (s : Subproblem) (e : subproblem_fits states s ≡ true) where
  pub rows-subproblem_fits : list_all (row_fits states s) s.rows ≡ true
  rows-subproblem_fits = and_second _ (list_all (row_fits states s) s.rows) e

  pub highs-subproblem_fits : list_all is_bound s.high ≡ true
  highs-subproblem_fits = and_second _ (list_all is_bound s.high) (and_first _ (list_all (row_fits states s) s.rows) e)

  pub lows-subproblem_fits : list_all is_bound s.low ≡ true
  lows-subproblem_fits = and_second _ (list_all is_bound s.low) (and_first _ (list_all is_bound s.high) (and_first _ (list_all (row_fits states s) s.rows) e))

  -- all before the bounds
  before_bounds : (names_fit s && bounds_fit s && outs_differ s && counts_fit states s && costs_fit states s && list_all decision_fits s.decisions && list_all (λ o. nat_lt o (length s.decisions)) s.outs) ≡ true
  before_bounds = and_first _ (list_all is_bound s.low) (and_first _ (list_all is_bound s.high) (and_first _ (list_all (row_fits states s) s.rows) e))

  pub outs-subproblem_fits : list_all (λ o. nat_lt o (length s.decisions)) s.outs ≡ true
  outs-subproblem_fits = and_second _ (list_all (λ o. nat_lt o (length s.decisions)) s.outs) before_bounds

  pub decisions-subproblem_fits : list_all decision_fits s.decisions ≡ true
  decisions-subproblem_fits = and_second _ (list_all decision_fits s.decisions) (and_first _ (list_all (λ o. nat_lt o (length s.decisions)) s.outs) before_bounds)

  -- all before the decisions
  before_decisions : (names_fit s && bounds_fit s && outs_differ s && counts_fit states s && costs_fit states s) ≡ true
  before_decisions = and_first _ (list_all decision_fits s.decisions) (and_first _ (list_all (λ o. nat_lt o (length s.decisions)) s.outs) before_bounds)

  pub costs-subproblem_fits : costs_fit states s ≡ true
  costs-subproblem_fits = and_second _ (costs_fit states s) before_decisions

  pub counts-subproblem_fits : counts_fit states s ≡ true
  counts-subproblem_fits = and_second _ (counts_fit states s) (and_first _ (costs_fit states s) before_decisions)

pub few-counts_fit : (states : ℕ) (s : Subproblem) → counts_fit states s ≡ true → (length s.rows ≤ 200) × (length s.decisions ≤ 200)
few-counts_fit states s e = (grind (arith, nat_tests, common_steps, e), grind (arith, nat_tests, common_steps, e))

-- Rows beside their multipliers, and successors beside their pairs.
use Rattle.std.proofs.Common.{◌≡◌, ℕ, ◌+◌, ◌<◌, ℤ, pos, ◌+ℤ◌, List, length, zip, take, get_or, All, ap, ap₂, sym, subst, ◌∙◌, arith}
use Rattle.std.specs.Int.{int_wrap}
use mir.Syntax.{w128}
use Rattle.std.proofs.lemmas.Slice.Zip.{get_or-zip, length-zip}
use Rattle.base_num.specs.Sums.{total}
use Rattle.problem.specs.declared.parts.Row.{Row}
use Rattle.theory.specs.declared.cut.Cut.{Cut}
use Rattle.theory.specs.Pools.{pool}
use Rattle.cut_make.specs.Congruent.{Congruent}
use Rattle.cut_make.specs.Parts.{over_pool, PairsThere}
use Rattle.cut_make.proofs.Congruence.{sum_step}

module _ (rows : List Row) (ys : List ℤ) (i : ℕ) (row : Row) (h : i < length rows) (k : i < length ys) (is : row ≡ get_or rows i row) where
  pub row_at : get_or (zip rows ys) i (row, pos 0) ≡ (row, get_or ys i (pos 0))
  row_at = get_or-zip rows ys i (row, pos 0) h k ∙ ap (λ (r : Row). (r, get_or ys i (pos 0))) (sym is)

  -- a sum over the rows with one row more
  pub row_step : (part : Row × ℤ → ℤ) (s t : ℤ) → Congruent s (total part (take i (zip rows ys))) → Congruent t (s +ℤ part (row, get_or ys i (pos 0))) → Congruent t (total part (take (i + 1) (zip rows ys)))
  row_step part s t before more = sum_step part (zip rows ys) i (row, pos 0) s t (part (row, get_or ys i (pos 0))) (omega (arith, length-zip rows ys)) before more (ap (λ (q : Row × ℤ). int_wrap w128 (part q)) (sym row_at))

module _ (lists : List (List Cut)) (ms : List ℕ) (cs : List (List (ℕ × ℕ))) (i : ℕ) (cuts : List Cut) (pairs given : List (ℕ × ℕ)) (h : i < length ms) (k : i < length cs) (is : pairs ≡ get_or cs i pairs) (own : cuts ≡ pool lists (get_or ms i 0)) (same : given ≡ pairs) where
  pairs_at : get_or (zip ms cs) i (0, pairs) ≡ (get_or ms i 0, pairs)
  pairs_at = get_or-zip ms cs i (0, pairs) h k ∙ ap (λ (ss : List (ℕ × ℕ)). (get_or ms i 0, ss)) (sym is)

  -- the pairs of a successor are in its pool
  pub pairs_there : PairsThere lists ms cs → All (λ (s : ℕ × ℕ). s.0 < length cuts) given
  pairs_there all =
      let P : ℕ × List (ℕ × ℕ) → Type 0 = λ (q : ℕ × List (ℕ × ℕ)). All (λ (s : ℕ × ℕ). s.0 < length (pool lists q.0)) q.1 in
      let here : All (λ (s : ℕ × ℕ). s.0 < length (pool lists (get_or ms i 0))) pairs = subst P pairs_at (all i (0, pairs) (omega (arith, length-zip ms cs))) in
      subst (λ (found : List Cut). All (λ (s : ℕ × ℕ). s.0 < length found) given) (sym own) (subst (λ (ss : List (ℕ × ℕ)). All (λ (s : ℕ × ℕ). s.0 < length (pool lists (get_or ms i 0))) ss) (sym same) here)

  -- their sum is the summand of their successor
  pub pairs_part : (f : Cut → ℤ) → over_pool cuts f given ≡ (let q : ℕ × List (ℕ × ℕ) = get_or (zip ms cs) i (0, pairs) in over_pool (pool lists q.0) f q.1)
  pairs_part f = ap₂ (λ (found : List Cut) (ss : List (ℕ × ℕ)). over_pool found f ss) own same ∙ sym (ap (λ (q : ℕ × List (ℕ × ℕ)). over_pool (pool lists q.0) f q.1) pairs_at)

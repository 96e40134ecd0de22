-- One slack more, and the whole.
use Rattle.std.proofs.Common.{◌≡◌, ◌∙◌, ◌+◌, ◌-◌, ◌<◌, ◌≤◌, ℕ, suc, length, Option, Some, None, arith, ap, ap₂, sym}
use Rattle.std.specs.Option.{option_map, option_and_then}
use Rattle.lp_table.specs.declared.table.WarmTable.{WarmTable}
use Rattle.lp_table.specs.declared.table.Basis.{Basis}
use Rattle.lp_pivot.specs.Clean.{clean_of}
use Rattle.lp_pivot.specs.Tighten.{tight, tightened}
use Rattle.lp_pivot.specs.Standings.{stood_up, rebuilt_of}

module _ (b : Basis) (t : WarmTable) (v last : ℕ) where
  more : v < last → tightened b t v (last - v) ≡ option_and_then (λ next. tightened b next (suc v) (last - (v + 1))) (tight b t v)
  more h = let e : last - v ≡ suc (last - (v + 1)) = omega (arith, h) in ap (tightened b t v) e

  pub tight_step : (whole : Option WarmTable) (next : WarmTable) → v < last → tight b t v ≡ Some next → whole ≡ tightened b t v (last - v) → whole ≡ tightened b next (v + 1) (last - (v + 1))
  tight_step whole next h e w =
      let k : suc v ≡ v + 1 = omega arith in
      w ∙ more h ∙ ap (option_and_then (λ s. tightened b s (suc v) (last - (v + 1)))) e ∙ ap (λ (u : ℕ). tightened b next u (last - (v + 1))) k

  pub tight_absent : (whole : Option WarmTable) → v < last → tight b t v ≡ None → whole ≡ tightened b t v (last - v) → whole ≡ None
  tight_absent whole h e w = w ∙ more h ∙ ap (option_and_then (λ s. tightened b s (suc v) (last - (v + 1)))) e

  pub tight_done : (whole : Option WarmTable) → last ≤ v → whole ≡ tightened b t v (last - v) → whole ≡ Some t
  tight_done whole h w = let e : last - v ≡ 0 = omega (arith, h) in w ∙ ap (tightened b t v) e

-- the rebuilt table, by the slacks that left
pub rebuilt_by : (t u : WarmTable) (b : Basis) (r : Option WarmTable) → b ≡ t.basis → u ≡ clean_of t → tightened b u (length u.costs) (length u.rows) ≡ r → rebuilt_of t ≡ option_map (stood_up t.basis) r
unfolding rebuilt_of clean_of
rebuilt_by t u b r e f h = ap (option_map (stood_up t.basis)) (sym (ap₂ (λ (c : Basis) (s : WarmTable). tightened c s (length s.costs) (length s.rows)) e f) ∙ h)

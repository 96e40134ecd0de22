-- One step of the search for the most digits.
use Rattle.std.proofs.Common.{◌≡◌, ℕ, ◌+◌, ◌<◌, ℤ, Bool, List, length, get_or, drop, Option, ap, ap₂, add-one, sym, ◌∙◌}
use Rattle.std.proofs.lemmas.List.{drop_more}
use Rattle.lp_wide_table.specs.declared.table.WideTable.{WideTable}
use Rattle.lp_table.specs.Numbers.{bits_of}
use Rattle.lp_wide.specs.Ray.{wide_ray_factor_at, wide_with_digits, wide_greatest_from}

pub greatest_next : (t : WideTable) (line : List ℤ) (v : ℕ) (above : Bool) (es : List ℤ) (i : ℕ) (d : ℤ) (best next whole : Option ℤ) → i < length es → next ≡ wide_with_digits best (bits_of (wide_ray_factor_at t line v above i)) (get_or es i d) → whole ≡ wide_greatest_from t line v above i best (drop i es) → whole ≡ wide_greatest_from t line v above (i + 1) next (drop (i + 1) es)
greatest_next t line v above es i d best next whole h e w =
    w ∙ ap (wide_greatest_from t line v above i best) (drop_more es i d h)
    ∙ ap₂ (λ (k : ℕ) (b : Option ℤ). wide_greatest_from t line v above k b (drop (i + 1) es)) (sym (add-one i)) (sym e)

-- One step of the search for the most digits.
use Rattle.std.proofs.Common.{◌≡◌, ℕ, ◌+◌, ◌<◌, ℤ, Bool, List, length, get_or, drop, Option, ap, ap₂, add-one, sym, ◌∙◌}
use Rattle.std.proofs.lemmas.List.{drop_more}
use Rattle.lp_table.specs.declared.table.WarmTable.{WarmTable}
use Rattle.lp_table.specs.Numbers.{bits_of}
use Rattle.lp_price.specs.Ray.{ray_factor_at, with_digits, greatest_from}

pub greatest_next : (t : WarmTable) (line : List ℤ) (v : ℕ) (above : Bool) (es : List ℤ) (i : ℕ) (d : ℤ) (best next whole : Option ℤ) → i < length es → next ≡ with_digits best (bits_of (ray_factor_at t line v above i)) (get_or es i d) → whole ≡ greatest_from t line v above i best (drop i es) → whole ≡ greatest_from t line v above (i + 1) next (drop (i + 1) es)
greatest_next t line v above es i d best next whole h e w =
    w ∙ ap (greatest_from t line v above i best) (drop_more es i d h)
    ∙ ap₂ (λ (k : ℕ) (b : Option ℤ). greatest_from t line v above k b (drop (i + 1) es)) (sym (add-one i)) (sym e)

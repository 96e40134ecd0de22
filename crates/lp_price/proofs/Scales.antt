-- One scale after another by which multipliers may prove.
use Rattle.std.proofs.Common.{◌≡◌, ℕ, suc, ◌+◌, ◌-◌, ◌*◌, ◌<◌, Bool, false, ◌||◌, List, arith, ap, add-one, sym, ◌∙◌}
use Rattle.lp_program.specs.declared.fixed.Fx.{Fx}
use Rattle.lp_program.specs.declared.programs.Program.{Program}
use Rattle.lp_price.specs.Proves.{excess_of, is_above_zero, proves_from}

-- they do not by this one
pub scale_next : (lp : Program) (ys : List Fx) (whole : Bool) (limit n : ℕ) → n < limit → is_above_zero (excess_of lp ys (4 * n)) ≡ false → whole ≡ proves_from lp ys n (limit - n) → whole ≡ proves_from lp ys (n + 1) (limit - (n + 1))
scale_next lp ys whole limit n h e w =
    let more : limit - n ≡ suc (limit - (n + 1)) = omega arith in
    w ∙ ap (proves_from lp ys n) more ∙ ap (λ (b : Bool). b || proves_from lp ys (suc n) (limit - (n + 1))) e ∙ ap (λ (m : ℕ). proves_from lp ys m (limit - (n + 1))) (sym (add-one n))

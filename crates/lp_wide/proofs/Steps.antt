-- One step of the loop over violations.
use Rattle.std.proofs.Common.{◌≡◌, ℕ, suc, ◌+◌, ◌-◌, ◌<◌, List, Option, Some, arith, ap, sym, ◌∙◌}
use Rattle.lp_program.specs.declared.programs.Program.{Program}
use Rattle.lp_program.specs.declared.programs.Answer.{Answer}
use Rattle.lp_wide_table.specs.declared.table.WideTable.{WideTable}
use Rattle.lp_wide.specs.declared.violations.WideViolation.{WideViolation}
use Rattle.lp_wide.specs.declared.inspecting.Mend.{Mend}
use Rattle.lp_wide.specs.declared.inspecting.WideInspection.{WideInspection}
use Rattle.lp_wide.specs.declared.inspecting.WideInspection.TheVariants as inspections
use Rattle.lp_wide.specs.Violations.{wide_next_violation}
use Rattle.lp_wide.specs.Turns.{inspection_at, or_after, wide_by_next, inspection_from}

module _ (lp : Program) (t : WideTable) (vs : List WideViolation) (whole : WideInspection) (limit i : ℕ) (last : Option WideViolation) where
  -- the violation that is looked at next, by what it comes to
  inspected : (v : WideViolation) (g : WideInspection) → i < limit → Some v ≡ wide_next_violation last vs → g ≡ inspection_at lp t v → whole ≡ inspection_from lp t vs (limit - i) last → whole ≡ or_after (inspection_from lp t vs (limit - (i + 1)) (Some v)) g
  inspected v g h e k w =
      let left : limit - i ≡ suc (limit - (i + 1)) = omega arith in
      w ∙ ap (λ (n : ℕ). inspection_from lp t vs n last) left ∙ ap (wide_by_next (λ (u : WideViolation). or_after (inspection_from lp t vs (limit - (i + 1)) (Some u)) (inspection_at lp t u))) (sym e) ∙ ap (or_after (inspection_from lp t vs (limit - (i + 1)) (Some v))) (sym k)

  pub inspection_passes : (v : WideViolation) → i < limit → Some v ≡ wide_next_violation last vs → inspections.Rests ≡ inspection_at lp t v → whole ≡ inspection_from lp t vs (limit - i) last → whole ≡ inspection_from lp t vs (limit - (i + 1)) (Some v)
  inspection_passes v h e k w = inspected v inspections.Rests h e k w

  pub inspection_mends : (v : WideViolation) (m : Mend) → i < limit → Some v ≡ wide_next_violation last vs → inspections.Mends m ≡ inspection_at lp t v → whole ≡ inspection_from lp t vs (limit - i) last → inspections.Mends m ≡ whole
  inspection_mends v m h n k w = sym (inspected v (inspections.Mends m) h n k w)

  pub inspection_shows : (v : WideViolation) (a : Answer) → i < limit → Some v ≡ wide_next_violation last vs → inspections.Shows a ≡ inspection_at lp t v → whole ≡ inspection_from lp t vs (limit - i) last → inspections.Shows a ≡ whole
  inspection_shows v a h e k w = sym (inspected v (inspections.Shows a) h e k w)

  pub inspection_stops : (v : WideViolation) → i < limit → Some v ≡ wide_next_violation last vs → inspections.Stops ≡ inspection_at lp t v → whole ≡ inspection_from lp t vs (limit - i) last → inspections.Stops ≡ whole
  inspection_stops v h e k w = sym (inspected v inspections.Stops h e k w)

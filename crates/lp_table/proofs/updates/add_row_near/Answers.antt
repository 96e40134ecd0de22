use Rattle.std.proofs.Common.{◌≡◌, ◌∙◌, ◌*ℤ◌, ◌^◌, ap₂, sym, pos, w64, of_z, to_z, length-set, arith}
use Rattle.std.proofs.lemmas.List.{get_or_default}
use Rattle.std.proofs.lemmas.Int.{to_z-of_z}
use Rattle.base_num.specs.Sums.{entry}
use Rattle.lp_table.specs.Updates.{moved_cell}
use Rattle.base_num.proofs.Each.{each_step}
use Rattle.lp_table.proofs.updates.add_row_near.Goals as goal

pub loop-j-preserved : goal.loop-j-preserved
loop-j-preserved c =
    let e : to_z w64 (of_z w64 c.scaled-scaled.result) ≡ pos (2 ^ 21) *ℤ c.args.factor = to_z-of_z w64 c.scaled-scaled.result (record { sfits = c.scaled-scaled.type_inv }) ∙ c.scaled-scaled.ensures in
    let n : entry c.args.addend.now c.loop-j.j ≡ c.index-addend-j.result = get_or_default c.args.addend.now c.loop-j.j (pos 0) c.index-addend-j.result (omega (arith, c.requires.lengths, c.loop-j-test.true)) ∙ sym c.index-addend-j.is in
    record {
      count = length-set c.loop-j.row c.loop-j.j _ ∙ c.loop-j.invariant.count;
      results = each_step (λ j t. moved_cell c.args.factor (entry c.args.addend.now j) t) _ c.loop-j.row c.loop-j.j c.index-row-j.result _ (rw c.loop-j.invariant.count c.loop-j-test.true)
          (ap₂ (moved_cell c.args.factor) n (sym c.index-row-j.is) ∙ sym (c.moved_near.ensures c.args.factor e) ∙ c.in-Some.is) c.loop-j.invariant.results;
    }

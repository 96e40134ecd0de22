use Rattle.std.proofs.Common.{ℕ, ℤ, List, ◌+◌, ◌*◌, drop, add-one, arith, ap, ap₂, sym, ◌∙◌}
use Rattle.std.proofs.lemmas.List.{drop_more}
use Rattle.lp_price.specs.Finish.{less_places}
use Rattle.lp_price.proofs.Small.{wider}
use Rattle.lp_price.proofs.finishing.less_places.Goals as goal

pub loop-j-preserved : goal.loop-j-preserved
loop-j-preserved c = record {
  rests = c.loop-j.invariant.rests
      ∙ ap (less_places c.args.table.now c.loop-j.j c.loop-j.rests) (drop_more c.args.nonbasic.now c.loop-j.j 0 c.loop-j-test.true)
      ∙ ap₂ (λ (k : ℕ) (rs : List ℤ). less_places c.args.table.now k rs (drop (c.loop-j.j + 1) c.args.nonbasic.now)) (sym (add-one c.loop-j.j)) (sym c.less_place.ensures.rests);
  lengths = c.less_place.ensures.lengths ∙ c.loop-j.invariant.lengths;
  within = wider (1 + c.loop-j.j * 1199 + 1199) (1 + (c.loop-j.j + 1) * 1199) c.less_place.new.rests (omega arith) (c.less_place.ensures.within (1 + c.loop-j.j * 1199) c.loop-j.invariant.within);
}

use Rattle.cut_pool.proofs.RaisedBoxMaxima.{all_with}
use Rattle.cut_pool.proofs.pool.Pool.keep_box_maximum.Goals as goal

pub invariant_of-self : goal.invariant_of-self
invariant_of-self c = record {
  few = c.self.invariant.few;
  flat = c.self.invariant.flat;
  box_maxima = all_with c.self.inside.cuts.items c.as_slice-2.result.now c.self.inside.box_maxima.items c.push.new.self.items c.in_ok-box_maximum.field-0 c.in-Some.box_maximum c.as_slice-2.ensures.value c.self.invariant.box_maxima c.in_ok-box_maximum.ensures c.in-Some.is c.in_ok-push.ensures.items;
  active = c.self.invariant.active;
  range = c.self.invariant.range;
}

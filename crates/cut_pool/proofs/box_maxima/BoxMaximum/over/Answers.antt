use Rattle.std.proofs.Common.{refl}
use Rattle.std.proofs.lemmas.Option.{IfSome_then}
use Rattle.cut_pool.proofs.RaisedBoxMaxima.{last_is}
use Rattle.cut_pool.proofs.box_maxima.BoxMaximum.over.Goals as goal

pub returns-then-are_same : goal.returns-then-are_same
returns-then-are_same c = IfSome_then c.last_of.result c.last_of.ensures
    (λ value last. λ cuts is. last_is cuts c.args.self.now c.args.boxes.now c.as_slice.result.now c.as_slice-then-are_same.result.now value is c.as_slice.ensures (c.if-are_same.ensures refl) c.as_slice-then-are_same.ensures.value last)

use Rattle.std.proofs.Common.{ℕ, sym}
use Rattle.std.proofs.lemmas.List.{length-map}
use Rattle.cut_make.specs.Parts.{repeated}
use Rattle.cut_check.proofs.SizeRange.{range_stops}
use Rattle.cut_check.proofs.size.repeated.repeated_range.Goals as goal

pub returns-in-Err : goal.returns-in-Err
returns-in-Err c = sym (range_stops c.args.here.now.pools.now.lists c.args.here.now.node.now c.args.here.now.subproblem.now c.args.here.now.low.now c.args.here.now.high.now c.args.here.now.weights.now c.requires.sized (repeated c.args.certificate.now c.args.here.now.weights.now) (length-map c.args.here.now.weights.now (λ (w : ℕ). c.args.certificate.now)) c.in-Err.realization c.in-Err.ensures)

pub returns-in-Ok : goal.returns-in-Ok
returns-in-Ok c = c.remainders_range.ensures (repeated c.args.certificate.now c.args.here.now.weights.now) (length-map c.args.here.now.weights.now (λ (w : ℕ). c.args.certificate.now)) c.repeated_slope_sums.ensures.value c.in-Ok.ensures

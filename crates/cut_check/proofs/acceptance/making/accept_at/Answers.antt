use Rattle.std.proofs.Common.{ap, ◌∙◌}
use Rattle.std.proofs.lemmas.Result.{err_from_is_err_and}
use Rattle.std.specs.Option.{option_map}
use Rattle.cut_make.specs.declared.fault.CertFault.TheVariants.{Range}
use Rattle.cut_check.proofs.Accepted.{fault-right, fault-size, right-right_fault}
use Rattle.cut_check.proofs.acceptance.making.accept_at.Goals as goal

pub returns-in_err-check_right-clause-accepted : goal.returns-in_err-check_right-clause-accepted
returns-in_err-check_right-clause-accepted g c =
    let p = err_from_is_err_and c.from_residual.result c.from_residual.ensures.1 in
    rw (p.1, p.2) (fault-right c.args.here.now.pools.now.lists g.n c.args.list.now c.in_err-check_right.field-0.0 c.in_err-check_right.ensures)

pub write_in_range-requires : goal.write_in_range-requires
write_in_range-requires g c =
    let q = c.requires.1 in
    let right = right-right_fault c.args.here.now.pools.now.lists g.n c.args.list.now c.in_ok-check_right.ensures in
    (c.requires.0, (q.0, (q.1.0, (q.1.1.0, (right, q.1.1.1)))))

pub returns-in-Ok-clause-accepted : goal.returns-in-Ok-clause-accepted
returns-in-Ok-clause-accepted g c = fault-size c.args.here.now.pools.now.lists g.n c.args.list.now c.in_ok-check_right.ensures ∙ ap (option_map Range) c.in-Ok.ensures.range

pub returns-in-Err-clause-accepted : goal.returns-in-Err-clause-accepted
returns-in-Err-clause-accepted g c = fault-size c.args.here.now.pools.now.lists g.n c.args.list.now c.in_ok-check_right.ensures ∙ ap (option_map Range) c.in-Err.ensures.range

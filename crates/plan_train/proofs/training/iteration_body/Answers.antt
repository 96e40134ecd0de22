use Rattle.std.proofs.Common.{◌≡◌, true, List, length, ap, sym, subst, arith}
use Rattle.std.specs.List.{AllByRecursion}
use Rattle.problem.specs.Validated.{Validated, is_validated}
use Rattle.cut_pool.specs.declared.entry.Entry.{Entry}
use Rattle.journal_record.specs.Shape.{Writable}
use Rattle.journal_record.specs.Spelling.{spell}
use Rattle.plan_train.specs.Stepping.{seen_stepped}
use Rattle.plan_train.proofs.Bodies.{is_written}
use Rattle.plan_train.proofs.training.iteration_body.Goals as goal

pub body_of-requires-clause-shape : goal.body_of-requires-clause-shape
body_of-requires-clause-shape g c =
    let p = c.args.planner.now.problem.now in
    let v = g.V.Solver.does c.args.planner.now.solver.now in
    let w = is_written v p c.args.pools.now.lists c.args.draw.seed c.args.draw.batch c.args.draw.iteration (seen_stepped c.iteration.new.pools.lists c.in_ok-entries.entries) (subst (λ (q : Validated). is_validated q ≡ true) c.problem-problem.ensures c.parts.ensures.validated) c.requires.fit c.requires.most c.requires.first c.requires.last c.requires.cuts c.requires.room c.in_ok-entries.ensures.value in
    subst (λ (q : Validated). AllByRecursion (Writable q) c.as_slice.result.now) (sym c.problem-problem.ensures) (subst (λ (es : List Entry). AllByRecursion (Writable p) es) (sym c.as_slice.ensures) w.shape)

pub body_of-requires-clause-short : goal.body_of-requires-clause-short
body_of-requires-clause-short g c =
    let p = c.args.planner.now.problem.now in
    let v = g.V.Solver.does c.args.planner.now.solver.now in
    let w = is_written v p c.args.pools.now.lists c.args.draw.seed c.args.draw.batch c.args.draw.iteration (seen_stepped c.iteration.new.pools.lists c.in_ok-entries.entries) (subst (λ (q : Validated). is_validated q ≡ true) c.problem-problem.ensures c.parts.ensures.validated) c.requires.fit c.requires.most c.requires.first c.requires.last c.requires.cuts c.requires.room c.in_ok-entries.ensures.value in
    omega (arith, w.short, ap (λ (es : List Entry). length (spell es)) c.as_slice.ensures)

pub returns-clause-body : goal.returns-clause-body
returns-clause-body g c =
    let p = c.args.planner.now.problem.now in
    let v = g.V.Solver.does c.args.planner.now.solver.now in
    let w = is_written v p c.args.pools.now.lists c.args.draw.seed c.args.draw.batch c.args.draw.iteration (seen_stepped c.iteration.new.pools.lists c.in_ok-entries.entries) (subst (λ (q : Validated). is_validated q ≡ true) c.problem-problem.ensures c.parts.ensures.validated) c.requires.fit c.requires.most c.requires.first c.requires.last c.requires.cuts c.requires.room c.in_ok-entries.ensures.value in
    (spell c.as_slice.result.now, omega (arith, w.short, ap (λ (es : List Entry). length (spell es)) c.as_slice.ensures), c.in_ok-body.ensures)

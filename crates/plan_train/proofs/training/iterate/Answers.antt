use Rattle.std.proofs.Common.{◌≡◌, ℤ, true, List, [], ◌∷◌, ◌++◌, All, rules, length, ap, sym, subst, arith}
use Rattle.std.specs.List.{AllByRecursion}
use Rattle.std.proofs.lemmas.List.Elements.{All-append, All-cons, All-nil}
use Rattle.problem.specs.Validated.{Validated, is_validated}
use Rattle.theory.specs.Bound.{Under}
use Rattle.theory.specs.Pools.{Sound}
use Rattle.theory.specs.View.{problem_of}
use Rattle.cut_pool.specs.declared.entry.Entry.{Entry}
use Rattle.journal_record.specs.Shape.{Writable}
use Rattle.journal_record.specs.Spelling.{spell}
use Rattle.plan_train.specs.Stepping.{seen_stepped}
use Rattle.plan_train.proofs.Bodies.{is_written}
use Rattle.plan_train.proofs.training.iterate.Goals as goal

pub body_of-requires-clause-shape : goal.body_of-requires-clause-shape
body_of-requires-clause-shape g c =
    let p = c.args.course.now.planner.now.problem.now in
    let v = g.V.Solver.does c.args.course.now.planner.now.solver.now in
    let w = is_written v p c.args.loaded.now.pools.lists c.args.course.now.seed c.args.loaded.now.batch c.args.number (seen_stepped c.iteration.new.pools.lists c.in_ok-entries.entries) (subst (λ (q : Validated). is_validated q ≡ true) c.problem-problem.ensures c.parts.ensures.validated) c.requires.fit c.requires.most c.requires.first c.requires.last c.requires.cuts c.requires.room c.in_ok-entries.ensures.value in
    subst (λ (q : Validated). AllByRecursion (Writable q) c.as_slice.result.now) (sym c.problem-problem.ensures) (subst (λ (es : List Entry). AllByRecursion (Writable p) es) (sym c.as_slice.ensures) w.shape)

pub body_of-requires-clause-short : goal.body_of-requires-clause-short
body_of-requires-clause-short g c =
    let p = c.args.course.now.planner.now.problem.now in
    let v = g.V.Solver.does c.args.course.now.planner.now.solver.now in
    let w = is_written v p c.args.loaded.now.pools.lists c.args.course.now.seed c.args.loaded.now.batch c.args.number (seen_stepped c.iteration.new.pools.lists c.in_ok-entries.entries) (subst (λ (q : Validated). is_validated q ≡ true) c.problem-problem.ensures c.parts.ensures.validated) c.requires.fit c.requires.most c.requires.first c.requires.last c.requires.cuts c.requires.room c.in_ok-entries.ensures.value in
    omega (arith, w.short, ap (λ (es : List Entry). length (spell es)) c.as_slice.ensures)

pub unanswered-requires : goal.unanswered-requires
unanswered-requires g c =
    let p = c.args.course.now.planner.now.problem.now in
    let v = g.V.Solver.does c.args.course.now.planner.now.solver.now in
    let w = is_written v p c.args.loaded.now.pools.lists c.args.course.now.seed c.args.loaded.now.batch c.args.number (seen_stepped c.iteration.new.pools.lists c.in_ok-entries.entries) (subst (λ (q : Validated). is_validated q ≡ true) c.problem-problem.ensures c.parts.ensures.validated) c.requires.fit c.requires.most c.requires.first c.requires.last c.requires.cuts c.requires.room c.in_ok-entries.ensures.value in
    omega (arith, w.few, ap (λ (es : List Entry). length es) c.as_slice-2.ensures)

pub returns-clause-body : goal.returns-clause-body
returns-clause-body g c =
    let p = c.args.course.now.planner.now.problem.now in
    let v = g.V.Solver.does c.args.course.now.planner.now.solver.now in
    let w = is_written v p c.args.loaded.now.pools.lists c.args.course.now.seed c.args.loaded.now.batch c.args.number (seen_stepped c.iteration.new.pools.lists c.in_ok-entries.entries) (subst (λ (q : Validated). is_validated q ≡ true) c.problem-problem.ensures c.parts.ensures.validated) c.requires.fit c.requires.most c.requires.first c.requires.last c.requires.cuts c.requires.room c.in_ok-entries.ensures.value in
    (spell c.as_slice.result.now, omega (arith, w.short, ap (λ (es : List Entry). length (spell es)) c.as_slice.ensures), c.in_ok-body.ensures)

pub returns-clause-under : goal.returns-clause-under
returns-clause-under g c = λ sound under.
    let q = problem_of c.args.course.now.planner.now.problem.now in
    let is : c.push.new.self ≡ c.args.loaded.now.bounds ++ c.bound.result ∷ [] = search rules in
    let bounded = subst (λ (p : Validated). Sound (problem_of p) c.iteration.new.pools.lists → Under (problem_of p) c.bound.result) c.problem-problem.ensures c.bound.ensures.sound in
    subst (λ (bs : List ℤ). All (Under q) bs) (sym is) (All-append (Under q) c.args.loaded.now.bounds (c.bound.result ∷ []) under (All-cons (Under q) c.bound.result [] (bounded (c.iteration.ensures.sound sound)) (All-nil (Under q))))

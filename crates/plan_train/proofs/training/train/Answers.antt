use Rattle.std.proofs.Common.{◌≡◌, ◌<◌, ◌^◌, ℕ, ◌-◌, List, length, sym, ap, subst, ◌∙◌}
use Rattle.theory.specs.declared.cut.Cut.{Cut}
use Rattle.theory.specs.Pools.{Sound}
use Rattle.theory.specs.View.{problem_of}
use Rattle.journal_file.specs.Layout.{IsTitle}
use Rattle.journal_load.specs.Load.{Outcome, seen_outcome}
use Rattle.plan_train.specs.Training.{iterations, title_of}
use Rattle.plan_train.proofs.Trained.{first_moments, ready_ends, trained_moments, trained_reads, when_also}
use Rattle.plan_train.proofs.training.train.Goals as goal

pub returns-in_err-open_end-clause-any_moment : goal.returns-in_err-open_end-clause-any_moment
returns-in_err-open_end-clause-any_moment g c =
    let p = c.args.planner.now.problem.now in
    let v = g.V.Solver.does c.args.planner.now.solver.now in
    let o = seen_outcome c.args.loaded.now in
    let m = seen_outcome c.open_end.new.loaded in
    let old = g.D.Disk.store c.args.disk.now in
    let mid = g.D.Disk.store c.open_end.new.disk in
    first_moments c.args.training.now.digest.now c.args.training.now.seed o old mid (iterations v p c.args.training.now.seed c.args.training.now.count o).lists c.open_end.ensures.any_moment

pub iterate_all-requires-clause-end : goal.iterate_all-requires-clause-end
iterate_all-requires-clause-end g c κs within =
    let o = seen_outcome c.args.loaded.now in
    let long : length c.args.training.now.digest.now ≡ 32 = c.open_end.ensures.digest in
    let fits : c.args.training.now.seed < 2 ^ 64 = c.open_end.ensures.seed in
    let title : IsTitle (title_of c.args.training.now.digest.now c.args.training.now.seed o) = record { digest = long; seed = fits; version = c.requires.can.version } in
    ready_ends c.args.training.now.digest.now c.args.training.now.seed o title (g.D.Disk.store c.args.disk.now).reads (g.D.Disk.store c.open_end.new.disk).reads c.open_end.new.loaded.end c.requires.clear c.in_ok-open_end.ensures.reads (ap (λ (x : Outcome). x.end) c.in_ok-open_end.ensures.value)

pub returns-clause-reads : goal.returns-clause-reads
returns-clause-reads g c =
    let o = seen_outcome c.args.loaded.now in
    let long : length c.args.training.now.digest.now ≡ 32 = c.open_end.ensures.digest in
    let fits : c.args.training.now.seed < 2 ^ 64 = c.open_end.ensures.seed in
    let title : IsTitle (title_of c.args.training.now.digest.now c.args.training.now.seed o) = record { digest = long; seed = fits; version = c.requires.can.version } in
    when_also c.iterate_all.result _ _ c.iterate_all.ensures.reads
    (trained_reads (g.V.Solver.does c.args.planner.now.solver.now) c.args.planner.now.problem.now c.args.training.now.digest.now c.args.training.now.seed c.args.training.now.count o (seen_outcome c.open_end.new.loaded) c.saturating_sub-left.result c.in_ok-open_end.ensures.value (c.saturating_sub-left.ensures ∙ ap (λ (n : ℕ). c.args.training.now.count - n) c.len.ensures) title (g.D.Disk.store c.args.disk.now) (g.D.Disk.store c.open_end.new.disk) (g.D.Disk.store c.iterate_all.new.disk) c.in_ok-open_end.ensures.reads c.requires.clear)

pub returns-clause-any_moment : goal.returns-clause-any_moment
returns-clause-any_moment g c =
    let o = seen_outcome c.args.loaded.now in
    let long : length c.args.training.now.digest.now ≡ 32 = c.open_end.ensures.digest in
    let fits : c.args.training.now.seed < 2 ^ 64 = c.open_end.ensures.seed in
    let title : IsTitle (title_of c.args.training.now.digest.now c.args.training.now.seed o) = record { digest = long; seed = fits; version = c.requires.can.version } in
    trained_moments (g.V.Solver.does c.args.planner.now.solver.now) c.args.planner.now.problem.now c.args.training.now.digest.now c.args.training.now.seed c.args.training.now.count o (seen_outcome c.open_end.new.loaded) c.saturating_sub-left.result c.in_ok-open_end.ensures.value (c.saturating_sub-left.ensures ∙ ap (λ (n : ℕ). c.args.training.now.count - n) c.len.ensures) title (g.D.Disk.store c.args.disk.now) (g.D.Disk.store c.open_end.new.disk) (g.D.Disk.store c.iterate_all.new.disk) c.in_ok-open_end.ensures.reads c.open_end.ensures.any_moment c.iterate_all.ensures.any_moment

pub returns-clause-sound : goal.returns-clause-sound
returns-clause-sound g c = λ sound. c.iterate_all.ensures.sound (subst (λ (x : List (List Cut)). Sound (problem_of c.args.planner.now.problem.now) x) (sym (ap (λ (x : Outcome). x.pools) c.in_ok-open_end.ensures.value)) sound)

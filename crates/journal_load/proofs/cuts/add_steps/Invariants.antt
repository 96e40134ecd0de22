use Rattle.std.proofs.Common.{◌≡◌}
use Rattle.journal_load.specs.RootValues.{root_values}
use Rattle.journal_load.proofs.Loops.{StepsLeft}
use Rattle.journal_load.proofs.cuts.add_steps.Given as goal

abbrev pub invariant-loop-step : goal.invariant-loop-step
invariant-loop-step l = StepsLeft l.problem l.iteration l.initial.pools.lists l.steps l.step-index l.pools.lists × (l.values ≡ root_values l.problem l.pools.lists)

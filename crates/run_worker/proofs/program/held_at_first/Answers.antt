use Rattle.std.proofs.Common.{◌≡◌, ℕ, length, sym, ap, subst, arith}
use Rattle.journal_load.specs.Accepted.{IsGathered}
use Rattle.journal_load.specs.Records.{Found}
use Rattle.run_worker.proofs.program.held_at_first.Goals as goal

pub returns : goal.returns
returns g c =
    let found = c.in_ok-found.found in
    let none : length found.bounds ≡ 0 = ap (λ (f : Found). length f.bounds) c.in_ok-found.ensures.value in
    record {
      some = c.requires.some;
      most = c.requires.most;
      few = omega (arith, none);
      gathered = subst (λ (n : ℕ). IsGathered c.args.task.problem.now c.args.task.batch n found) (sym none) (c.in_ok-found.ensures.gathered c.args.task.batch);
    }

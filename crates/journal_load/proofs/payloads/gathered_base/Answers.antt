use Rattle.std.proofs.Common.{ℤ, List, sym, subst}
use Rattle.theory.proofs.Based.{fit-based}
use Rattle.journal_load.specs.Accepted.{IsSound}
use Rattle.journal_load.proofs.Reaching.{sound_none}
use Rattle.journal_load.proofs.payloads.gathered_base.Goals as goal

pub root_values-requires : goal.root_values-requires
root_values-requires c = fit-based c.args.problem.now c.args.base.lists c.parts.ensures.validated c.requires

pub returns-clause-gathered : goal.returns-clause-gathered
returns-clause-gathered c = λ batch. record {
  sound = subst (λ (bounds : List ℤ). IsSound c.args.problem.now batch 0 (record { pools = c.args.base.lists; bounds = bounds; unanswered = 0 })) (sym c.new.ensures) (sound_none c.args.problem.now c.args.base.lists batch c.parts.ensures.validated c.requires);
  values = c.in_ok-values.ensures;
}

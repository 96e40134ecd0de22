use Rattle.std.proofs.Common.{◌≡◌, map, take}
use Rattle.base_num.specs.Sums.{entry}
use Rattle.plan_forward.proofs.deciding.next_state.Given as goal

abbrev pub invariant-loop-out : goal.invariant-loop-out
invariant-loop-out l = l.found ≡ map (λ o. entry l.decisions o) (take l.out-index l.outs)

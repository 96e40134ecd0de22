use Rattle.cut_pool.proofs.PushedCuts.{last_taken}
use Rattle.cut_pool.proofs.pool.renewed.Goals as goal

pub returns-in-Ok : goal.returns-in-Ok
returns-in-Ok c = last_taken c.in_ok-list.list c.args.cuts.now c.add.new.self (c.in_ok-list.ensures c.args.cuts.now c.requires.flat) c.requires.some c.in-Ok.ensures

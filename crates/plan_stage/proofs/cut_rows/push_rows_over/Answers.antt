use Rattle.plan_stage.proofs.cut_rows.push_rows_over.Goals as goal

pub push_pool_rows-requires-clause-within : goal.push_pool_rows-requires-clause-within
push_pool_rows-requires-clause-within c = c.requires.within c.loop-i.i 0 c.loop-i-test.true

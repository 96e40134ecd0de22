use Rattle.cut_check.proofs.acceptance.walk.check_count.Given as goal

abbrev pub ghost-check_shapes : goal.ghost-check_shapes
ghost-check_shapes g a = g.n

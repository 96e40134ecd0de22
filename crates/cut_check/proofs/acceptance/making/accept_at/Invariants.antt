use Rattle.cut_check.proofs.acceptance.making.accept_at.Given as goal

abbrev pub ghost-check_right : goal.ghost-check_right
ghost-check_right g a = g.n

abbrev pub ghost-write_in_range : goal.ghost-write_in_range
ghost-write_in_range g a = g.n

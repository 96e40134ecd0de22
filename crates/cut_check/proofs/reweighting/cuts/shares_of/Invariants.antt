use Rattle.cut_check.proofs.reweighting.cuts.shares_of.Given as goal

abbrev pub ghost-check_right : goal.ghost-check_right
ghost-check_right g a = g.n

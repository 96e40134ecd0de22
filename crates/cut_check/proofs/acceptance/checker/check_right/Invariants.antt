use Rattle.cut_check.proofs.acceptance.checker.check_right.Given as goal

abbrev pub ghost-check_count : goal.ghost-check_count
ghost-check_count g a = g.n

abbrev pub ghost-check_certificates : goal.ghost-check_certificates
ghost-check_certificates g a = g.n

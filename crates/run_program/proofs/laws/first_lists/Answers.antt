use Rattle.sha2.specs.Sha256.{sha256}
use Rattle.journal_file.specs.Layout.{new_title}
use Rattle.plan_train.proofs.Continuing.{in_front}
use Rattle.run_program.proofs.laws.first_lists.Goals as goal

pub returns : goal.returns
returns g c =
    let v = g.V.Solver.does c.args.solver.now in
    λ bytes b seed fewer count batch few. in_front v b.problem b.pools (new_title (sha256 bytes) seed batch).seed (new_title (sha256 bytes) seed batch).batch 0 count fewer few

use Rattle.std.proofs.Common.{[], ap}
use Rattle.hydro_make.specs.Made.{node_from}
use Rattle.hydro_make.proofs.Described.{short}
use Rattle.hydro_make.proofs.OneStage as lemmas
use Rattle.hydro_make.proofs.laws.hydro_stage.Goals as goal

pub returns : goal.returns
returns c = record {
  node = λ h m s stages e. ap (node_from h m) e;
  decisions = λ h units s successors past i u d b. lemmas.hydro_stage h units s successors past i.water (short h d) u b;
  next = λ h units s successors past here d. lemmas.next_ahead h units s successors past [] (short h d) here;
}

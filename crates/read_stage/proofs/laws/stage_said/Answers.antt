use Rattle.read_stage.proofs.FileStage.{stage-said}
use Rattle.read_stage.proofs.laws.stage_said.Goals as goal

pub returns : goal.returns
returns c = λ states p k d s e. stage-said states p k d s e

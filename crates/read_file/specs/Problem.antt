-- A problem from the bytes of its file.
use Rattle.std.specs.Prelude.{ℕ, List, Result}
use Rattle.problem.specs.declared.refusal.Refusal.{Refusal}
use Rattle.problem.specs.Validated.{Validated}
use Rattle.problem.specs.Arranged.{arranged}
use Rattle.read_json.specs.Steps.{◌>>=◌}
use Rattle.read_file.specs.Read.{problem_parts_of}

-- the problem that the bytes give, or the first refusal
unfoldable pub problem_at : List ℕ → Result Validated Refusal
problem_at bytes = do
  parts ← problem_parts_of bytes
  arranged parts

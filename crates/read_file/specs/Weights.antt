-- Weights that stand for shares of their total.
use Rattle.std.specs.Prelude.{ℕ, ◌+◌, List, sum, Result, Ok, nat_le, if◌then◌else◌}
use Rattle.problem.specs.declared.refusal.Refusal.{Refusal}
use Rattle.problem.specs.declared.refusal.RefusalKind.TheVariants as kinds
use Rattle.problem.specs.declared.refusal.Place.{Place}
use Rattle.read_json.specs.Fields.{refuse}

-- the weights, which together with one more are at most 65535
unfoldable pub bounded_weights_at : Place → ℕ → List ℕ → Result (List ℕ) Refusal
bounded_weights_at p more weights = if nat_le (more + sum weights) 65535 then Ok weights else refuse kinds.Weight p

-- The words that say where training stopped.
use Rattle.std.specs.Prelude.{ℕ, ℤ, List, ◌++◌, codes}
use Rattle.std.specs.List.{flat_map}
use Rattle.std.specs.Fmt.{signed_decimal}
use Rattle.plan_answer.specs.declared.classifying.Infeasibility.{Infeasibility}
use Rattle.run_program.specs.RefusalLines.{refusal_word}

-- a space and a whole number
abbrev pub number_word : ℤ → List ℕ
number_word z = codes " " ++ signed_decimal z

-- a list's word, and its numbers
unfoldable pub listed : List ℕ → List ℤ → List ℕ
listed name numbers = name ++ flat_map number_word numbers

unfoldable pub range_place : ℕ → ℕ → List ℕ
range_place k m = codes "range: iteration" ++ refusal_word k ++ codes " node" ++ refusal_word m

-- the iteration, the node and the realization
unfoldable pub range_text : ℕ → ℕ → ℕ → List ℕ
range_text k m r = range_place k m ++ codes " realization" ++ refusal_word r

-- the iteration or the scenario, the node, the random values, the incoming state and the multipliers of the rows
unfoldable pub no_stage_place : ℕ → ℕ → List ℕ
no_stage_place k m = codes "no stage solution: run" ++ refusal_word k ++ codes " node" ++ refusal_word m

unfoldable pub no_stage_text : Infeasibility → List ℕ
no_stage_text d = no_stage_place d.run d.node ++ listed (codes " values") d.values ++ listed (codes " state") d.state ++ listed (codes " rows") d.rows

-- Says of each command what it does: a new command adds one row to `traits`.
use Rattle.std.specs.Prelude.{◌≤◌, ℕ, Bool, true, false, Option, Some, None, IfSome, is_some, ⊤}
use Rattle.run_words.specs.declared.command.Command.{Command}
use Rattle.run_words.specs.declared.command.Command.TheVariants.{Base, Train, Check, Simulate, Validate, Gen, Evaluate, Hydro, Robust}
use Rattle.run_words.specs.declared.command.TrainingNumbers.{TrainingNumbers}

-- what a command works on
pub data Input : Type 0 where
  of_problem : Input  -- the problem in the source, over which it plans
  of_description : Input  -- the description of hydro plants in the source
  of_numbers : ℕ → ℕ → ℕ → Input  -- a seed, and how many stages and reservoirs: the source is not read

-- where a command makes decisions
pub data Decisions : Type 0 where
  nowhere : Decisions
  at_realizations : Decisions  -- at realizations of nodes
  at_stored : Decisions  -- at moments of the scenarios that the problem stores

-- what a command reports of the problem over which it plans
pub data Report : Type 0 where
  no_report : Report  -- the command does not plan
  of_base_cuts : Report
  of_training : TrainingNumbers → Report  -- the cuts and the bounds of training by these
  of_journal : Report  -- the cuts and the bounds that the journal holds
  of_drawn_scenarios : ℕ → ℕ → Report  -- decisions in the scenarios that a seed draws, and how many
  of_stored_scenarios : Report  -- decisions in the scenarios that the problem stores
  of_policy : Report  -- what the whole policy costs
  of_risk_cuts : Report  -- the risk cuts that the records of the journal give

pub record CommandTraits : Type 1 where
  pub input : Input
  pub reads_journal : Bool
  pub training : Option TrainingNumbers  -- it trains by these, and writes the journal
  pub decisions : Decisions
  pub makes_cuts : Bool  -- it makes cuts, or risk cuts
  pub lists_weights : Bool  -- it reads the weights that the problem lists
  pub report : Report
  pub within : Type 0  -- its numbers are in their ranges

abbrev pub traits : Command → CommandTraits
traits Base = record { input = of_problem; reads_journal = false; training = None; decisions = nowhere; makes_cuts = false; lists_weights = false; report = of_base_cuts; within = ⊤ }
traits (Train seed count batch) =
    let numbers : TrainingNumbers = record { seed = seed; count = count; batch = batch } in
    record { input = of_problem; reads_journal = true; training = Some numbers; decisions = at_realizations; makes_cuts = true; lists_weights = false; report = of_training numbers; within = (count ≤ 2000) × IfSome batch (λ b. (1 ≤ b) × (b ≤ 64)) }
traits Check = record { input = of_problem; reads_journal = true; training = None; decisions = nowhere; makes_cuts = false; lists_weights = false; report = of_journal; within = ⊤ }
traits (Simulate seed count) =
    record { input = of_problem; reads_journal = true; training = None; decisions = at_realizations; makes_cuts = false; lists_weights = false; report = of_drawn_scenarios seed count; within = count ≤ 1000 }
traits Validate = record { input = of_problem; reads_journal = true; training = None; decisions = at_stored; makes_cuts = false; lists_weights = false; report = of_stored_scenarios; within = ⊤ }
traits (Gen seed stages reservoirs) =
    record { input = of_numbers seed stages reservoirs; reads_journal = false; training = None; decisions = nowhere; makes_cuts = false; lists_weights = false; report = no_report; within = (1 ≤ stages) × (stages ≤ 500) × (1 ≤ reservoirs) × (reservoirs ≤ 10) }
traits Evaluate = record { input = of_problem; reads_journal = true; training = None; decisions = at_realizations; makes_cuts = false; lists_weights = false; report = of_policy; within = ⊤ }
traits Hydro = record { input = of_description; reads_journal = false; training = None; decisions = nowhere; makes_cuts = false; lists_weights = false; report = no_report; within = ⊤ }
traits Robust = record { input = of_problem; reads_journal = true; training = None; decisions = nowhere; makes_cuts = true; lists_weights = true; report = of_risk_cuts; within = ⊤ }

-- the numbers of the command are in their ranges; where it has none, nothing is said
abbrev pub IsWithin : Command → Type 0
IsWithin c = (traits c).within

-- the command trains
abbrev pub trains : Command → Bool
trains c = is_some (traits c).training

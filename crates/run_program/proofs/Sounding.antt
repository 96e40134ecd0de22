-- The text that a run wrote, by what it works on: of each text this holds, since the status tells of the text.
use Rattle.std.proofs.Common.{◌≡◌, ℕ, List, Option, Some, None, IfSome, IsOk, Ok, subst}
use Rattle.std.specs.Io.KnownBytes.{Appends}
use Rattle.hydro_gen.specs.Generated.{generated}
use Rattle.hydro_make.specs.Text.{hydro_at}
use Rattle.lp_program.specs.Solving.{Solving}
use Rattle.run_words.specs.declared.command.Command.{Command}
use Rattle.run_words.specs.Traits.{Input, of_description, of_numbers, of_problem, traits}
use Rattle.run_program.specs.Causes.{RunEnds, Ends, Explains, ExplainsBy, Sounds, Taken, WasRead, Written, WrittenBy}
use Rattle.run_program.specs.Kinds.{Output, all_written, partly_written, kind, none_written}
use Rattle.run_program.specs.Outcome.{Reports, based_at}
use Rattle.run_program.specs.SoundText.{SoundText}
use Rattle.run_program.specs.Words.{IsProblem, IsPlanning}
use Rattle.run_program.specs.declared.status.Status.{Status}
use Rattle.run_program.specs.declared.status.Status.TheVariants.{Done}

-- what the end of a run says of its text holds of the text that was taken
taken_as : (w : Output) (taken taken_now : Option (List ℕ)) (writes writes_now : ℕ) (W V : (List ℕ → Type 0) → Type 0) (stopped : Type 0) → ((written : List ℕ → Type 0) → W written → V written)
    → RunEnds w taken taken_now writes writes_now W stopped → Taken w taken taken_now V
taken_as all_written taken taken_now writes writes_now W V stopped each h = each _ h
taken_as partly_written taken taken_now writes writes_now W V stopped each h = each _ h.1
taken_as none_written taken taken_now writes writes_now W V stopped each h = tt

-- of a source that was read
taken_of : (left left_now : Option (List ℕ)) (w : Output) (taken taken_now : Option (List ℕ)) (writes writes_now : ℕ) (W V : List ℕ → (List ℕ → Type 0) → Type 0) (stopped : Type 0)
    → ((bytes : List ℕ) (written : List ℕ → Type 0) → W bytes written → V bytes written)
    → RunEnds w taken taken_now writes writes_now (λ written. WasRead left left_now (λ bytes. W bytes written)) stopped → IfSome left (λ bytes. Taken w taken taken_now (V bytes))
taken_of None left_now w taken taken_now writes writes_now W V stopped each h = tt
taken_of (Some bytes) left_now w taken taken_now writes writes_now W V stopped each h =
    taken_as w taken taken_now writes writes_now (λ written. WasRead (Some bytes) left_now (λ b. W b written)) (V bytes) stopped (λ written r. each bytes written r.1.1) h

-- A report is sound, the problem of a description is the one that is defined, and it is accepted, like a generated one. What follows of these
-- holds of what was written.
module _ {Start Chain : Type 0} (v : Solving Start Chain) (P D : List ℕ → List ℕ → Type 0) (G : List ℕ → Type 0) (command : Command) (report : (bytes text : List ℕ) → SoundText command bytes text → P bytes text)
    (described : (bytes text : List ℕ) → hydro_at bytes ≡ Ok text → IsOk (based_at text) → D bytes text) (drawn : (text : List ℕ) → IsOk (based_at text) → G text) where
  written_by : (i : Input) (e : Ends) (status : Status) → ExplainsBy v i command e status → WrittenBy i P D G e status
  written_by of_problem e status h =
      taken_of e.left e.left_now (kind status).output e.taken e.taken_now e.writes e.writes_now (λ bytes written. (text : List ℕ) × Reports v command e.kept bytes (Ok text) × SoundText command bytes text × written text) (λ bytes written. (text : List ℕ) × P bytes text × written text) _ (λ bytes written w. (w.0, report bytes w.0 w.2, w.3)) h
  written_by of_description e status h =
      taken_of e.left e.left_now (kind status).output e.taken e.taken_now e.writes e.writes_now (λ bytes written. (text : List ℕ) × (hydro_at bytes ≡ Ok text) × IsOk (based_at text) × written text) (λ bytes written. (text : List ℕ) × D bytes text × written text) _ (λ bytes written w. (w.0, described bytes w.0 w.1 w.2, w.3)) h
  written_by (of_numbers seed stages reservoirs) e status h =
      let text : List ℕ = generated seed stages reservoirs in
      taken_as (kind status).output e.taken e.taken_now e.writes e.writes_now (λ written. IsOk (based_at text) × written text) (λ written. (t : List ℕ) × G t × written t) _ (λ written w. (text, drawn text w.0, w.1)) h.1

pub all_written_as : {Start Chain : Type 0} (v : Solving Start Chain) (P : Command → List ℕ → List ℕ → Type 0) (D : List ℕ → List ℕ → Type 0) (G : List ℕ → Type 0) → ((command : Command) (bytes text : List ℕ) → SoundText command bytes text → P command bytes text)
    → ((bytes text : List ℕ) → hydro_at bytes ≡ Ok text → IsOk (based_at text) → D bytes text) → ((text : List ℕ) → IsOk (based_at text) → G text)
    → (asked : Option Command) (e : Ends) (status : Status) → Explains v asked e status → Written asked P D G e status
all_written_as v P D G report described drawn None e status h = tt
all_written_as v P D G report described drawn (Some command) e status h = written_by v (P command) D G command (report command) described drawn (traits command).input e status h

pub sounds : {Start Chain : Type 0} (v : Solving Start Chain) (asked : Option Command) (e : Ends) (status : Status) → Explains v asked e status → Sounds asked e status
sounds v asked e status h =
    all_written_as v SoundText (λ bytes text. (hydro_at bytes ≡ Ok text) × IsOk (based_at text)) (λ text. IsOk (based_at text)) (λ command bytes text s. s) (λ bytes text is accepted. (is, accepted)) (λ text accepted. accepted) asked e status h

-- the text of a task that is Done
pub sound_done : (asked : Option Command) (command : Command) (status : Status) (e : Ends) → asked ≡ Some command → IsPlanning command → status ≡ Done → Sounds asked e status
    → IfSome e.left (λ bytes. (text : List ℕ) × SoundText command bytes text × Appends e.taken e.taken_now text)
sound_done asked command status e is plans done sound =
    let wanted = subst (λ (o : Option Command). Sounds o e status) is sound in
    let ended = subst (λ (s : Status). Sounds (Some command) e s) done wanted in
    by (traits command).input plans ended
  where
    by : (i : Input) → IsProblem i → WrittenBy i (SoundText command) (λ bytes text. (hydro_at bytes ≡ Ok text) × IsOk (based_at text)) (λ text. IsOk (based_at text)) e Done
        → IfSome e.left (λ bytes. (text : List ℕ) × SoundText command bytes text × Appends e.taken e.taken_now text)
    by of_problem plans h = h
    by of_description plans h = absurd plans
    by (of_numbers seed stages reservoirs) plans h = absurd plans

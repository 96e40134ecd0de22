use Rattle.std.proofs.Common.{◌≡◌, ℕ, List, Result, Ok, string_bytes, arith}
use Rattle.std.proofs.lemmas.Result.{err_from_is_err_and}
use Rattle.std.proofs.lemmas.Grind.{common_steps}
use Rattle.serde_json.specs.Data.{Data}
use Rattle.serde_json.specs.View.{view}
use Rattle.serde_json.proofs.Views.{Entry}
use Rattle.problem.specs.declared.refusal.Refusal.{Refusal}
use Rattle.problem.specs.declared.refusal.Part.{Part}
use Rattle.read_json.specs.Fields.{place}
use Rattle.read_json.specs.Steps.{Fails}
use Rattle.read_json.proofs.Walks.{members-go, members-fail, members-done}
use Rattle.read_file.specs.Successors.{successor_at, read_successors_at}
use Rattle.read_file.specs.declared.successors.Successors.{Successors}
use Rattle.read_file.proofs.successors.read_successors.Goals as goal

abbrev step : Part → ℕ → List (List ℕ) → Successors → ℕ → List ℕ → Data → Result Successors Refusal
step part a names found i k d = successor_at (place part a i 0) names found k d

pub loop-name-init : goal.loop-name-init
unfolding read_successors_at
loop-name-init c = grind (arith, common_steps)

pub returns-in_err-successor : goal.returns-in_err-successor
returns-in_err-successor c =
    let l = c.loop-name in
    let e : Entry = (c.in-Some.name.now, c.in-Some.value.now) in
    let p = err_from_is_err_and c.from_residual-in_err-successor.result c.from_residual-in_err-successor.ensures.1 in
    let fails : Fails c.in_err-successor.field-0.0 (step c.args.part c.args.a c.args.names.now l.found l.i (string_bytes e.0) (view e.1)) =
    rw (← c.as_str.ensures.value, ← c.new-in-loop-name.ensures) c.in_err-successor.ensures in
    rw (p.1, p.2) (members-fail (step c.args.part c.args.a c.args.names.now) l.found l.i e c.next.new.self l.name-iterator _ c.in_err-successor.field-0.0 c.in-Some.ensures.steps fails l.invariant.walked)

pub loop-name-preserved : goal.loop-name-preserved
loop-name-preserved c =
    let l = c.loop-name in
    let e : Entry = (c.in-Some.name.now, c.in-Some.value.now) in
    let goes : step c.args.part c.args.a c.args.names.now l.found l.i (string_bytes e.0) (view e.1) ≡ Ok c.successor.new.found =
    rw (← c.as_str.ensures.value, ← c.new-in-loop-name.ensures) c.in_ok-successor.ensures in
    record {
      can = tt;
      finite = tt;
      counted = grind (arith, common_steps);
      walked = members-go (step c.args.part c.args.a c.args.names.now) l.found c.successor.new.found l.i e c.next.new.self l.name-iterator _ c.in-Some.ensures.steps goes l.invariant.walked;
    }

pub returns : goal.returns
returns c = let l = c.loop-name in members-done (step c.args.part c.args.a c.args.names.now) l.found l.i l.name-iterator _ c.in-None.ensures.steps.0 l.invariant.walked

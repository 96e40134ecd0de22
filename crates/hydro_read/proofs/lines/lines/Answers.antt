use Rattle.std.proofs.Common.{string_bytes, arith}
use Rattle.std.proofs.lemmas.Result.{err_from_is_err_and}
use Rattle.std.proofs.lemmas.Grind.{common_steps}
use Rattle.serde_json.specs.View.{view}
use Rattle.serde_json.proofs.Views.{Entry}
use Rattle.hydro_read.specs.Steps.{HydroFails}
use Rattle.hydro_read.specs.Grid.{line_at, lines_at}
use Rattle.read_json.proofs.Walks.{members-go, members-done}
use Rattle.hydro_read.proofs.Walks.{members-fail}
use Rattle.hydro_read.proofs.lines.lines.Goals as goal

pub loop-name-init : goal.loop-name-init
unfolding lines_at
loop-name-init c = grind (arith, common_steps)

pub returns-in_err-line : goal.returns-in_err-line
returns-in_err-line c =
    let l = c.loop-name in
    let e : Entry = (c.in-Some.name.now, c.in-Some.value.now) in
    let p = err_from_is_err_and c.from_residual-in_err-line.result c.from_residual-in_err-line.ensures.1 in
    let fails : HydroFails c.in_err-line.field-0.0 ((line_at c.args.buses.now) l.found l.i (string_bytes e.0) (view e.1)) = rw (← c.as_str.ensures.value) c.in_err-line.ensures in
    rw (p.1, p.2) (members-fail (line_at c.args.buses.now) l.found l.i e c.next.new.self l.name-iterator _ c.in_err-line.field-0.0 c.in-Some.ensures.steps fails l.invariant.walked)

pub loop-name-preserved : goal.loop-name-preserved
loop-name-preserved c =
    let l = c.loop-name in
    let e : Entry = (c.in-Some.name.now, c.in-Some.value.now) in
    record {
      can = tt;
      finite = tt;
      counted = grind (arith, common_steps);
      walked = members-go (line_at c.args.buses.now) l.found c.line.new.found l.i e c.next.new.self l.name-iterator _ c.in-Some.ensures.steps (rw (← c.as_str.ensures.value) c.in_ok-line.ensures) l.invariant.walked;
    }

pub returns : goal.returns
returns c = let l = c.loop-name in members-done (line_at c.args.buses.now) l.found l.i l.name-iterator _ c.in-None.ensures.steps.0 l.invariant.walked

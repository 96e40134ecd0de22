use Rattle.std.proofs.Common.{string_bytes, arith}
use Rattle.std.proofs.lemmas.Result.{err_from_is_err_and}
use Rattle.std.proofs.lemmas.Grind.{common_steps}
use Rattle.serde_json.specs.View.{view}
use Rattle.serde_json.proofs.Views.{Entry}
use Rattle.read_json.specs.Steps.{Fails}
use Rattle.read_json.proofs.Walks.{members-go, members-fail, members-done}
use Rattle.read_file.specs.Subproblems.{another_at, listed_subproblems_at}
use Rattle.read_file.proofs.subproblems.listed.Goals as goal

pub loop-name-init : goal.loop-name-init
unfolding listed_subproblems_at
loop-name-init c = grind (arith, common_steps)

pub returns-in_err-another : goal.returns-in_err-another
returns-in_err-another c =
    let l = c.loop-name in
    let e : Entry = (c.in-Some.name.now, c.in-Some.value.now) in
    let p = err_from_is_err_and c.from_residual-in_err-another.result c.from_residual-in_err-another.ensures.1 in
    let fails : Fails c.in_err-another.field-0.0 (another_at c.args.states.now l.found l.p (string_bytes e.0) (view e.1)) = rw (← c.as_str.ensures.value) c.in_err-another.ensures in
    rw (p.1, p.2) (members-fail (another_at c.args.states.now) l.found l.p e c.next.new.self l.name-iterator _ c.in_err-another.field-0.0 c.in-Some.ensures.steps fails l.invariant.walked)

pub loop-name-preserved : goal.loop-name-preserved
loop-name-preserved c =
    let l = c.loop-name in
    let e : Entry = (c.in-Some.name.now, c.in-Some.value.now) in
    record {
      can = tt;
      finite = tt;
      counted = grind (arith, common_steps);
      walked = members-go (another_at c.args.states.now) l.found c.another.new.found l.p e c.next.new.self l.name-iterator _ c.in-Some.ensures.steps (rw (← c.as_str.ensures.value) c.in_ok-another.ensures) l.invariant.walked;
    }

pub returns : goal.returns
returns c = let l = c.loop-name in members-done (another_at c.args.states.now) l.found l.p l.name-iterator _ c.in-None.ensures.steps.0 l.invariant.walked

use Rattle.std.proofs.Common.{string_bytes, arith}
use Rattle.std.proofs.lemmas.Result.{err_from_is_err_and}
use Rattle.std.proofs.lemmas.Grind.{common_steps}
use Rattle.serde_json.specs.View.{view, members_view}
use Rattle.serde_json.proofs.Views.{Entry}
use Rattle.read_json.specs.Steps.{Fails}
use Rattle.read_json.proofs.Walks.{members-go, members-fail, members-done}
use Rattle.read_stage.specs.States.{uses_of_state_at, each_state_at}
use Rattle.read_stage.proofs.states.each_state.Goals as goal

pub returns-in_err-state : goal.returns-in_err-state
returns-in_err-state c =
    let a = c.args in
    let l = c.loop-name in
    let e : Entry = (c.in-Some.name.now, c.in-Some.value.now) in
    let p = err_from_is_err_and c.from_residual.result c.from_residual.ensures.1 in
    let fails : Fails c.in_err-state.field-0.0 (uses_of_state_at a.names.now a.p l.found l.s (string_bytes e.0) (view e.1)) = rw (← c.as_str.ensures.value) (c.in_err-state.ensures) in
    rw (p.1, p.2) (members-fail (uses_of_state_at a.names.now a.p) l.found l.s e c.next.new.self l.name-iterator (each_state_at a.names.now a.p a.found.now (members_view a.members.now.entries)) c.in_err-state.field-0.0 c.in-Some.ensures.steps fails l.invariant.walked)

pub loop-name-init : goal.loop-name-init
unfolding each_state_at
loop-name-init c = grind (arith, common_steps)

pub loop-name-preserved : goal.loop-name-preserved
loop-name-preserved c =
    let a = c.args in
    let l = c.loop-name in
    let e : Entry = (c.in-Some.name.now, c.in-Some.value.now) in
    record {
      can = tt;
      finite = tt;
      counted = grind (arith, common_steps);
      walked = members-go (uses_of_state_at a.names.now a.p) l.found c.state.new.found l.s e c.next.new.self l.name-iterator (each_state_at a.names.now a.p a.found.now (members_view a.members.now.entries)) c.in-Some.ensures.steps (rw (← c.as_str.ensures.value) c.in_ok-state.ensures) l.invariant.walked;
    }

pub returns : goal.returns
returns c =
    let a = c.args in
    members-done (uses_of_state_at a.names.now a.p) c.loop-name.found c.loop-name.s c.loop-name.name-iterator (each_state_at a.names.now a.p a.found.now (members_view a.members.now.entries)) c.in-None.ensures.steps.0 c.loop-name.invariant.walked

use Rattle.std.proofs.Common.{◌≡◌, ◌+◌, ◌-◌, length, take}
use Rattle.plan_stage.proofs.written_rows.let_go.Given as goal

abbrev pub invariant-loop : goal.invariant-loop
invariant-loop l = record {
  left : length l.rows.items ≡ l.initial.end - l.counter + l.count;
  same : take l.count l.rows.items ≡ take l.count l.initial.rows.items;
}

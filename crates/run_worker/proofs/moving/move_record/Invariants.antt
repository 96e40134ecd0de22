use Rattle.std.proofs.Common.{◌≡◌, ◌≤◌, length}
use Rattle.run_worker.proofs.moving.move_record.Given as goal

abbrev pub invariant-loop : goal.invariant-loop
invariant-loop l = (length l.payload ≡ length l.initial.payload) × (l.behind ≤ length l.initial.payload)

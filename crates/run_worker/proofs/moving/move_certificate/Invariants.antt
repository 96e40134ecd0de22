use Rattle.std.proofs.Common.{◌≡◌, ◌≤◌, length}
use Rattle.run_worker.proofs.moving.move_certificate.Given as goal

abbrev pub invariant-loop-successor : goal.invariant-loop-successor
invariant-loop-successor l = (length l.payload ≡ length l.initial.payload) × (l.behind ≤ length l.initial.payload)

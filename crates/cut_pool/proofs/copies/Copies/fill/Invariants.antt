use Rattle.std.proofs.Common.{◌≡◌, map, take}
use Rattle.lp_program.specs.Covering.{packed_cut_at}
use Rattle.cut_pool.proofs.copies.Copies.fill.Given as goal

abbrev pub invariant-loop-place : goal.invariant-loop-place
invariant-loop-place l = l.self ≡ map (packed_cut_at l.cuts) (take l.place-index l.places)

-- When a fault of the disk may be answered.
use Rattle.std.specs.Prelude.{◌≡◌, ℕ, ◌≤◌}
use Rattle.base_device.specs.Causes.{FaultCountRose}

-- the count has not fallen; it rose where the answer is the disk's fault, and else stayed as it was
pub record DiskCause (before now : ℕ) (is_fault : Type 0) : Type 0 where
  pub later : before ≤ now
  pub failed : is_fault → FaultCountRose before now
  pub otherwise : ¬ is_fault → now ≡ before

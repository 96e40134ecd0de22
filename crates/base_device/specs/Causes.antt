-- When a fault may be answered, and what a call does to the bytes of a sink.
use Rattle.std.specs.Prelude.{◌≡◌, ℕ, ◌+◌, ◌-◌, ◌^◌, ◌≤◌, ◌<◌, min, List, length, take, Option, Result, OnOk, OnErr, MatchResult, is_ok, if◌then◌else◌}
use Rattle.std.specs.Io.KnownBytes.{Appends}

-- one more, up to the greatest count of 64 bits
abbrev pub one_more : ℕ → ℕ
one_more n = min (n + 1) (2 ^ 64 - 1)

-- the count rose, or stands at its type's end
abbrev pub FaultCountRose : ℕ → ℕ → Type 0
FaultCountRose before now = one_more before ≤ now

-- the count has not fallen; it stayed as it was where the call succeeded, and rose where it failed
pub record HasCause {T E : Type 0} (before now : ℕ) (result : Result T E) : Type 0 where
  pub later : before ≤ now
  pub succeeded : OnOk result (now ≡ before)
  pub failed : OnErr result (FaultCountRose before now)

-- the count of faults after a call: one more where it failed
abbrev pub faults_after : {T E : Type 0} → ℕ → Result T E → ℕ
faults_after before result = if is_ok result then before else one_more before

-- some front of the piece was taken: none of it, a part, or all
abbrev pub TakesFront : Option (List ℕ) → Option (List ℕ) → List ℕ → Type 0
TakesFront old new piece = (n : ℕ) × (n ≤ length piece) × Appends old new (take n piece)

-- `Ok(n)` says that the first n bytes of the piece were taken, some unless it is empty; after `Err` some front of it was
abbrev pub Takes : {E : Type 0} → Option (List ℕ) → Option (List ℕ) → Result ℕ E → List ℕ → Type 0
Takes old new r piece = MatchResult r (λ n. (n ≤ length piece) × (0 < length piece → 0 < n) × Appends old new (take n piece)) (λ _. TakesFront old new piece)

-- Steps that may refuse, and the contracts of code that takes them.
use Rattle.std.proofs.Common.{◌≡◌, Result, Ok, Err, refl, sym, subst, ap}
use Rattle.base_num.specs.Steps.{◌>>=◌}
use Rattle.journal_load.specs.declared.refusal.LoadFault.{LoadFault}
use Rattle.journal_load.specs.declared.refusal.LoadFault.TheVariants as faults
use Rattle.journal_load.specs.Refusals.{LoadFails}

pub bind_ok : {A B E : Type 0} (r : Result A E) (f : A → Result B E) (y : B) → (r >>= f) ≡ Ok y → (x : A) × (r ≡ Ok x) × (f x ≡ Ok y)
bind_ok (Ok x) f y e = (x, refl, e)
bind_ok (Err d) f y e = absurd cc

abbrev done : {A : Type 0} → A → Result A LoadFault
done x = Ok x

pub same_ok : {A : Type 0} (x y : A) → done x ≡ done y → x ≡ y
same_ok x y e = cc

-- a first step gave this, and the next one is what is done
pub bind_on : {A B E : Type 0} (r : Result A E) (x : A) (f : A → Result B E) → r ≡ Ok x → (r >>= f) ≡ f x
bind_on r x f e = ap (λ (s : Result _ _). s >>= f) e

-- a step that fails ends all
pub fails_on : {A B : Type 0} (fault : LoadFault) (r : Result A LoadFault) (f : A → Result B LoadFault) → LoadFails fault r → LoadFails fault (r >>= f)
fails_on (faults.Refused why) r f e = ap (λ (s : Result _ LoadFault). s >>= f) e
fails_on (faults.TooMuch t) r f e = ap (λ (s : Result _ LoadFault). s >>= f) e
fails_on faults.DiskFault r f e = tt
fails_on faults.Memory r f e = tt

pub fails_as : {A : Type 0} (fault : LoadFault) (r s : Result A LoadFault) → r ≡ s → LoadFails fault r → LoadFails fault s
fails_as fault r s same e = subst (LoadFails fault) same e

pub fails_from : {A : Type 0} (fault : LoadFault) (r : Result A LoadFault) → Err fault ≡ r → LoadFails fault r
fails_from (faults.Refused why) r e = sym e
fails_from (faults.TooMuch t) r e = sym e
fails_from faults.DiskFault r e = tt
fails_from faults.Memory r e = tt

-- Facts about the bytes that a disk tells, and runs of the two writes.
use Rattle.std.proofs.Common.{◌≡◌, ℕ, List, Option, Some, None, IfSome, Result, Ok, Err, OnOk, refl, sym, ◌∙◌, ap, subst}
use Rattle.std.specs.Option.{option_map}
use Rattle.base_device.specs.Disks.{Store, Torn, Cut, Lawful}
use Rattle.base_device.specs.Since.{Quiet, LeavesOnly}
use Rattle.base_device.proofs.RunsOfCalls.{started, then_on}

pub told : {P : List ℕ → Type 0} (r : Option (List ℕ)) → ((bytes : List ℕ) → r ≡ Some bytes → P bytes) → IfSome r P
told None each = tt
told (Some bytes) each = each bytes refl

pub known : (P : List ℕ → Type 0) (r : Option (List ℕ)) (bytes : List ℕ) → r ≡ Some bytes → IfSome r P → P bytes
known P r bytes is has = subst (λ o. IfSome o P) is has

pub map_as : (r : Option (List ℕ)) (f g : List ℕ → List ℕ) → IfSome r (λ b. f b ≡ g b) → option_map f r ≡ option_map g r
map_as None f g same = refl
map_as (Some bytes) f g same = ap Some same

pub map_same : (r : Option (List ℕ)) (f : List ℕ → List ℕ) → IfSome r (λ b. f b ≡ b) → option_map f r ≡ r
map_same None f same = refl
map_same (Some bytes) f same = ap Some same

-- the bytes are told after a call that maps them
pub mapped : (r s : Option (List ℕ)) (f : List ℕ → List ℕ) (bytes : List ℕ) → r ≡ Some bytes → s ≡ option_map f r → s ≡ Some (f bytes)
mapped r s f bytes is maps = maps ∙ ap (option_map f) is

module _ (old : Store) (P : List ℕ → Type 0) where
  -- at the start nothing is pending
  pub begins : (bytes : List ℕ) → Lawful old → old.reads ≡ Some bytes → Quiet old → P bytes → LeavesOnly old old P
  begins bytes lawful is quiet here = started old P lawful (λ c now. subst P (sym (known (λ b. (c : List ℕ) → old.images c → c ≡ b) old.reads bytes is quiet c now)) here)

  -- a piece is put
  pub puts : (mid new : Store) (bytes : List ℕ) (at n : ℕ) → LeavesOnly old mid P → mid.reads ≡ Some bytes → IfSome mid.reads (λ b. LeavesOnly mid new (Torn at n b)) → ((c : List ℕ) → Torn at n bytes c → P c) → LeavesOnly old new P
  puts mid new bytes at n so_far is moment each = then_on old mid new P (Torn at n bytes) so_far (known (λ b. LeavesOnly mid new (Torn at n b)) mid.reads bytes is moment) each

  -- the rest is cut off
  pub cuts : (mid new : Store) (bytes : List ℕ) (n : ℕ) → LeavesOnly old mid P → mid.reads ≡ Some bytes → IfSome mid.reads (λ b. LeavesOnly mid new (Cut n b)) → ((c : List ℕ) → Cut n bytes c → P c) → LeavesOnly old new P
  cuts mid new bytes n so_far is moment each = then_on old mid new P (Cut n bytes) so_far (known (λ b. LeavesOnly mid new (Cut n b)) mid.reads bytes is moment) each

pub on_ok : {T E A B : Type 0} (r : Result T E) → OnOk r A → (A → B) → OnOk r B
on_ok (Ok x) has so = so has
on_ok (Err e) has so = tt

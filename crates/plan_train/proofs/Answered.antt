-- Equal answers have equal contents: laws of results and options.
use Rattle.std.proofs.Common.{◌≡◌, Option, Some, None, Result, Ok}

pub same_ok : {A E : Type 0} (x y : A) → ◌≡◌ {A = Result A E} (Ok x) (Ok y) → x ≡ y
same_ok x y e = cc

pub none_some : {A : Type 0} (x : A) → ◌≡◌ {A = Option A} None (Some x) → ⊥
none_some x e = cc

-- Values whose text is read back.
use Rattle.std.specs.Prelude.{◌≡◌, ◌<◌, ◌^◌, ℕ, pos, negsuc, List, IsUtf8}
use Rattle.std.specs.Cmp.Lexicographic.{slice_cmp}
use Rattle.std.specs.Ordering.{nat_cmp}
use Rattle.std.specs.declared.cmp.Ordering.TheVariants.{Less}
use Rattle.std.specs.List.{AllByRecursion}
use Rattle.serde_json.specs.Data.{Num, unsigned, negative, float, Data, null, boolean, number, string, array, object, Items, no_items, item, Members, no_members, member}
use Rattle.read_json.specs.Fields.{keys_of}

-- a whole number of 64 bits
abbrev pub IsWholeNumber : Num → Type 0
IsWholeNumber (unsigned n) = n < 2 ^ 64
IsWholeNumber (negative (pos n)) = ⊥
IsWholeNumber (negative (negsuc n)) = n < 2 ^ 63
IsWholeNumber (float x) = ⊥

-- each key is above k
abbrev pub AllAbove : List ℕ → Members → Type 0
AllAbove k ms = AllByRecursion (λ l. slice_cmp nat_cmp k l ≡ Less) (keys_of ms)

-- whole numbers, texts that are UTF-8, and keys that rise
abbrev mutual
  pub Fair : Data → Type 0
  Fair null = Unit {0}
  Fair (boolean b) = Unit {0}
  Fair (number n) = IsWholeNumber n
  Fair (string s) = IsUtf8 s
  Fair (array ds) = FairItems ds
  Fair (object ms) = FairMembers ms

  pub FairItems : Items → Type 0
  FairItems no_items = Unit {0}
  FairItems (item d ds) = Fair d × FairItems ds

  pub FairMembers : Members → Type 0
  FairMembers no_members = Unit {0}
  FairMembers (member k d ms) = IsUtf8 k × AllAbove k ms × Fair d × FairMembers ms

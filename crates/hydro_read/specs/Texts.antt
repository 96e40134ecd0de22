-- The numbers of kinds and part_kinds, and the words that say which refusal of a description came.
use Rattle.std.specs.Prelude.{ℕ, pos, List, ◌++◌, codes}
use Rattle.std.specs.Fmt.{signed_decimal}
use Rattle.hydro_read.specs.declared.refusal.HydroKind.{HydroKind}
use Rattle.hydro_read.specs.declared.refusal.HydroKind.TheVariants as kinds
use Rattle.hydro_read.specs.declared.refusal.HydroPart.{HydroPart}
use Rattle.hydro_read.specs.declared.refusal.HydroPart.TheVariants as part_kinds
use Rattle.hydro_read.specs.declared.refusal.HydroRefusal.{HydroRefusal}

unfoldable pub kind_number : HydroKind → ℕ
kind_number kinds.NotJson = 1
kind_number kinds.Shape = 2
kind_number kinds.NotWhole = 3
kind_number kinds.Limit = 4
kind_number kinds.UnknownName = 5
kind_number kinds.States = 6

unfoldable pub hydro_kind_text : HydroKind → List ℕ
hydro_kind_text kinds.NotJson = codes "NotJson"
hydro_kind_text kinds.Shape = codes "Shape"
hydro_kind_text kinds.NotWhole = codes "NotWhole"
hydro_kind_text kinds.Limit = codes "Limit"
hydro_kind_text kinds.UnknownName = codes "UnknownName"
hydro_kind_text kinds.States = codes "States"

unfoldable pub hydro_part_text : HydroPart → List ℕ
hydro_part_text part_kinds.Whole = codes "whole"
hydro_part_text part_kinds.Bus = codes "bus"
hydro_part_text part_kinds.Reservoir = codes "reservoir"
hydro_part_text part_kinds.Thermal = codes "thermal"
hydro_part_text part_kinds.Line = codes "line"
hydro_part_text part_kinds.Stage = codes "stage"

abbrev pub hydro_word : ℕ → List ℕ
hydro_word n = codes " " ++ signed_decimal (pos n)

unfoldable pub hydro_refused : List ℕ
hydro_refused = codes "hydro refused: "

unfoldable pub hydro_refused_text : HydroKind → List ℕ
hydro_refused_text kind = hydro_refused ++ hydro_kind_text kind ++ codes " at "

-- which refusal came, and its place: the part and its two numbers
unfoldable pub hydro_refusal_text : HydroRefusal → List ℕ
hydro_refusal_text r = hydro_refused_text r.kind ++ hydro_part_text r.part ++ hydro_word r.a ++ hydro_word r.b

-- When a choice's numbers beside some states meet the boxes and the rows of a stage.
use Rattle.std.proofs.Common.{◌≡◌, ℕ, suc, ◌-◌, ◌<◌, ◌≤◌, ℤ, pos, ◌+ℤ◌, ◌*ℤ◌, ◌-ℤ◌, ◌≤ℤ◌, List, [], ◌∷◌, length, map, All, ap, ap₂, subst₂, ◌∙◌, arith}
use Rattle.std.proofs.lemmas.List.{length-map}
use Rattle.std.proofs.lemmas.List.Elements.{All-head, All-tail}
use Rattle.std.proofs.lemmas.Int.{ints}
use lib.IntN.{*ℤ-zero}
use Rattle.base_num.specs.Sums.{entry}
use Rattle.problem.specs.declared.parts.Row.{Row}
use Rattle.theory.specs.Problem.{Successor}
use Rattle.theory.specs.Tree.{InBox, RowHolds, Decides, left_side}
use Rattle.theory.proofs.Boxes.{InBox-nil, InBox-cons}
use Rattle.hydro_read.specs.declared.plants.Stage.{Stage}
use Rattle.hydro_read.specs.declared.plants.Plants.{Plants}
use Rattle.hydro_make.specs.Layout.{HydroStore, volume_of, way_of, Variable, Chance, travel, stores, hydro_variables, chances, chance_value, variable_least, variable_greatest}
use Rattle.hydro_make.specs.Rows.{row_with, water_decided, water_before, water_flowing, way_decided, way_before, no_chance, bus_decided, no_store, bus_asked}
use Rattle.hydro_make.specs.Made.{stage_node}
use Rattle.hydro_make.specs.Plan.{Choice, Moment, Past, volume, served, IsWithinUnits}
use Rattle.hydro_make.specs.Trees.{left_ago, ahead_of, ahead, value_with}
use Rattle.hydro_make.proofs.Lists.{terms_sum, entry-map}
use Rattle.hydro_make.proofs.Left.{left_of, left_water, left_way, left_bus}
use Rattle.hydro_make.proofs.ByKind.{EachRow, each_row, all_of_rows}

-- ---- boxes

pub from_box : {A : Type 0} (units : ℕ) (low high x : A → ℤ) (ds : List A) → InBox units (map low ds) (map high ds) (map x ds) → All (λ d. IsWithinUnits units (low d) (high d) (x d)) ds
from_box units low high x ds b k d p =
    let q : k < length (map low ds) = omega (arith, length-map ds low) in
    record {
      above = subst₂ (λ (l y : ℤ). (pos units *ℤ l) ≤ℤ y) (entry-map low ds k d p) (entry-map x ds k d p) (b.above k q);
      below = subst₂ (λ (y r : ℤ). y ≤ℤ (pos units *ℤ r)) (entry-map x ds k d p) (entry-map high ds k d p) (b.below k q);
    }

pub to_box : {A : Type 0} (units : ℕ) (low high x : A → ℤ) (ds : List A) → All (λ d. IsWithinUnits units (low d) (high d) (x d)) ds → InBox units (map low ds) (map high ds) (map x ds)
to_box units low high x [] a = InBox-nil units
to_box units low high x (d ∷ ds) a =
    let first : IsWithinUnits units (low d) (high d) (x d) = All-head (λ e. IsWithinUnits units (low e) (high e) (x e)) d ds a in
    InBox-cons units (low d) (high d) (x d) (map low ds) (map high ds) (map x ds) first.above first.below (to_box units low high x ds (All-tail (λ e. IsWithinUnits units (low e) (high e) (x e)) d ds a))

-- ---- rows

left_is : (h : Plants) (units : ℕ) (a : Variable → ℤ) (b : HydroStore → ℤ) (g : Chance → ℤ) (x : Variable → ℤ) (s : HydroStore → ℤ) (v : Chance → ℤ)
    → left_side units (map v (chances h)) (map s (stores h)) (map x (hydro_variables h)) (row_with h a b g) ≡ left_of h units a b g x s v
left_is h units a b g x s v = ap₂ ◌+ℤ◌ (ap₂ ◌+ℤ◌ (terms_sum a x (hydro_variables h)) (terms_sum b s (stores h))) (ap (λ (z : ℤ). pos units *ℤ z) (terms_sum g v (chances h)))

-- a row holds where its left side, a difference, is 0
row_from : (h : Plants) (units : ℕ) (a : Variable → ℤ) (b : HydroStore → ℤ) (g : Chance → ℤ) (x : Variable → ℤ) (s : HydroStore → ℤ) (v : Chance → ℤ) (y w : ℤ)
    → left_of h units a b g x s v ≡ y -ℤ w → RowHolds units (map v (chances h)) (map s (stores h)) (map x (hydro_variables h)) (row_with h a b g) → y ≡ w
row_from h units a b g x s v y w e r =
    zero_between (left_side units (map v (chances h)) (map s (stores h)) (map x (hydro_variables h)) (row_with h a b g)) (pos units *ℤ pos 0) (*ℤ-zero (pos units)) (left_is h units a b g x s v ∙ e) r.low r.high
  where
    zero_between : (l z : ℤ) → z ≡ pos 0 → l ≡ y -ℤ w → z ≤ℤ l → l ≤ℤ z → y ≡ w
    zero_between l z n d p q = omega (arith, ints)

row_to : (h : Plants) (units : ℕ) (a : Variable → ℤ) (b : HydroStore → ℤ) (g : Chance → ℤ) (x : Variable → ℤ) (s : HydroStore → ℤ) (v : Chance → ℤ) (y w : ℤ)
    → left_of h units a b g x s v ≡ y -ℤ w → y ≡ w → RowHolds units (map v (chances h)) (map s (stores h)) (map x (hydro_variables h)) (row_with h a b g)
row_to h units a b g x s v y w e f =
    let l : ℤ = left_side units (map v (chances h)) (map s (stores h)) (map x (hydro_variables h)) (row_with h a b g) in
    let d : l ≡ y -ℤ w = left_is h units a b g x s v ∙ e in
    record { low = low l (pos units *ℤ pos 0) (*ℤ-zero (pos units)) d; high = high l (pos units *ℤ pos 0) (*ℤ-zero (pos units)) d }
  where
    low : (l z : ℤ) → z ≡ pos 0 → l ≡ y -ℤ w → z ≤ℤ l
    low l z n d = omega (arith, ints)

    high : (l z : ℤ) → z ≡ pos 0 → l ≡ y -ℤ w → l ≤ℤ z
    high l z n d = omega (arith, ints)

-- ---- all boxes and rows

-- the states beside a choice are those that it leads to, all in their boxes, and each bus has its demand
pub record Meets (h : Plants) (units : ℕ) (demand : List ℤ) (past : Past) (here : Moment) (next : HydroStore → ℤ) : Type 0 where
  pub box : All (λ d. IsWithinUnits units (variable_least h d) (variable_greatest h d) (value_with here.choice next d)) (hydro_variables h)
  pub volumes : (j : ℕ) → j < length h.reservoirs → next (volume_of j) ≡ volume h units (here ∷ past) j
  pub ways : (j m : ℕ) → j < length h.reservoirs → m < travel h j → next (way_of j (suc m)) ≡ left_ago j (travel h j - suc m) (here ∷ past)
  pub buses : (b : ℕ) → b < length h.buses → served h here.choice b ≡ pos units *ℤ entry demand b

module _ (h : Plants) (units : ℕ) (s : Stage) (successors : List Successor) (past : Past) (water : List ℤ) (c : Choice) (next : HydroStore → ℤ) (short : (j : ℕ) → travel h j ≤ 3) where
  abbrev Decided : Type 0
  Decided = Decides units (stage_node h s successors) (map (chance_value s.demand water) (chances h)) (ahead h units past) (map (value_with c next) (hydro_variables h))

  abbrev Met : Type 0
  Met = Meets h units s.demand past (record { water = water; choice = c }) next

  abbrev Holding : Row → Type 0
  Holding = RowHolds units (map (chance_value s.demand water) (chances h)) (ahead h units past) (map (value_with c next) (hydro_variables h))

  pub meets_from : Decided → Met
  unfolding stage_node
  meets_from d =
      let x : Variable → ℤ = value_with c next in
      let before : HydroStore → ℤ = ahead_of h units past in
      let chance : Chance → ℤ = chance_value s.demand water in
      let here : Moment = record { water = water; choice = c } in
      let rows : EachRow h Holding = each_row h Holding d.rows in
      record {
        box = from_box units (variable_least h) (variable_greatest h) x (hydro_variables h) d.box;
        volumes = λ j p. row_from h units (water_decided h j) (water_before h j) (water_flowing j) x before chance (next (volume_of j)) (volume h units (here ∷ past) j) (left_water h units j c next p s.demand water past) (rows.waters j p);
        ways = λ j m p q. row_from h units (way_decided h j (suc m)) (way_before j (suc m)) no_chance x before chance (next (way_of j (suc m))) (left_ago j (travel h j - suc m) (here ∷ past)) (left_way h units j m c next p q (short j) s.demand water past) (rows.ways j m p q);
        buses = λ b p. row_from h units (bus_decided h b) no_store (bus_asked b) x before chance (served h c b) (pos units *ℤ entry s.demand b) (left_bus h units b c next p s.demand water before) (rows.buses b p);
      }

  pub meets_to : Met → Decided
  unfolding stage_node
  meets_to m =
      let x : Variable → ℤ = value_with c next in
      let before : HydroStore → ℤ = ahead_of h units past in
      let chance : Chance → ℤ = chance_value s.demand water in
      let here : Moment = record { water = water; choice = c } in
      record {
        box = to_box units (variable_least h) (variable_greatest h) x (hydro_variables h) m.box;
        rows = all_of_rows h Holding (record {
          waters = λ j p. row_to h units (water_decided h j) (water_before h j) (water_flowing j) x before chance (next (volume_of j)) (volume h units (here ∷ past) j) (left_water h units j c next p s.demand water past) (m.volumes j p);
          ways = λ j i p q. row_to h units (way_decided h j (suc i)) (way_before j (suc i)) no_chance x before chance (next (way_of j (suc i))) (left_ago j (travel h j - suc i) (here ∷ past)) (left_way h units j i c next p q (short j) s.demand water past) (m.ways j i p q);
          buses = λ b p. row_to h units (bus_decided h b) no_store (bus_asked b) x before chance (served h c b) (pos units *ℤ entry s.demand b) (left_bus h units b c next p s.demand water before) (m.buses b p);
        });
      }

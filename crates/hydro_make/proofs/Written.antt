-- Objects of the text, from the members that are put into them.
use Rattle.std.proofs.Common.{◌≡◌, ℕ, ◌+◌, ◌<◌, ℤ, List, [], ◌∷◌, ◌++◌, length, map, get_or, take, refl, sym, ap, ◌∙◌}
use Rattle.std.proofs.lemmas.List.{map-append, take_more}
use Rattle.serde_json.specs.Data.{Data, Members, no_members, put}
use Rattle.base_num.specs.Sums.{entry}
use Rattle.base_graph.specs.Paths.{numbers}
use Rattle.base_graph.proofs.Numbers.{numbers_more}
use Rattle.hydro_form.specs.Listed.{members_from, put_by, integer}
use Rattle.hydro_form.proofs.Counted.{put_more, put_next, put_by-append, put_by-map}
use Rattle.hydro_form.proofs.Rises.{put_rising}
use Rattle.hydro_read.specs.declared.plants.Plants.{Plants}
use Rattle.hydro_read.specs.Described.{IsPlants}
use Rattle.hydro_make.specs.Layout.{Chance, inflow_of, demand_of, all_reservoirs, all_buses, chance_value}
use Rattle.hydro_make.specs.Columns.{chance_name}
use Rattle.hydro_make.specs.Nodes.{node_name, support}
use Rattle.hydro_make.proofs.Orders.{chances_rise, node_above}

-- one more number
pub number_put : (key : ℕ → List ℕ) (value : ℕ → Data) (n : ℕ) (front old new : Members) → new ≡ put (key n) (value n) old → old ≡ put_by key value (numbers n) front → new ≡ put_by key value (numbers (n + 1)) front
number_put key value n front old new is before = put_more key value (numbers n) n front old new (key n) (value n) is refl refl before ∙ ap (λ (xs : List ℕ). put_by key value xs front) (sym (numbers_more n))

-- one more of some entries, seen as what they stand for
pub entry_put : {A B : Type 0} (seen : B → A) (key : A → List ℕ) (value : A → Data) (all : List B) (i : ℕ) (x : B) (front old new : Members) → i < length all
    → new ≡ put (key (seen (get_or all i x))) (value (seen (get_or all i x))) old → old ≡ put_by key value (map seen (take i all)) front → new ≡ put_by key value (map seen (take (i + 1) all)) front
entry_put {A} seen key value all i x front old new l is before =
    let y = get_or all i x in
    put_more key value (map seen (take i all)) (seen y) front old new (key (seen y)) (value (seen y)) is refl refl before
    ∙ ap (λ (xs : List A). put_by key value xs front) (sym (ap (map seen) (take_more all i x l) ∙ map-append seen (take i all) (y ∷ [])))

-- one more node
pub node_put : (value : ℕ → Data) (n : ℕ) (old new : Members) (k : List ℕ) (d : Data) → n < 999 → new ≡ put k d old → k ≡ node_name n → d ≡ value n
    → old ≡ members_from node_name value 0 n → new ≡ members_from node_name value 0 (n + 1)
node_put value n old new k d few is same here before = is ∙ rw (same, here, before) (put_next node_name value n (λ j l. node_above j n l few))

-- the demands and then the inflows
pub support_put : (h : Plants) (known : IsPlants h) (demand water : List ℤ) (first one two : Members) → first ≡ no_members
    → one ≡ put_by (λ b. chance_name h (demand_of b)) (λ b. integer (entry demand b)) (all_buses h) first
    → two ≡ put_by (λ j. chance_name h (inflow_of j)) (λ j. integer (entry water j)) (all_reservoirs h) one → two ≡ support h demand water
unfolding support
support_put h known demand water first one two none is_one is_two =
    let value : Chance → Data = λ c. integer (chance_value demand water c) in
    let ds = map demand_of (all_buses h) in
    let ws = map inflow_of (all_reservoirs h) in
    let begun : one ≡ put_by (chance_name h) value ds no_members =
    is_one ∙ ap (put_by (λ b. chance_name h (demand_of b)) (λ b. integer (entry demand b)) (all_buses h)) none ∙ sym (put_by-map (chance_name h) value demand_of (all_buses h) no_members) in
    is_two ∙ sym (put_by-map (chance_name h) value inflow_of (all_reservoirs h) one) ∙ ap (put_by (chance_name h) value ws) begun ∙ sym (put_by-append (chance_name h) value ds ws no_members)
    ∙ put_rising (chance_name h) value (ds ++ ws) (chances_rise h known)

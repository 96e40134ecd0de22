-- The parts_of_node that the stage problems of one node share.
use Rattle.std.proofs.Common.{◌≡◌, ℕ, ◌+◌, ◌<◌, ℤ, pos, true, List, [], ◌∷◌, ◌++◌, length, map, zip, take, drop, get_or, All, Option, Some, Result, Ok, Err, IfOk, slice_get, option_and_then, refl, ap, ap₂, sym, subst, ◌∙◌, arith}
use Rattle.std.specs.Prelude.{unwrap_or}
use Rattle.std.specs.List.{list_all}
use Rattle.std.specs.Option.{option_map}
use Rattle.std.proofs.lemmas.List.{length-map, length-append}
use Rattle.std.proofs.lemmas.List.Elements.{All-append, All-map}
use Rattle.std.proofs.lemmas.Slice.Zip.{length-zip}
use Rattle.base_num.proofs.Order.{le_refl}
use Rattle.problem.specs.declared.parts.Row.{Row}
use Rattle.problem.specs.declared.parts.Node.{Node}
use Rattle.problem.specs.declared.parts.Subproblem.{Subproblem}
use Rattle.problem.specs.Formulas.{successor_total}
use Rattle.problem.specs.Limits.{decision_fits, row_fits}
use Rattle.problem.specs.Validated.{Validated, is_validated}
use Rattle.problem.proofs.SubproblemFacts.{rows-subproblem_fits, decisions-subproblem_fits}
use Rattle.theory.specs.declared.cut.Cut.{Cut}
use Rattle.theory.specs.Pools.{pool}
use Rattle.theory.proofs.ValidatedParts.{parts_of_node, linked}
use Rattle.lp_program.specs.declared.fixed.Fx.{Fx}
use Rattle.lp_program.specs.declared.programs.Column.{Column}
use Rattle.lp_program.specs.declared.programs.LpRow.{LpRow}
use Rattle.lp_program.specs.declared.programs.Program.{Program}
use Rattle.lp_program.specs.Proper.{IsProper, IsIdle, IsReference, Extends, IsLike, terms_of}
use Rattle.plan_stage.specs.Stage.{decision_column, future_column, future_columns, own_row, cut_rows, stage_program}
use Rattle.plan_stage.specs.Nodes.{Stands, stage_in, idle_column, quarters, reference_of, reference_in, program_of, reference_at}
use Rattle.plan_stage.proofs.ProperStages.{HasBox, box-decisions, sides-own, terms-own, proper-stage_program}
use Rattle.plan_stage.proofs.ValidatedStages.{boxed}

-- a property that follows for the value of a result
pub if_ok : {A E : Type 0} (r : Result A E) (P Q : A → Type 0) → ((x : A) → P x → Q x) → IfOk r P → IfOk r Q
if_ok (Ok x) P Q f h = f x h
if_ok (Err e) P Q f h = h

pub some_same : (x y : Program) → Some x ≡ Some y → x ≡ y
some_same x y e = ap (λ (o : Option Program). unwrap_or o x) e

-- the fronts and the ends of lists
front : {A B : Type 0} (f : A → B) (xs : List A) (tail : List B) → take (length xs) (map f xs ++ tail) ≡ map f xs
front f [] tail = refl
front f (x ∷ xs) tail = ap (λ ys. f x ∷ ys) (front f xs tail)

whole_front : {A B : Type 0} (f : A → B) (xs : List A) → take (length xs) (map f xs) ≡ map f xs
whole_front f [] = refl
whole_front f (x ∷ xs) = ap (λ ys. f x ∷ ys) (whole_front f xs)

end : {A B : Type 0} (f : A → B) (xs : List A) (tail : List B) → drop (length xs) (map f xs ++ tail) ≡ tail
end f [] tail = refl
end f (x ∷ xs) tail = end f xs tail

same_terms : (v x w y : List ℤ) (rows : List Row) (tail : List LpRow) → terms_of (map (own_row v x) rows ++ tail) ≡ terms_of (map (own_row w y) rows ++ tail)
same_terms v x w y [] tail = refl
same_terms v x w y (row ∷ rows) tail = ap (λ (ts : List (List (ℕ × Fx))). (own_row w y row).terms ∷ ts) (same_terms v x w y rows tail)

own_terms : (v x w y : List ℤ) (rows : List Row) → terms_of (map (own_row v x) rows) ≡ terms_of (map (own_row w y) rows)
own_terms v x w y [] = refl
own_terms v x w y (row ∷ rows) = ap (λ (ts : List (List (ℕ × Fx))). (own_row w y row).terms ∷ ts) (own_terms v x w y rows)

-- two stage problems of a node over the same pools
pub like-stage_program : (pools : List (List Cut)) (n : Node) (s : Subproblem) (v x w y : List ℤ) → IsProper (stage_program pools n s w y) → IsLike (stage_program pools n s v x) (stage_program pools n s w y)
unfolding stage_program
like-stage_program pools n s v x w y proper =
    let cuts : List LpRow = cut_rows s pools (length s.decisions) n.successors in
    record {
      columns = refl;
      decisions = refl;
      own = refl;
      terms = same_terms v x w y s.rows cuts;
      cuts = end (own_row v x) s.rows cuts ∙ sym (end (own_row w y) s.rows cuts);
      proper = proper;
    }

-- a stage problem and the reference of its node
pub extends-stage_program : (pools : List (List Cut)) (n : Node) (s : Subproblem) (low high v x : List ℤ) → length n.successor_weights ≡ length n.successors → IsProper (stage_program pools n s v x) → Extends (reference_of n s low high) (stage_program pools n s v x)
unfolding stage_program reference_of
extends-stage_program pools n s low high v x e proper =
    let q : ℕ = successor_total n.stop n.successor_weights in
    let cuts : List LpRow = cut_rows s pools (length s.decisions) n.successors in
    let idle : List Column = map (λ (m : ℕ). idle_column) n.successors in
    let future : List Column = future_columns s pools n.successors n.successor_weights in
    record {
      decisions = refl;
      own = refl;
      count = omega (arith, length-append (map (decision_column q) s.decisions) future, length-append (map (decision_column q) s.decisions) idle, length-map n.successors (λ (m : ℕ). idle_column), length-map (zip n.successors n.successor_weights) (λ (r : ℕ × ℕ). future_column s r.1 (pool pools r.0)), length-zip n.successors n.successor_weights, e);
      columns = front (decision_column q) s.decisions future ∙ sym (front (decision_column q) s.decisions idle);
      terms =
          ap terms_of (front (own_row v x) s.rows cuts) ∙ own_terms v x (get_or n.values 0 []) (quarters low high) s.rows
          ∙ ap terms_of (sym (whole_front (own_row (get_or n.values 0 []) (quarters low high)) s.rows));
      proper = proper;
    }

-- the reference program
pub reference-reference_of : (n : Node) (s : Subproblem) (low high : List ℤ) → IsReference (reference_of n s low high)
unfolding reference_of
reference-reference_of n s low high =
    let q : ℕ = successor_total n.stop n.successor_weights in
    let idle : List Column = map (λ (m : ℕ). idle_column) n.successors in
    record {
      own = sym (length-map s.rows (own_row (get_or n.values 0 []) (quarters low high)));
      idle = subst (λ (cs : List Column). All IsIdle cs) (sym (end (decision_column q) s.decisions idle)) (All-map IsIdle (λ (m : ℕ). idle_column) n.successors (λ k d h. record { low = refl; high = refl; cost = refl }));
    }

proper-reference_of : (states : ℕ) (n : Node) (s : Subproblem) (low high : List ℤ) → list_all decision_fits s.decisions ≡ true → list_all (row_fits states s) s.rows ≡ true → IsProper (reference_of n s low high)
unfolding reference_of
proper-reference_of states n s low high decisions rows =
    let q : ℕ = successor_total n.stop n.successor_weights in
    let v : List ℤ = get_or n.values 0 [] in
    let x : List ℤ = quarters low high in
    let idle : List Column = map (λ (m : ℕ). idle_column) n.successors in
    let columns : ℕ = length (map (decision_column q) s.decisions ++ idle) in
    let count : columns ≡ length s.decisions + length idle = length-append (map (decision_column q) s.decisions) idle ∙ ap (λ (k : ℕ). k + length idle) (length-map s.decisions (decision_column q)) in
    record {
      boxes = All-append HasBox (map (decision_column q) s.decisions) idle (box-decisions q s.decisions decisions) (All-map HasBox (λ (m : ℕ). idle_column) n.successors (λ k d h. le_refl (pos 0)));
      sides = sides-own states s v x s.rows rows;
      terms = terms-own states columns s v x s.rows (omega (arith, count)) rows;
      decisions = omega (arith, count);
      own = omega (arith, length-map s.rows (own_row v x));
    }

-- of a validated problem
module _ {p : Validated} {m : ℕ} {n : Node} {s : Subproblem} (t : Stands p m n s) where
  subproblem_there : slice_get p.parts.subs n.sub ≡ Some s
  subproblem_there = ap (λ (o : Option Node). option_and_then (λ (k : Node). slice_get p.parts.subs k.sub) o) (sym t.the_node) ∙ t.the_subproblem

  pub stage_in-is : (pools : List (List Cut)) (v x : List ℤ) → stage_in p pools m v x ≡ Some (stage_program pools n s v x)
  unfolding stage_in
  stage_in-is pools v x =
      ap (λ (o : Option Node). option_and_then (λ (k : Node). option_map (λ (u : Subproblem). stage_program pools k u v x) (slice_get p.parts.subs k.sub)) o) t.the_node
      ∙ ap (λ (o : Option Subproblem). option_map (λ (u : Subproblem). stage_program pools n u v x) o) subproblem_there

  pub stage_is : (pools : List (List Cut)) (v x : List ℤ) (lp : Program) → stage_in p pools m v x ≡ Some lp → lp ≡ stage_program pools n s v x
  stage_is pools v x lp is = some_same lp (stage_program pools n s v x) (sym is ∙ stage_in-is pools v x)

  pub proper-stage : (pools : List (List Cut)) (v x : List ℤ) → IsProper (stage_program pools n s v x)
  proper-stage pools v x =
      let b = boxed t in
      proper-stage_program (length p.parts.states) n s (decisions-subproblem_fits (length p.parts.states) s b.fit.subproblem) (rows-subproblem_fits (length p.parts.states) s b.fit.subproblem) pools v x (linked n (length p.parts.nodes) b.fit.successors).1

  pub proper-reference : (low high : List ℤ) → IsProper (reference_of n s low high)
  proper-reference low high =
      let b = boxed t in
      proper-reference_of (length p.parts.states) n s low high (decisions-subproblem_fits (length p.parts.states) s b.fit.subproblem) (rows-subproblem_fits (length p.parts.states) s b.fit.subproblem)

  pub reference_in-is : reference_in p m ≡ Some (reference_of n s (get_or p.lo m []) (get_or p.hi m []))
  unfolding reference_in
  reference_in-is =
      ap (λ (o : Option Node). option_and_then (λ (k : Node). option_map (λ (u : Subproblem). reference_of k u (get_or p.lo m []) (get_or p.hi m [])) (slice_get p.parts.subs k.sub)) o) t.the_node
      ∙ ap (λ (o : Option Subproblem). option_map (λ (u : Subproblem). reference_of n u (get_or p.lo m []) (get_or p.hi m [])) o) subproblem_there

  pub reference_is : (lp : Program) → reference_in p m ≡ Some lp → lp ≡ reference_of n s (get_or p.lo m []) (get_or p.hi m [])
  reference_is lp is = some_same lp (reference_of n s (get_or p.lo m []) (get_or p.hi m [])) (sym is ∙ reference_in-is)

  pub like-stages : (pools : List (List Cut)) (v x w y : List ℤ) (lp other : Program) → stage_in p pools m v x ≡ Some lp → stage_in p pools m w y ≡ Some other → IsLike lp other
  like-stages pools v x w y lp other f g =
      subst (λ (a : Program). IsLike a other) (sym (stage_is pools v x lp f)) (subst (λ (b : Program). IsLike (stage_program pools n s v x) b) (sym (stage_is pools w y other g)) (like-stage_program pools n s v x w y (proper-stage pools w y)))

  pub extends-stage : (pools : List (List Cut)) (v x : List ℤ) (lp r : Program) → reference_in p m ≡ Some r → stage_in p pools m v x ≡ Some lp → Extends r lp
  extends-stage pools v x lp r f g =
      let b = boxed t in
      subst (λ (a : Program). Extends a lp) (sym (reference_is r f))
      (subst (λ (c : Program). Extends (reference_of n s (get_or p.lo m []) (get_or p.hi m [])) c) (sym (stage_is pools v x lp g))
      (extends-stage_program pools n s (get_or p.lo m []) (get_or p.hi m []) v x (linked n (length p.parts.nodes) b.fit.successors).1 (proper-stage pools v x)))

-- a stage problem with the sides of other values and another state
pub restated : (pools : List (List Cut)) (n : Node) (s : Subproblem) (v x w y : List ℤ) (old : Program) (rows : List LpRow) → old ≡ stage_program pools n s v x → rows ≡ map (own_row w y) s.rows ++ cut_rows s pools (length s.decisions) n.successors
    → record { columns = old.columns; rows = rows; decisions = old.decisions; own = old.own } ≡ stage_program pools n s w y
unfolding stage_program
restated pools n s v x w y old rows e f = ap₂ (λ (lp : Program) (rs : List LpRow). record { columns = lp.columns; rows = rs; decisions = lp.decisions; own = lp.own }) e f

pub rows-stage_program : (pools : List (List Cut)) (n : Node) (s : Subproblem) (v x : List ℤ) (old : Program) → old ≡ stage_program pools n s v x → old.rows ≡ map (own_row v x) s.rows ++ cut_rows s pools (length s.decisions) n.successors
unfolding stage_program
rows-stage_program pools n s v x old e = ap (λ (lp : Program). lp.rows) e

pub own-stage_program : (pools : List (List Cut)) (n : Node) (s : Subproblem) (v x : List ℤ) (old : Program) → old ≡ stage_program pools n s v x → old.own ≡ length s.rows
unfolding stage_program
own-stage_program pools n s v x old e = ap (λ (lp : Program). lp.own) e

-- the parts_of_node of a node, by its number
record There (p : Validated) (m : ℕ) : Type 0 where
  pub node : Node
  pub subproblem : Subproblem
  pub stands : Stands p m node subproblem

there : (p : Validated) (m : ℕ) → is_validated p ≡ true → m < length p.parts.nodes → There p m
there p m e h =
    let q = parts_of_node p m e h in
    record {
      node = q.node;
      subproblem = q.subproblem;
      stands = record { validated = e; known = h; the_node = q.fit.the_node; the_subproblem = ap (λ (o : Option Node). option_and_then (λ (k : Node). slice_get p.parts.subs k.sub) o) q.fit.the_node ∙ q.fit.the_subproblem };
    }

pub proper_validated : (p : Validated) → is_validated p ≡ true → (m : ℕ) → m < length p.parts.nodes → (pools : List (List Cut)) (values state : List ℤ) (lp : Program) → stage_in p pools m values state ≡ Some lp → IsProper lp
proper_validated p e m h pools v x lp is =
    let t = (there p m e h).stands in
    subst IsProper (sym (stage_is t pools v x lp is)) (proper-stage t pools v x)

pub like_validated : (p : Validated) → is_validated p ≡ true → (m : ℕ) → m < length p.parts.nodes → (pools : List (List Cut)) (values state others next : List ℤ) (lp other : Program) → stage_in p pools m values state ≡ Some lp → stage_in p pools m others next ≡ Some other → IsLike lp other
like_validated p e m h pools v x w y lp other f g = like-stages (there p m e h).stands pools v x w y lp other f g

pub reference_there : (p : Validated) → is_validated p ≡ true → (m : ℕ) → m < length p.parts.nodes → reference_in p m ≡ Some (reference_at p m)
reference_there p e m h =
    let is = reference_in-is (there p m e h).stands in
    is ∙ sym (ap (λ (o : Option Program). Some (program_of o)) is)

pub extends_validated : (p : Validated) → is_validated p ≡ true → (m : ℕ) → m < length p.parts.nodes → (pools : List (List Cut)) (values state : List ℤ) (lp program : Program) → reference_in p m ≡ Some program → stage_in p pools m values state ≡ Some lp → Extends program lp
extends_validated p e m h pools v x lp program f g = extends-stage (there p m e h).stands pools v x lp program f g

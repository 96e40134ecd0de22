use Rattle.std.proofs.Common.{◌≡◌, ℕ, ℤ, List, Result, Ok, ap, arith}
use Rattle.std.proofs.lemmas.Result.{err_from_is_err_and}
use Rattle.serde_json.specs.Data.{Members}
use Rattle.serde_json.specs.View.{members_view}
use Rattle.problem.specs.declared.refusal.Part.{Part}
use Rattle.problem.specs.declared.refusal.Refusal.{Refusal}
use Rattle.read_json.specs.Fields.{place}
use Rattle.read_json.specs.Steps.{Fails, walk_list}
use Rattle.read_json.proofs.Walks.{list-go, list-fail, list-done}
use Rattle.read_file.specs.Values.{random_value_at, values_at}
use Rattle.read_file.proofs.values.values.Goals as goal

abbrev step : Part → ℕ → ℕ → Members → List ℤ → ℕ → List ℕ → Result (List ℤ) Refusal
step part a b support found i name = random_value_at (place part a b i) support found name

pub loop-i-init : goal.loop-i-init
unfolding values_at
loop-i-init c = ap (λ f. walk_list (step c.args.part c.args.a c.args.b (members_view c.args.support.now.entries)) f 0 c.args.randoms.now) c.new-found.ensures

pub returns-in_err-value : goal.returns-in_err-value
returns-in_err-value c =
    let l = c.loop-i in
    let given = members_view c.args.support.now.entries in
    let p = err_from_is_err_and c.from_residual-in_err-value.result c.from_residual-in_err-value.ensures.1 in
    let fails : Fails c.in_err-value.field-0.0 (step c.args.part c.args.a c.args.b given l.found l.i c.index-randoms-i.result) =
    rw (← c.as_str.ensures, ← c.new-place.ensures) c.in_err-value.ensures in
    rw (p.1, p.2) (list-fail (step c.args.part c.args.a c.args.b given) l.found l.i c.index-randoms-i.result c.index-randoms-i.result c.args.randoms.now _ c.in_err-value.field-0.0 (omega arith) c.index-randoms-i.is fails l.invariant)

pub loop-i-preserved : goal.loop-i-preserved
loop-i-preserved c =
    let l = c.loop-i in
    let given = members_view c.args.support.now.entries in
    let goes : step c.args.part c.args.a c.args.b given l.found l.i c.index-randoms-i.result ≡ Ok c.value.new.found =
    rw (← c.as_str.ensures, ← c.new-place.ensures) c.in_ok-value.ensures in
    list-go (step c.args.part c.args.a c.args.b given) l.found c.value.new.found l.i c.index-randoms-i.result c.index-randoms-i.result c.args.randoms.now _ (omega arith) c.index-randoms-i.is goes l.invariant

pub returns : goal.returns
returns c = let l = c.loop-i in list-done (step c.args.part c.args.a c.args.b (members_view c.args.support.now.entries)) l.found l.i c.args.randoms.now _ (omega arith) l.invariant

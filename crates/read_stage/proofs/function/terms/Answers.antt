use Rattle.std.proofs.Common.{◌≡◌, ◌+◌, ◌*◌, ◌^◌, length, subst, sym, ap, arith}
use Rattle.std.proofs.lemmas.Grind.{common_steps}
use Rattle.std.proofs.lemmas.Result.{err_from_is_err_and}
use Rattle.serde_json.specs.View.{view, items_view}
use Rattle.read_json.specs.declared.refusal.ReadRefusal.TheVariants as refusals
use Rattle.read_json.specs.Steps.{walk_items}
use Rattle.read_json.proofs.Walks.{items-go, items-fail, items-done}
use Rattle.read_stage.specs.Function.{zeros, term_at, terms_at}
use Rattle.read_stage.proofs.Sums.{AllBelow, AllBelow-zeros, term_at-below}
use Rattle.read_stage.proofs.function.terms.Goals as goal

pub loop-t-init : goal.loop-t-init
unfolding terms_at
loop-t-init c =
    let a = c.args in
    let same : c.from_vec-sums.result ≡ zeros (length a.names.now) = grind (arith, common_steps) in
    record {
      small = subst (AllBelow 0) (sym same) (AllBelow-zeros 0 (length a.names.now));
      walked = ap (λ f. walk_items (term_at a.names.now a.site) f 0 (items_view a.items.now)) same;
    }

pub returns-in_err-term : goal.returns-in_err-term
returns-in_err-term c =
    let a = c.args in
    let l = c.loop-t in
    let p = err_from_is_err_and c.from_residual-in_err-term.result c.from_residual-in_err-term.ensures.1 in
    rw (p.1, p.2) (items-fail (term_at a.names.now a.site) l.sums l.t c.index-items-t.result a.items.now (terms_at a.names.now a.site (items_view a.items.now)) (refusals.Refused c.in_err-term.field-0.0) (omega arith) c.index-items-t.is c.in_err-term.ensures l.invariant.walked)

pub loop-t-preserved : goal.loop-t-preserved
loop-t-preserved c =
    let a = c.args in
    let l = c.loop-t in
    let more : l.t * 2 ^ 40 + 2 ^ 40 ≡ (l.t + 1) * 2 ^ 40 = omega arith in
    record {
      small = subst (λ b. AllBelow b c.term.new.sums) more (term_at-below a.names.now a.site l.sums c.term.new.sums l.t (l.t * 2 ^ 40) (view c.index-items-t.result) c.in_ok-term.ensures l.invariant.small);
      walked = items-go (term_at a.names.now a.site) l.sums c.term.new.sums l.t c.index-items-t.result a.items.now (terms_at a.names.now a.site (items_view a.items.now)) (omega arith) c.index-items-t.is c.in_ok-term.ensures l.invariant.walked;
    }

pub returns : goal.returns
returns c =
    let a = c.args in
    items-done (term_at a.names.now a.site) c.loop-t.sums c.loop-t.t a.items.now (terms_at a.names.now a.site (items_view a.items.now)) (omega arith) c.loop-t.invariant.walked

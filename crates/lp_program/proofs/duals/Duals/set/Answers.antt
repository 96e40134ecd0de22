use Rattle.std.proofs.Common.{◌≡◌, ◌∙◌, List, length, set, is_ok, if◌then◌else◌, ap, sym, arith}
use Rattle.lp_program.specs.declared.fixed.Fx.{Fx}
use Rattle.lp_program.specs.Duals.{joined}
use Rattle.lp_program.proofs.SpreadDuals.{length-joined, set_first, put_duals, put_value}
use Rattle.lp_program.proofs.duals.Duals.set.Goals as goal

pub invariant_of-self-else-row-len : goal.invariant_of-self-else-row-len
invariant_of-self-else-row-len c =
    let d = c.self.inside in
    let long : length c.args.self.now ≡ d.count = sym (ap (λ (fs : List Fx). length fs) c.self.view_is) ∙ length-joined d.first d.others.items d.count c.self.invariant.count in
    put_duals d.first d.others.items d.count c.args.row c.args.dual c.self.invariant (is_ok c.put.result) c.put.new.pairs.items (omega (arith, c.len.ensures, c.if-row-len.false)) (omega (arith, long, c.requires)) c.put.ensures

pub returns-then-row-len : goal.returns-then-row-len
returns-then-row-len c =
    let d = c.self.inside in
    ap (λ (fs : List Fx). joined fs d.others.items d.count) c.set.ensures
    ∙ set_first d.first d.others.items d.count c.args.row c.args.dual c.self.invariant (omega (arith, c.len.ensures, c.if-row-len.true))
    ∙ ap (λ (fs : List Fx). set fs c.args.row c.args.dual) c.self.view_is

pub returns-else-row-len : goal.returns-else-row-len
returns-else-row-len c =
    let d = c.self.inside in
    let long : length c.args.self.now ≡ d.count = sym (ap (λ (fs : List Fx). length fs) c.self.view_is) ∙ length-joined d.first d.others.items d.count c.self.invariant.count in
    put_value d.first d.others.items d.count c.args.row c.args.dual c.self.invariant (is_ok c.put.result) c.put.new.pairs.items (omega (arith, c.len.ensures, c.if-row-len.false)) (omega (arith, long, c.requires)) c.put.ensures
    ∙ ap (λ (fs : List Fx). if is_ok c.put.result then set fs c.args.row c.args.dual else fs) c.self.view_is

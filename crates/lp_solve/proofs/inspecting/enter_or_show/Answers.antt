use Rattle.std.proofs.Common.{◌≡◌, ◌<◌, ℕ, List, length, Some, rules, sym, subst}
use Rattle.lp_price.specs.Enter.{enter_of}
use Rattle.lp_price.proofs.Large.{enters_large}
use Rattle.lp_price.proofs.Flips.{enter_few}
use Rattle.lp_solve.proofs.inspecting.enter_or_show.Goals as goal

pub returns-in-Some-clause-inside : goal.returns-in-Some-clause-inside
returns-in-Some-clause-inside c =
    let e : (enter_of c.args.fitted.now.table.now c.args.line.now c.args.violation.above c.args.violation.amount).0 ≡ Some (c.in-Some.place, c.in-Some.tail) = search rules in
    let f : c.enter.new.flips ≡ (enter_of c.args.fitted.now.table.now c.args.line.now c.args.violation.above c.args.violation.amount).1 = search rules in
    let few = enter_few c.args.fitted.now.table.now c.args.line.now c.args.violation.above c.args.violation.amount (c.in-Some.place, c.in-Some.tail) e in (
      c.requires.there.0,
      search rules,
      enters_large c.args.fitted.now.table.now c.args.line.now c.args.violation.above c.args.violation.amount (c.in-Some.place, c.in-Some.tail) e,
      subst (λ (n : ℕ). length c.enter.new.flips < n) c.requires.line (subst (λ (xs : List ℕ). length xs < length c.args.line.now) (sym f) few),
      search rules,
    )

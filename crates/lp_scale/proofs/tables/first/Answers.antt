use Rattle.std.proofs.Common.{◌≡◌, Option, IfSome, length, arith, ap, sym, subst, ◌∙◌}
use Rattle.lp_table.specs.declared.table.WarmTable.{WarmTable}
use Rattle.lp_scale.specs.Scaling.{AreSmall}
use Rattle.lp_scale.proofs.Counts.{own_rows}
use Rattle.lp_scale.proofs.Shapes.{gives_true}
use Rattle.lp_scale.proofs.Cuts.{own_rising, own_count}
use Rattle.lp_scale.proofs.tables.first.Goals as goal

pub returns-then-branch-clause-small : goal.returns-then-branch-clause-small
returns-then-branch-clause-small c =
    c.in_ok-append.ensures.small c.if-branch.true 512 (subst (λ (o : Option WarmTable). IfSome o (λ t. AreSmall 512 t.scales)) c.in-Some.is c.in_ok-table.ensures.small)

pub returns-then-branch-clause-suits : goal.returns-then-branch-clause-suits
returns-then-branch-clause-suits c =
    let own = c.own_rows-own.result.now in
    let counted = own_rows (length c.columns-count.result.now) c.split_at.result.0.now own own c.in-Some.table c.append.new.table (sym c.in_ok-table.ensures.value ∙ c.in-Some.is) (gives_true _ _ _ c.if-branch.true c.in_ok-append.ensures.value) in
    record {
      table = c.in_ok-append.ensures.whole c.if-branch.true;
      small = c.in_ok-append.ensures.small c.if-branch.true 512 (subst (λ (o : Option WarmTable). IfSome o (λ t. AreSmall 512 t.scales)) c.in-Some.is c.in_ok-table.ensures.small);
      columns = sym (c.in_ok-append.ensures.count c.if-branch.true ∙ subst (λ (o : Option WarmTable). IfSome o (λ t. length t.costs ≡ length c.columns-count.result.now)) c.in-Some.is c.in_ok-table.ensures.count ∙ ap length c.columns-count.ensures);
      rows = omega (arith, counted.rows, own_count c.args.lp.now own c.own_rows-own.ensures c.requires.proper);
      cuts = counted.cuts;
    }

pub append-requires-clause-rising : goal.append-requires-clause-rising
append-requires-clause-rising c = own_rising c.args.lp.now c.own_rows-own.result.now _ c.own_rows-own.ensures (subst (λ (o : Option WarmTable). IfSome o (λ t. length t.costs ≡ length c.columns-count.result.now)) c.in-Some.is c.in_ok-table.ensures.count ∙ ap length c.columns-count.ensures) c.requires.proper

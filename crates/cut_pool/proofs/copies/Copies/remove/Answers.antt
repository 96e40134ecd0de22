use Rattle.std.proofs.Common.{◌<◌, length, ap, arith}
use Rattle.cut_pool.proofs.MoreCuts.{length_cuts_of}
use Rattle.cut_pool.proofs.Removed.{slopes_fit, seen_removed, packed_removed}
use Rattle.cut_pool.proofs.copies.Copies.remove.Goals as goal

pub remove-requires : goal.remove-requires
remove-requires c = omega (arith, c.requires, ap length c.self.view_is, length_cuts_of c.self.inside.states c.self.inside.heights.items c.self.inside.slopes.items)

pub remove_slopes-requires : goal.remove_slopes-requires
remove_slopes-requires c =
    let there : c.args.number < length c.self.inside.heights.items = omega (arith, c.requires, ap length c.self.view_is, length_cuts_of c.self.inside.states c.self.inside.heights.items c.self.inside.slopes.items) in
    slopes_fit c.self.inside.states c.args.number c.self.inside.heights.items c.self.inside.slopes.items c.self.invariant.count there

pub invariant_of-self : goal.invariant_of-self
invariant_of-self c =
    let there : c.args.number < length c.self.inside.heights.items = omega (arith, c.requires, ap length c.self.view_is, length_cuts_of c.self.inside.states c.self.inside.heights.items c.self.inside.slopes.items) in
    packed_removed c.self.inside.states c.args.number c.self.inside.heights.items c.self.inside.slopes.items c.remove.new.self.items c.remove_slopes.new.slopes.items c.self.invariant there c.remove.ensures.items c.remove_slopes.ensures

pub returns : goal.returns
returns c =
    let there : c.args.number < length c.self.inside.heights.items = omega (arith, c.requires, ap length c.self.view_is, length_cuts_of c.self.inside.states c.self.inside.heights.items c.self.inside.slopes.items) in
    seen_removed c.self.inside.states c.args.number c.self.inside.heights.items c.self.inside.slopes.items c.remove.new.self.items c.remove_slopes.new.slopes.items c.args.self.now c.self.invariant.count there c.remove.ensures.items c.remove_slopes.ensures c.self.view_is

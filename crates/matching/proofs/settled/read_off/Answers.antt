use Rattle.std.proofs.Common.{ap, ◌∙◌, arith, rules}
use Rattle.std.proofs.lemmas.List.FromFn.{fill_by_all}
use Rattle.lists.specs.Rankings.{size}
use Rattle.lists.specs.declared.parties.Side.TheVariants.{Crew}
use Rattle.matching.specs.Settled.{site_by_copies, level_by_copies, sites_in, levels_in}
use Rattle.matching.specs.Evidence.TwoLevels.{sized, size_crews}
use Rattle.matching.proofs.settled.read_off.Goals as goal

pub invariant_of-copies : goal.invariant_of-copies
invariant_of-copies g c =
    let L = g.L.Lists.meaning c.args.lists.now in
    record { whole = omega (arith, size_crews L, (sized L c.requires.few).crews_are, c.requires.room) }

pub returns : goal.returns
returns g c =
    let L = g.L.Lists.meaning c.args.lists.now in
    let T = c.pair.new.plan in (
      fill_by_all (site_by_copies L T) c.write_each.new.slots (size L Crew) 0 (omega arith) (λ i h. let e = c.write_each.ensures i (omega arith) 0 in search rules) ∙ ap (sites_in L) c.pair.ensures.is,
      fill_by_all (level_by_copies L T) c.write_each-2.new.slots (size L Crew) 0 (omega arith) (λ i h. let e = c.write_each-2.ensures i (omega arith) 0 in search rules) ∙ ap (levels_in L) c.pair.ensures.is,
    )

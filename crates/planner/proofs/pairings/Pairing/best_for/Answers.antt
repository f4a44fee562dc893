use Rattle.std.proofs.Common.{arith}
use Rattle.std.proofs.lemmas.List.{length-take}
use Rattle.lists.specs.declared.parties.Side.TheVariants.{Crew}
use Rattle.planner.proofs.pairings.Pairing.best_for.Goals as goal

pub invariant_of-result : goal.invariant_of-result
invariant_of-result g c =
    let few = (g.met.L.Lists.lawful c.args.lists.now).few Crew in
    record { few = simp length-take (omega (arith, few, c.count.ensures, c.from.ensures, c.in_ok-plan.ensures.len)) }

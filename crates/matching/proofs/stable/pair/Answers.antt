use Rattle.std.proofs.Common.{arith, rules}
use Rattle.matching.proofs.Deferral.{found}
use Rattle.matching.proofs.Finish.{best_in_the_end}
use Rattle.matching.proofs.stable.pair.Goals as goal

pub returns : goal.returns
returns g c =
    let L = g.L.Lists.meaning c.args.lists.now in
    let lawful = g.met.L.Lists.lawful c.args.lists.now in
    let state = c.ask_all.new.state in
    found L lawful c.write_each.new.slots (best_in_the_end L lawful state c.write_each.new.slots c.ask_all.ensures
    (record { whole = omega arith; each = λ i h. let e = c.write_each.ensures i h 0 in search rules }))

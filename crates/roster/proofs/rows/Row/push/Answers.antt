use Rattle.std.proofs.Common.{arith}
use Rattle.roster.proofs.Placing.{Placed_push}
use Rattle.roster.proofs.rows.Row.push.Goals as goal

pub invariant_of-self : goal.invariant_of-self
invariant_of-self c =
    rw (c.push.ensures.items, c.from.ensures, c.len.ensures, ← c.self.view_is)
    (Placed_push c.self.inside.entries.items c.self.inside.places c.self.invariant c.args.named (omega arith) (rw c.self.view_is c.requires.absent))

use Rattle.std.proofs.Common.{None, arith}
use Rattle.roster.proofs.Placing.{Placed_none}
use Rattle.roster.proofs.rows.RowDefault.default.Goals as goal

pub invariant_of-result : goal.invariant_of-result
invariant_of-result c =
    let long = c.default-2.ensures.long in
    rw c.default.ensures (Placed_none c.default-2.result (λ v l. c.default-2.ensures.at v None (omega arith)))

use Rattle.std.proofs.Common.{suc}
use Rattle.matching.specs.Acceptance.{Asks, unrefused}
use Rattle.matching.proofs.stable.ask_on.Given as goal

abbrev pub invariant-loop-refused : goal.invariant-loop-refused
invariant-loop-refused g l = Asks (g.L.Lists.meaning l.lists) l.state (suc l.first) l.asker

abbrev pub decreases-loop-refused : goal.decreases-loop-refused
decreases-loop-refused g l = unrefused (g.L.Lists.meaning l.lists) l.state

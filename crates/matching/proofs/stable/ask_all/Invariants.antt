use Rattle.matching.specs.Acceptance.{AskingIn}
use Rattle.matching.proofs.stable.ask_all.Given as goal

abbrev pub invariant-loop-first : goal.invariant-loop-first
invariant-loop-first g l = AskingIn (g.L.Lists.meaning l.lists) l.state l.first l.first

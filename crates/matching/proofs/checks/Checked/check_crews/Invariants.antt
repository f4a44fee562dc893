use Rattle.std.proofs.Common.{◌≡◌, None}
use Rattle.lists.specs.Order.{earliest}
use Rattle.matching.specs.Checks.{crew_fault, TakenBelow}
use Rattle.matching.proofs.checks.Checked.check_crews.Given as goal

abbrev pub invariant-loop-crew : goal.invariant-loop-crew
invariant-loop-crew g l =
    TakenBelow l.self.plan.now l.crew l.taken.sites
    × (earliest l.crew (crew_fault (g.L.Lists.meaning l.self.lists) l.self.plan.now l.self.which) ≡ None)

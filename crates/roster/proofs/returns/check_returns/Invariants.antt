use Rattle.std.proofs.Common.{◌≡◌, None}
use Rattle.lists.specs.Order.{earliest}
use Rattle.roster.specs.FirstFault.{party_returns_fault}
use Rattle.roster.proofs.returns.check_returns.Given as goal

abbrev pub invariant-loop-i : goal.invariant-loop-i
invariant-loop-i l = earliest l.i (party_returns_fault l.own l.back l.first) ≡ None

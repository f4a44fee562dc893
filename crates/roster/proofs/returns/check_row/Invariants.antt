use Rattle.std.proofs.Common.{◌≡◌, None}
use Rattle.lists.specs.Order.{earliest}
use Rattle.roster.specs.FirstFault.{return_fault}
use Rattle.roster.proofs.returns.check_row.Given as goal

abbrev pub invariant-loop-k : goal.invariant-loop-k
invariant-loop-k l = earliest l.k (return_fault l.back l.block l.party l.row) ≡ None

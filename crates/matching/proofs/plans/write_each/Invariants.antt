use Rattle.std.proofs.Common.{ℕ, ◌<◌, get_or}
use Rattle.matching.proofs.plans.write_each.Given as goal

abbrev pub invariant-loop-index : goal.invariant-loop-index
invariant-loop-index g l = (i : ℕ) → i < l.index → (d : _) → goal.F-post g l.of i (get_or l.slots i d)

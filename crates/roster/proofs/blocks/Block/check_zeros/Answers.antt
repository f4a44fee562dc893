use Rattle.std.proofs.Common.{sym, ◌∙◌}
use Rattle.roster.proofs.Zeros.{zeros_none, zeros_some}
use Rattle.roster.proofs.blocks.Block.check_zeros.Goals as goal

pub returns-in-None : goal.returns-in-None
returns-in-None c = zeros_none _ _ _ _ c.bytes.result.now c.bytes.ensures.len c.bytes.ensures.same (sym c.first_nonzero.ensures ∙ c.in-None.is)

pub returns-in-Some : goal.returns-in-Some
returns-in-Some c = rw c.wrong_field.ensures (zeros_some _ _ _ _ c.bytes.result.now c.bytes.ensures.len c.bytes.ensures.same c.in-Some.k (sym c.first_nonzero.ensures ∙ c.in-Some.is))

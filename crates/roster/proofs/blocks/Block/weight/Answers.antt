use Rattle.std.proofs.Common.{sym, arith}
use Rattle.roster.specs.Layout.{byte_at}
use Rattle.roster.proofs.Weights.{weighted_none, weighted_more, weight_bound}
use Rattle.roster.proofs.blocks.Block.weight.Goals as goal

pub loop-at-init : goal.loop-at-init
loop-at-init c = record { so_far = sym (weighted_none _); bound = omega arith }

pub loop-at-preserved : goal.loop-at-preserved
loop-at-preserved c =
    let b = weight_bound c.loop-at.at c.from.result (omega arith) (omega arith) in
    let more = weighted_more (byte_at c.args.self.now.roster.now c.args.self.now.number) c.loop-at.at in
    let same = c.bytes-byte-items.ensures.same c.loop-at.at (omega arith) in
    record { so_far = grind (arith, more, same); bound = omega arith }

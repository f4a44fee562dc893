use Rattle.std.proofs.Common.{◌≡◌, ◌*◌, ◌≤◌}
use Rattle.roster.specs.Layout.{byte_at, weighted}
use Rattle.roster.proofs.blocks.Block.weight.Given as goal

abbrev pub invariant-loop-at : goal.invariant-loop-at
invariant-loop-at l = record {
  so_far : l.sum ≡ weighted (byte_at l.self.roster.now l.self.number) l.at;
  bound : l.sum ≤ 129540 * l.at;
}

use Rattle.std.proofs.Common.{◌≡◌, length, None}
use Rattle.lists.specs.Order.{earliest}
use Rattle.roster.specs.Layout.{entries}
use Rattle.roster.specs.FirstFault.{entry_fault}
use Rattle.roster.proofs.reading.read_entries.Given as goal

abbrev pub invariant-loop : goal.invariant-loop
invariant-loop l = record {
  none : earliest l.counter (entry_fault l.block.roster.now l.block.number l.others) ≡ None;
  long : length l.row ≡ l.counter;
  read : l.row ≡ entries l.block.roster.now l.block.number l.counter;
}

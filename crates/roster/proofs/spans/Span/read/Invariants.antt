use Rattle.std.proofs.Common.{◌≡◌, map, length, None}
use Rattle.std.specs.List.{range_with_len}
use Rattle.lists.specs.Order.{earliest}
use Rattle.roster.specs.Layout.{block_of, list_in}
use Rattle.roster.specs.FirstFault.{party_fault}
use Rattle.roster.proofs.spans.Span.read.Given as goal

abbrev pub invariant-loop-party : goal.invariant-loop-party
invariant-loop-party l = record {
  none : earliest l.party (party_fault l.self.roster.now l.self.side) ≡ None;
  long : length l.half ≡ l.party;
  read : l.half ≡ map (λ i. list_in l.self.roster.now (block_of l.self.roster.now l.self.side i)) (range_with_len 0 l.party);
}

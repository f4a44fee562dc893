use Rattle.std.proofs.Common.{◌≡◌, ◌+◌, ◌*◌, Some, None, length, sym, ap, arith}
use Rattle.std.proofs.lemmas.Bool.Decides.{nat_tests}
use Rattle.lists.specs.declared.faults.Fault.TheVariants.{EntryUnreturned}
use Rattle.lists.proofs.Earliest.{earliest_none, earliest_step, earliest_found}
use Rattle.roster.specs.FirstFault.{return_fault}
use Rattle.roster.proofs.returns.check_row.Goals as goal

pub loop-k-init : goal.loop-k-init
loop-k-init c = earliest_none _

pub returns-then-is_none : goal.returns-then-is_none
returns-then-is_none c =
    let fault = return_fault c.args.back.now c.args.block c.args.party c.args.row.now in
    let here : fault c.loop-k.k ≡ Some (EntryUnreturned c.args.block (6 + 2 * c.loop-k.k)) = grind (arith, nat_tests) in
    let same = ap length c.entries-named-items.ensures.names in
    rw c.entry_byte.ensures (sym (earliest_found c.loop-k.k _ fault _ (omega arith) c.loop-k.invariant here))

pub loop-k-preserved : goal.loop-k-preserved
loop-k-preserved c =
    let fault = return_fault c.args.back.now c.args.block c.args.party c.args.row.now in
    let here : fault c.loop-k.k ≡ None = grind (arith, nat_tests) in
    earliest_step c.loop-k.k fault c.loop-k.invariant here

use Rattle.std.proofs.Common.{ℕ, ◌+◌, length, sym, ap, ◌∙◌}
use Rattle.std.proofs.lemmas.Result.{err_from_is_err_and}
use Rattle.lists.proofs.Earliest.{earliest_none, earliest_step, earliest_found}
use Rattle.roster.specs.Layout.{entries}
use Rattle.roster.specs.FirstFault.{entry_fault}
use Rattle.roster.proofs.Shown.{entries_length}
use Rattle.roster.proofs.reading.read_entries.Goals as goal

pub loop-init : goal.loop-init
loop-init c = let none = sym c.default-row.ensures.1 ∙ c.default-row.ensures.2.0 in record { none = earliest_none _; long = ap length none; read = none }

pub returns-in_err-read_entry-clause-fault : goal.returns-in_err-read_entry-clause-fault
returns-in_err-read_entry-clause-fault c =
    let p = err_from_is_err_and c.from_residual.result c.from_residual.ensures.1 in
    let fault = entry_fault c.args.block.now.roster.now c.args.block.now.number c.args.others in
    rw (p.1, p.2)
    (sym (earliest_found c.loop.counter c.args.len fault _ c.loop-test.true c.loop.invariant.none
    (sym (c.in_err-read_entry.ensures.fault ∙ ap fault c.loop.invariant.long))))

pub loop-preserved : goal.loop-preserved
loop-preserved c =
    let fault = entry_fault c.args.block.now.roster.now c.args.block.now.number c.args.others in
    let more = c.in_ok-read_entry.ensures.more ∙ ap (λ (n : ℕ). entries c.args.block.now.roster.now c.args.block.now.number (n + 1)) c.loop.invariant.long in
    record {
      none = earliest_step c.loop.counter fault c.loop.invariant.none (sym (c.in_ok-read_entry.ensures.fault ∙ ap fault c.loop.invariant.long));
      long = ap length more ∙ entries_length c.args.block.now.roster.now c.args.block.now.number (c.loop.counter + 1);
      read = more;
    }

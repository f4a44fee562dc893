use Rattle.std.proofs.Common.{◌≡◌, ℕ, ◌<◌, [], List, length, get_or, sym, ap, ◌∙◌, arith}
use Rattle.std.proofs.lemmas.List.{get_or_read}
use Rattle.std.proofs.lemmas.Result.{err_from_is_err_and}
use Rattle.lists.proofs.Earliest.{earliest_none, earliest_step, earliest_found}
use Rattle.roster.specs.FirstFault.{party_returns_fault}
use Rattle.roster.proofs.returns.check_returns.Goals as goal

-- the row at a place is the list there
row_is : (own rows : List (List ℕ)) (i : ℕ) (row : List ℕ) → i < length rows → row ≡ get_or rows i row → rows ≡ own → row ≡ get_or own i []
row_is own rows i row l e same = get_or_read rows i row l e [] ∙ ap (λ (ls : List (List ℕ)). get_or ls i []) same

pub loop-i-init : goal.loop-i-init
loop-i-init c = earliest_none (party_returns_fault c.args.own.now c.args.back.now c.args.first)

pub returns-in_err-check_row : goal.returns-in_err-check_row
returns-in_err-check_row c =
    let p = err_from_is_err_and c.from_residual.result c.from_residual.ensures.1 in
    let fault = party_returns_fault c.args.own.now c.args.back.now c.args.first in
    let same = c.rows-row-items.ensures.rows in
    let long = ap length same in
    let row = row_is _ _ c.loop-i.i _ c.loop-i-test.true c.row-item.is same in
    rw (p.1, p.2)
    (sym (earliest_found c.loop-i.i _ fault _ (omega arith) c.loop-i.invariant
    (rw (← row) (sym c.in_err-check_row.ensures))))

pub loop-i-preserved : goal.loop-i-preserved
loop-i-preserved c =
    let fault = party_returns_fault c.args.own.now c.args.back.now c.args.first in
    let row = row_is _ _ c.loop-i.i _ c.loop-i-test.true c.row-item.is c.rows-row-items.ensures.rows in
    earliest_step c.loop-i.i fault c.loop-i.invariant (rw (← row) (sym c.in_ok-check_row.ensures))

use Rattle.std.proofs.Common.{ℕ, ◌+◌, List, [], ◌∷◌, ◌++◌, length, sym, ap, ◌∙◌, ap₂, arith}
use Rattle.std.proofs.lemmas.Result.{err_from_is_err_and}
use Rattle.std.proofs.lemmas.List.FromFn.{map-range_with_len_more, length-map-range_with_len}
use Rattle.lists.proofs.Earliest.{earliest_none, earliest_step, earliest_found}
use Rattle.roster.specs.Layout.{block_of, list_in}
use Rattle.roster.specs.FirstFault.{party_fault}
use Rattle.roster.proofs.spans.Span.read.Goals as goal

pub loop-party-init : goal.loop-party-init
loop-party-init c = record { none = earliest_none _; long = ap length c.requires; read = c.requires }

pub returns-in_err-read_party-clause-fault : goal.returns-in_err-read_party-clause-fault
returns-in_err-read_party-clause-fault c =
    let self = c.args.self.now in
    let p = err_from_is_err_and c.from_residual.result c.from_residual.ensures.1 in
    let shown = self.count_shown in
    rw (p.1, p.2)
    (sym (earliest_found c.loop-party.party _ (party_fault self.roster.now self.side) _ (omega arith)
    c.loop-party.invariant.none (sym c.in_err-read_party.ensures.fault)))

pub loop-party-preserved : goal.loop-party-preserved
loop-party-preserved c =
    let self = c.args.self.now in
    let list = λ (i : ℕ). list_in self.roster.now (block_of self.roster.now self.side i) in
    let party = c.loop-party.party in
    let more = map-range_with_len_more list 0 party party (omega arith) in
    let read = c.push.ensures ∙ ap₂ (λ (xs : List (List ℕ)) (x : List ℕ). xs ++ x ∷ []) c.loop-party.invariant.read c.in_ok-read_party.ensures.value ∙ sym more in
    record {
      none = earliest_step party (party_fault self.roster.now self.side) c.loop-party.invariant.none (sym c.in_ok-read_party.ensures.fault);
      long = ap length read ∙ length-map-range_with_len list 0 (party + 1);
      read = read;
    }

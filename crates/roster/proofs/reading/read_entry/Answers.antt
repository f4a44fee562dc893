use Rattle.std.proofs.Common.{ℕ, ◌+◌, ◌*◌, List, [], ◌∷◌, ◌++◌, length, sym, ◌∙◌, ap, ap₂, arith}
use Rattle.std.proofs.lemmas.List.FromFn.{map-range_with_len_more}
use Rattle.roster.specs.Layout.{two_at}
use Rattle.roster.proofs.reading.read_entry.Goals as goal

pub returns-clause-more : goal.returns-clause-more
returns-clause-more c =
    let named = two_at c.args.block.now.roster.now c.args.block.now.number in
    let at = c.entry_byte-byte.ensures ∙ ap (λ (k : ℕ). 6 + 2 * k) c.len.ensures in
    let more = map-range_with_len_more (λ k. named (6 + 2 * k)) 0 (length c.args.row.now) (length c.args.row.now) (omega arith) in
    c.push.ensures
    ∙ ap₂ (λ (xs : List ℕ) (v : ℕ). xs ++ v ∷ []) c.requires.before (c.from_block-named.ensures ∙ ap named at)
    ∙ sym more

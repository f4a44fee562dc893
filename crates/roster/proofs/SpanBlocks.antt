-- The blocks of one side without a fault are its lists laid down, and the other way round.
use Rattle.std.proofs.Common.{◌≡◌, ℕ, ◌+◌, ◌*◌, ◌<◌, ◌≤◌, List, [], length, get_or, None, sym, refl, ◌∙◌, subst, arith}
use Rattle.std.proofs.lemmas.List.FromFn.{fill_by_all}
use Rattle.lists.specs.Rankings.{place}
use Rattle.lists.specs.Evidence.Places.{no_place, place_first}
use Rattle.lists.specs.declared.faults.Fault.TheVariants.{EntryTooHigh, EntryRepeated, EntryUnreturned}
use Rattle.lists.specs.declared.parties.Side.{Side}
use Rattle.lists.specs.Sides.{other}
use Rattle.roster.specs.Layout.{kind_of, count_on, block_of, two_at, entries, list_in, lists_in}
use Rattle.roster.specs.FirstFault.{fields_fault, entry_fault, party_fault, side_fault, return_fault, party_returns_fault, returns_fault}
use Rattle.roster.specs.LaidDown.{party_text}
use Rattle.lists.proofs.Earliest.{none_first, or_none, earliest_each, each_earliest}
use Rattle.roster.proofs.Laying.{Short, party_short}
use Rattle.roster.proofs.PartyBlocks.{Party, party_reads, reads_party, fields_party, list_bound, party_list, party_fields}
use Rattle.lists.proofs.Pigeonhole.{distinct_few}
use Rattle.roster.proofs.Sealed.{Laid, reads_laid, laid_reads}
use Rattle.roster.proofs.Shown.{Within, Once, Returned, span_list, entries_at, entries_length}
use Rattle.roster.proofs.Tests.{below_none, most_none}
use Rattle.roster.proofs.Texts.{party_length}

-- from no fault to the lists laid down
module _ (bs : List ℕ) (s : Side) (few : count_on bs (other s) ≤ 250) (low : (j : ℕ) → get_or bs j 0 < 256) (e : side_fault bs s ≡ None) where
  fields : (i : ℕ) → i < count_on bs s → fields_fault bs s i ≡ None
  fields i l = none_first _ _ (earliest_each (count_on bs s) (party_fault bs s) e i l)

  pub span_short : (i : ℕ) → i < count_on bs s → length (list_in bs (block_of bs s i)) ≤ 250
  span_short i l =
      let b = list_bound bs s i few (fields i l) in
      let n = entries_length bs (block_of bs s i) (two_at bs (block_of bs s i) 4) in
      omega arith

  pub span_laid : (i : ℕ) → i < count_on bs s → Laid bs (block_of bs s i) (party_text (kind_of s) i (get_or (lists_in bs s) i []))
  span_laid i l =
      let n = party_length (kind_of s) i (list_in bs (block_of bs s i)) in
      let h = span_short i l in
      subst (λ (xs : List ℕ). Laid bs (block_of bs s i) (party_text (kind_of s) i xs)) (sym (span_list bs s i l))
      (reads_laid bs (block_of bs s i) (party_text (kind_of s) i (list_in bs (block_of bs s i))) (omega arith) low
      (party_reads bs (block_of bs s i) (kind_of s) i (list_in bs (block_of bs s i)) low (fields_party bs s i few (fields i l))))

-- different numbers below n are at most n
pub list_few : (ls : List (List ℕ)) (n i : ℕ) → Within ls n → Once ls → length (get_or ls i []) ≤ n
list_few ls n i within once = distinct_few (get_or ls i []) n (within i) (once i)

-- from the lists laid down to no fault
module _ (bs : List ℕ) (s : Side) (ls : List (List ℕ)) (few : count_on bs (other s) ≤ 250) (same : count_on bs s ≡ length ls)
    (within : Within ls (count_on bs (other s))) (once : Once ls)
    (laid : (i : ℕ) → i < length ls → Laid bs (block_of bs s i) (party_text (kind_of s) i (get_or ls i []))) where
  short : Short ls
  short i = let h = list_few ls (count_on bs (other s)) i within once in omega arith

  party : (i : ℕ) → i < length ls → Party bs (block_of bs s i) (kind_of s) i (get_or ls i [])
  party i l = reads_party bs (block_of bs s i) (kind_of s) i (get_or ls i [])
      (laid_reads bs (block_of bs s i) (party_text (kind_of s) i (get_or ls i [])) (party_short (kind_of s) ls short i) (laid i l))

  new_entry : (i k : ℕ) → i < length ls → k < length (get_or ls i []) → k ≤ place (entries bs (block_of bs s i) k) (two_at bs (block_of bs s i) (6 + 2 * k))
  new_entry i k l h =
      let b = block_of bs s i in
      let xs = get_or ls i [] in
      let sh = short i in
      let n = entries_length bs b k in
      let none = no_place (entries bs b k) (two_at bs b (6 + 2 * k)) (λ m c e.
      let lt : m < k = omega arith in
      let eq : get_or xs m 0 ≡ get_or xs k 0 = sym ((party i l).table m (omega arith)) ∙ sym (entries_at bs b k m lt) ∙ e ∙ (party i l).table k (omega arith) in
      let z = once i m k (omega arith) h eq in
      omega arith) in
      omega arith

  entry_none : (i k : ℕ) → i < length ls → k < length (get_or ls i []) → entry_fault bs (block_of bs s i) (count_on bs (other s)) k ≡ None
  entry_none i k l h =
      let sh = short i in
      let t = (party i l).table k (omega arith) in
      let w = within i k h in
      or_none _ _ (below_none _ _ (EntryTooHigh (block_of bs s i) (6 + 2 * k)) (omega arith))
      (most_none _ _ (EntryRepeated (block_of bs s i) (6 + 2 * k)) (new_entry i k l h))

  party_none : (i : ℕ) → i < count_on bs s → party_fault bs s i ≡ None
  party_none i c =
      let l : i < length ls = omega arith in
      let n = (party i l).len in
      or_none _ _ (party_fields bs s i (get_or ls i []) (short i) (list_few ls (count_on bs (other s)) i within once) (party i l))
      (each_earliest (two_at bs (block_of bs s i) 4) (entry_fault bs (block_of bs s i) (count_on bs (other s))) (λ k h. entry_none i k l (omega arith)))

  pub span_none : side_fault bs s ≡ None
  span_none = each_earliest (count_on bs s) (party_fault bs s) party_none

  pub span_shows : lists_in bs s ≡ ls
  span_shows = sym (fill_by_all (λ i. list_in bs (block_of bs s i)) ls (count_on bs s) [] (sym same)
      (λ k l. sym (party_list bs (block_of bs s k) (kind_of s) k (get_or ls k []) (short k) (party k (omega arith)))))

-- lists that are returned have no entry that is not
pub none_returned : (own back : List (List ℕ)) (first : ℕ) → Returned own back → returns_fault own back first ≡ None
none_returned own back first h =
    each_earliest (length own) (party_returns_fault own back first)
    (λ i l. each_earliest (length (get_or own i [])) (return_fault back (first + i) i (get_or own i [])) (λ k b.
    below_none _ _ (EntryUnreturned (first + i) (6 + 2 * k))
    (h i (get_or (get_or own i []) k 0) (let f = place_first (get_or own i []) (get_or (get_or own i []) k 0) k b refl in omega arith))))

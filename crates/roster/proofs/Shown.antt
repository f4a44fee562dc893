-- The lists that a roster without faults shows are lawful.
use Rattle.std.proofs.Common.{◌≡◌, ℕ, ◌+◌, ◌*◌, ◌<◌, ◌≤◌, ltb, List, [], length, get_or, None, sym, ap, ◌∙◌, subst, ⊎_elim, arith}
use Rattle.std.proofs.lemmas.List.FromFn.{get_or-map-range_with_len, length-map-range_with_len}
use Rattle.std.proofs.lemmas.List.{get_or_past}
use Rattle.std.proofs.lemmas.Bool.{cases_lt, cases_order}
use Rattle.lists.specs.Rankings.{Rankings, Lawful, place}
use Rattle.lists.specs.Evidence.Places.{get_or_place, place_first}
use Rattle.lists.specs.declared.faults.Fault.TheVariants.{EntryTooHigh, EntryRepeated, EntryUnreturned}
use Rattle.lists.specs.declared.parties.Side.TheVariants.{Crew, Site}
use Rattle.lists.specs.Order.{unless}
use Rattle.lists.specs.declared.parties.Side.{Side}
use Rattle.lists.specs.Sides.{other}
use Rattle.roster.specs.Layout.{first_on, count_on, block_of, two_at, entries, list_in, lists_in}
use Rattle.roster.specs.FirstFault.{entry_fault, fields_fault, party_fault, side_fault, return_fault, party_returns_fault, returns_fault}
use Rattle.roster.specs.Held.{both_of}
use Rattle.lists.proofs.Earliest.{earliest_each, none_first, none_second}
use Rattle.roster.proofs.Tests.{none_most, none_below}

-- lists of one side
abbrev pub Within : List (List ℕ) → ℕ → Type 0
Within ls n = (i k : ℕ) → k < length (get_or ls i []) → get_or (get_or ls i []) k 0 < n

abbrev pub Once : List (List ℕ) → Type 0
Once ls = (i k m : ℕ) → k < length (get_or ls i []) → m < length (get_or ls i []) → get_or (get_or ls i []) k 0 ≡ get_or (get_or ls i []) m 0 → k ≡ m

abbrev pub Returned : List (List ℕ) → List (List ℕ) → Type 0
Returned own back = (i j : ℕ) → place (get_or own i []) j < length (get_or own i []) → place (get_or back j []) i < length (get_or back j [])

-- a party that has a list with something in it is one of the side
pub party_below : (ls : List (List ℕ)) (i k : ℕ) → k < length (get_or ls i []) → i < length ls
party_below ls i k l = ⊎_elim (λ h. h)
    (λ h. absurd (let e = ap length (get_or_past ls i [] h) in omega arith))
    (cases_lt i (length ls))

module _ (bs : List ℕ) (s : Side) where
  pub span_length : length (lists_in bs s) ≡ count_on bs s
  span_length = length-map-range_with_len (λ i. list_in bs (block_of bs s i)) 0 (count_on bs s)

  pub span_list : (i : ℕ) → i < count_on bs s → get_or (lists_in bs s) i [] ≡ list_in bs (block_of bs s i)
  span_list i l = get_or-map-range_with_len (λ j. list_in bs (block_of bs s j)) 0 (count_on bs s) i i [] l (omega arith)

pub entries_length : (bs : List ℕ) (b n : ℕ) → length (entries bs b n) ≡ n
entries_length bs b n = length-map-range_with_len (λ j. two_at bs b (6 + 2 * j)) 0 n

pub entries_at : (bs : List ℕ) (b n k : ℕ) → k < n → get_or (entries bs b n) k 0 ≡ two_at bs b (6 + 2 * k)
entries_at bs b n k l = get_or-map-range_with_len (λ j. two_at bs b (6 + 2 * j)) 0 n k k 0 l (omega arith)

-- an entry without a fault
module _ (bs : List ℕ) (b n k : ℕ) (e : entry_fault bs b n k ≡ None) where
  pub entry_low : two_at bs b (6 + 2 * k) < n
  entry_low = none_below _ _ (EntryTooHigh b (6 + 2 * k)) (none_first _ _ e)

  pub entry_new : k ≤ place (entries bs b k) (two_at bs b (6 + 2 * k))
  entry_new = none_most _ _ (EntryRepeated b (6 + 2 * k))
      (none_second (unless (ltb (two_at bs b (6 + 2 * k)) n) (EntryTooHigh b (6 + 2 * k))) _ e)

-- two equal entries: the later one would be repeated
pub entries_apart : (bs : List ℕ) (b n k m : ℕ) → entry_fault bs b n m ≡ None → k < m → two_at bs b (6 + 2 * k) ≡ two_at bs b (6 + 2 * m) → ⊥
entries_apart bs b n k m e l same =
    let new = entry_new bs b n m e in
    let long = entries_length bs b m in
    let first = place_first (entries bs b m) (two_at bs b (6 + 2 * m)) k (omega arith) (entries_at bs b m k l ∙ same) in
    omega arith

module _ (bs : List ℕ) (s : Side) (e : side_fault bs s ≡ None) where
  pub span_entry : (i k : ℕ) → i < count_on bs s → k < two_at bs (block_of bs s i) 4 → entry_fault bs (block_of bs s i) (count_on bs (other s)) k ≡ None
  span_entry i k l h =
      earliest_each _ _ (none_second (fields_fault bs s i) _ (earliest_each (count_on bs s) (party_fault bs s) e i l)) k h

  -- an entry of a list in the span
  span_at : (i k : ℕ) → k < length (get_or (lists_in bs s) i [])
      → (i < count_on bs s) × (k < two_at bs (block_of bs s i) 4) × (get_or (get_or (lists_in bs s) i []) k 0 ≡ two_at bs (block_of bs s i) (6 + 2 * k))
  span_at i k h =
      let n = span_length bs s in
      let l : i < count_on bs s = let p = party_below (lists_in bs s) i k h in omega arith in
      let at = span_list bs s i l in
      let long = entries_length bs (block_of bs s i) (two_at bs (block_of bs s i) 4) in
      let len = ap length at in
      let b : k < two_at bs (block_of bs s i) 4 = omega arith in
      (l, b, ap (λ (xs : List ℕ). get_or xs k 0) at ∙ entries_at bs (block_of bs s i) (two_at bs (block_of bs s i) 4) k b)

  pub span_within : Within (lists_in bs s) (count_on bs (other s))
  span_within i k h =
      let p = span_at i k h in
      let low = entry_low bs (block_of bs s i) (count_on bs (other s)) k (span_entry i k p.0 p.1) in
      rw p.2 low

  pub span_once : Once (lists_in bs s)
  span_once i k m h j same =
      let p = span_at i k h in
      let q = span_at i m j in
      let eq : two_at bs (block_of bs s i) (6 + 2 * k) ≡ two_at bs (block_of bs s i) (6 + 2 * m) = sym p.2 ∙ same ∙ q.2 in
      ⊎_elim (λ z. z)
      (λ o. absurd (⊎_elim
      (λ l. entries_apart bs (block_of bs s i) (count_on bs (other s)) k m (span_entry i m q.0 q.1) l eq)
      (λ l. entries_apart bs (block_of bs s i) (count_on bs (other s)) m k (span_entry i k p.0 p.1) l (sym eq))
      o))
      (cases_order k m)

-- no entry that is not returned
pub returned_none : (own back : List (List ℕ)) (first : ℕ) → returns_fault own back first ≡ None → Returned own back
returned_none own back first e i j h =
    let xs = get_or own i [] in
    let k = place xs j in
    let f = earliest_each (length own) (party_returns_fault own back first) e i (party_below own i k h) in
    let g = earliest_each (length xs) (return_fault back (first + i) i xs) f k h in
    subst (λ (v : ℕ). place (get_or back v []) i < length (get_or back v [])) (get_or_place xs j h)
    (none_below _ _ (EntryUnreturned (first + i) (6 + 2 * k)) g)

-- lists are lawful if both of their sides are
pub lawful_halves : (L : Rankings) → length L.crews ≤ 500 → length L.sites ≤ 500
    → Within L.crews (length L.sites) → Within L.sites (length L.crews) → Once L.crews → Once L.sites
    → Returned L.crews L.sites → Returned L.sites L.crews → Lawful L
lawful_halves L nc ns wc ws oc os rc rs = record {
  few = elim [ Crew ↦ nc | Site ↦ ns ];
  within = elim [ Crew ↦ wc | Site ↦ ws ];
  once = elim [ Crew ↦ oc | Site ↦ os ];
  returned = elim [ Crew ↦ rc | Site ↦ rs ];
}

-- the lists that were read, where nothing was found on the way
pub lawful_read : (bs : List ℕ) (c s : List (List ℕ)) → c ≡ lists_in bs Crew → s ≡ lists_in bs Site → count_on bs Crew ≤ 250 → count_on bs Site ≤ 250
    → side_fault bs Crew ≡ None → side_fault bs Site ≡ None
    → returns_fault c s (first_on bs Crew) ≡ None → returns_fault s c (first_on bs Site) ≡ None → Lawful (both_of c s)
lawful_read bs c s ec es nc ns fc fs rc rs =
    let lc : length c ≡ count_on bs Crew = rw ec (span_length bs Crew) in
    let ls : length s ≡ count_on bs Site = rw es (span_length bs Site) in
    lawful_halves (both_of c s) (omega arith) (omega arith)
    (rw (ls, ec) (span_within bs Crew fc)) (rw (lc, es) (span_within bs Site fs))
    (rw ec (span_once bs Crew fc)) (rw es (span_once bs Site fs))
    (returned_none c s (first_on bs Crew) rc) (returned_none s c (first_on bs Site) rs)

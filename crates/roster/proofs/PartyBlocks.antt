-- A party's block without a fault in its fields is its list laid down, and the other way round.
use Rattle.std.proofs.Common.{◌≡◌, ℕ, ◌+◌, ◌*◌, ◌<◌, ◌≤◌, List, length, get_or, None, sym, ◌∙◌, ⊎_elim, arith}
use Rattle.std.proofs.lemmas.List.FromFn.{fill_by_all}
use Rattle.std.proofs.lemmas.List.{get_or_past}
use Rattle.std.proofs.lemmas.Bool.{cases_lt}
use Rattle.lists.specs.declared.faults.Fault.TheVariants.{BlockCheck, BlockField}
use Rattle.lists.specs.declared.parties.Side.{Side}
use Rattle.lists.specs.Sides.{other}
use Rattle.roster.specs.Layout.{kind_of, count_on, block_of, byte_at, two_at, four_at, seal, list_in}
use Rattle.roster.specs.FirstFault.{check_fault, byte_fault, number_fault, bound_fault, fields_fault}
use Rattle.roster.specs.LaidDown.{party_text}
use Rattle.lists.proofs.Earliest.{none_first, none_second, or_none}
use Rattle.roster.proofs.Numbers.{high_byte, low_byte, two_back}
use Rattle.roster.proofs.Sealed.{Reads}
use Rattle.roster.proofs.Shown.{entries_at, entries_length}
use Rattle.roster.proofs.Steps.{first_then}
use Rattle.roster.proofs.Tests.{none_equal, equal_none, none_most, most_none}
use Rattle.roster.proofs.Texts.{entry_high, entry_low, entry_bytes}
use Rattle.roster.proofs.Zeros.{zeros_fit, fit_zeros}

-- the fields of a party's block and its entries, none behind the list
pub record Party (bs : List ℕ) (b kind i : ℕ) (xs : List ℕ) : Type 0 where
  pub sort : byte_at bs b 0 ≡ kind
  pub plain : byte_at bs b 1 ≡ 0
  pub number : two_at bs b 2 ≡ i
  pub len : two_at bs b 4 ≡ length xs
  pub table : (k : ℕ) → k < 251 → two_at bs b (6 + 2 * k) ≡ get_or xs k 0
  pub fitting : seal (byte_at bs b) ≡ four_at bs b 508

module _ (bs : List ℕ) (b kind i : ℕ) (xs : List ℕ) where
  pub party_reads : ((j : ℕ) → get_or bs j 0 < 256) → Party bs b kind i xs → Reads bs b (party_text kind i xs)
  party_reads low h = record {
    bytes = λ j l. all j (omega arith) l;
    sealed = h.fitting;
  }
    where
      P : ℕ → Type 0
      P j = byte_at bs b j ≡ get_or (party_text kind i xs) j 0

      all : (j : ℕ) → 0 ≤ j → j < 508 → P j
      all =
          first_then P 508 0 h.sort
          (first_then P 508 1 h.plain
          (first_then P 508 2 (high_byte _ _ i h.number (low _))
          (first_then P 508 3 (low_byte _ _ i h.number (low _))
          (first_then P 508 4 (high_byte _ _ (length xs) h.len (low _))
          (first_then P 508 5 (low_byte _ _ (length xs) h.len (low _))
          (entry_bytes P
          (λ k l. high_byte _ _ (get_or xs k 0) (h.table k l) (low _) ∙ sym (entry_high kind i xs k))
          (λ k l. low_byte _ _ (get_or xs k 0) (h.table k l) (low _) ∙ sym (entry_low kind i xs k))))))))

  pub reads_party : Reads bs b (party_text kind i xs) → Party bs b kind i xs
  reads_party h = record {
    sort = h.bytes 0 (omega arith);
    plain = h.bytes 1 (omega arith);
    number = two_back _ _ i (h.bytes 2 (omega arith)) (h.bytes 3 (omega arith));
    len = two_back _ _ (length xs) (h.bytes 4 (omega arith)) (h.bytes 5 (omega arith));
    table = λ k l. two_back _ _ (get_or xs k 0)
        (h.bytes (6 + 2 * k) (omega arith) ∙ entry_high kind i xs k)
        (h.bytes (6 + 2 * k + 1) (omega arith) ∙ entry_low kind i xs k);
    fitting = h.sealed;
  }

-- what the faults that a party's fields lack say
record Fields (bs : List ℕ) (s : Side) (i : ℕ) : Type 0 where
  fitting : seal (byte_at bs (block_of bs s i)) ≡ four_at bs (block_of bs s i) 508
  sort : byte_at bs (block_of bs s i) 0 ≡ kind_of s
  plain : byte_at bs (block_of bs s i) 1 ≡ 0
  number : two_at bs (block_of bs s i) 2 ≡ i
  bound : two_at bs (block_of bs s i) 4 ≤ count_on bs (other s)
  behind : (j : ℕ) → 6 + 2 * two_at bs (block_of bs s i) 4 ≤ j → j < 508 → byte_at bs (block_of bs s i) j ≡ 0

fields_fit : (bs : List ℕ) (s : Side) (i : ℕ) → fields_fault bs s i ≡ None → Fields bs s i
fields_fit bs s i e =
    let b = block_of bs s i in
    let e1 = none_second (check_fault bs b) _ e in
    let e2 = none_second (byte_fault bs b 0 (kind_of s)) _ e1 in
    let e3 = none_second (byte_fault bs b 1 0) _ e2 in
    let e4 = none_second (number_fault bs b 2 i) _ e3 in
    record {
      fitting = none_equal _ _ (BlockCheck b) (none_first _ _ e);
      sort = none_equal _ _ (BlockField b 0) (none_first _ _ e1);
      plain = none_equal _ _ (BlockField b 1) (none_first _ _ e2);
      number = none_equal _ _ (BlockField b 2) (none_first _ _ e3);
      bound = none_most _ _ (BlockField b 4) (none_first _ _ e4);
      behind = zeros_fit bs b (6 + 2 * two_at bs b 4) 508 (none_second (bound_fault bs b 4 (count_on bs (other s))) _ e4);
    }

-- a block whose fields have no fault holds its own list
module _ (bs : List ℕ) (s : Side) (i : ℕ) (few : count_on bs (other s) ≤ 250) (e : fields_fault bs s i ≡ None) where
  pub list_bound : two_at bs (block_of bs s i) 4 ≤ count_on bs (other s)
  list_bound = (fields_fit bs s i e).bound

  entry_table : (k : ℕ) → k < 251 → two_at bs (block_of bs s i) (6 + 2 * k) ≡ get_or (list_in bs (block_of bs s i)) k 0
  entry_table k l = ⊎_elim
      (λ h. sym (entries_at bs (block_of bs s i) (two_at bs (block_of bs s i) 4) k h))
      (λ h.
      let p = (fields_fit bs s i e).behind (6 + 2 * k) (omega arith) (omega arith) in
      let q = (fields_fit bs s i e).behind (6 + 2 * k + 1) (omega arith) (omega arith) in
      let n = entries_length bs (block_of bs s i) (two_at bs (block_of bs s i) 4) in
      let z : two_at bs (block_of bs s i) (6 + 2 * k) ≡ 0 = omega arith in
      z ∙ sym (get_or_past (list_in bs (block_of bs s i)) k 0 (omega arith)))
      (cases_lt k (two_at bs (block_of bs s i) 4))

  pub fields_party : Party bs (block_of bs s i) (kind_of s) i (list_in bs (block_of bs s i))
  fields_party =
      let f = fields_fit bs s i e in
      record {
        sort = f.sort;
        plain = f.plain;
        number = f.number;
        len = sym (entries_length bs (block_of bs s i) (two_at bs (block_of bs s i) 4));
        table = entry_table;
        fitting = f.fitting;
      }

-- a list that is laid down is read again, and its fields have no fault
module _ (bs : List ℕ) (b kind i : ℕ) (xs : List ℕ) (short : length xs ≤ 250) (h : Party bs b kind i xs) where
  pub party_list : list_in bs b ≡ xs
  party_list =
      let n = h.len in
      sym (fill_by_all (λ (k : ℕ). two_at bs b (6 + 2 * k)) xs (two_at bs b 4) 0 (sym n)
      (λ k l. sym (h.table k (omega arith))))

  zero_entry : (k : ℕ) → k < 251 → length xs ≤ k → two_at bs b (6 + 2 * k) ≡ 0
  zero_entry k l p = h.table k l ∙ get_or_past xs k 0 p

  party_behind : (j : ℕ) → 6 + 2 * two_at bs b 4 ≤ j → j < 508 → byte_at bs b j ≡ 0
  party_behind j g l =
      let n = h.len in
      entry_bytes (λ (x : ℕ). 6 + 2 * length xs ≤ x → byte_at bs b x ≡ 0)
      (λ k m p. let z = zero_entry k m (omega arith) in omega arith)
      (λ k m p. let z = zero_entry k m (omega arith) in omega arith)
      j (omega arith) l (omega arith)

pub party_fields : (bs : List ℕ) (s : Side) (i : ℕ) (xs : List ℕ) → length xs ≤ 250 → length xs ≤ count_on bs (other s)
    → Party bs (block_of bs s i) (kind_of s) i xs → fields_fault bs s i ≡ None
party_fields bs s i xs short bound h =
    let n = h.len in
    or_none _ _ (equal_none _ _ (BlockCheck (block_of bs s i)) h.fitting)
    (or_none _ _ (equal_none _ _ (BlockField (block_of bs s i) 0) h.sort)
    (or_none _ _ (equal_none _ _ (BlockField (block_of bs s i) 1) h.plain)
    (or_none _ _ (equal_none _ _ (BlockField (block_of bs s i) 2) h.number)
    (or_none _ _ (most_none _ _ (BlockField (block_of bs s i) 4) (omega arith))
    (fit_zeros bs (block_of bs s i) (6 + 2 * two_at bs (block_of bs s i) 4) 508 (party_behind bs (block_of bs s i) (kind_of s) i xs short h))))))

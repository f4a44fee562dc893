-- The ring is lawful, and where its parties stand in one another's lists.
use Rattle.std.specs.Prelude.{◌≡◌, ℕ, ◌+◌, ◌-◌, ◌%◌, ◌<◌, ◌≤◌, cond, List, [], length, get_or, Some, None, nat_lt, slice_index, slice_index_or, refl}
use Rattle.std.proofs.Common.{ap, sym, ◌∙◌, subst, ⊎_elim, arith, mod-lt, mod-eq_of_lt}
use Rattle.std.proofs.Math.Nat.{mod-add-mod, add-mod-mod, add-mod_right}
use Rattle.std.proofs.lemmas.Bool.{cases_lt, cond_both, ltb-true, ltb-false}
use Rattle.std.proofs.lemmas.List.{get_or_past}
use Rattle.std.proofs.lemmas.List.FromFn.{length-map-range_with_len, get_or-map-range_with_len}
use Rattle.lists.specs.Rankings.{Lawful, Names, place, half, ranks, size, entry_at, place_of}
use Rattle.lists.specs.Rings.{turn, turns, shift_of, ring_lists}
use Rattle.lists.specs.Evidence.Places.{get_or_place, place_at, no_place, Distinct, gives_some, gives_none}
use Rattle.lists.specs.Sides.{other}
use Rattle.lists.specs.declared.parties.Side.{Side}
use Rattle.lists.specs.declared.parties.Side.TheVariants.{Crew, Site}

-- the place of v in the turn that begins at a
abbrev pub back : ℕ → ℕ → ℕ → ℕ
back n a v = (v + (n - a % n)) % n

-- a step of n - a mod n undoes a
undone : (n a x : ℕ) → 0 < n → (a + (x + (n - a % n))) % n ≡ x % n
undone n a x h =
    let low : a % n < n = mod-lt a h in
    sym (mod-add-mod a n (x + (n - a % n)))
    ∙ ap (λ y. y % n) (let e : a % n + (x + (n - a % n)) ≡ x + n = omega arith in e)
    ∙ add-mod_right x n

pub forth_back : (n a v : ℕ) → v < n → (a + back n a v) % n ≡ v
forth_back n a v h = add-mod-mod a (v + (n - a % n)) n ∙ undone n a v (omega arith) ∙ mod-eq_of_lt h

pub back_forth : (n a k : ℕ) → k < n → back n a ((a + k) % n) ≡ k
back_forth n a k h =
    mod-add-mod (a + k) n (n - a % n)
    ∙ ap (λ y. y % n) (let e : (a + k) + (n - a % n) ≡ a + (k + (n - a % n)) = omega arith in e)
    ∙ undone n a k (omega arith)
    ∙ mod-eq_of_lt h

pub length_turn : (n a : ℕ) → length (turn n a) ≡ n
length_turn n a = length-map-range_with_len (λ k. (a + k) % n) 0 n

pub get_or_turn : (n a k : ℕ) → k < n → slice_index (turn n a) k ≡ (a + k) % n
get_or_turn n a k h = get_or-map-range_with_len (λ i. (a + i) % n) 0 n k k 0 h (omega arith)

pub length_turns : (n shift : ℕ) → length (turns n shift) ≡ n
length_turns n shift = length-map-range_with_len (λ i. turn n (i + shift)) 0 n

pub get_or_turns : (n shift i : ℕ) → i < n → slice_index_or (turns n shift) i [] ≡ turn n (i + shift)
get_or_turns n shift i h = get_or-map-range_with_len (λ k. turn n (k + shift)) 0 n i i [] h (omega arith)

pub get_or_turns_past : (n shift i : ℕ) → n ≤ i → slice_index_or (turns n shift) i [] ≡ []
get_or_turns_past n shift i h = get_or_past (turns n shift) i [] (omega (arith, length_turns n shift))

pub turn_once : (n a : ℕ) → Distinct (turn n a)
turn_once n a k m hk hm e =
    let long = length_turn n a in
    let hk' : k < n = omega arith in
    let hm' : m < n = omega arith in
    sym (back_forth n a k hk')
    ∙ ap (back n a) (sym (get_or_turn n a k hk') ∙ e ∙ get_or_turn n a m hm')
    ∙ back_forth n a m hm'

back_low : (n a v : ℕ) → v < n → back n a v < n
back_low n a v h = mod-lt (v + (n - a % n)) (let p : 0 < n = omega arith in p)

pub place_turn : (n a v : ℕ) → v < n → place (turn n a) v ≡ back n a v
place_turn n a v h =
    let low = back_low n a v h in
    let long = length_turn n a in
    place_at (turn n a) (turn_once n a) v (back n a v) (omega arith) (get_or_turn n a (back n a v) low ∙ forth_back n a v h)

pub turn_within : (n a k : ℕ) → k < n → slice_index (turn n a) k < n
turn_within n a k h =
    let low : (a + k) % n < n = mod-lt (a + k) (let p : 0 < n = omega arith in p) in
    omega (arith, get_or_turn n a k h)

pub place_turn_past : (n a v : ℕ) → n ≤ v → n ≤ place (turn n a) v
place_turn_past n a v h =
    let long = length_turn n a in
    let gone = no_place (turn n a) v (λ k l e. let low = turn_within n a k (omega arith) in omega arith) in
    omega arith

-- both sides alike: the lists of a side are the turns of its shift
pub half_ring : (n u w : ℕ) (s : Side) → half (ring_lists n u w) s ≡ turns n (shift_of u w s)
half_ring n u w Crew = refl
half_ring n u w Site = refl

pub ranks_ring : (n u w : ℕ) (s : Side) (i : ℕ) → i < n → ranks (ring_lists n u w) s i ≡ turn n (i + shift_of u w s)
ranks_ring n u w s i h = ap (λ xs. get_or xs i []) (half_ring n u w s) ∙ get_or_turns n (shift_of u w s) i h

pub ranks_ring_past : (n u w : ℕ) (s : Side) (i : ℕ) → n ≤ i → ranks (ring_lists n u w) s i ≡ []
ranks_ring_past n u w s i h = ap (λ xs. get_or xs i []) (half_ring n u w s) ∙ get_or_turns_past n (shift_of u w s) i h

pub size_ring : (n u w : ℕ) (s : Side) → size (ring_lists n u w) s ≡ n
size_ring n u w s = ap length (half_ring n u w s) ∙ length_turns n (shift_of u w s)

pub length_ring : (n u w : ℕ) (s : Side) (i : ℕ) → i < n → length (ranks (ring_lists n u w) s i) ≡ n
length_ring n u w s i h = ap length (ranks_ring n u w s i h) ∙ length_turn n (i + shift_of u w s)

pub length_ring_past : (n u w : ℕ) (s : Side) (i : ℕ) → n ≤ i → length (ranks (ring_lists n u w) s i) ≡ 0
length_ring_past n u w s i h = ap length (ranks_ring_past n u w s i h)

pub width_ring : (n u w : ℕ) (s : Side) (i : ℕ) → cond (nat_lt i n) n 0 ≡ length (ranks (ring_lists n u w) s i)
width_ring n u w s i =
    cond_both
    (nat_lt i n)
    n
    0
    (λ m. m ≡ length (ranks (ring_lists n u w) s i))
    (λ e. sym (length_ring n u w s i (ltb-true i n e)))
    (λ e. sym (length_ring_past n u w s i (ltb-false i n e)))

length_ring_most : (n u w : ℕ) (s : Side) (i : ℕ) → length (ranks (ring_lists n u w) s i) ≤ n
length_ring_most n u w s i = ⊎_elim
    (λ h. omega (arith, length_ring n u w s i h))
    (λ h. omega (arith, length_ring_past n u w s i h))
    (cases_lt i n)

-- who has a list is of the ring
has_list : (n u w : ℕ) (s : Side) (i k : ℕ) → k < length (ranks (ring_lists n u w) s i) → i < n
has_list n u w s i k h = ⊎_elim (λ l. l) (λ l. let none = length_ring_past n u w s i l in omega arith) (cases_lt i n)

entry_low : (n u w : ℕ) (s : Side) (i k : ℕ) → k < length (ranks (ring_lists n u w) s i) → slice_index (ranks (ring_lists n u w) s i) k < n
entry_low n u w s i k h =
    let l = has_list n u w s i k h in
    let long = length_ring n u w s i l in
    omega (arith, ap (λ xs. slice_index xs k) (ranks_ring n u w s i l), turn_within n (i + shift_of u w s) k (omega arith))

entry_once : (n u w : ℕ) (s : Side) (i : ℕ) → Distinct (ranks (ring_lists n u w) s i)
entry_once n u w s i k m hk hm =
    let l = has_list n u w s i k hk in
    let P : List ℕ → Type 0 = Distinct in
    subst P (sym (ranks_ring n u w s i l)) (turn_once n (i + shift_of u w s)) k m hk hm

pub named : (n u w : ℕ) (s : Side) (i j : ℕ) → i < n → j < n → Names (ring_lists n u w) s i j
named n u w s i j hi hj =
    let at : place (ranks (ring_lists n u w) s i) j ≡ back n (i + shift_of u w s) j
    = ap (λ xs. place xs j) (ranks_ring n u w s i hi) ∙ place_turn n (i + shift_of u w s) j hj in
    let low = back_low n (i + shift_of u w s) j hj in
    omega (arith, length_ring n u w s i hi)

entry_returned : (n u w : ℕ) (s : Side) (i j : ℕ) → Names (ring_lists n u w) s i j → Names (ring_lists n u w) (other s) j i
entry_returned n u w s i j h =
    let is = get_or_place (ranks (ring_lists n u w) s i) j h in
    let low = entry_low n u w s i (place (ranks (ring_lists n u w) s i) j) h in
    named n u w (other s) j i (omega arith) (has_list n u w s i (place (ranks (ring_lists n u w) s i) j) h)

pub ring_lawful : (n u w : ℕ) → n ≤ 500 → Lawful (ring_lists n u w)
ring_lawful n u w h = record {
  few = λ s. omega (arith, size_ring n u w s);
  within = λ s i k l. omega (arith, entry_low n u w s i k l, size_ring n u w (other s));
  once = entry_once n u w;
  returned = entry_returned n u w;
}

-- what stands at a place, and where a party stands
module _ (n u w : ℕ) (s : Side) (i : ℕ) where
  pub entry_ring : (k : ℕ) → i < n → k < n → Some ((i + shift_of u w s + k) % n) ≡ entry_at (ranks (ring_lists n u w) s i) k
  entry_ring k hi hk =
      let long = length_ring n u w s i hi in
      gives_some k (length (ranks (ring_lists n u w) s i)) (slice_index (ranks (ring_lists n u w) s i) k) ((i + shift_of u w s + k) % n) (omega arith)
      (sym (ap (λ xs. slice_index xs k) (ranks_ring n u w s i hi) ∙ get_or_turn n (i + shift_of u w s) k hk))

  -- past the last party nothing stands at any place, and past the last place nothing stands
  pub entry_ring_nobody : (k : ℕ) → n ≤ i → None ≡ entry_at (ranks (ring_lists n u w) s i) k
  entry_ring_nobody k h =
      gives_none k (length (ranks (ring_lists n u w) s i)) (slice_index (ranks (ring_lists n u w) s i) k)
      (omega (arith, length_ring_past n u w s i h))

  pub entry_ring_past : (k : ℕ) → n ≤ k → None ≡ entry_at (ranks (ring_lists n u w) s i) k
  entry_ring_past k h =
      gives_none k (length (ranks (ring_lists n u w) s i)) (slice_index (ranks (ring_lists n u w) s i) k)
      (omega (arith, length_ring_most n u w s i))

  pub place_ring : (v : ℕ) → i < n → v < n → Some (back n (i + shift_of u w s) v) ≡ place_of (ranks (ring_lists n u w) s i) v
  place_ring v hi hv =
      gives_some (place (ranks (ring_lists n u w) s i) v) (length (ranks (ring_lists n u w) s i)) (place (ranks (ring_lists n u w) s i) v)
      (back n (i + shift_of u w s) v) (named n u w s i v hi hv)
      (sym (ap (λ xs. place xs v) (ranks_ring n u w s i hi) ∙ place_turn n (i + shift_of u w s) v hv))

  -- past the last party nobody has a place, and whoever is past the last has none
  pub place_ring_nobody : (v : ℕ) → n ≤ i → None ≡ place_of (ranks (ring_lists n u w) s i) v
  place_ring_nobody v h =
      gives_none (place (ranks (ring_lists n u w) s i) v) (length (ranks (ring_lists n u w) s i)) (place (ranks (ring_lists n u w) s i) v)
      (omega (arith, length_ring_past n u w s i h))

  pub place_ring_past : (v : ℕ) → n ≤ v → None ≡ place_of (ranks (ring_lists n u w) s i) v
  place_ring_past v h =
      gives_none (place (ranks (ring_lists n u w) s i) v) (length (ranks (ring_lists n u w) s i)) (place (ranks (ring_lists n u w) s i) v)
      (no_place (ranks (ring_lists n u w) s i) v (λ k l e. omega (arith, entry_low n u w s i k l)))

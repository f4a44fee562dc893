-- Block by block: the bytes of lists laid down.
use Rattle.std.proofs.Common.{◌≡◌, ℕ, ◌+◌, ◌-◌, ◌*◌, ◌/◌, ◌%◌, ◌<◌, ◌≤◌, List, [], ◌++◌, length, get_or, sym, ap, ◌∙◌, subst, arith}
use Rattle.std.specs.List.{range_with_len}
use Rattle.std.proofs.lemmas.List.{get_or_append_left, get_or-append_right, length-append, ext_get_or}
use Rattle.std.proofs.lemmas.List.FromFn.{length-range_with_len, get_or-range_with_len}
use Rattle.lists.specs.Rankings.{Rankings, half, size}
use Rattle.lists.specs.declared.parties.Side.{Side}
use Rattle.lists.specs.declared.parties.Side.TheVariants.{Crew, Site}
use Rattle.roster.specs.Layout.{byte_at, kind_of}
use Rattle.roster.specs.LaidDown.{block, head_text, party_text, side_blocks, laid_down}
use Rattle.roster.proofs.Pieces.{pieces_length, piece_at}
use Rattle.roster.proofs.Sealed.{Laid, block_length}
use Rattle.roster.proofs.Texts.{party_length}

-- blocks before and behind
module _ (xs ys : List ℕ) (m : ℕ) (long : length xs ≡ 512 * m) where
  pub before_at : (b i : ℕ) → b < m → i < 512 → byte_at (xs ++ ys) b i ≡ byte_at xs b i
  before_at b i l h = get_or_append_left xs ys 0 (512 * b + i) (omega arith)

  pub behind_at : (b i : ℕ) → byte_at (xs ++ ys) (m + b) i ≡ byte_at ys b i
  behind_at b i =
      let z : (512 * (m + b) + i) - 512 * m ≡ 512 * b + i = omega arith in
      get_or-append_right xs ys (512 * m) (512 * (m + b) + i) 0 long (omega arith) ∙ ap (λ (k : ℕ). get_or ys k 0) z

-- bytes that agree block by block
pub same_blocks : (bs ds : List ℕ) (n : ℕ) → length bs ≡ 512 * n → length ds ≡ 512 * n
    → ((b : ℕ) → b < n → (i : ℕ) → i < 512 → byte_at bs b i ≡ byte_at ds b i) → bs ≡ ds
same_blocks bs ds n p q h = ext_get_or 0 bs ds (p ∙ sym q) (λ j l.
    let z : 512 * (j / 512) + j % 512 ≡ j = omega arith in
    subst (λ (x : ℕ). get_or bs x 0 ≡ get_or ds x 0) z (h (j / 512) (omega arith) (j % 512) (omega arith)))

-- lists short enough for a block
abbrev pub Short : List (List ℕ) → Type 0
Short ls = (i : ℕ) → length (get_or ls i []) ≤ 250

module _ (kind : ℕ) (ls : List (List ℕ)) (short : Short ls) where
  pub party_short : (i : ℕ) → length (party_text kind i (get_or ls i [])) ≤ 508
  party_short i = let n = party_length kind i (get_or ls i []) in let s = short i in omega arith

  party_whole : (i : ℕ) → length (block (party_text kind i (get_or ls i []))) ≡ 512
  party_whole i = block_length (party_text kind i (get_or ls i [])) (party_short i)

  pub side_blocks_length : length (side_blocks kind ls) ≡ 512 * length ls
  side_blocks_length =
      pieces_length (λ i. block (party_text kind i (get_or ls i []))) 512 party_whole (range_with_len 0 (length ls))
      ∙ ap (λ (n : ℕ). 512 * n) (length-range_with_len 0 (length ls))

  pub side_blocks_at : (i : ℕ) → i < length ls → Laid (side_blocks kind ls) i (party_text kind i (get_or ls i []))
  side_blocks_at i l j h =
      let n = length-range_with_len 0 (length ls) in
      let z : 0 + i ≡ i = omega arith in
      piece_at (λ i. block (party_text kind i (get_or ls i []))) 512 party_whole (range_with_len 0 (length ls)) i j 0 (omega arith) h
      ∙ ap (λ (k : ℕ). get_or (block (party_text kind k (get_or ls k []))) j 0) (get_or-range_with_len 0 (length ls) i 0 l ∙ z)

-- the block of a side's party 0
abbrev pub first_in : Rankings → Side → ℕ
first_in L Crew = 1
first_in L Site = 1 + length L.crews

module _ (L : Rankings) (short : (s : Side) → Short (half L s)) where
  head_whole : length (block (head_text L)) ≡ 512 * 1
  head_whole = block_length (head_text L) (omega arith)

  crews_length : length (side_blocks 2 L.crews) ≡ 512 * length L.crews
  crews_length = side_blocks_length 2 L.crews (short Crew)

  pub laid_length : length (laid_down L) ≡ 512 * (1 + length L.crews + length L.sites)
  laid_length =
      let h = head_whole in
      let c = crews_length in
      let s = side_blocks_length 3 L.sites (short Site) in
      let p = length-append (block (head_text L)) (side_blocks 2 L.crews ++ side_blocks 3 L.sites) in
      let q = length-append (side_blocks 2 L.crews) (side_blocks 3 L.sites) in
      omega arith

  pub laid_head : Laid (laid_down L) 0 (head_text L)
  laid_head i l =
      let z : 0 + i ≡ i = omega arith in
      before_at (block (head_text L)) (side_blocks 2 L.crews ++ side_blocks 3 L.sites) 1 head_whole 0 i (omega arith) l
      ∙ ap (λ (k : ℕ). get_or (block (head_text L)) k 0) z

  -- behind block 0
  behind_head : (b i : ℕ) → byte_at (laid_down L) (1 + b) i ≡ byte_at (side_blocks 2 L.crews ++ side_blocks 3 L.sites) b i
  behind_head = behind_at (block (head_text L)) (side_blocks 2 L.crews ++ side_blocks 3 L.sites) 1 head_whole

  pub laid_on : (s : Side) (b i : ℕ) → first_in L s + i ≡ b → i < size L s → Laid (laid_down L) b (party_text (kind_of s) i (get_or (half L s) i []))
  laid_on Crew b i e l j h =
      rw (← e)
      (behind_head i j
      ∙ before_at (side_blocks 2 L.crews) (side_blocks 3 L.sites) (length L.crews) crews_length i j l h
      ∙ side_blocks_at 2 L.crews (short Crew) i l j h)
  laid_on Site b i e l j h =
      let z : 1 + (length L.crews + i) ≡ b = omega arith in
      rw (← z)
      (behind_head (length L.crews + i) j
      ∙ behind_at (side_blocks 2 L.crews) (side_blocks 3 L.sites) (length L.crews) crews_length i j
      ∙ side_blocks_at 3 L.sites (short Site) i l j h)

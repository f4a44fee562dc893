-- A block is its text laid down exactly if its bytes are the text's and its check fits.
use Rattle.std.proofs.Common.{◌≡◌, ℕ, ◌+◌, ◌-◌, ◌*◌, ◌/◌, ◌%◌, ◌<◌, ◌≤◌, List, length, get_or, replicate, sym, refl, ap, ◌∙◌, ⊎_elim, arith}
use Rattle.std.proofs.lemmas.List.{get_or_append_left, get_or-append_right, get_or-replicate, get_or_past, length-append, length-replicate}
use Rattle.std.proofs.lemmas.Bool.{cases_lt}
use Rattle.roster.specs.Layout.{byte_at, two_at, four_at, seal}
use Rattle.roster.specs.LaidDown.{four_bytes, padded, block}
use Rattle.roster.proofs.Numbers.{high_byte, low_byte, two_back, high_half, low_half, halves_back}
use Rattle.roster.proofs.Steps.{first_then, none_left}
use Rattle.roster.proofs.Weights.{weighted_same}

-- zeros behind a text change nothing that is read
zeros_at : (n j : ℕ) → ◌≡◌ {A = ℕ} (get_or (replicate n 0) j 0) 0
zeros_at n j = ⊎_elim (λ l. get_or-replicate n j 0 0 l) (λ l. get_or_past (replicate n 0) j 0 (let e = length-replicate {A = ℕ} n 0 in omega arith)) (cases_lt j n)

pub padded_at : (t : List ℕ) (i : ℕ) → get_or (padded t) i 0 ≡ get_or t i 0
padded_at t i = ⊎_elim
    (λ l. get_or_append_left t (replicate (508 - length t) 0) 0 i l)
    (λ l. get_or-append_right t (replicate (508 - length t) 0) (length t) i 0 refl l ∙ zeros_at (508 - length t) (i - length t) ∙ sym (get_or_past t i 0 l))
    (cases_lt i (length t))

pub padded_length : (t : List ℕ) → length t ≤ 508 → length (padded t) ≡ 508
padded_length t l = let a = length-append t (replicate (508 - length t) 0) in let r = length-replicate {A = ℕ} (508 - length t) 0 in omega arith

pub block_length : (t : List ℕ) → length t ≤ 508 → length (block t) ≡ 512
block_length t l =
    let a = length-append (padded t) (four_bytes (seal (λ i. get_or (padded t) i 0))) in
    let p = padded_length t l in
    omega arith

module _ (t : List ℕ) (short : length t ≤ 508) where
  pub block_text : (i : ℕ) → i < 508 → get_or (block t) i 0 ≡ get_or t i 0
  block_text i l =
      let p = padded_length t short in
      get_or_append_left (padded t) (four_bytes (seal (λ k. get_or (padded t) k 0))) 0 i (omega arith) ∙ padded_at t i

  pub block_check : (j : ℕ) → get_or (block t) (508 + j) 0 ≡ get_or (four_bytes (seal (λ k. get_or (padded t) k 0))) j 0
  block_check j =
      let z : (508 + j) - 508 ≡ j = omega arith in
      get_or-append_right (padded t) (four_bytes (seal (λ k. get_or (padded t) k 0))) 508 (508 + j) 0 (padded_length t short) (omega arith)
      ∙ ap (λ (m : ℕ). get_or (four_bytes (seal (λ k. get_or (padded t) k 0))) m 0) z

-- the bytes of a block are those of a text, and its check fits
pub record Reads (bs : List ℕ) (b : ℕ) (t : List ℕ) : Type 0 where
  pub bytes : (i : ℕ) → i < 508 → byte_at bs b i ≡ get_or t i 0
  pub sealed : seal (byte_at bs b) ≡ four_at bs b 508

-- a block is a text laid down
abbrev pub Laid : List ℕ → ℕ → List ℕ → Type 0
Laid bs b t = (i : ℕ) → i < 512 → byte_at bs b i ≡ get_or (block t) i 0

same_seal : (bs : List ℕ) (b : ℕ) (t : List ℕ) → ((i : ℕ) → i < 508 → byte_at bs b i ≡ get_or t i 0) → seal (byte_at bs b) ≡ seal (λ k. get_or (padded t) k 0)
same_seal bs b t h = ap (λ (w : ℕ). w % 131071) (weighted_same (byte_at bs b) (λ k. get_or (padded t) k 0) 508 (λ i l. h i l ∙ sym (padded_at t i)))

module _ (bs : List ℕ) (b : ℕ) (t : List ℕ) (short : length t ≤ 508) where
  pub reads_laid : ((j : ℕ) → get_or bs j 0 < 256) → Reads bs b t → Laid bs b t
  reads_laid low h i l = ⊎_elim
      (λ f. h.bytes i f ∙ sym (block_text t short i f))
      (λ f. check i f l)
      (cases_lt i 508)
    where
      n : ℕ
      n = seal (λ k. get_or (padded t) k 0)

      sealed : four_at bs b 508 ≡ n
      sealed = sym h.sealed ∙ same_seal bs b t h.bytes

      under : (j : ℕ) → two_at bs b j < 65536
      under j = let x = low (512 * b + j) in let y = low (512 * b + (j + 1)) in omega arith

      high : two_at bs b 508 ≡ n / 65536
      high = high_half _ _ n sealed (under 510)

      down : two_at bs b 510 ≡ n % 65536
      down = low_half _ _ n sealed (under 510)

      check : (j : ℕ) → 508 ≤ j → j < 512 → byte_at bs b j ≡ get_or (block t) j 0
      check =
          first_then P 512 508 (high_byte _ _ _ high (low _) ∙ sym (block_check t short 0))
          (first_then P 512 509 (low_byte _ _ _ high (low _) ∙ sym (block_check t short 1))
          (first_then P 512 510 (high_byte _ _ _ down (low _) ∙ sym (block_check t short 2))
          (first_then P 512 511 (low_byte _ _ _ down (low _) ∙ sym (block_check t short 3))
          (none_left P 512 512 (omega arith)))))
        where
          P : ℕ → Type 0
          P j = byte_at bs b j ≡ get_or (block t) j 0

  pub laid_reads : Laid bs b t → Reads bs b t
  laid_reads h = record {
    bytes = text;
    sealed = same_seal bs b t text ∙ sym (halves_back _ _ (seal (λ k. get_or (padded t) k 0))
        (two_back _ _ _ (h 508 (omega arith) ∙ block_check t short 0) (h 509 (omega arith) ∙ block_check t short 1))
        (two_back _ _ _ (h 510 (omega arith) ∙ block_check t short 2) (h 511 (omega arith) ∙ block_check t short 3)));
  }
    where
      text : (i : ℕ) → i < 508 → byte_at bs b i ≡ get_or t i 0
      text i l = h i (omega arith) ∙ block_text t short i l

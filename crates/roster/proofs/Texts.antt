-- What stands where in the text of a party's block.
use Rattle.std.proofs.Common.{◌≡◌, ℕ, ◌+◌, ◌-◌, ◌*◌, ◌/◌, ◌%◌, ◌<◌, ◌≤◌, List, length, get_or, sym, refl, ap, ◌∙◌, subst, ⊎_elim, arith}
use Rattle.std.specs.List.{flat_map}
use Rattle.std.proofs.lemmas.List.{get_or-drop, get_or_past}
use Rattle.std.proofs.lemmas.Bool.{cases_lt, cases_eq}
use Rattle.roster.specs.LaidDown.{two_bytes, party_text}
use Rattle.roster.proofs.Pieces.{pieces_length, piece_at}

module _ (kind i : ℕ) (xs : List ℕ) where
  joined_length : length (flat_map two_bytes xs) ≡ 2 * length xs
  joined_length = pieces_length two_bytes 2 (λ x. refl) xs

  pub party_length : length (party_text kind i xs) ≡ 6 + 2 * length xs
  party_length = let h = joined_length in omega arith

  -- one of the two bytes of an entry; both are zero behind the list
  entry_at : (k j m : ℕ) → 2 * k + j ≡ m → j < 2 → get_or (two_bytes 0) j 0 ≡ 0 → get_or (party_text kind i xs) (6 + m) 0 ≡ get_or (two_bytes (get_or xs k 0)) j 0
  entry_at k j m e h none =
      sym (get_or-drop 6 (party_text kind i xs) m 0)
      ∙ rw (← e)
      (⊎_elim
      (λ l. piece_at two_bytes 2 (λ x. refl) xs k j 0 l h)
      (λ p.
      let long = joined_length in
      let past = get_or_past xs k 0 p in
      get_or_past (flat_map two_bytes xs) (2 * k + j) 0 (omega arith) ∙ sym none ∙ ap (λ (v : ℕ). get_or (two_bytes v) j 0) (sym past))
      (cases_lt k (length xs)))

  pub entry_high : (k : ℕ) → get_or (party_text kind i xs) (6 + 2 * k) 0 ≡ get_or xs k 0 / 256
  entry_high k = entry_at k 0 (2 * k) (omega arith) (omega arith) refl

  pub entry_low : (k : ℕ) → get_or (party_text kind i xs) (6 + 2 * k + 1) 0 ≡ get_or xs k 0 % 256
  entry_low k =
      let e : 6 + 2 * k + 1 ≡ 6 + (2 * k + 1) = omega arith in
      ap (λ (m : ℕ). get_or (party_text kind i xs) m 0) e ∙ entry_at k 1 (2 * k + 1) refl (omega arith) refl

-- two bytes at a time, from byte 6 on
pub entry_bytes : (P : ℕ → Type 0) → ((k : ℕ) → k < 251 → P (6 + 2 * k)) → ((k : ℕ) → k < 251 → P (6 + 2 * k + 1)) → (i : ℕ) → 6 ≤ i → i < 508 → P i
entry_bytes P high low i l h = ⊎_elim
    (λ z. let e : 6 + 2 * ((i - 6) / 2) ≡ i = omega arith in subst P e (high ((i - 6) / 2) (omega arith)))
    (λ z. let e : 6 + 2 * ((i - 6) / 2) + 1 ≡ i = omega arith in subst P e (low ((i - 6) / 2) (omega arith)))
    (cases_eq ((i - 6) % 2) 0)

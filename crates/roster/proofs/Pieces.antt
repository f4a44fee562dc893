-- Pieces of one length, one after another.
use Rattle.std.proofs.Common.{◌≡◌, ℕ, ◌+◌, ◌*◌, ◌<◌, List, [], ◌∷◌, length, get_or, take, sym, ap, ◌∙◌, arith, length-append}
use Rattle.std.specs.List.{flat_map}
use Rattle.std.proofs.lemmas.List.{length-take-le}
use Rattle.std.proofs.lemmas.List.Concat.{get_or-flat_map}

module _ {X : Type 0} (f : X → List ℕ) (c : ℕ) (whole : (x : X) → length (f x) ≡ c) where
  pub pieces_length : (xs : List X) → length (flat_map f xs) ≡ c * length xs
  pieces_length [] = omega arith
  pieces_length (x ∷ xs) =
      let rest = pieces_length xs in
      let here = whole x in
      let both = length-append (f x) (flat_map f xs) in
      omega arith

  pub piece_at : (xs : List X) (i j : ℕ) (e : X) → i < length xs → j < c → get_or (flat_map f xs) (c * i + j) 0 ≡ get_or (f (get_or xs i e)) j 0
  piece_at xs i j e l h =
      let before : length (flat_map f (take i xs)) ≡ c * i = pieces_length (take i xs) ∙ ap (λ (n : ℕ). c * n) (length-take-le i xs (omega arith)) in
      let here = whole (get_or xs i e) in
      ap (λ (n : ℕ). get_or (flat_map f xs) (n + j) 0) (sym before) ∙ get_or-flat_map f xs i j e 0 l (omega arith)

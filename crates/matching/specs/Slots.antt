-- What holds of each entry of a list with its index.
use Rattle.std.specs.Prelude.{ℕ, List, slice_index_or, EachIndex}

abbrev pub EachSlot : {X : Type 0} → List X → (ℕ → X → Type 0) → Type 0
EachSlot {X} xs P = EachIndex xs (λ i. (d : X) → P i (slice_index_or xs i d))

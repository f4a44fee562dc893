-- What the answers to a party's questions tell of its list.
use Rattle.std.proofs.Common.{◌≡◌, ℕ, ◌<◌, ◌≤◌, length, get_or, Some, None, Option, subst}
use Rattle.lists.specs.Rankings.{Rankings, ranks, place, entry_at, place_of}
use Rattle.lists.specs.Evidence.Places.{given_some, given_none}
use Rattle.lists.specs.declared.parties.Party.{Party}
use Rattle.lists.specs.declared.parties.Side.{Side}

module _ (L : Rankings) (s : Side) (i : ℕ) (p : Party) (is : p ≡ record { side = s; number = i }) where
  pub entry_some : (k j : ℕ) → Some j ≡ entry_at (ranks L p.side p.number) k → (k < length (ranks L s i)) × (j ≡ get_or (ranks L s i) k 0)
  entry_some k j e = given_some k (length (ranks L s i)) (get_or (ranks L s i) k 0) j (subst (λ (q : Party). Some j ≡ entry_at (ranks L q.side q.number) k) is e)

  pub entry_none : (k : ℕ) → None ≡ entry_at (ranks L p.side p.number) k → length (ranks L s i) ≤ k
  entry_none k e = given_none k (length (ranks L s i)) (get_or (ranks L s i) k 0) (subst (λ (q : Party). None ≡ entry_at (ranks L q.side q.number) k) is e)

  pub place_some : (v j : ℕ) → Some j ≡ place_of (ranks L p.side p.number) v → (place (ranks L s i) v < length (ranks L s i)) × (j ≡ place (ranks L s i) v)
  place_some v j e = given_some (place (ranks L s i) v) (length (ranks L s i)) (place (ranks L s i) v) j (subst (λ (q : Party). Some j ≡ place_of (ranks L q.side q.number) v) is e)

  pub place_none : (v : ℕ) → None ≡ place_of (ranks L p.side p.number) v → length (ranks L s i) ≤ place (ranks L s i) v
  place_none v e = given_none (place (ranks L s i) v) (length (ranks L s i)) (place (ranks L s i) v) (subst (λ (q : Party). None ≡ place_of (ranks L q.side q.number) v) is e)

  -- the answers themselves
  pub length_of_party : (n : ℕ) → n ≡ length (ranks L p.side p.number) → n ≡ length (ranks L s i)
  length_of_party n e = subst (λ (q : Party). n ≡ length (ranks L q.side q.number)) is e

  pub entry_of_party : (k : ℕ) (o : Option ℕ) → o ≡ entry_at (ranks L p.side p.number) k → o ≡ entry_at (ranks L s i) k
  entry_of_party k o e = subst (λ (q : Party). o ≡ entry_at (ranks L q.side q.number) k) is e

  pub place_of_party : (v : ℕ) (o : Option ℕ) → o ≡ place_of (ranks L p.side p.number) v → o ≡ place_of (ranks L s i) v
  place_of_party v o e = subst (λ (q : Party). o ≡ place_of (ranks L q.side q.number) v) is e

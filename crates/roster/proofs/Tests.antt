-- What the tests say whose faults are absent, and the other way round.
use Rattle.std.proofs.Common.{◌≡◌, ℕ, ◌<◌, ◌≤◌, Bool, true, false, eqb, ltb, leb, None, Some, refl, arith}
use Rattle.std.proofs.lemmas.Bool.{eqb-true, eq-eqb, ltb-true, lt-ltb, leb-true, le-leb, cond-true}
use Rattle.lists.specs.Order.{unless}

pub unless_none : {X : Type 0} (t : Bool) (x : X) → unless t x ≡ None → t ≡ true
unless_none true x e = refl
unless_none false x e = absurd (let z : ◌≡◌ {A = ℕ} 0 1 = cc in omega arith)

pub unless_true : {X : Type 0} (t : Bool) (x : X) → t ≡ true → unless t x ≡ None
unless_true t x e = cond-true t None (Some x) e

module _ {X : Type 0} (m n : ℕ) (x : X) where
  pub none_equal : unless (eqb m n) x ≡ None → m ≡ n
  none_equal e = eqb-true m n (unless_none (eqb m n) x e)

  pub equal_none : m ≡ n → unless (eqb m n) x ≡ None
  equal_none e = unless_true (eqb m n) x (eq-eqb m n e)

  pub none_most : unless (leb m n) x ≡ None → m ≤ n
  none_most e = leb-true m n (unless_none (leb m n) x e)

  pub most_none : m ≤ n → unless (leb m n) x ≡ None
  most_none l = unless_true (leb m n) x (le-leb m n l)

  pub none_below : unless (ltb m n) x ≡ None → m < n
  none_below e = ltb-true m n (unless_none (ltb m n) x e)

  pub below_none : m < n → unless (ltb m n) x ≡ None
  below_none l = unless_true (ltb m n) x (lt-ltb m n l)

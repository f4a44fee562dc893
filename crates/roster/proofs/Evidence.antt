-- What a decoded roster keeps holds in one way only, so nothing is lost where it is kept as a mere fact.
use Rattle.std.specs.Prelude.{◌≡◌, ℕ, List, Some, None, Option, ◌≢◌, refl}
use Rattle.std.proofs.Common.{ap, arith}
use mathlib.Core.HLevel.{Π_prop, Discrete, hedberg}
use Rattle.std.proofs.Math.Bridge.{le_prop}
use Rattle.std.proofs.Math.Decide.{ℕ_discrete}
use Rattle.std.proofs.Math.Nat.{ℕ_set}
use Rattle.lists.specs.Rankings.{Rankings, Lawful}
use Rattle.roster.specs.Held.{Placed}

pub none_some : {X : Type 0} (x : X) → None ≢ Some x
none_some x e = let z : ◌≡◌ {A = ℕ} 0 1 = cc in omega arith

pub some_none : {X : Type 0} (x : X) → Some x ≢ None
some_none x e = let z : ◌≡◌ {A = ℕ} 0 1 = cc in omega arith

pub some_same : (x y : ℕ) → Some x ≡ Some y → x ≡ y
some_same x y e = cc

pub option_discrete : Discrete (Option ℕ)
option_discrete None None = yes refl
option_discrete None (Some y) = no (none_some y)
option_discrete (Some x) None = no (some_none x)
option_discrete (Some x) (Some y) = elim (ℕ_discrete x y) [ yes e ↦ yes (ap Some e) | no n ↦ no (λ e. n (some_same x y e)) ]

pub lawful_prop : (L : Rankings) → IsProp (Lawful L)
lawful_prop L x y = λ t. record {
  few = Π_prop (λ s. le_prop) x.few y.few t;
  within = Π_prop (λ s. Π_prop (λ i. Π_prop (λ k. Π_prop (λ h. le_prop)))) x.within y.within t;
  once = Π_prop (λ s. Π_prop (λ i. Π_prop (λ k. Π_prop (λ m. Π_prop (λ h. Π_prop (λ j. Π_prop (λ e. ℕ_set k m))))))) x.once y.once t;
  returned = Π_prop (λ s. Π_prop (λ i. Π_prop (λ j. Π_prop (λ h. le_prop)))) x.returned y.returned t;
}

pub placed_prop : (xs : List ℕ) (places : List (Option ℕ)) → IsProp (Placed xs places)
placed_prop xs places x y = λ t. Π_prop (λ v. hedberg option_discrete _ _) x y t

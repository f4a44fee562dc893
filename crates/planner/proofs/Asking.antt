-- What asking for something says of the words.
use Rattle.std.proofs.Common.{◌≡◌, ℕ, ◌≤◌, ◌⊎◌, List, [], ◌∷◌, map, length, get_or, None, codes, Option, sym, refl, ap, subst, ap₂, inl, inr, arith}
use Rattle.planner.specs.declared.commands.Command.{Command}
use Rattle.planner.specs.declared.commands.Command.TheVariants.{Help, Input, File, Ring}
use Rattle.planner.specs.Commands.{Writes, Asks, Found}

-- words that ask for something are at most one, or four with the name of a ring first
pub few_words : (ws : List (List ℕ)) (x : Command) → Asks ws x → (length ws ≤ 1) ⊎ ((length ws ≡ 4) × (get_or ws 0 [] ≡ codes "--ring"))
few_words ws Help e = inl (subst (λ l. length l ≤ 1) (sym e) (omega arith))
few_words ws Input e = inl (subst (λ l. length l ≤ 1) (sym e) (omega arith))
few_words ws (File path) h = inl (subst (λ l. length l ≤ 1) (sym h.0) (omega arith))
few_words ws (Ring n u w) h = inr (ap length h.are, ap (λ l. get_or l 0 []) h.are)

-- words for a ring ask for nothing where one of the three is no number
pub no_ring : (a b c : List ℕ) (r : Option Command) → r ≡ None
    → ((n u w : ℕ) → Writes a n → Writes b u → Writes c w → ⊥) → Found r (Asks (codes "--ring" ∷ a ∷ b ∷ c ∷ []))
no_ring a b c r e none = subst (λ r. Found r (Asks (codes "--ring" ∷ a ∷ b ∷ c ∷ []))) (sym e) nothing
  where
    nothing : (x : Command) → Asks (codes "--ring" ∷ a ∷ b ∷ c ∷ []) x → ⊥
    nothing Help h = absurd (omega (arith, ap length h))
    nothing Input h = absurd (omega (arith, ap length h))
    nothing (File path) h = absurd (omega (arith, ap length h.0))
    nothing (Ring n u w) h =
        let at : (k : ℕ) → get_or (codes "--ring" ∷ a ∷ b ∷ c ∷ []) k [] ≡ get_or (codes "--ring" ∷ h.size_word ∷ h.crews_word ∷ h.sites_word ∷ []) k [] = λ k. ap (λ l. get_or l k []) h.are in
        none n u w
        (subst (λ v. Writes v n) (sym (at 1)) h.is_size)
        (subst (λ v. Writes v u) (sym (at 2)) h.is_crews)
        (subst (λ v. Writes v w) (sym (at 3)) h.is_sites)

-- a list of none, one or four, element by element
module _ {A B : Type 0} (f : A → B) where
  pub first_of_map : (xs : List A) (d : A) (e : B) → 1 ≤ length xs → get_or (map f xs) 0 e ≡ f (get_or xs 0 d)
  first_of_map [] d e h = absurd (omega (arith, h))
  first_of_map (x ∷ xs) d e h = refl

  pub map_none : (xs : List A) → length xs ≡ 0 → map f xs ≡ []
  map_none [] e = refl
  map_none (x ∷ xs) e = absurd (omega (arith, e))

  pub map_one : (xs : List A) (x : A) → length xs ≡ 1 → x ≡ get_or xs 0 x → map f xs ≡ f x ∷ []
  map_one [] x e h = absurd (omega (arith, e))
  map_one (a ∷ []) x e h = ap (λ v. f v ∷ []) (sym h)
  map_one (a ∷ b ∷ xs) x e h = absurd (omega (arith, e))

  pub map_four : (xs : List A) (x y z w : A) → length xs ≡ 4 → x ≡ get_or xs 0 x → y ≡ get_or xs 1 y → z ≡ get_or xs 2 z
      → w ≡ get_or xs 3 w → map f xs ≡ f x ∷ f y ∷ f z ∷ f w ∷ []
  map_four (a ∷ b ∷ c ∷ d ∷ []) x y z w e hx hy hz hw =
      ap₂ (λ u v. u ∷ v) (ap f (sym hx)) (ap₂ (λ u v. u ∷ v) (ap f (sym hy)) (ap₂ (λ u v. u ∷ v) (ap f (sym hz)) (ap (λ v. f v ∷ []) (sym hw))))
  map_four [] x y z w e hx hy hz hw = absurd (omega (arith, e))
  map_four (a ∷ []) x y z w e hx hy hz hw = absurd (omega (arith, e))
  map_four (a ∷ b ∷ []) x y z w e hx hy hz hw = absurd (omega (arith, e))
  map_four (a ∷ b ∷ c ∷ []) x y z w e hx hy hz hw = absurd (omega (arith, e))
  map_four (a ∷ b ∷ c ∷ d ∷ g ∷ xs) x y z w e hx hy hz hw = absurd (omega (arith, e))

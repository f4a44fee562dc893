-- Where numbers stand in lists that are put together, and in lists of images.
use Rattle.std.specs.Prelude.{◌≡◌, ℕ, zero, suc, ◌+◌, ◌-◌, ◌<◌, ◌≤◌, List, [], ◌∷◌, ◌++◌, map, length, ◌==◌, ◌≢◌, slice_index, refl}
use Rattle.std.proofs.Common.{ap, sym, ◌∙◌, subst, ⊎_elim, arith, length-append}
use Rattle.std.proofs.lemmas.List.{get_or_append_left, get_or-append_right, get_or-map, length-map}
use Rattle.std.proofs.lemmas.Bool.{cases_lt, cases_eq, cond-true, cond-false, eq-eqb, ne_eqb}
use Rattle.lists.specs.Rankings.{place}
use Rattle.lists.specs.Evidence.Places.{Distinct, get_or_place}

-- the place in a list with one more at its head
pub place_head : (x : ℕ) (xs : List ℕ) (v : ℕ) → x ≡ v → place (x ∷ xs) v ≡ 0
place_head x xs v e = cond-true (x == v) zero (suc (place xs v)) (eq-eqb x v e)

pub place_tail : (x : ℕ) (xs : List ℕ) (v : ℕ) → (x ≢ v) → place (x ∷ xs) v ≡ suc (place xs v)
place_tail x xs v n = cond-false (x == v) zero (suc (place xs v)) (ne_eqb x v n)

-- the place in two lists one after the other
pub place_front : (xs ys : List ℕ) (v : ℕ) → place xs v < length xs → place (xs ++ ys) v ≡ place xs v
place_front [] ys v h = absurd (omega arith)
place_front (x ∷ xs) ys v h = ⊎_elim
    (λ e. place_head x (xs ++ ys) v e ∙ sym (place_head x xs v e))
    (λ n. let t = place_tail x xs v n in
    place_tail x (xs ++ ys) v n ∙ ap suc (place_front xs ys v (omega arith)) ∙ sym t)
    (cases_eq x v)

pub place_behind : (xs ys : List ℕ) (v : ℕ) → length xs ≤ place xs v → place (xs ++ ys) v ≡ length xs + place ys v
place_behind [] ys v h = omega arith
place_behind (x ∷ xs) ys v h = ⊎_elim
    (λ e. absurd (let z = place_head x xs v e in omega arith))
    (λ n. let t = place_tail x xs v n in
    let rest = place_behind xs ys v (omega arith) in
    let here = place_tail x (xs ++ ys) v n in omega arith)
    (cases_eq x v)

-- the place of an image is that of what it is an image of
module _ (f : ℕ → ℕ) (once : (x y : ℕ) → f x ≡ f y → x ≡ y) where
  pub place_image : (xs : List ℕ) (v : ℕ) → place (map f xs) (f v) ≡ place xs v
  place_image [] v = refl
  place_image (x ∷ xs) v = ⊎_elim
      (λ e. place_head (f x) (map f xs) (f v) (ap f e) ∙ sym (place_head x xs v e))
      (λ n. place_tail (f x) (map f xs) (f v) (λ e. n (once x v e)) ∙ ap suc (place_image xs v) ∙ sym (place_tail x xs v n))
      (cases_eq x v)

  pub distinct_image : (xs : List ℕ) → Distinct xs → Distinct (map f xs)
  distinct_image xs d k m hk hm e =
      let long = length-map xs f in
      let lk : k < length xs = omega arith in
      let lm : m < length xs = omega arith in
      d k m lk lm (once (slice_index xs k) (slice_index xs m) (sym (get_or-map f xs k 0 0 lk) ∙ e ∙ get_or-map f xs m 0 0 lm))

-- a number that is no image stands nowhere among images
pub no_image : (f : ℕ → ℕ) (xs : List ℕ) (w : ℕ) → ((x : ℕ) → f x ≢ w) → length xs ≤ place (map f xs) w
no_image f [] w none = omega arith
no_image f (x ∷ xs) w none = let rest = no_image f xs w none in let t = place_tail (f x) (map f xs) w (none x) in omega arith

-- lists that name nobody twice and nobody in common, one after the other
pub distinct_join : (xs ys : List ℕ) → Distinct xs → Distinct ys →
    ((k m : ℕ) → k < length xs → m < length ys → slice_index xs k ≢ slice_index ys m) → Distinct (xs ++ ys)
distinct_join xs ys dx dy apart k m hk hm e =
    let long = length-append xs ys in
    let n = length xs in
    ⊎_elim
    (λ lk. let ek = get_or_append_left xs ys 0 k lk in ⊎_elim
    (λ lm. dx k m lk lm (sym ek ∙ e ∙ get_or_append_left xs ys 0 m lm))
    (λ gm. absurd (apart k (m - n) lk (omega arith) (sym ek ∙ e ∙ get_or-append_right xs ys n m 0 refl gm)))
    (cases_lt m n))
    (λ gk. let ek = get_or-append_right xs ys n k 0 refl gk in ⊎_elim
    (λ lm. absurd (apart m (k - n) lm (omega arith) (sym (get_or_append_left xs ys 0 m lm) ∙ sym e ∙ ek)))
    (λ gm. let same = dy (k - n) (m - n) (omega arith) (omega arith) (sym ek ∙ e ∙ get_or-append_right xs ys n m 0 refl gm) in omega arith)
    (cases_lt m n))
    (cases_lt k n)

-- a list of one
pub distinct_one : (x : ℕ) → Distinct (x ∷ [])
distinct_one x k m hk hm e = omega arith

-- what holds of every entry of two lists holds of those of both together
module _ (P : ℕ → Type 0) where
  pub each_join : (xs ys : List ℕ) → ((k : ℕ) → k < length xs → P (slice_index xs k)) → ((k : ℕ) → k < length ys → P (slice_index ys k)) →
      (k : ℕ) → k < length (xs ++ ys) → P (slice_index (xs ++ ys) k)
  each_join xs ys hx hy k h =
      let long = length-append xs ys in
      let n = length xs in
      ⊎_elim
      (λ l. subst P (sym (get_or_append_left xs ys 0 k l)) (hx k l))
      (λ g. subst P (sym (get_or-append_right xs ys n k 0 refl g)) (hy (k - n) (omega arith)))
      (cases_lt k n)

  pub each_image : (f : ℕ → ℕ) (xs : List ℕ) → ((k : ℕ) → k < length xs → P (f (slice_index xs k))) → (k : ℕ) → k < length (map f xs) → P (slice_index (map f xs) k)
  each_image f xs h k l =
      let long = length-map xs f in
      let m : k < length xs = omega arith in
      subst P (sym (get_or-map f xs k 0 0 m)) (h k m)

  pub each_one : (x : ℕ) → P x → (k : ℕ) → k < length (x ∷ []) → P (slice_index (x ∷ []) k)
  each_one x h zero l = h
  each_one x h (suc k) l = absurd (omega arith)

  -- what is named in a list stands in it
  pub each_named : (xs : List ℕ) → ((k : ℕ) → k < length xs → P (slice_index xs k)) → (v : ℕ) → place xs v < length xs → P v
  each_named xs h v l = subst P (get_or_place xs v l) (h (place xs v) l)

-- One step of deferred acceptance keeps what is kept.
use Rattle.std.proofs.Common.{◌≡◌, ℕ, suc, ◌<◌, ◌≤◌, ◌⊎◌, List, length, get_or, sym, refl, ap, ◌∙◌, subst, inl, inr, ⊎_elim, arith}
use Rattle.std.proofs.lemmas.Bool.{cases_lt, cases_eq}
use Rattle.lists.specs.Rankings.{Rankings, Lawful, Names, ranks, place}
use Rattle.lists.specs.Evidence.Places.{get_or_place, place_first, place_at, Distinct}
use Rattle.lists.specs.declared.parties.Side.{Side}
use Rattle.lists.specs.declared.parties.Side.TheVariants.{Crew, Site}
use Rattle.matching.specs.Plans.{With, Listed}
use Rattle.matching.specs.Stability.{Stable}
use Rattle.matching.specs.Acceptance.{Asking}

module _ (L : Rankings) (lawful : Lawful L) where
  distinct : (s : Side) (i : ℕ) → Distinct (ranks L s i)
  distinct s i = lawful.once s i

  -- what stands in a list is named by it
  pub named : (s : Side) (i k : ℕ) → k < length (ranks L s i) → Names L s i (get_or (ranks L s i) k 0)
  named s i k h = let e = place_first (ranks L s i) (get_or (ranks L s i) k 0) k h refl in omega arith

  pub listed_entry : (i k : ℕ) → k < length (ranks L Crew i) → Listed L i (get_or (ranks L Crew i) k 0)
  listed_entry i k h = let n = named Crew i k h in (n, lawful.returned Crew i (get_or (ranks L Crew i) k 0) n)

  -- a site that prefers y to x never has x in a stable plan, if y has lost nothing that it has in one
  pub never_lost : (Q : List ℕ) → Stable L Q → (x y j r : ℕ) → (x ≡ y → ⊥) → r < length (ranks L Crew y) → get_or (ranks L Crew y) r 0 ≡ j →
      place (ranks L Site j) y < place (ranks L Site j) x →
      ((k : ℕ) → k < r → With Q Crew y (get_or (ranks L Crew y) k 0) → ⊥) → With Q Crew x j → ⊥
  never_lost Q stable x y j r apart asked entry before kept has =
      let ys = ranks L Crew y in
      let at : place ys j ≡ r = place_at ys (distinct Crew y) j r asked entry in
      let listed : Listed L y j = rw entry at (listed_entry y r asked) in
      stable.steady y j (
        listed,
        (λ k with-k. rather k with-k (cases_lt (place ys j) (place ys k))),
        (λ i with-i. rw (stable.plan.single j x i has with-i) at before),
      )
    where
      rather : (k : ℕ) → With Q Crew y k → (place (ranks L Crew y) j < place (ranks L Crew y) k) ⊎ (place (ranks L Crew y) k ≤ place (ranks L Crew y) j) →
          place (ranks L Crew y) j < place (ranks L Crew y) k
      rather k w (inl h) = h
      rather k w (inr h) =
          let ys = ranks L Crew y in
          let at : place ys j ≡ r = place_at ys (distinct Crew y) j r asked entry in
          let listed = (stable.plan.listed y k w).0 in
          let found : get_or ys (place ys k) 0 ≡ k = get_or_place ys k listed in
          ⊎_elim
          (λ lower. absurd (kept (place ys k) lower (rw found w)))
          (λ same. let e : place ys k ≡ r = omega arith in
          let is : k ≡ j = sym found ∙ ap (λ p. get_or ys p 0) e ∙ entry in
          absurd (apart (stable.plan.single j x y has (rw is at w))))
          (cases_lt (place ys k) r)

-- a fact of what every site holds, where one site has taken a crew and every other holds what it held
by_site : (holder holder' : ℕ → ℕ) (j y : ℕ) → holder' j ≡ suc y → ((s : ℕ) → (s ≡ j → ⊥) → holder' s ≡ holder s) → (P : ℕ → ℕ → Type 0) →
    ((i : ℕ) → i ≡ y → P j i) → ((s i : ℕ) → (s ≡ j → ⊥) → holder s ≡ suc i → P s i) → (s i : ℕ) → holder' s ≡ suc i → P s i
by_site holder holder' j y taken as-held P here there s i e =
    ⊎_elim (λ same. rw same (here i (let t : holder' j ≡ suc i = rw same at e in omega arith)))
    (λ other. there s i other (sym (as-held s other) ∙ e)) (cases_eq s j)

-- what changes where one crew is refused: its count, and the site's hold
module _ (L : Rankings) (lawful : Lawful L) (refusals holder rank refusals' holder' rank' : ℕ → ℕ) (n a j x y : ℕ)
    (before : Asking L refusals holder rank n a)
    (one_more : refusals' x ≡ suc (refusals x)) (as-often : (i : ℕ) → (i ≡ x → ⊥) → refusals' i ≡ refusals i)
    (taken : holder' j ≡ suc y) (as-held : (s : ℕ) → (s ≡ j → ⊥) → holder' s ≡ holder s)
    (marked : rank' j ≡ place (ranks L Site j) y) (as-marked : (s : ℕ) → (s ≡ j → ⊥) → rank' s ≡ rank s)
    (apart : x ≡ y → ⊥) (winner-begun : y < n)
    (x-asked : refusals x < length (ranks L Crew x)) (x-at : get_or (ranks L Crew x) (refusals x) 0 ≡ j)
    (y-asked : refusals y < length (ranks L Crew y)) (y-at : get_or (ranks L Crew y) (refusals y) 0 ≡ j)
    (better : place (ranks L Site j) y < place (ranks L Site j) x)
    (asker : (i : ℕ) → (i ≡ x → ⊥) → (i ≡ y → ⊥) → i ≡ a → ⊥)
    (held : (i : ℕ) → holder j ≡ suc i → (i ≡ x) ⊎ (i ≡ y))
    (no-worse : (i : ℕ) → holder j ≡ suc i → place (ranks L Site j) y ≤ place (ranks L Site j) i)
    (nowhere-else : (s : ℕ) → (s ≡ j → ⊥) → holder s ≡ suc x → ⊥) where
  abbrev held_fact : (P : ℕ → ℕ → Type 0) → ((i : ℕ) → i ≡ y → P j i) → ((s i : ℕ) → (s ≡ j → ⊥) → holder s ≡ suc i → P s i) → (s i : ℕ) → holder' s ≡ suc i → P s i
  held_fact = by_site holder holder' j y taken as-held

  not_refused : (s i : ℕ) → holder' s ≡ suc i → i ≡ x → ⊥
  not_refused = held_fact (λ s i. i ≡ x → ⊥) (λ i e f. apart (sym f ∙ e)) (λ s i other e f. nowhere-else s other (e ∙ ap suc f))

  refused_next : (i k : ℕ) → k < refusals' i → ((i ≡ x) × (k ≡ refusals x)) ⊎ (k < refusals i)
  refused_next i k h = ⊎_elim
      (λ e. ⊎_elim (λ l. inr (rw e l))
      (λ l. inl (e, (let m : k < suc (refusals x) = subst (λ v. k < v) (ap refusals' e ∙ one_more) h in omega arith))) (cases_lt k (refusals x)))
      (λ d. inr (rw (as-often i d) at h)) (cases_eq i x)

  still_engaged : (i : ℕ) → i < n → (i ≡ x → ⊥) → refusals i < length (ranks L Crew i) → holder' (get_or (ranks L Crew i) (refusals i) 0) ≡ suc i
  still_engaged i h d m = ⊎_elim
      (λ e. rw e (ap holder' y-at ∙ taken))
      (λ f. let site = get_or (ranks L Crew i) (refusals i) 0 in
      let old : holder site ≡ suc i = before.engaged i h (asker i d f) m in
      ⊎_elim (λ same. absurd (⊎_elim d f (held i (ap holder (sym same) ∙ old)))) (λ other. as-held site other ∙ old) (cases_eq site j))
      (cases_eq i y)

  -- a site holds a crew that it ranks before i
  abbrev Beaten : ℕ → ℕ → Type 0
  Beaten s i = (b : ℕ) × (holder' s ≡ suc b) × (place (ranks L Site s) b < place (ranks L Site s) i)

  still_beaten : (i k : ℕ) → k < refusals' i → Beaten (get_or (ranks L Crew i) k 0) i
  still_beaten i k h = ⊎_elim
      (λ e. rw e.0 (rw e.1 (rw x-at (y, taken, better))))
      (λ l. let old = before.refused i k l in let site = get_or (ranks L Crew i) k 0 in
      ⊎_elim
      (λ same. let first = rw same at old.2 in
      let no-later = no-worse old.0 (ap holder (sym same) ∙ old.1) in
      rw same (y, taken, omega arith))
      (λ other. (old.0, as-held site other ∙ old.1, old.2))
      (cases_eq site j))
      (refused_next i k h)

  pub refused_step : Asking L refusals' holder' rank' n x
  refused_step = record {
    reach = λ i. ⊎_elim
        (λ e. rw e (omega arith))
        (λ d. rw (as-often i d) (before.reach i)) (cases_eq i x);
    engaged = λ i h d m. ap (λ v. holder' (get_or (ranks L Crew i) v 0)) (as-often i d) ∙ still_engaged i h d (rw (as-often i d) at m);
    begun = held_fact (λ s i. i < n) (λ i e. rw e winner-begun) (λ s i other e. before.begun s i e);
    answered = not_refused;
    asked = λ s i e. rw (as-often i (not_refused s i e)) (held_fact (λ s i. refusals i < length (ranks L Crew i)) (λ i e. rw e y-asked) (λ s i _ e. before.asked s i e) s i e);
    holds = λ s i e. ap (λ v. get_or (ranks L Crew i) v 0) (as-often i (not_refused s i e)) ∙
        held_fact (λ s i. get_or (ranks L Crew i) (refusals i) 0 ≡ s) (λ i e. rw e y-at) (λ s i _ e. before.holds s i e) s i e;
    noted = held_fact (λ s i. rank' s ≡ place (ranks L Site s) i) (λ i e. marked ∙ ap (place (ranks L Site j)) (sym e)) (λ s i other e. as-marked s other ∙ before.noted s i e);
    refused = still_beaten;
    unlost = λ Q stable i k h w. ⊎_elim
        (λ e. never_lost L lawful Q stable x y j (refusals y) apart y-asked y-at better (before.unlost Q stable y)
        (rw x-at at (rw e.1 at (rw e.0 at w))))
        (λ l. before.unlost Q stable i k l w) (refused_next i k h);
  }

-- what changes where a site that holds nobody takes the crew that asks: then nobody is asking
module _ (L : Rankings) (refusals holder rank holder' rank' : ℕ → ℕ) (n a j : ℕ)
    (before : Asking L refusals holder rank n a)
    (free : holder j ≡ 0)
    (taken : holder' j ≡ suc a) (as-held : (s : ℕ) → (s ≡ j → ⊥) → holder' s ≡ holder s)
    (marked : rank' j ≡ place (ranks L Site j) a) (as-marked : (s : ℕ) → (s ≡ j → ⊥) → rank' s ≡ rank s)
    (has-begun : a < n) (a-asked : refusals a < length (ranks L Crew a)) (a_at : get_or (ranks L Crew a) (refusals a) 0 ≡ j) where
  abbrev taken_fact : (P : ℕ → ℕ → Type 0) → ((i : ℕ) → i ≡ a → P j i) → ((s i : ℕ) → (s ≡ j → ⊥) → holder s ≡ suc i → P s i) → (s i : ℕ) → holder' s ≡ suc i → P s i
  taken_fact = by_site holder holder' j a taken as-held

  -- a site that held somebody is another one
  elsewhere : (s i : ℕ) → holder s ≡ suc i → s ≡ j → ⊥
  elsewhere s i e same = let z : holder j ≡ suc i = ap holder (sym same) ∙ e in omega arith

  pub taken_step : Asking L refusals holder' rank' n n
  taken_step = record {
    reach = before.reach;
    engaged = λ i h _ m. ⊎_elim
        (λ e. rw e (ap holder' a_at ∙ taken))
        (λ d. let old = before.engaged i h d m in as-held (get_or (ranks L Crew i) (refusals i) 0) (elsewhere (get_or (ranks L Crew i) (refusals i) 0) i old) ∙ old)
        (cases_eq i a);
    begun = taken_fact (λ s i. i < n) (λ i e. omega arith) (λ s i other e. before.begun s i e);
    answered = λ s i e f. let h = taken_fact (λ s i. i < n) (λ i e. omega arith) (λ s i other e. before.begun s i e) s i e in omega arith;
    asked = taken_fact (λ s i. refusals i < length (ranks L Crew i)) (λ i e. rw e a-asked) (λ s i _ e. before.asked s i e);
    holds = taken_fact (λ s i. get_or (ranks L Crew i) (refusals i) 0 ≡ s) (λ i e. rw e a_at) (λ s i _ e. before.holds s i e);
    noted = taken_fact (λ s i. rank' s ≡ place (ranks L Site s) i) (λ i e. marked ∙ ap (place (ranks L Site j)) (sym e)) (λ s i other e. as-marked s other ∙ before.noted s i e);
    refused = λ i k h. let old = before.refused i k h in
        (old.0, as-held (get_or (ranks L Crew i) k 0) (elsewhere (get_or (ranks L Crew i) k 0) old.0 old.1) ∙ old.1, old.2);
    unlost = before.unlost;
  }

module _ (L : Rankings) (refusals holder rank : ℕ → ℕ) (n : ℕ) where
  -- a crew that every entry has refused asks no more
  pub given_up : (a : ℕ) → Asking L refusals holder rank n a → length (ranks L Crew a) ≤ refusals a → Asking L refusals holder rank n n
  given_up a before all = record {
    reach = before.reach;
    engaged = λ i h _ m. ⊎_elim
        (λ e. absurd (let o = rw e at m in omega arith))
        (λ d. before.engaged i h d m) (cases_eq i a);
    begun = before.begun;
    answered = λ s i e f. let h = before.begun s i e in omega arith;
    asked = before.asked;
    holds = before.holds;
    noted = before.noted;
    refused = before.refused;
    unlost = before.unlost;
  }

  -- one crew more begins, and is asking
  pub one_begins : Asking L refusals holder rank n n → Asking L refusals holder rank (suc n) n
  one_begins before = record {
    reach = before.reach;
    engaged = λ i h d m. before.engaged i (omega arith) d m;
    begun = λ s i e. let h = before.begun s i e in omega arith;
    answered = λ s i e f. let h = before.begun s i e in omega arith;
    asked = before.asked;
    holds = before.holds;
    noted = before.noted;
    refused = before.refused;
    unlost = before.unlost;
  }

-- before the first question
pub nobody_begun : (L : Rankings) (refusals holder rank : ℕ → ℕ) → ((i : ℕ) → refusals i ≡ 0) → ((j : ℕ) → holder j ≡ 0) → Asking L refusals holder rank 0 0
nobody_begun L refusals holder rank none free = record {
  reach = λ i. omega (arith, none i);
  engaged = λ i h. omega arith;
  begun = λ s i e. omega (arith, free s);
  answered = λ s i e f. omega (arith, free s);
  asked = λ s i e. omega (arith, free s);
  holds = λ s i e. omega (arith, free s);
  noted = λ s i e. omega (arith, free s);
  refused = λ i k h. absurd (omega (arith, none i));
  unlost = λ Q stable i k h w. omega (arith, none i);
}

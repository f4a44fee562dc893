-- The vote of a party between two partners, and the lead of a plan turned round.
use Rattle.std.proofs.Common.{◌≡◌, ℕ, zero, suc, ◌<◌, Bool, true, false, cond, List, length, get_or, pos, negsuc, neg_ℤ, sym, refl, ap, ◌∙◌, arith}
use Rattle.std.proofs.lemmas.Int.{ints}
use Rattle.std.proofs.lemmas.Bool.Decides.{nat_tests}
use Rattle.lists.specs.Rankings.{Rankings, ranks, place, size}
use Rattle.lists.specs.Evidence.Places.{get_or_place}
use Rattle.lists.specs.declared.parties.Side.{Side}
use Rattle.lists.specs.declared.parties.Side.TheVariants.{Crew, Site}
use Rattle.matching.specs.Leads.{LeadIsAntisymmetric}
use Rattle.matching.specs.Plans.{partner_of}
use Rattle.matching.specs.Votes.{likes, vote, votes_of}
use Rattle.matching.proofs.Balances.{balance_turned}

-- of two partners at most one is liked better
likes_one : (xs : List ℕ) (p q : ℕ) → likes xs p q ≡ true → likes xs q p ≡ false
likes_one xs zero q e = cc
likes_one xs (suc p) zero e = refl
likes_one xs (suc p) (suc q) e = grind (arith, nat_tests)

pub likes_same : (xs : List ℕ) (p : ℕ) → likes xs p p ≡ false
likes_same xs zero = refl
likes_same xs (suc p) = grind (arith, nat_tests)

pub vote_same : (xs : List ℕ) (p : ℕ) → vote xs p p ≡ pos 0
vote_same xs p = simp (likes_same xs p)

-- a party has a vote between two different partners that it names
pub vote_apart : (xs : List ℕ) (p q : ℕ) → place xs p < length xs → ((k : ℕ) → q ≡ suc k → place xs k < length xs) → (q ≡ suc p → ⊥) →
    vote xs (suc p) q ≡ cond (likes xs (suc p) q) (pos 1) (negsuc 0)
vote_apart xs p zero named others apart = refl
vote_apart xs p (suc q) named others apart =
    let differ : place xs p ≡ place xs q → ⊥ = λ e. apart (ap suc (sym (get_or_place xs q (others q refl)) ∙ ap (λ k. get_or xs k 0) (sym e) ∙ get_or_place xs p named)) in
    grind (arith, nat_tests)

vote_turned : (xs : List ℕ) (p q : ℕ) → vote xs q p ≡ neg_ℤ (vote xs p q)
vote_turned xs p q = turned (likes xs p q) (likes xs q p) (likes_one xs p q)
  where
    turned : (a b : Bool) → (a ≡ true → b ≡ false) → cond b (pos 1) (cond a (negsuc 0) (pos 0)) ≡ neg_ℤ (cond a (pos 1) (cond b (negsuc 0) (pos 0)))
    turned true true one = absurd (let f = one refl in let z : ◌≡◌ {A = ℕ} 0 1 = cc in omega arith)
    turned true false one = refl
    turned false true one = refl
    turned false false one = refl

votes_turned : (L : Rankings) (P Q : List ℕ) (s : Side) → votes_of L Q P s ≡ neg_ℤ (votes_of L P Q s)
votes_turned L P Q s = balance_turned (size L s) _ _ (λ i. vote_turned (ranks L s i) (partner_of P s i) (partner_of Q s i))

pub lead_turned : LeadIsAntisymmetric
lead_turned L P Q =
    let crews = votes_turned L P Q Crew in
    let sites = votes_turned L P Q Site in
    omega (arith, ints)

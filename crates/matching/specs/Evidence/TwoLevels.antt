-- The two-level lists of lawful lists are lawful, and where their parties stand in one another's lists.
use Rattle.std.specs.Prelude.{◌≡◌, ℕ, suc, ◌+◌, ◌-◌, ◌*◌, ◌/◌, ◌%◌, ◌<◌, ◌≤◌, true, List, [], ◌∷◌, map, length, ◌==◌, ◌≢◌, nat_le, nat_lt, slice_index, slice_index_or, refl}
use Rattle.std.proofs.Common.{ap, sym, ◌∙◌, subst, ⊎_elim, arith, length-append}
use Rattle.std.proofs.lemmas.List.FromFn.{length-map-range_with_len, get_or-map-range_with_len}
use Rattle.std.proofs.lemmas.List.{get_or_past, length-map}
use Rattle.std.proofs.lemmas.Bool.{cases_lt, cases_Bool, cond-true, cond-false, and_parts, leb-true, eq-eqb, ne_eqb, lt-ltb, le-ltb}
use Rattle.lists.specs.Rankings.{Rankings, Lawful, Names, half, ranks, place, size}
use Rattle.lists.specs.Evidence.Places.{Distinct, place_first, no_place}
use Rattle.lists.specs.Sides.{other}
use Rattle.lists.specs.declared.parties.Side.{Side}
use Rattle.lists.specs.declared.parties.Side.TheVariants.{Crew, Site}
use Rattle.matching.specs.TwoLevels.{lower, upper, stand_in_of, lower_list, upper_list, crew_list, split_list, own_list, site_list, fits_two_levels, crew_total, site_total, two_levels_of}
use Rattle.matching.specs.Evidence.Halves.{half_lower, half_upper, rest_lower, rest_upper, lower_or_upper, lower_once, upper_once, lower_not_upper}
use Rattle.matching.specs.Evidence.Joins.{place_head, place_tail, place_front, place_behind, place_image, distinct_image, no_image, distinct_join, distinct_one, each_join, each_image, each_one, each_named}

-- where the parties of a split list stand
module _ (xs : List ℕ) where
  pub length_split : length (split_list xs) ≡ length xs + length xs
  length_split = let a = length-append (map upper xs) (map lower xs) in let u = length-map xs upper in let l = length-map xs lower in omega arith

  pub place_split_upper : (i : ℕ) → place xs i < length xs → place (split_list xs) (upper i) ≡ place xs i
  place_split_upper i h =
      let at = place_image upper upper_once xs i in
      let u = length-map xs upper in
      place_front (map upper xs) (map lower xs) (upper i) (omega arith) ∙ at

  pub place_split_lower : (i : ℕ) → place (split_list xs) (lower i) ≡ length xs + place xs i
  place_split_lower i =
      let u = length-map xs upper in
      let none = no_image upper xs (lower i) (λ x e. lower_not_upper i x (sym e)) in
      let at = place_image lower lower_once xs i in
      let b = place_behind (map upper xs) (map lower xs) (lower i) (omega arith) in
      omega arith

  distinct_split : Distinct xs → Distinct (split_list xs)
  distinct_split d = distinct_join (map upper xs) (map lower xs) (distinct_image upper upper_once xs d) (distinct_image lower lower_once xs d) apart
    where
      apart : (k m : ℕ) → k < length (map upper xs) → m < length (map lower xs) → slice_index (map upper xs) k ≢ slice_index (map lower xs) m
      apart k m hk hm =
          each_image (λ v. v ≢ slice_index (map lower xs) m) upper xs
          (λ k _. each_image (λ v. upper (slice_index xs k) ≢ v) lower xs (λ m _ e. lower_not_upper (slice_index xs m) (slice_index xs k) (sym e)) m hm) k hk

distinct_own : (i : ℕ) → Distinct (own_list i)
distinct_own i = distinct_join (lower i ∷ []) (upper i ∷ []) (distinct_one (lower i)) (distinct_one (upper i))
    (λ k m hk hm. each_one (λ v. v ≢ slice_index (upper i ∷ []) m) (lower i)
    (each_one (λ v. lower i ≢ v) (upper i) (lower_not_upper i i) m hm) k hk)

pub place_own_lower : (i : ℕ) → place (own_list i) (lower i) ≡ 0
place_own_lower i = place_head (lower i) (upper i ∷ []) (lower i) refl

pub place_own_upper : (i : ℕ) → place (own_list i) (upper i) ≡ 1
place_own_upper i = place_tail (lower i) (upper i ∷ []) (upper i) (lower_not_upper i i) ∙ ap suc (place_head (upper i) [] (upper i) refl)

module _ (L : Rankings) where
  pub crew_lower : (i : ℕ) → crew_list L (lower i) ≡ lower_list L i
  crew_lower i =
      cond-true (lower i % 2 == 0) (lower_list L (lower i / 2)) (upper_list L (lower i / 2)) (eq-eqb (lower i % 2) 0 (rest_lower i))
      ∙ ap (lower_list L) (half_lower i)

  pub crew_upper : (i : ℕ) → crew_list L (upper i) ≡ upper_list L i
  crew_upper i =
      cond-false (upper i % 2 == 0) (lower_list L (upper i / 2)) (upper_list L (upper i / 2)) (ne_eqb (upper i % 2) 0 (λ e. omega (arith, rest_upper i)))
      ∙ ap (upper_list L) (half_upper i)

  pub site_split : (y : ℕ) → y < size L Site → site_list L y ≡ split_list (ranks L Site y)
  site_split y h = cond-true (nat_lt y (size L Site)) (split_list (ranks L Site y)) (own_list (y - size L Site)) (lt-ltb y (size L Site) h)

  pub site_own : (i : ℕ) → site_list L (stand_in_of L i) ≡ own_list i
  site_own i =
      cond-false (nat_lt (stand_in_of L i) (size L Site)) (split_list (ranks L Site (stand_in_of L i))) (own_list (stand_in_of L i - size L Site)) (le-ltb (stand_in_of L i) (size L Site) (omega arith))
      ∙ ap own_list (let e : stand_in_of L i - size L Site ≡ i = omega arith in e)

  pub size_crews : size (two_levels_of L) Crew ≡ crew_total L
  size_crews = length-map-range_with_len (crew_list L) 0 (crew_total L)

  pub size_sites : size (two_levels_of L) Site ≡ site_total L
  size_sites = length-map-range_with_len (site_list L) 0 (site_total L)

  pub ranks_crew : (x : ℕ) → x < crew_total L → ranks (two_levels_of L) Crew x ≡ crew_list L x
  ranks_crew x h = get_or-map-range_with_len (crew_list L) 0 (crew_total L) x x [] h (omega arith)

  pub ranks_site : (y : ℕ) → y < site_total L → ranks (two_levels_of L) Site y ≡ site_list L y
  ranks_site y h = get_or-map-range_with_len (site_list L) 0 (site_total L) y y [] h (omega arith)

  -- lists that are not too large, with the counts that they give
  pub record Sized : Type 0 where
    pub crews_few : size L Crew ≤ 250
    pub sites_few : size L Site ≤ 250
    pub crews_are : crew_total L ≡ 2 * size L Crew
    pub sites_are : site_total L ≡ size L Site + size L Crew

  pub sized : fits_two_levels L ≡ true → Sized
  sized t =
      let two = and_parts (nat_le (size L Crew) 250) (nat_le (size L Site) 250) t in
      record {
        crews_few = leb-true (size L Crew) 250 two.0;
        sites_few = leb-true (size L Site) 250 two.1;
        crews_are = cond-true (fits_two_levels L) (2 * size L Crew) 0 t;
        sites_are = cond-true (fits_two_levels L) (size L Site + size L Crew) 0 t;
      }

  -- where there is a crew or a site at all, the lists are not too large
  pub sized_by_crew : (x : ℕ) → x < crew_total L → Sized
  sized_by_crew x h = ⊎_elim sized (λ f. absurd (let z = cond-false (fits_two_levels L) (2 * size L Crew) 0 f in omega arith)) (cases_Bool (fits_two_levels L))

  pub sized_by_site : (y : ℕ) → y < site_total L → Sized
  sized_by_site y h = ⊎_elim sized (λ f. absurd (let z = cond-false (fits_two_levels L) (size L Site + size L Crew) 0 f in omega arith)) (cases_Bool (fits_two_levels L))

  -- the numbers of crews and sites, by what they come from
  pub by_crew : (P : ℕ → Type 0) (x : ℕ) → x < crew_total L →
      ((i : ℕ) → i < size L Crew → P (lower i)) → ((i : ℕ) → i < size L Crew → P (upper i)) → P x
  by_crew P x h low up =
      let z = sized_by_crew x h in
      let few : x / 2 < size L Crew = omega (arith, z.crews_are) in
      ⊎_elim (λ e. subst P (sym e) (low (x / 2) few)) (λ e. subst P (sym e) (up (x / 2) few)) (lower_or_upper x)

  pub by_site : (P : ℕ → Type 0) (y : ℕ) → y < site_total L →
      ((j : ℕ) → j < size L Site → P j) → ((i : ℕ) → i < size L Crew → P (stand_in_of L i)) → P y
  by_site P y h real own =
      let z = sized_by_site y h in
      ⊎_elim (real y)
      (λ g. let e : stand_in_of L (y - size L Site) ≡ y = omega arith in subst P e (own (y - size L Site) (omega (arith, z.sites_are))))
      (cases_lt y (size L Site))

module _ {L : Rankings} (lawful : Lawful L) where
  -- a crew's stand-in is none of the sites that it names
  not_named : (i k : ℕ) → k < length (ranks L Crew i) → slice_index (ranks L Crew i) k ≢ stand_in_of L i
  not_named i k h e = let w = lawful.within Crew i k h in omega arith

  pub place_lower : (i y : ℕ) → place (ranks L Crew i) y < length (ranks L Crew i) → place (lower_list L i) y ≡ place (ranks L Crew i) y
  place_lower i y h = place_front (ranks L Crew i) (stand_in_of L i ∷ []) y h

  pub place_lower_own : (i : ℕ) → place (lower_list L i) (stand_in_of L i) ≡ length (ranks L Crew i)
  place_lower_own i =
      let none = no_place (ranks L Crew i) (stand_in_of L i) (not_named i) in
      let own = place_head (stand_in_of L i) [] (stand_in_of L i) refl in
      let b = place_behind (ranks L Crew i) (stand_in_of L i ∷ []) (stand_in_of L i) none in
      omega arith

  pub place_upper : (i y : ℕ) → (stand_in_of L i ≢ y) → place (upper_list L i) y ≡ suc (place (ranks L Crew i) y)
  place_upper i y n = place_tail (stand_in_of L i) (ranks L Crew i) y n

  pub place_upper_own : (i : ℕ) → place (upper_list L i) (stand_in_of L i) ≡ 0
  place_upper_own i = place_head (stand_in_of L i) (ranks L Crew i) (stand_in_of L i) refl

  pub length_lower : (i : ℕ) → length (lower_list L i) ≡ length (ranks L Crew i) + 1
  length_lower i = length-append (ranks L Crew i) (stand_in_of L i ∷ [])

  -- no list names a party twice
  distinct_crew : (x : ℕ) → x < crew_total L → Distinct (crew_list L x)
  distinct_crew x h = by_crew L (λ v. Distinct (crew_list L v)) x h
      (λ i _. subst Distinct (sym (crew_lower L i)) (distinct_join (ranks L Crew i) (stand_in_of L i ∷ []) (lawful.once Crew i) (distinct_one (stand_in_of L i))
      (λ k m hk hm. each_one (λ v. slice_index (ranks L Crew i) k ≢ v) (stand_in_of L i) (not_named i k hk) m hm)))
      (λ i _. subst Distinct (sym (crew_upper L i)) (distinct_join (stand_in_of L i ∷ []) (ranks L Crew i) (distinct_one (stand_in_of L i)) (lawful.once Crew i)
      (λ k m hk hm. each_one (λ v. v ≢ slice_index (ranks L Crew i) m) (stand_in_of L i) (λ e. not_named i m hm (sym e)) k hk)))

  distinct_site : (y : ℕ) → y < site_total L → Distinct (site_list L y)
  distinct_site y h = by_site L (λ v. Distinct (site_list L v)) y h
      (λ j l. subst Distinct (sym (site_split L j l)) (distinct_split (ranks L Site j) (lawful.once Site j)))
      (λ i _. subst Distinct (sym (site_own L i)) (distinct_own i))

  -- a crew and a site are there and name each other
  abbrev CrewNames : ℕ → ℕ → Type 0
  CrewNames x y = (x < crew_total L) × (place (crew_list L x) y < length (crew_list L x))

  abbrev SiteNames : ℕ → ℕ → Type 0
  SiteNames y x = (y < site_total L) × (place (site_list L y) x < length (site_list L y))

  site_names_split : (j x : ℕ) → j < site_total L → j < size L Site → place (split_list (ranks L Site j)) x < length (split_list (ranks L Site j)) → SiteNames j x
  site_names_split j x h l n = (h, rw (site_split L j l) n)

  site_names_own : (i x : ℕ) → stand_in_of L i < site_total L → place (own_list i) x < length (own_list i) → SiteNames (stand_in_of L i) x
  site_names_own i x h n = (h, rw (site_own L i) n)

  -- what a crew names is there and names it
  crew_returned : (x : ℕ) → x < crew_total L → (k : ℕ) → k < length (crew_list L x) → SiteNames (slice_index (crew_list L x) k) x
  crew_returned x h = by_crew L (λ v. (k : ℕ) → k < length (crew_list L v) → SiteNames (slice_index (crew_list L v) k) v) x h
      (λ i l. rw (crew_lower L i) (each_join (λ y. SiteNames y (lower i)) (ranks L Crew i) (stand_in_of L i ∷ [])
      (λ k m. named_by i k l m (lower i) (λ r. let a = place_split_lower (ranks L Site (slice_index (ranks L Crew i) k)) i in let n = length_split (ranks L Site (slice_index (ranks L Crew i) k)) in omega arith))
      (each_one (λ y. SiteNames y (lower i)) (stand_in_of L i) (owned i l (lower i) (omega (arith, place_own_lower i))))))
      (λ i l. rw (crew_upper L i) (each_join (λ y. SiteNames y (upper i)) (stand_in_of L i ∷ []) (ranks L Crew i)
      (each_one (λ y. SiteNames y (upper i)) (stand_in_of L i) (owned i l (upper i) (omega (arith, place_own_upper i))))
      (λ k m. named_by i k l m (upper i) (λ r. let a = place_split_upper (ranks L Site (slice_index (ranks L Crew i) k)) i r in let n = length_split (ranks L Site (slice_index (ranks L Crew i) k)) in omega arith))))
    where
      z : Sized L
      z = sized_by_crew L x h

      owned : (i : ℕ) → i < size L Crew → (v : ℕ) → place (own_list i) v < length (own_list i) → SiteNames (stand_in_of L i) v
      owned i l v n = site_names_own i v (omega (arith, z.sites_are)) n

      named_by : (i k : ℕ) → i < size L Crew → k < length (ranks L Crew i) → (v : ℕ) →
          (place (ranks L Site (slice_index (ranks L Crew i) k)) i < length (ranks L Site (slice_index (ranks L Crew i) k)) →
          place (split_list (ranks L Site (slice_index (ranks L Crew i) k))) v < length (split_list (ranks L Site (slice_index (ranks L Crew i) k)))) →
          SiteNames (slice_index (ranks L Crew i) k) v
      named_by i k l m v there =
          let j = slice_index_or (ranks L Crew i) k 0 in
          let w = lawful.within Crew i k m in
          let first = place_first (ranks L Crew i) j k m refl in
          site_names_split j v (omega (arith, z.sites_are)) w (there (lawful.returned Crew i j (omega arith)))

  -- what a site names is there and names it
  site_returned : (y : ℕ) → y < site_total L → (k : ℕ) → k < length (site_list L y) → CrewNames (slice_index (site_list L y) k) y
  site_returned y h = by_site L (λ v. (k : ℕ) → k < length (site_list L v) → CrewNames (slice_index (site_list L v) k) v) y h
      (λ j l. rw (site_split L j l) (each_join (λ x. CrewNames x j) (map upper (ranks L Site j)) (map lower (ranks L Site j))
      (each_image (λ x. CrewNames x j) upper (ranks L Site j) (λ k m. let b = back j k m in
      crew_names_upper (slice_index (ranks L Site j) k) j b.0 (let p = place_upper (slice_index (ranks L Site j) k) j (λ e. omega arith) in let q = b.1 in omega arith)))
      (each_image (λ x. CrewNames x j) lower (ranks L Site j) (λ k m. let b = back j k m in
      crew_names_lower (slice_index (ranks L Site j) k) j b.0 (let q = b.1 in let p = place_lower (slice_index (ranks L Site j) k) j q in let n = length_lower (slice_index (ranks L Site j) k) in omega arith)))))
      (λ i l. rw (site_own L i) (each_join (λ x. CrewNames x (stand_in_of L i)) (lower i ∷ []) (upper i ∷ [])
      (each_one (λ x. CrewNames x (stand_in_of L i)) (lower i) (crew_names_lower i (stand_in_of L i) l (let p = place_lower_own i in let n = length_lower i in omega arith)))
      (each_one (λ x. CrewNames x (stand_in_of L i)) (upper i) (crew_names_upper i (stand_in_of L i) l (let p = place_upper_own i in omega arith)))))
    where
      z : Sized L
      z = sized_by_site L y h

      crew_names_lower : (i v : ℕ) → i < size L Crew → place (lower_list L i) v < length (lower_list L i) → CrewNames (lower i) v
      crew_names_lower i v l n = (omega (arith, z.crews_are), rw (crew_lower L i) n)

      crew_names_upper : (i v : ℕ) → i < size L Crew → place (upper_list L i) v < length (upper_list L i) → CrewNames (upper i) v
      crew_names_upper i v l n = (omega (arith, z.crews_are), rw (crew_upper L i) n)

      -- a crew that a site names is there and names the site
      back : (j k : ℕ) → k < length (ranks L Site j) → (slice_index (ranks L Site j) k < size L Crew) × Names L Crew (slice_index (ranks L Site j) k) j
      back j k m =
          let first = place_first (ranks L Site j) (slice_index (ranks L Site j) k) k m refl in
          (lawful.within Site j k m, lawful.returned Site j (slice_index (ranks L Site j) k) (omega arith))

  -- who has a list is there
  has_list : (s : Side) (i k : ℕ) → k < length (ranks (two_levels_of L) s i) → i < size (two_levels_of L) s
  has_list s i k h = ⊎_elim (λ l. l) (λ g. absurd (let e = ap length (get_or_past (half (two_levels_of L) s) i [] g) in omega arith)) (cases_lt i (size (two_levels_of L) s))

  few : (s : Side) → size (two_levels_of L) s ≤ 500
  few Crew = ⊎_elim (λ h. let z = sized_by_crew L 0 h in omega (arith, size_crews L, z.crews_are, z.crews_few)) (λ g. omega (arith, size_crews L)) (cases_lt 0 (crew_total L))
  few Site = ⊎_elim (λ h. let z = sized_by_site L 0 h in omega (arith, size_sites L, z.sites_are, z.crews_few, z.sites_few)) (λ g. omega (arith, size_sites L)) (cases_lt 0 (site_total L))

  within : (s : Side) (i k : ℕ) → k < length (ranks (two_levels_of L) s i) → slice_index (ranks (two_levels_of L) s i) k < size (two_levels_of L) (other s)
  within Crew x k h =
      let l : x < crew_total L = omega (arith, has_list Crew x k h, size_crews L) in
      let e = ranks_crew L x l in
      rw (size_sites L) (subst (λ xs. k < length xs → slice_index xs k < site_total L) (sym e) (λ m. (crew_returned x l k m).0) h)
  within Site y k h =
      let l : y < site_total L = omega (arith, has_list Site y k h, size_sites L) in
      let e = ranks_site L y l in
      rw (size_crews L) (subst (λ xs. k < length xs → slice_index xs k < crew_total L) (sym e) (λ m. (site_returned y l k m).0) h)

  once : (s : Side) (i : ℕ) → Distinct (ranks (two_levels_of L) s i)
  once Crew x k m hk = let l : x < crew_total L = omega (arith, has_list Crew x k hk, size_crews L) in subst Distinct (sym (ranks_crew L x l)) (distinct_crew x l) k m hk
  once Site y k m hk = let l : y < site_total L = omega (arith, has_list Site y k hk, size_sites L) in subst Distinct (sym (ranks_site L y l)) (distinct_site y l) k m hk

  returned : (s : Side) (i j : ℕ) → Names (two_levels_of L) s i j → Names (two_levels_of L) (other s) j i
  returned Crew x y h =
      let l : x < crew_total L = omega (arith, has_list Crew x (place (ranks (two_levels_of L) Crew x) y) h, size_crews L) in
      let there = each_named (λ v. SiteNames v x) (crew_list L x) (crew_returned x l) y (rw (ranks_crew L x l) at h) in
      rw (ranks_site L y there.0) there.1
  returned Site y x h =
      let l : y < site_total L = omega (arith, has_list Site y (place (ranks (two_levels_of L) Site y) x) h, size_sites L) in
      let there = each_named (λ v. CrewNames v y) (site_list L y) (site_returned y l) x (rw (ranks_site L y l) at h) in
      rw (ranks_crew L x there.0) there.1

  pub two_levels_lawful : Lawful (two_levels_of L)
  two_levels_lawful = record { few = few; within = within; once = once; returned = returned }

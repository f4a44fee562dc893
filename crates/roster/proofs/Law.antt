-- A roster without a fault is the lists that it shows laid down, and lawful lists laid down are such a roster.
use Rattle.std.proofs.Common.{◌≡◌, ℕ, ◌+◌, ◌-◌, ◌*◌, ◌%◌, ◌<◌, ◌≤◌, true, ◌&&◌, eqb, ltb, leb, List, [], length, get_or, None, refl, sym, ap, ◌∙◌, subst, ap₂, ⊎_elim, arith}
use Rattle.std.proofs.lemmas.Bool.{cases_lt, cases_eq}
use Rattle.std.proofs.lemmas.Bool.Decides.{nat_tests}
use Rattle.lists.specs.Rankings.{Rankings, Lawful, half, size}
use Rattle.lists.specs.Sides.{other}
use Rattle.lists.specs.declared.faults.Fault.TheVariants.{RosterLength}
use Rattle.lists.specs.declared.parties.Side.{Side}
use Rattle.lists.specs.declared.parties.Side.TheVariants.{Crew, Site}
use Rattle.roster.specs.Layout.{byte_at, two_at, kind_of, count_on, first_on, block_of, lists_in, shown}
use Rattle.roster.specs.FirstFault.{length_fault, head_fault, blocks_fault, side_fault, returns_fault, first_fault}
use Rattle.roster.specs.LaidDown.{head_text, party_text, laid_down, RostersAreListsLaidDown}
use Rattle.lists.proofs.Earliest.{none_first, none_second, or_none}
use Rattle.roster.proofs.HeadBlocks.{Head, head_fits, fits_head, head_reads, reads_head, reads_crews, reads_sites}
use Rattle.roster.proofs.Laying.{Short, same_blocks, laid_length, laid_head, laid_on}
use Rattle.roster.proofs.Sealed.{Reads, Laid, reads_laid, laid_reads}
use Rattle.roster.proofs.Shown.{Within, span_length, lawful_read}
use Rattle.roster.proofs.SpanBlocks.{span_laid, list_few, span_none, span_shows, none_returned}
use Rattle.roster.proofs.Tests.{unless_true, none_equal, equal_none}

-- what each fault that is absent says
record Faultless (bs : List ℕ) : Type 0 where
  head : Head bs
  whole : length bs ≡ 512 * (1 + two_at bs 0 4 + two_at bs 0 6)
  none : (s : Side) → side_fault bs s ≡ None
  crews_back : returns_fault (shown bs).crews (shown bs).sites (first_on bs Crew) ≡ None
  sites_back : returns_fault (shown bs).sites (shown bs).crews (first_on bs Site) ≡ None

faultless : (bs : List ℕ) → first_fault bs ≡ None → Faultless bs
faultless bs e =
    let e1 = none_second (length_fault bs) _ e in
    let e2 = none_second (head_fault bs) _ e1 in
    let e3 = none_second (blocks_fault bs) _ e2 in
    let e4 = none_second (side_fault bs Crew) _ e3 in
    let e5 = none_second (side_fault bs Site) _ e4 in
    record {
      head = head_fits bs (none_first _ _ e1);
      whole = none_equal _ _ RosterLength (none_first _ _ e2);
      none = elim [ Crew ↦ none_first _ _ e3 | Site ↦ none_first _ _ e4 ];
      crews_back = none_first _ _ e5;
      sites_back = none_second (returns_fault (shown bs).crews (shown bs).sites (first_on bs Crew)) _ e5;
    }

-- lists that are lawful and few are short
short_lists : (L : Rankings) → Lawful L → ((s : Side) → size L s ≤ 250) → (s : Side) → Short (half L s)
short_lists L lawful few s i =
    let most = list_few (half L s) (size L (other s)) i (lawful.within s) (lawful.once s) in
    let n = few (other s) in
    omega arith

-- a roster without a fault
module _ (bs : List ℕ) (f : Faultless bs) where
  read_lawful : Lawful (shown bs)
  read_lawful = lawful_read bs (lists_in bs Crew) (lists_in bs Site) refl refl f.head.crews f.head.sites (f.none Crew) (f.none Site) f.crews_back f.sites_back

  read_counts : (s : Side) → size (shown bs) s ≡ count_on bs s
  read_counts = elim [ Crew ↦ span_length bs Crew | Site ↦ span_length bs Site ]

  counts_few : (s : Side) → count_on bs s ≤ 250
  counts_few = elim [ Crew ↦ f.head.crews | Site ↦ f.head.sites ]

  read_few : (s : Side) → size (shown bs) s ≤ 250
  read_few s = let n = read_counts s in let h = counts_few s in omega arith

  read_short : (s : Side) → Short (half (shown bs) s)
  read_short = short_lists (shown bs) read_lawful read_few

  module _ (low : (j : ℕ) → get_or bs j 0 < 256) where
    head_same : (i : ℕ) → i < 512 → byte_at bs 0 i ≡ byte_at (laid_down (shown bs)) 0 i
    head_same i h =
        reads_laid bs 0 (head_text (shown bs)) (omega arith) low (head_reads bs (shown bs) low f.head (sym (read_counts Crew)) (sym (read_counts Site))) i h
        ∙ sym (laid_head (shown bs) read_short i h)

    side_same : (s : Side) (b i : ℕ) → first_on bs s + i ≡ b → i < count_on bs s → (j : ℕ) → j < 512 → byte_at bs b j ≡ byte_at (laid_down (shown bs)) b j
    side_same Crew b i e l j h =
        let n = read_counts Crew in
        rw (← e)
        (span_laid bs Crew (counts_few Site) low (f.none Crew) i l j h
        ∙ sym (laid_on (shown bs) read_short Crew (1 + i) i refl (omega arith) j h))
    side_same Site b i e l j h =
        let n = read_counts Site in
        let m = read_counts Crew in
        rw (← e)
        (span_laid bs Site (counts_few Crew) low (f.none Site) i l j h
        ∙ sym (laid_on (shown bs) read_short Site (block_of bs Site i) i (omega arith) (omega arith) j h))

    read_laid : bs ≡ laid_down (shown bs)
    read_laid = same_blocks bs (laid_down (shown bs)) (1 + two_at bs 0 4 + two_at bs 0 6) f.whole
        (let n = laid_length (shown bs) read_short in let c = read_counts Crew in let s = read_counts Site in omega arith)
        (λ b l i h. ⊎_elim
        (λ e. subst (λ (x : ℕ). byte_at bs x i ≡ byte_at (laid_down (shown bs)) x i) (sym e) (head_same i h))
        (λ ne. ⊎_elim
        (λ c. side_same Crew b (b - 1) (omega arith) (omega arith) i h)
        (λ d. side_same Site b (b - (1 + two_at bs 0 4)) (omega arith) (omega arith) i h)
        (cases_lt b (1 + two_at bs 0 4)))
        (cases_eq b 0))

good_length : (n m : ℕ) → n ≡ 512 * m → 0 < m → m ≤ 501 → (ltb 0 n && eqb (n % 512) 0 && leb n 256512) ≡ true
good_length n m e l h = grind (arith, nat_tests)

-- lawful lists laid down
module _ (L : Rankings) (lawful : Lawful L) (few : (s : Side) → size L s ≤ 250) where
  short : (s : Side) → Short (half L s)
  short = short_lists L lawful few

  reads : Reads (laid_down L) 0 (head_text L)
  reads = laid_reads (laid_down L) 0 (head_text L) (omega arith) (laid_head L short)

  counts : (s : Side) → count_on (laid_down L) s ≡ size L s
  counts = elim [ Crew ↦ reads_crews (laid_down L) L reads | Site ↦ reads_sites (laid_down L) L reads ]

  within : (s : Side) → Within (half L s) (count_on (laid_down L) (other s))
  within s i k h = let w = lawful.within s i k h in let e = counts (other s) in omega arith

  laid : (s : Side) (i : ℕ) → i < size L s → Laid (laid_down L) (block_of (laid_down L) s i) (party_text (kind_of s) i (get_or (half L s) i []))
  laid Crew i = laid_on L short Crew (1 + i) i refl
  laid Site i = laid_on L short Site (block_of (laid_down L) Site i) i (let e = counts Crew in omega arith)

  others_few : (s : Side) → count_on (laid_down L) (other s) ≤ 250
  others_few s = let e = counts (other s) in let n = few (other s) in omega arith

  side_none : (s : Side) → side_fault (laid_down L) s ≡ None
  side_none s = span_none (laid_down L) s (half L s) (others_few s) (counts s) (within s) (lawful.once s) (laid s)

  side_shows : (s : Side) → lists_in (laid_down L) s ≡ half L s
  side_shows s = span_shows (laid_down L) s (half L s) (others_few s) (counts s) (within s) (lawful.once s) (laid s)

  laid_shows : shown (laid_down L) ≡ L
  laid_shows = ap₂ (λ (x y : List (List ℕ)). record { crews = x; sites = y }) (side_shows Crew) (side_shows Site)

  laid_length_none : length_fault (laid_down L) ≡ None
  laid_length_none =
      let c = few Crew in
      let s = few Site in
      unless_true _ RosterLength (good_length (length (laid_down L)) (1 + length L.crews + length L.sites) (laid_length L short) (omega arith) (omega arith))

  laid_blocks_none : blocks_fault (laid_down L) ≡ None
  laid_blocks_none = equal_none _ _ RosterLength (let c = counts Crew in let s = counts Site in let n = laid_length L short in omega arith)

  laid_none : first_fault (laid_down L) ≡ None
  laid_none =
      or_none _ _ laid_length_none
      (or_none _ _ (fits_head (laid_down L) (reads_head (laid_down L) L reads (few Crew) (few Site)))
      (or_none _ _ laid_blocks_none
      (or_none _ _ (side_none Crew)
      (or_none _ _ (side_none Site)
      (or_none _ _
      (subst (λ (M : Rankings). returns_fault M.crews M.sites (first_on (laid_down L) Crew) ≡ None) (sym laid_shows)
      (none_returned L.crews L.sites (first_on (laid_down L) Crew) (lawful.returned Crew)))
      (subst (λ (M : Rankings). returns_fault M.sites M.crews (first_on (laid_down L) Site) ≡ None) (sym laid_shows)
      (none_returned L.sites L.crews (first_on (laid_down L) Site) (lawful.returned Site))))))))

pub rosters_are_lists_laid_down : RostersAreListsLaidDown
rosters_are_lists_laid_down bs L low = (
  λ h.
      let f = faultless bs h.0 in
      subst (λ (M : Rankings). Lawful M × (length M.crews ≤ 250) × (length M.sites ≤ 250) × (bs ≡ laid_down M)) h.1
      (read_lawful bs f, read_few bs f Crew, read_few bs f Site, read_laid bs f low),
  λ h.
      let few : (s : Side) → size L s ≤ 250 = elim [ Crew ↦ h.1 | Site ↦ h.2 ] in
      (ap first_fault h.3 ∙ laid_none L h.0 few, ap shown h.3 ∙ laid_shows L h.0 few),
)

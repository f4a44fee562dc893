-- Block 0 without a fault is the counts laid down, and the other way round.
use Rattle.std.proofs.Common.{◌≡◌, ℕ, ◌<◌, ◌≤◌, List, length, get_or, None, refl, sym, ◌∙◌, arith}
use Rattle.std.proofs.lemmas.List.{get_or_past}
use Rattle.lists.specs.Rankings.{Rankings}
use Rattle.lists.specs.declared.faults.Fault.TheVariants.{BlockCheck, BlockField}
use Rattle.roster.specs.Layout.{byte_at, two_at, four_at, seal}
use Rattle.roster.specs.FirstFault.{check_fault, byte_fault, zero_fault, bound_fault, head_fault}
use Rattle.roster.specs.LaidDown.{head_text}
use Rattle.lists.proofs.Earliest.{none_first, none_second, or_none}
use Rattle.roster.proofs.Numbers.{high_byte, low_byte, two_back}
use Rattle.roster.proofs.Sealed.{Reads}
use Rattle.roster.proofs.Steps.{first_then, none_left}
use Rattle.roster.proofs.Tests.{none_equal, equal_none, none_most, most_none}
use Rattle.roster.proofs.Zeros.{zeros_fit, fit_zeros}

-- the fields of block 0
pub record Head (bs : List ℕ) : Type 0 where
  pub fitting : seal (byte_at bs 0) ≡ four_at bs 0 508
  pub sort : byte_at bs 0 0 ≡ 1
  pub plain : (i : ℕ) → 1 ≤ i → i < 4 → byte_at bs 0 i ≡ 0
  pub crews : two_at bs 0 4 ≤ 250
  pub sites : two_at bs 0 6 ≤ 250
  pub behind : (i : ℕ) → 8 ≤ i → i < 508 → byte_at bs 0 i ≡ 0

module _ (bs : List ℕ) where
  pub head_fits : head_fault bs ≡ None → Head bs
  head_fits e =
      let e1 = none_second (check_fault bs 0) _ e in
      let e2 = none_second (byte_fault bs 0 0 1) _ e1 in
      let e3 = none_second (zero_fault bs 0 1 4) _ e2 in
      let e4 = none_second (bound_fault bs 0 4 250) _ e3 in
      record {
        fitting = none_equal _ _ (BlockCheck 0) (none_first _ _ e);
        sort = none_equal _ _ (BlockField 0 0) (none_first _ _ e1);
        plain = zeros_fit bs 0 1 4 (none_first _ _ e2);
        crews = none_most _ _ (BlockField 0 4) (none_first _ _ e3);
        sites = none_most _ _ (BlockField 0 6) (none_first _ _ e4);
        behind = zeros_fit bs 0 8 508 (none_second (bound_fault bs 0 6 250) _ e4);
      }

  pub fits_head : Head bs → head_fault bs ≡ None
  fits_head h =
      or_none _ _ (equal_none _ _ (BlockCheck 0) h.fitting)
      (or_none _ _ (equal_none _ _ (BlockField 0 0) h.sort)
      (or_none _ _ (fit_zeros bs 0 1 4 h.plain)
      (or_none _ _ (most_none _ _ (BlockField 0 4) h.crews)
      (or_none _ _ (most_none _ _ (BlockField 0 6) h.sites)
      (fit_zeros bs 0 8 508 h.behind)))))

-- the zeros behind the first byte
plain_text : (L : Rankings) (i : ℕ) → 1 ≤ i → i < 4 → get_or (head_text L) i 0 ≡ 0
plain_text L = first_then P 4 1 refl (first_then P 4 2 refl (first_then P 4 3 refl (none_left P 4 4 (omega arith))))
  where
    P : ℕ → Type 0
    P i = get_or (head_text L) i 0 ≡ 0

module _ (bs : List ℕ) (L : Rankings) where
  pub head_reads : ((j : ℕ) → get_or bs j 0 < 256) → Head bs → two_at bs 0 4 ≡ length L.crews → two_at bs 0 6 ≡ length L.sites → Reads bs 0 (head_text L)
  head_reads low h nc ns = record {
    bytes = λ i l. all i (omega arith) l;
    sealed = h.fitting;
  }
    where
      P : ℕ → Type 0
      P i = byte_at bs 0 i ≡ get_or (head_text L) i 0

      all : (i : ℕ) → 0 ≤ i → i < 508 → P i
      all =
          first_then P 508 0 h.sort
          (first_then P 508 1 (h.plain 1 (omega arith) (omega arith))
          (first_then P 508 2 (h.plain 2 (omega arith) (omega arith))
          (first_then P 508 3 (h.plain 3 (omega arith) (omega arith))
          (first_then P 508 4 (high_byte _ _ (length L.crews) nc (low _))
          (first_then P 508 5 (low_byte _ _ (length L.crews) nc (low _))
          (first_then P 508 6 (high_byte _ _ (length L.sites) ns (low _))
          (first_then P 508 7 (low_byte _ _ (length L.sites) ns (low _))
          (λ i l m. h.behind i l m ∙ sym (get_or_past (head_text L) i 0 l)))))))))

  module _ (h : Reads bs 0 (head_text L)) where
    pub reads_crews : two_at bs 0 4 ≡ length L.crews
    reads_crews = two_back _ _ (length L.crews) (h.bytes 4 (omega arith)) (h.bytes 5 (omega arith))

    pub reads_sites : two_at bs 0 6 ≡ length L.sites
    reads_sites = two_back _ _ (length L.sites) (h.bytes 6 (omega arith)) (h.bytes 7 (omega arith))

    pub reads_head : length L.crews ≤ 250 → length L.sites ≤ 250 → Head bs
    reads_head lc ls =
        let nc = reads_crews in
        let ns = reads_sites in
        record {
          fitting = h.sealed;
          sort = h.bytes 0 (omega arith);
          plain = λ i l m. h.bytes i (omega arith) ∙ plain_text L i l m;
          crews = omega arith;
          sites = omega arith;
          behind = λ i l m. h.bytes i m ∙ get_or_past (head_text L) i 0 l;
        }

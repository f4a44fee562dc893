use Rattle.std.proofs.Common.{◌≡◌, ℕ, List, length, sym, ap, ap₂, ◌∙◌, arith}
use Rattle.lists.specs.declared.parties.Side.TheVariants.{Crew, Site}
use Rattle.roster.specs.Layout.{count_on, first_on, lists_in}
use Rattle.roster.specs.FirstFault.{side_fault, returns_fault}
use Rattle.roster.proofs.Shown.{span_length, lawful_read}
use Rattle.roster.proofs.reader.read_lists.Goals as goal

pub invariant_of-result : goal.invariant_of-result
invariant_of-result c =
    let bs = c.args.head.now.roster.now in
    let crews = c.read.new.half in
    let sites = c.read-2.new.half in
    let cr = c.span-crew_blocks.ensures.0 in
    let cd = c.span-crew_blocks.ensures.1 in
    let sr = c.span-site_blocks.ensures.0 in
    let sd = c.span-site_blocks.ensures.1 in
    let nc = c.args.head.now.crews_shown in
    let ns = c.args.head.now.sites_shown in
    let ec = c.in_ok-read.ensures.value ∙ ap₂ lists_in cr cd in
    let es = c.in_ok-read-2.ensures.value ∙ ap₂ lists_in sr sd in
    let lc : length crews ≡ count_on bs Crew = rw ec (span_length bs Crew) in
    let ls : length sites ≡ count_on bs Site = rw es (span_length bs Site) in
    record {
      kept = lawful_read bs crews sites ec es
          (omega arith) (omega arith)
          (sym (c.in_ok-read.ensures.fault ∙ ap₂ side_fault cr cd)) (sym (c.in_ok-read-2.ensures.fault ∙ ap₂ side_fault sr sd))
          (sym (c.in_ok-check_returns.ensures ∙ ap (returns_fault crews sites) (c.span-crew_blocks.result.first_shown ∙ ap₂ first_on cr cd)))
          (sym (c.in_ok-check_returns-2.ensures ∙ ap (returns_fault sites crews) (c.span-site_blocks.result.first_shown ∙ ap₂ first_on sr sd)));
      few_crews = omega arith;
      few_sites = omega arith;
    }

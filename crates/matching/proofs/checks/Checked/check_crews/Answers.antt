use Rattle.std.proofs.Common.{◌≡◌, ℕ, zero, suc, length, get_or, sym, refl, ap, ◌∙◌, subst, arith}
use Rattle.std.proofs.lemmas.Result.{err_from_is_err_and}
use Rattle.lists.specs.declared.parties.Side.TheVariants.{Site}
use Rattle.matching.specs.Checks.{crew_fault, TakenBelow, with_taken}
use Rattle.matching.specs.Plans.{number_written, site_written}
use Rattle.lists.proofs.Earliest.{earliest_none, earliest_step, earliest_found}
use Rattle.matching.proofs.Granted.{granted_ok, granted_err, ok_granted, err_granted}
use Rattle.matching.proofs.Passing.{crew_passes, taken_none, taken_more}
use Rattle.matching.proofs.checks.Checked.check_crews.Goals as goal

-- a number that is read as a site and written again
written_back : (n : ℕ) → number_written (site_written n) ≡ n
written_back zero = refl
written_back (suc j) = refl

pub loop-crew-init : goal.loop-crew-init
loop-crew-init g c = (taken_none c.args.self.now.plan.now c.new-taken.result.sites c.new-taken.ensures, earliest_none _)

pub take-requires : goal.take-requires
take-requires g c =
    let L = g.L.Lists.meaning c.args.self.now.lists in
    let few = (g.met.L.Lists.lawful c.args.self.now.lists).few Site in
    let same = ap number_written c.site_written-site.ensures ∙ written_back (get_or c.args.self.now.plan.now c.loop-crew.crew 0) in
    omega (arith, same, (crew_passes L c.args.self.now.plan.now c.args.self.now.which c.loop-crew.crew (granted_ok _ tt _ c.in_ok-check_crew.ensures)).exists)

pub returns-in_err-check_crew : goal.returns-in_err-check_crew
returns-in_err-check_crew g c =
    let p = err_from_is_err_and c.from_residual.result c.from_residual.ensures.1 in
    let L = g.L.Lists.meaning c.args.self.now.lists in
    let P = c.args.self.now.plan.now in
    rw (p.1, p.2)
    (err_granted _ tt _ (earliest_found c.loop-crew.crew (length P) (crew_fault L P c.args.self.now.which) _ (omega arith) c.loop-crew.invariant.1
    (granted_err _ tt _ c.in_err-check_crew.ensures)))

pub loop-crew-preserved : goal.loop-crew-preserved
loop-crew-preserved g c =
    let L = g.L.Lists.meaning c.args.self.now.lists in
    let P = c.args.self.now.plan.now in
    let crew = c.loop-crew.crew in
    let few = (g.met.L.Lists.lawful c.args.self.now.lists).few Site in
    let none = granted_ok _ tt _ c.in_ok-check_crew.ensures in
    let same = ap number_written c.site_written-site.ensures ∙ written_back (get_or P crew 0) in
    let passes = crew_passes L P c.args.self.now.which crew none in (
      subst (TakenBelow P _) (sym (c.take.ensures ∙ ap (with_taken c.loop-crew.taken.sites) same)) (taken_more P crew c.loop-crew.taken.sites (omega arith) (omega (arith, passes.exists)) c.loop-crew.invariant.0),
      earliest_step crew (crew_fault L P c.args.self.now.which) c.loop-crew.invariant.1 none,
    )

pub returns : goal.returns
returns g c =
    let L = g.L.Lists.meaning c.args.self.now.lists in
    let P = c.args.self.now.plan.now in
    let all : c.loop-crew.crew ≡ length P = omega arith in
    ok_granted _ tt (rw all at c.loop-crew.invariant.1)

use Rattle.std.proofs.Common.{vec_items, ◌∙◌, ap₂}
use Rattle.std.proofs.lemmas.Result.{IfOk-weaker}
use Rattle.planner.specs.Choices.{trial_text}
use Rattle.planner.specs.Partners.{partner_in}
use Rattle.planner.proofs.trials.both_plans.Goals as goal

pub returns : goal.returns
returns g c =
    let L = g.L.Lists.meaning c.args.lists.now in
    let P = vec_items c.in_ok-crew_best.crew_best.plan in
    let Q = vec_items c.in_ok-site_best.site_best.plan in
    let crews = c.in_ok-crew_best.ensures in
    let sites = c.in_ok-site_best.ensures in
    IfOk-weaker c.trial.result _ _
    (λ s shown. record {
      crew_plan = P;
      site_plan = Q;
      crew_best = crews.1;
      site_best = sites.1;
      shows = shown ∙ ap₂ (λ s t. trial_text L (partner_in P s) (partner_in Q t)) crews.0 sites.0;
    })
    c.trial.ensures

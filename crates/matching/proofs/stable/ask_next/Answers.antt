use Rattle.std.proofs.Common.{sym, refl, ◌∙◌, subst, arith}
use Rattle.matching.specs.Acceptance.{Turned, unrefused}
use Rattle.lists.specs.Evidence.Places.{given_some, given_none}
use Rattle.matching.proofs.Turns.{asker_fits, asker_room, holder_room, site_within, listed, turn_ends, turn_answered}
use Rattle.matching.proofs.stable.ask_next.Goals as goal

pub bounds-state-from : goal.bounds-state-from
bounds-state-from g c =
    omega (arith, asker_fits (g.L.Lists.meaning c.args.lists.now) (g.met.L.Lists.lawful c.args.lists.now) c.args.state.now c.requires.0 c.args.asker c.requires.1)

pub returns-in_err-site : goal.returns-in_err-site
returns-in_err-site g c = λ n before.
    let L = g.L.Lists.meaning c.args.lists.now in
    let p = c.args.state.now in
    let all = given_none _ _ _ (rw (c.crew.ensures, c.from.ensures) at (sym c.in_err-site.was ∙ c.entry.ensures)) in
    subst (Turned L n (unrefused L p) p) (sym c.from_residual.ensures) (turn_ends L (g.met.L.Lists.lawful c.args.lists.now) p n c.args.asker before all)

pub returns-in_err-place : goal.returns-in_err-place
returns-in_err-place g c = λ n before.
    let L = g.L.Lists.meaning c.args.lists.now in
    let lawful = g.met.L.Lists.lawful c.args.lists.now in
    let p = c.args.state.now in
    let asker = c.args.asker in
    let site = c.in_ok-site.site in
    let asked = given_some _ _ _ site (rw (c.crew.ensures, c.from.ensures) at c.in_ok-site.ensures) in
    let unnamed = given_none _ _ _ (rw c.site.ensures at (sym c.in_err-place.was ∙ c.place.ensures)) in
    let named = listed L lawful p n asker before site _ asked.0 asked.1 refl in
    absurd (omega arith)

pub ask-requires : goal.ask-requires
ask-requires g c =
    let L = g.L.Lists.meaning c.args.lists.now in
    let lawful = g.met.L.Lists.lawful c.args.lists.now in
    let p = c.args.state.now in
    let asker = c.args.asker in
    let n = c.requires.0 in
    let before = c.requires.1 in
    let site = c.in_ok-site.site in
    let asked = given_some _ _ _ site (rw (c.crew.ensures, c.from.ensures) at c.in_ok-site.ensures) in
    record {
      crew = asker_room L lawful p n asker before asked.0;
      site = site_within L lawful p n asker before site _ asked.0 asked.1 refl;
      held = holder_room L lawful p n asker before site;
    }

pub returns : goal.returns
returns g c = λ n before.
    let L = g.L.Lists.meaning c.args.lists.now in
    let lawful = g.met.L.Lists.lawful c.args.lists.now in
    let p = c.args.state.now in
    let asker = c.args.asker in
    let site = c.in_ok-site.site in
    let asked = given_some _ _ _ site (rw (c.crew.ensures, c.from.ensures) at c.in_ok-site.ensures) in
    let ranked = given_some _ _ _ c.in_ok-place.place (rw c.site.ensures at c.in_ok-place.ensures) in
    rw (c.ask.ensures.refused, c.ask.ensures.state) (turn_answered L lawful p n asker before site c.in_ok-place.place asked.0 asked.1 ranked.1)

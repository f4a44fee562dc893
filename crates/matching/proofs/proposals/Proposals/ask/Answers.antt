use Rattle.std.proofs.Common.{rules, ◌∙◌, sym, ap}
use Rattle.matching.specs.Answers.{hold_in}
use Rattle.matching.proofs.Holding.{asked_later}
use Rattle.matching.proofs.proposals.Proposals.ask.Goals as goal

pub refuse-requires-2 : goal.refuse-requires-2
refuse-requires-2 c = let room = c.requires.held c.in-Some.held (ap (hold_in c.args.self.now) (sym c.from.ensures) ∙ c.in-Some.is) in search rules

pub returns-then-held-place-clause-state : goal.returns-then-held-place-clause-state
returns-then-held-place-clause-state c =
    c.refuse.ensures
    ∙ asked_later c.args.self.now c.args.site c.args.crew c.args.place c.in-Some.held (ap (hold_in c.args.self.now) (sym c.from.ensures) ∙ c.in-Some.is) c.if-held-place.true

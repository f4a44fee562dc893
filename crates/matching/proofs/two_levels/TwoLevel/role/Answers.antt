use Rattle.std.proofs.Common.{arith}
use Rattle.matching.proofs.RoleLists.{copied_role, real_role, stand_in_role}
use Rattle.matching.proofs.two_levels.TwoLevel.role.Goals as goal

pub returns-in-Crew : goal.returns-in-Crew
returns-in-Crew g c =
    let role = copied_role (g.L.Lists.meaning c.args.self.now.lists) c.args.party (omega arith) c.from.result c.in-Crew.is c.from.ensures in
    record { is = role.0; list = role.1 }

pub returns-in-None : goal.returns-in-None
returns-in-None g c =
    let role = real_role (g.L.Lists.meaning c.args.self.now.lists) c.args.party (omega arith) c.in-Site.is (omega arith) in
    record { is = role.0; list = role.1 }

pub returns-in-Some : goal.returns-in-Some
returns-in-Some g c =
    let role = stand_in_role (g.L.Lists.meaning c.args.self.now.lists) c.args.party (omega arith) c.in-Some.crew c.in-Site.is (omega arith) in
    record { is = role.0; list = role.1 }

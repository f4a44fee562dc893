use Rattle.std.proofs.Common.{ℕ, ◌≤◌, Some, None, Option, arith}
use Rattle.std.proofs.lemmas.Bool.Decides.{nat_tests}
use Rattle.std.specs.Option.{option_or}
use Rattle.lists.specs.Rankings.{Rankings, size}
use Rattle.lists.specs.declared.parties.Side.TheVariants.{Site}
use Rattle.matching.specs.Plans.{number_written}
use Rattle.matching.specs.Settled.{copy_partner, real_site_of}
use Rattle.matching.specs.TwoLevels.{lower, upper}
use Rattle.matching.proofs.settled.Copies.site.Goals as goal

-- the number of a site that is no stand-in
number_real : (L : Rankings) (a b : Option ℕ) → number_written (option_or (real_site_of L a) (real_site_of L b)) ≤ size L Site
number_real L None None = omega arith
number_real L None (Some j) = grind (arith, nat_tests)
number_real L (Some i) None = grind (arith, nat_tests)
number_real L (Some i) (Some j) = grind (arith, nat_tests)

pub number_written-requires : goal.number_written-requires
number_written-requires g c =
    let L = g.L.Lists.meaning c.args.self.now.lists in
    let few = (g.met.L.Lists.lawful c.args.self.now.lists).few Site in
    let T = c.args.self.now.doubled.now in
    let low = number_real L (copy_partner T (lower c.args.crew)) (copy_partner T (upper c.args.crew)) in
    rw (c.or.ensures, c.real_site-lower.ensures, c.real_site-upper.ensures) (omega (arith, low))

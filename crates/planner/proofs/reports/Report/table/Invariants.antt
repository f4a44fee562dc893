use Rattle.std.proofs.Common.{◌≡◌, string_bytes}
use Rattle.planner.specs.Choices.{lines, line_text}
use Rattle.planner.specs.Partners.{partners_of}
use Rattle.planner.proofs.reports.Report.table.Given as goal

abbrev pub invariant-loop-number : goal.invariant-loop-number
invariant-loop-number g l =
    string_bytes l.text ≡ lines (line_text (g.L.Lists.meaning l.self.lists.now) (partners_of l.self.crew_best.now) (partners_of l.self.site_best.now) l.side) l.number

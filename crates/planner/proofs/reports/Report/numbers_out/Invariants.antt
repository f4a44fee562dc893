use Rattle.std.proofs.Common.{◌≡◌, string_bytes}
use Rattle.planner.specs.Choices.{left_numbers}
use Rattle.planner.specs.Partners.{partners_of}
use Rattle.planner.proofs.reports.Report.numbers_out.Given as goal

abbrev pub invariant-loop-number : goal.invariant-loop-number
invariant-loop-number g l = string_bytes l.text ≡ left_numbers (partners_of l.pairing l.side) l.number-counter

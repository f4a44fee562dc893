-- The numbers of the two crews that each crew becomes.
use Rattle.std.specs.Prelude.{ℕ}
use Rattle.matching.specs.TwoLevels.{lower, upper}
use Rattle.matching.specs.declared.copies.CrewCopy.{CrewCopy}
use Rattle.matching.specs.declared.copies.CrewCopy.TheVariants.{Lower, Upper}

abbrev pub copy_number : CrewCopy → ℕ
copy_number (Lower i) = lower i
copy_number (Upper i) = upper i

use Rattle.roster.proofs.Law.{rosters_are_lists_laid_down}
use Rattle.roster.proofs.reader.read.Goals as goal

pub returns-in_err-check_length-clause-law : goal.returns-in_err-check_length-clause-law
returns-in_err-check_length-clause-law c = rosters_are_lists_laid_down

pub returns-in_err-head-clause-law : goal.returns-in_err-head-clause-law
returns-in_err-head-clause-law c = rosters_are_lists_laid_down

pub returns-in_err-check_blocks-clause-law : goal.returns-in_err-check_blocks-clause-law
returns-in_err-check_blocks-clause-law c = rosters_are_lists_laid_down

pub returns-clause-law : goal.returns-clause-law
returns-clause-law c = rosters_are_lists_laid_down

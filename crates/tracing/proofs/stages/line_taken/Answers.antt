-- `tracing::line_taken` meets its contract, by the stage.
-- Assumes nothing.
use Rattle.tracing.proofs.stages.line_taken.Goals as goal

pub returns-in-Head : goal.returns-in-Head
returns-in-Head c = rw c.in-Head.is c.head_line.ensures

pub returns-in-Sizes : goal.returns-in-Sizes
returns-in-Sizes c = rw c.in-Sizes.is c.sizes_line.ensures

pub returns-in-Rows : goal.returns-in-Rows
returns-in-Rows c = rw c.in-Rows.is c.row_line.ensures

pub returns-in-Entries : goal.returns-in-Entries
returns-in-Entries c = rw c.in-Entries.is c.entry_line.ensures

pub returns-in-Malformed : goal.returns-in-Malformed
returns-in-Malformed c = (rw c.in-Malformed.is, c.requires.going)

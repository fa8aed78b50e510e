-- `tracing::first_taken` meets its contract.
-- Assumes nothing.
use native.Mathlib.Omega.{arith}
use mathlib.Core.Path.{sym}
use lib.Seq.{length-take-le}
use Rattle.tracing.proofs.first_taken.Goals as goal

pub slice_bounds-line_taken-end : goal.slice_bounds-line_taken-end
slice_bounds-line_taken-end c =
    sym (length-take-le c.args.n c.args.v.now c.requires.n_in_bounds.0)

pub line_taken-requires : goal.line_taken-requires
line_taken-requires c = record {
  vs_in_bounds = omega (arith, length-take-le c.args.n c.args.v.now c.requires.n_in_bounds.0, c.requires.n_in_bounds.1);
  going = c.requires.going;
}

-- `text::put_byte` meets its contract.
-- Assumes nothing.
use mathlib.Core.Path.{refl}
use Rattle.text.proofs.Written.{byte-at}
use Rattle.text.proofs.put_byte.Goals as goal

pub returns : goal.returns
returns c = record { ends = refl; bytes = byte-at c.args.out.now c.args.at c.args.b c.requires }

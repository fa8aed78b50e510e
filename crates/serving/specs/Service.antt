-- Who is in service, as the code says it.
-- Assumes nothing.
use Rattle.std.specs.Prelude.{ℕ, Option as code, Some, None}
use Rattle.std.proofs.Math.Option.{Option, some, none}
use Rattle.gate.specs.declared.Client.{Client}

-- the number of the client, if there is one
abbrev pub number_in : code Client → Option ℕ
number_in None = none
number_in (Some c) = some c.0

-- A gate after a history of what it heard, events and records of any version, refused ones among them, each by the
-- promise of the public step, the latest first; and what the records of a log are not answered.
-- Assumes nothing.
use Rattle.std.specs.Prelude.{ℕ, not, List, [], ◌∷◌, map, eqb, get_or}
use Rattle.rules.specs.Refusals.{unknown_record}
use Rattle.rules.specs.Setup.{Setup}
use Rattle.rules.specs.State.{State}
use Rattle.rules.specs.Records.{Heard}
use Rattle.rules.specs.Replay.{Entry, entries_from}
use Rattle.rules.specs.Quote.{AllTrue}
use Rattle.gate.specs.declared.Gate.{Gate}
use Rattle.step.specs.Stepped.{stepped}

abbrev pub gate_after : Gate → List Heard → Gate
gate_after g [] = g
gate_after g (x ∷ h) = (stepped (gate_after g h) x).gate

-- what the next is answered
abbrev pub answer_after : Gate → List Heard → Heard → ℕ
answer_after g h x = (stepped (gate_after g h) x).number

-- the charge that the gate stores for a client
abbrev pub charge_after : Gate → List Heard → ℕ → ℕ
charge_after g h c = get_or (gate_after g h).charges c 0

-- No record that is replayed, from a state on, is answered 18.
abbrev pub NoneUnknown : Setup → State → List Heard → Type 0
NoneUnknown u s xs = AllTrue (map (λ (e : Entry). not (eqb e.answer unknown_record)) (entries_from u s xs))

-- The definitions of the checker, computed at given numbers and a given gate.
-- Assumes nothing.
use Prim.Native.Nat.{ℕ}
use mathlib.Core.Path.{◌≡◌, refl}
use mathlib.Core.Bool.{Bool, true, false}
use mathlib.Core.List.{List, [], ◌∷◌}
use mathlib.Core.Option.{Option, some, none}
use Rattle.std.specs.Prelude.{Some, None}
use Rattle.rules.specs.Events.{invoke, reply}
use Rattle.rules.specs.Records.{Record, event_of, Heard, known, reply_ready, unknown}
use Rattle.rules.specs.Traces.{Seen, the_answer, the_served, the_charges, refused, agrees, differs}
use Rattle.gate.specs.declared.Server.{Server}
use Rattle.gate.specs.declared.Server.TheVariants.{Idle, Front, Best, Spent, Tidying}
use Rattle.gate.specs.declared.Gate.{Gate}
use Rattle.gate.specs.Shown.{table, client}
use Rattle.checking.specs.declared.Part.TheVariants as part
use Rattle.checking.specs.declared.Verdict.{Verdict}
use Rattle.checking.specs.declared.Verdict.TheVariants.{Refused, Agrees, Differs}
use Rattle.checking.specs.declared.Checker.{Checker}
use Rattle.checking.specs.Checking.{served_in, verdict_in, first_verdict, entered_by, heard_by, checked}

-- 22 before the setup's own
pub first-verdicts :
    (first_verdict 1 0 ≡ Agrees)
    × (first_verdict 2 0 ≡ Agrees)
    × (first_verdict 3 0 ≡ Agrees)
    × (first_verdict 0 0 ≡ Refused 22)
    × (first_verdict 4 0 ≡ Refused 22)
    × (first_verdict 4 1 ≡ Refused 22)
    × (first_verdict 1 1 ≡ Refused 1)
    × (first_verdict 2 5 ≡ Refused 5)
first-verdicts = (refl, refl, refl, refl, refl, refl, refl, refl)

pub words :
    (served_in None ≡ none)
    × (served_in (Some (client 3)) ≡ some 3)
    × (verdict_in (Refused 4) ≡ refused 4)
    × (verdict_in Agrees ≡ agrees)
    × (verdict_in (Differs 7 part.Answer) ≡ differs 7 the_answer)
    × (verdict_in (Differs 7 part.Served) ≡ differs 7 the_served)
    × (verdict_in (Differs 7 part.Charges) ≡ differs 7 the_charges)
words = (refl, refl, refl, refl, refl, refl, refl)

-- ONE ENTRY

-- a gate of n clients that go by deadlines or not, with somebody in service, and charges 5, 6, 7
abbrev ranked : Bool → ℕ → Server → Gate
ranked timed n x = record {
  setup = record {
    clusters = 1;
    clients = n;
    cap = 10;
    tidy = 0;
    timed = timed;
    sizes = table 8 (λ (k : ℕ). 1);
    kinds = table 64 (λ (c : ℕ). 0);
    homes = table 64 (λ (c : ℕ). 0);
    priorities = table 64 (λ (c : ℕ). 0);
  };
  lines = [];
  rooms = [];
  global = [];
  background = [];
  server = x;
  units = 0;
  charges = 5 ∷ 6 ∷ 7 ∷ [];
  deadlines = [];
}

abbrev gate : ℕ → Server → Gate
gate = ranked false

-- a checker that has seen i entries
abbrev seen : ℕ → Verdict → Checker
seen i v = record { version = 1; gate = gate 2 Idle; entries = i; verdict = v }

abbrev says : ℕ → Option ℕ → List ℕ → Seen
says n o l = record { answer = n; served = o; charges = l }

-- the verdict after an entry that was answered 0 by a gate of two clients
abbrev after : Server → Seen → Verdict
after x s = (entered_by (seen 3 Agrees) (record { number = 0; gate = gate 2 x }) s).verdict

-- The charges are those of the first N clients, and whoever is in service counts, spent or not.
pub entries :
    (after (Front (client 1)) (says 0 (some 1) (5 ∷ 6 ∷ [])) ≡ Agrees)
    × (after (Best (client 1)) (says 0 (some 1) (5 ∷ 6 ∷ [])) ≡ Agrees)
    × (after (Spent (client 0)) (says 0 (some 0) (5 ∷ 6 ∷ [])) ≡ Agrees)
    × (after Tidying (says 0 none (5 ∷ 6 ∷ [])) ≡ Agrees)
    × (after Idle (says 0 none (5 ∷ 6 ∷ [])) ≡ Agrees)
    × (after Idle (says 0 none (5 ∷ 6 ∷ 7 ∷ [])) ≡ Differs 3 part.Charges)
    × (after Idle (says 0 none (5 ∷ [])) ≡ Differs 3 part.Charges)
    × (after Idle (says 0 (some 0) (5 ∷ [])) ≡ Differs 3 part.Served)
    × (after Tidying (says 0 (some 0) (5 ∷ 6 ∷ [])) ≡ Differs 3 part.Served)
    × (after (Front (client 1)) (says 1 none []) ≡ Differs 3 part.Answer)
unfolding table
entries = (refl, refl, refl, refl, refl, refl, refl, refl, refl, refl)

-- What a record says, by the checker's version and the setup of its gate: an invoke's deadline under deadlines alone.
abbrev heard : ℕ → Bool → ℕ → ℕ → ℕ → Heard
heard v timed c a d =
    heard_by (record { version = v; gate = ranked timed 2 Idle; entries = 3; verdict = Agrees })
    (record { code = c; argument = a; deadline = d })

pub heards :
    (heard 3 true 1 4 7 ≡ known (invoke 4 (some 7)))
    × (heard 3 true 1 4 0 ≡ known (invoke 4 (some 0)))
    × (heard 3 false 1 4 0 ≡ known (invoke 4 none))
    × (heard 3 false 1 4 7 ≡ unknown)
    × (heard 3 true 2 4 7 ≡ unknown)
    × (heard 3 true 3 0 0 ≡ known reply)
    × (heard 1 false 3 0 0 ≡ reply_ready)
    × (heard 1 false 1 4 7 ≡ unknown)
unfolding event_of
heards = (refl, refl, refl, refl, refl, refl, refl, refl)

-- our gate goes on by its own step, and the entry is counted, whether it differs or not
pub goes_on :
    ((entered_by (seen 3 Agrees) (record { number = 0; gate = gate 2 Tidying }) (says 12 none [])).gate
    ≡ gate 2 Tidying)
    × ((entered_by (seen 3 Agrees) (record { number = 0; gate = gate 2 Tidying }) (says 12 none [])).entries ≡ 4)
goes_on = (refl, refl)

-- what is told stays
pub stays : (r : Record) (s : Seen)
    → (checked (seen 3 (Differs 2 part.Served)) r s ≡ seen 3 (Differs 2 part.Served))
    × (checked (seen 0 (Refused 4)) r s ≡ seen 0 (Refused 4))
unfolding checked
stays r s = (refl, refl)

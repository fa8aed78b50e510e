-- A kernel's trace, entry by entry, beside what the rules give from the fresh gate of its setup.
-- Assumes nothing.
use Rattle.std.specs.Prelude.{ℕ, suc, ◌<◌, ◌≡◌, Bool, true, false, not, ◌&&◌, cond, List, [], ◌∷◌, map, reverse, eqb, length, get_or, take}
use Rattle.std.proofs.Math.Option.{Option, some, none}
use Rattle.rules.specs.Refusals.{accepted, bad_version}
use Rattle.rules.specs.Setup.{Setup, setup_answer, trimmed}
use Rattle.rules.specs.State.{State, fresh}
use Rattle.rules.specs.Events.{Event}
use Rattle.rules.specs.Records.{Record, Heard, is_version, heard_of, answer_of, step_of}
use Rattle.rules.specs.Replay.{in_service, charges_below}
use Rattle.rules.specs.History.{said}

-- WHAT IS SEEN

-- The answer to an event, the client in service after it, and all charges.
pub record Seen : Type 0 where
  pub answer : ℕ
  pub served : Option ℕ
  pub charges : List ℕ

-- Each event, as the raw record of a log, with what the kernel says is seen then.
pub record Traced : Type 0 where
  pub event : Record
  pub seen : Seen

-- for a place without an entry
abbrev pub none_seen : Seen
none_seen = record { answer = 0; served = none; charges = [] }

module _ (u : Setup) where
  -- what the rules give for a record that finds the state s
  abbrev pub seen_after : State → Heard → Seen
  seen_after s x =
      let t = step_of u s x in
      record {
        answer = answer_of u s x;
        served = in_service t.server;
        charges = charges_below t.charge u.clients;
      }

  -- and for each of the records that follow
  unfoldable pub seen_from : State → List Heard → List Seen
  seen_from s [] = []
  seen_from s (x ∷ xs) = seen_after s x ∷ seen_from (step_of u s x) xs

-- WHAT DIFFERS

abbrev pub same_served : Option ℕ → Option ℕ → Bool
same_served none none = true
same_served none (some d) = false
same_served (some c) none = false
same_served (some c) (some d) = eqb c d

-- A charge list whose length isn't N differs in its charges.
abbrev pub same_charges : List ℕ → List ℕ → Bool
same_charges [] [] = true
same_charges [] (y ∷ m) = false
same_charges (x ∷ l) [] = false
same_charges (x ∷ l) (y ∷ m) = eqb x y && same_charges l m

-- one of the three
pub data Part : Type 0 where
  the_answer : Part
  the_served : Part
  the_charges : Part

-- which of the three, in that order, differs first
abbrev pub difference : Seen → Seen → Option Part
difference a b =
    cond (not (eqb a.answer b.answer)) (some the_answer)
    (cond (not (same_served a.served b.served)) (some the_served)
    (cond (not (same_charges a.charges b.charges)) (some the_charges)
    none))

-- THE VERDICT

-- The setup's refusal; or that every entry is what the rules give; or the first entry that differs, from 0, and what
-- differs first in it.
pub data Verdict : Type 0 where
  refused : ℕ → Verdict
  agrees : Verdict
  differs : ℕ → Part → Verdict

-- entry i by what differs in it; if nothing does, the verdict on the others
abbrev pub judged : ℕ → Option Part → Verdict → Verdict
judged i (some p) others = differs i p
judged i none others = others

-- entries from i on, as the kernel has seen them, beside what the rules give
unfoldable pub compared : ℕ → List Seen → List Seen → Verdict
compared i [] rs = agrees
compared i (k ∷ ks) [] = agrees
compared i (k ∷ ks) (r ∷ rs) = judged i (difference k r) (compared (suc i) ks rs)

module _ (v : ℕ) where
  -- what the records of a trace of version v say, by whether its setup goes by deadlines
  abbrev pub heards : Bool → List Traced → List Heard
  heards timed es = map (λ (e : Traced). heard_of v timed e.event) es

  module _ (u : Setup) (es : List Traced) where
    -- what the kernel has seen, entry by entry
    abbrev pub reported : List Seen
    reported = map (λ (e : Traced). e.seen) es

    -- what our rules give from the fresh gate of the trace's setup
    abbrev pub ruled : List Seen
    ruled = seen_from (trimmed u) fresh (heards u.timed es)

    -- A refused setup gives 1 to 5, and before that a version that is not known 22. Else the entries are compared.
    unfoldable pub trace_verdict : Verdict
    trace_verdict =
        cond (not (is_version v)) (refused bad_version)
        (cond (not (eqb (setup_answer u) accepted)) (refused (setup_answer u))
        (compared 0 reported ruled))

    -- the events of its records, the latest first
    abbrev pub traced : List Event
    traced = said (trimmed u) (reverse (heards u.timed es))

    -- WHAT IT COMES TO

    -- Accepted exactly if every answer, served client and charge is what our rules give ..
    pub record Ruled : Type 0 where
      pub version : is_version v ≡ true
      pub setup : setup_answer u ≡ accepted
      pub entries : reported ≡ ruled

    -- .. otherwise the first entry that differs, and which of the three differs first in it: those before are the same.
    pub record FirstDiffers (i : ℕ) (p : Part) : Type 0 where
      pub there : i < length es
      pub before : take i reported ≡ take i ruled
      pub here : difference (get_or reported i none_seen) (get_or ruled i none_seen) ≡ some p

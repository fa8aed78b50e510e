-- The keys: what they show of a state, one with another in it, and the deadlines that they hold.
-- Assumes nothing.
use Prim.Native.Nat.{ℕ, ◌<◌}
use mathlib.Core.Path.{◌≡◌, sym, ap, ◌∙◌}
use mathlib.Core.Bool.{true, false}
use mathlib.Core.List.{List}
use native.Mathlib.Omega.{arith}
use lib.Dec.{eqb}
use lib.ListN.{length, get_or, set, length-set}
use lib.Seq.{get_or-set_same, get_or-set_other}
use borrow.Author.Tests.{eqb-true, eqb-false}
use Rattle.rules.specs.Limits.{max_clients}
use Rattle.rules.specs.Lists.{upd}
use Rattle.rules.specs.State.{State}
use Rattle.rules.specs.Rank.{level}
use Rattle.rules.specs.Sound.{Sound}
use Rattle.rules.proofs.Tests.{by-test}
use Rattle.gate.specs.declared.Setup.{Setup}
use Rattle.gate.specs.declared.Gate.{Gate}
use Rattle.gate.specs.Shown.{setup_of, state_of, table}
use Rattle.gate.proofs.Tables.{list-table, table_same}
use Rattle.parts.specs.Parts.{keys_in, deadlines_in}
use Rattle.parts.specs.Shows.{ShowsKeys}

-- the keys of a gate
pub gate-keys : (g : Gate) → length g.setup.priorities ≡ max_clients → length g.deadlines ≡ max_clients
    → ShowsKeys g.setup (state_of g) (keys_in g.setup.timed g.setup.priorities g.deadlines)
unfolding state_of
gate-keys g p d =
    record {
      size = by-test g.setup.timed (λ t. rw t d) (λ t. rw t p);
      key = λ c. by-test g.setup.timed (λ t. rw t) (λ t. rw t);
    }

-- other deadlines that are the same ones
pub keys_kept : {v : Setup} {s t : State} {ks : List ℕ} → ShowsKeys v s ks → t.deadline ≡ s.deadline
    → ShowsKeys v t ks
keys_kept {t = t} h e = record { size = h.size; key = λ c. rw e (h.key c) }

-- under priorities the state's deadlines don't count
pub keys-untimed : {v : Setup} {s t : State} {ks : List ℕ} → v.timed ≡ false → ShowsKeys v s ks → ShowsKeys v t ks
keys-untimed n h = record { size = h.size; key = λ c. rw n (rw n at (h.key c)) }

-- under deadlines one is set
pub keys-set : {v : Setup} {s t : State} {ks : List ℕ} (x d : ℕ) → v.timed ≡ true → x < max_clients
    → ShowsKeys v s ks → t.deadline ≡ upd s.deadline x d → ShowsKeys v t (set ks x d)
keys-set {v} {s} {t} {ks} x d n b h e =
    record {
      size = length-set ks x d ∙ h.size;
      key = λ c.
          let z : level (setup_of v) t c ≡ upd s.deadline x d c = rw (n, e) in
          rw z (by-test (eqb c x)
          (λ q. rw (q, eqb-true c x q) (get_or-set_same ks x d 0 (omega (arith, h.size))))
          (λ q. rw q (get_or-set_other ks x c d 0 (eqb-false c x q) ∙ (rw n at (h.key c)))));
    }

-- the deadlines in the keys are the state's
pub keys-deadlines : {v : Setup} {s : State} {ks : List ℕ} → Sound (setup_of v) s → ShowsKeys v s ks
    → deadlines_in v.timed ks ≡ table max_clients s.deadline
keys-deadlines {v} {s} {ks} sound h =
    by-test v.timed
    (λ t. rw t (list-table ks 0 ∙ ap (λ n. table n (λ (c : ℕ). get_or ks c 0)) h.size
    ∙ table_same max_clients (λ (c : ℕ). get_or ks c 0) s.deadline (λ c b. rw t at (h.key c))))
    (λ t. rw t (table_same max_clients (λ (c : ℕ). 0) s.deadline (λ c b. sym ((sound.deadline c).untimed t))))

-- A sound state of the rules has room in a gate's places; the fresh gate is sound.
-- Assumes nothing.
use Prim.Native.Nat.{ℕ, ◌≤◌, ◌<◌}
use mathlib.Core.Path.{◌≡◌, refl}
use mathlib.Core.Bool.{true}
use mathlib.Core.List.{List, [], map}
use native.Mathlib.Omega.{arith}
use lib.Dec.{ltb}
use lib.ListN.{length, length-map}
use borrow.Author.Tests.{ltb-true, ltb-false}
use Rattle.rules.specs.Limits.{max_clusters, max_clients}
use Rattle.rules.specs.Lists.{has, heads, Distinct}
use Rattle.rules.specs.Setup.{Accepted, Trimmed}
use Rattle.rules.specs.State as state
use Rattle.rules.specs.State.{State, idle, front, best, spent, tidying, fresh}
use Rattle.rules.specs.Sound.{Sound, ServerSound}
use Rattle.rules.specs.Queues.{waits}
use Rattle.rules.proofs.Tests.{by-test, not_so, either_true}
use Rattle.rules.proofs.Lists.{heads-has, distinct-right}
use Rattle.rules.proofs.Images.{map-has}
use Rattle.rules.proofs.Counts.{distinct-below}
use Rattle.rules.proofs.Setups.{allowed}
use Rattle.rules.proofs.InOrder.{own}
use Rattle.rules.proofs.SoundStates.{sound-in-order}
use Rattle.rules.proofs.Theorems.{every-state-sound}
use Rattle.gate.specs.declared.Setup.{Setup}
use Rattle.gate.specs.Shown.{setup_of, server_of, state_of, show_server, shown}
use Rattle.parts.specs.Shows.{Fine, ServerFits, Shows, Within}
use Rattle.gate.specs.Made.{trimmed_in}
use Rattle.gate.proofs.Making.{trimmed-reads}
use Rattle.parts.proofs.Reading.{state-back}

pub server-back : (x : state.Server) → server_of (show_server x) ≡ x
server-back idle = refl
server-back (front c) = refl
server-back (best c) = refl
server-back (spent c) = refl
server-back tidying = refl

module _ (v : Setup) where
  -- an accepted setup with zeros past N and K
  pub accepted-fine : Accepted (setup_of v) → Trimmed (setup_of v) → Fine v
  accepted-fine a t =
      let q = allowed (setup_of v) a in
      record {
        clients = q.few-clients;
        sizes = λ k. by-test (ltb k v.clusters)
            (λ e. q.small_size k (ltb-true k v.clusters e))
            (λ e. rw (t.sizes k (ltb-false k v.clusters e)) (omega arith));
        homes = λ c. by-test (ltb c v.clients)
            (λ e. omega (arith, q.homes c (ltb-true c v.clients e), q.few-clusters))
            (λ e. rw (t.homes c (ltb-false c v.clients e)) (omega arith));
      }

  module _ (s : State) (h : Sound (setup_of v) s) where
    fine : Fine v
    fine = accepted-fine h.setup h.trimmed

    known : (c : ℕ) → c < v.clients → c < max_clients
    known c b = omega (arith, fine.clients)

    -- whoever waits is a client
    pub waiting-known : (c : ℕ) → waits (setup_of v) s c ≡ true → c < max_clients
    waiting-known c e =
        either_true (has c (s.lines ((setup_of v).cluster c))) (s.room c) e
        (λ w. known c ((h.lines ((setup_of v).cluster c)).known c w)) (λ w. known c (h.room c w).known)

    -- each cluster has at most one turn
    global-short : length s.global ≤ max_clusters
    global-short =
        omega (arith, distinct-below max_clusters g once below, length-map s.global (setup_of v).cluster)
      where
        g : List ℕ
        g = map (setup_of v).cluster s.global

        once : Distinct g
        once =
            distinct-right (own (setup_of v) s.server) g (sound-in-order (setup_of v) s h).ordered.turn-once

        below : (k : ℕ) → has k g ≡ true → k < max_clusters
        below k e = map-has (setup_of v).cluster k s.global e (λ d a b. rw (← b) (fine.homes d))

    front-known : (c : ℕ) → heads c (s.lines ((setup_of v).cluster c)) ≡ true → c < max_clients
    front-known c e =
        known c ((h.lines ((setup_of v).cluster c)).known c (heads-has c (s.lines ((setup_of v).cluster c)) e))

    server-known : (x : state.Server) → ServerSound (setup_of v) s x → ServerFits x
    server-known idle k = tt
    server-known (front c) k = front-known c k
    server-known (best c) k = known c k.known
    server-known (spent c) k = known c k.known
    server-known tidying k = tt

    -- a sound state is shown
    pub sound-shows : Shows v s (shown v s)
    unfolding shown
    sound-shows =
        record {
          fine = fine;
          setup = refl;
          queues = record {
            lines = record {
              places = refl;
              fits = λ k. record {
                short = omega (arith, (h.lines k).fits, fine.sizes k);
                used = λ x e. known x ((h.lines k).known x e);
              };
            };
            rooms = refl;
            global = record {
              places = refl;
              fits = record {
                short = global-short;
                used = λ x e. front-known x ((sound-in-order (setup_of v) s h).ordered.global-front x e);
              };
            };
            background = record {
              places = refl;
              fits = record {
                short = distinct-below max_clients s.background h.background.once
                    (λ x e. known x (h.background.known x e));
                used = λ x e. known x (h.background.known x e);
              };
            };
            service = record {
              server = server-back s.server;
              units = refl;
              fits = server-known s.server h.server;
            };
          };
          charges = refl;
          deadlines = refl;
        }

    pub sound-within : Within s
    sound-within =
        record {
          lines = λ k b. h.lines_past k (omega (arith, (allowed (setup_of v) h.setup).few-clusters));
          room = λ c b. not_so (s.room c) (λ e. omega (arith, known c (h.room c e).known));
          charge = λ c b. (h.charge c).past (omega (arith, fine.clients));
          deadline = λ c b. (h.deadline c).away (not_so (waits (setup_of v) s c) (λ e.
              omega (arith, waiting-known c e)));
        }

    -- reading what is shown gives the state back
    pub sound_back : state_of (shown v s) ≡ s
    sound_back = state-back v s (shown v s) sound-shows sound-within

-- THE FRESH GATE

pub fresh-sound : (v : Setup) → Accepted (setup_of v) → Sound (setup_of (trimmed_in v)) fresh
fresh-sound v a = rw (trimmed-reads v) (every-state-sound (setup_of v) a [])

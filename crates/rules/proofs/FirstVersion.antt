-- Logs of version 1: after each record the tidying is over, so that they mean what they meant before there was one.
-- Assumes nothing.
use Prim.Native.Nat.{ℕ}
use mathlib.Core.Path.{◌≡◌, refl, ap, ◌∙◌}
use mathlib.Core.Bool.{Bool, true, false, cond}
use mathlib.Core.List.{List, [], ◌∷◌, map}
use mathlib.Core.Option.{Option, some, none}
use lib.Dec.{eqb, ltb}
use lib.ListN.{length}
use borrow.Author.Tests.{eqb-true, eqb-false}
use Rattle.rules.specs.Refusals.{accepted}
use Rattle.rules.specs.Lists.{heads, highest}
use Rattle.rules.specs.Setup.{Setup, real_time}
use Rattle.rules.specs.State.{State, Server, idle, front, best, spent, tidying, fresh}
use Rattle.rules.specs.State.{is_front, is_serving, is_tidying}
use Rattle.rules.specs.Rank.{Rank, outranks}
use Rattle.rules.specs.Changes.{with_deadline}
use Rattle.rules.specs.Queues.{in_room, enter, refill, queue, start, pick, pick_idle}
use Rattle.rules.specs.Events.{Event, invoke, run, reply, abort, ready}
use Rattle.rules.specs.Events.{behind, joined, roomed, arrive, invoked, ran, gone, ended, replied}
use Rattle.rules.specs.Events.{left, spend, unqueue, aborted, readied}
use Rattle.rules.specs.Step.{answer_by, moved_by, next_by, step_by, answer, next, step}
use Rattle.rules.specs.Records.{Record, event_of, reply_ready, says_first, says_in, heard_of, step_of}
use Rattle.rules.specs.History.{after, said}
use Rattle.rules.proofs.Tests.{by-test, clash}
use Rattle.rules.proofs.Answers.{reply-accepted}
use Rattle.rules.proofs.Said.{said-step, refused-record}

-- the server isn't tidying
abbrev pub Settled : State → Type 0
Settled s = is_tidying s.server ≡ false

-- MOVES THAT LEAVE THE SERVER AS IT IS

enter-server : (k : ℕ) (s : State) (o : Option ℕ) → (enter k s o).server ≡ s.server
enter-server k s none = refl
enter-server k s (some d) = refl

pick-settled : (s : State) → Settled (pick s)
unfolding pick
pick-settled s = go s.global s.background
  where
    go : (g b : List ℕ) → Settled (start s g b)
    go [] [] = refl
    go [] (x ∷ b) = refl
    go (x ∷ g) b = refl

module _ (u : Setup) where
  queue-server : (k : ℕ) (s : State) → (queue u k s).server ≡ s.server
  unfolding queue
  queue-server k s = refl

  arrive-server : (d : ℕ) (l : List ℕ) (s : State) → (arrive u d l s).server ≡ s.server
  arrive-server d [] s = queue-server (u.cluster d) (joined u d s)
  arrive-server d (x ∷ xs) s = go (ltb (length (x ∷ xs)) (u.size (u.cluster d)))
    where
      go : (b : Bool) → (cond b (joined u d s) (roomed d s)).server ≡ s.server
      go true = refl
      go false = refl

  module _ (rank : Rank) where
    refill-server : (k : ℕ) (s : State) → (refill u rank k s).server ≡ s.server
    unfolding refill
    refill-server k s =
        enter-server k s
        (cond (ltb (length (s.lines k)) (u.size k)) (highest rank (in_room u s k) u.clients) none)

    -- EVENTS

    -- after a reply the server tidies
    replied-server : (s : State) → is_serving s.server ≡ true → (replied u rank s).server ≡ tidying
    unfolding replied
    replied-server s n = go s.server n
      where
        go : (v : Server) → is_serving v ≡ true → (ended u rank v s).server ≡ tidying
        go idle n = clash n refl
        go (front c) n = queue-server _ _ ∙ refill-server _ _
        go (best c) n = refl
        go (spent c) n = queue-server _ _
        go tidying n = clash n refl

    aborted-settled : (c : ℕ) (s : State) → Settled s → Settled (aborted u rank c s)
    unfolding aborted
    aborted-settled c s h = go (s.room c) (is_front s.server c) (heads c (s.lines (u.cluster c)))
      where
        go : (a b f : Bool)
            → Settled (cond a (left c s)
            (cond b (gone u rank c (spend c s))
            (cond f (queue u (u.cluster c) (gone u rank c (unqueue c s))) (gone u rank c s))))
        go true b f = h
        go false true f = ap is_tidying (refill-server _ _)
        go false false true = ap is_tidying (queue-server _ _ ∙ refill-server _ _) ∙ h
        go false false false = ap is_tidying (refill-server _ _) ∙ h

  invoked-settled : (c : ℕ) (s : State) → Settled s → Settled (invoked u c s)
  unfolding invoked
  invoked-settled c s h = picked s.server _ (come (real_time u c))
    where
      come : (b : Bool) → Settled (cond b (arrive u c (s.lines (u.cluster c)) s) (behind c s))
      come true = ap is_tidying (arrive-server c (s.lines (u.cluster c)) s) ∙ h
      come false = h

      picked : (v : Server) (t : State) → Settled t → Settled (pick_idle v t)
      picked idle t k = pick-settled t
      picked (front d) t k = k
      picked (best d) t k = k
      picked (spent d) t k = k
      picked tidying t k = k

  reply-ends : (s : State) → answer u s reply ≡ accepted → step u s reply ≡ next u s reply
  unfolding step_by
  reply-ends s a = rw a

  -- a pick leaves the deadlines
  pub pick-dated : (t : State) → with_deadline t.deadline (pick t) ≡ pick t
  unfolding pick
  pick-dated t = go t.global t.background
    where
      go : (g b : List ℕ) → with_deadline t.deadline (start t g b) ≡ start t g b
      go [] [] = refl
      go [] (x ∷ b) = refl
      go (x ∷ g) b = refl

  ready-picks : (t : State) → t.server ≡ tidying → step u t ready ≡ pick t
  unfolding step_by answer_by next_by moved_by readied
  ready-picks t e =
      let taken : answer u t ready ≡ accepted = rw e in
      let z : eqb (answer u t ready) accepted ≡ true = rw taken in
      rw z (pick-dated t)

  replied-tidies : (s : State) → answer u s reply ≡ accepted → (next u s reply).server ≡ tidying
  unfolding next_by moved_by
  replied-tidies s a = replied-server (outranks u s) s (reply-accepted u (outranks u s) s a)

  -- RECORDS

  -- an accepted reply and its pick are one step, as document 01 has it
  pub reply-picks : (s : State) → answer u s reply ≡ accepted
      → step_of u s reply_ready ≡ pick (next u s reply)
  reply-picks s a =
      rw a (ap (λ t. step u t ready) (reply-ends s a) ∙ ready-picks (next u s reply) (replied-tidies s a))

  event-settled : (s : State) (e : Event) → Settled s → Settled (step_of u s (says_first e))
  unfolding step_by next_by moved_by ran
  event-settled s (invoke c o) h =
      by-test (eqb (answer u s (invoke c o)) accepted) (λ q. rw q (invoked-settled c s h)) (λ q. rw q h)
  event-settled s (run n) h =
      by-test (eqb (answer u s (run n)) accepted) (λ q. rw q h) (λ q. rw q h)
  event-settled s reply h =
      by-test (eqb (answer u s reply) accepted)
      (λ q.
      ap (λ t. is_tidying t.server) (reply-picks s (eqb-true (answer u s reply) accepted q))
      ∙ pick-settled (next u s reply))
      (λ q.
      ap (λ t. is_tidying t.server) (refused-record u s reply_ready (eqb-false (answer u s reply) accepted q))
      ∙ h)
  event-settled s (abort c) h =
      by-test (eqb (answer u s (abort c)) accepted)
      (λ q. rw q (aborted-settled (outranks u s) c s h)) (λ q. rw q h)
  event-settled s ready h = h

  record-settled : (s : State) (o : Option Event) → Settled s → Settled (step_of u s (says_in 1 o))
  record-settled s none h = h
  record-settled s (some e) h = event-settled s e h

  -- After any records of such a log the server isn't tidying, so W bounds no run.
  pub never-tidying : (timed : Bool) (rs : List Record) → Settled (after u (said u (map (heard_of 1 timed) rs)))
  never-tidying timed [] = refl
  never-tidying timed (r ∷ rs) =
      let past = said u (map (heard_of 1 timed) rs) in
      ap (λ t. is_tidying t.server) (said-step u fresh past (heard_of 1 timed r))
      ∙ record-settled (after u past) (event_of timed r) (never-tidying timed rs)

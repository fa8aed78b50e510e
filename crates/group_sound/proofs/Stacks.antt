-- A stack: who is seen on it, and that its servers have tickets. Tickets: no more than 4 for each server.
-- Assumes nothing.
use Prim.Native.Nat.{ℕ, zero, suc, ◌≤◌, ◌<◌}
use Rattle.std.specs.Prelude.{◌↔◌, IsTrue, EachIndex, slice_index}
use mathlib.Core.Path.{◌≡◌, refl, sym, ◌∙◌, fun_ext}
use mathlib.Core.Bool.{Bool, true, false, ◌&&◌, ◌||◌}
use mathlib.Core.List.{List, [], ◌∷◌}
use mathlib.Core.Logic.{by_cases}
use native.Mathlib.Decide.{dec_lt}
use native.Mathlib.Omega.{arith}
use lib.Dec.{leb}
use lib.ListN.{length, get_or, get_or-eq_default}
use borrow.Author.Tests.{le-leb, leb-true}
use Rattle.rules.specs.Limits.{max_clients}
use Rattle.rules.proofs.Tests.{by-test, both_true, clash}
use Rattle.sets.specs.Sets.{member}
use Rattle.sets.proofs.Laws.{member-set_of, member-set_of-past}
use Rattle.places.specs.Places.{unpad, used_first}
use Rattle.places.specs.Tests.{every, distinct}
use Rattle.places.proofs.Tests.{every-has}
use Rattle.places.proofs.Queues.{used-unpad}
use Rattle.seen.specs.Seen.{queue_seen}
use Rattle.seen.proofs.Once.{seen-distinct}
use Rattle.group_rules.specs.declared.Group.{Group}
use Rattle.group_rules.specs.Limits.{max_contexts, max_servers, max_tickets}
use Rattle.group_rules.specs.Groups.{tickets_of, has_ticket, places_of, calls_of, queued}
use Rattle.group_rules.specs.Blocking.{committed}
use Rattle.group_rules.specs.Sound.{few_tickets, stack_sound}
use Rattle.blocking.specs.Queue.{ticket_set, SetsOf}
use Rattle.blocking.proofs.Tickets.{ticket_for}
use Rattle.blocking.proofs.Blocking.{committed-in}
use Rattle.group_sound.specs.Answers.{is_some, stack_fits}

-- TICKETS

-- each count is at most 4
few-some : (counts : List ℕ) → ((k : ℕ) → k < length counts → get_or counts k 0 ≤ max_tickets)
    → few_tickets counts ≡ true
unfolding few_tickets every
few-some [] h = refl
few-some (n ∷ counts) h =
    rw (le-leb n max_tickets (h 0 (omega arith))) (few-some counts (λ k l. h (suc k) (omega arith)))

some-few : (counts : List ℕ) → few_tickets counts ≡ true → (k : ℕ) → k < length counts
    → get_or counts k 0 ≤ max_tickets
unfolding few_tickets every
some-few [] h k l = absurd (omega arith)
some-few (n ∷ counts) h zero l = leb-true n max_tickets (both_true (leb n max_tickets) _ h).0
some-few (n ∷ counts) h (suc k) l = some-few counts (both_true (leb n max_tickets) _ h).1 k (omega arith)

pub few-each : (counts : List ℕ) (r : Bool)
    → (IsTrue r ↔ EachIndex counts (λ (k : ℕ). slice_index counts k ≤ max_tickets)) → r ≡ few_tickets counts
few-each counts true h = sym (few-some counts (h.0 refl))
few-each counts false h = by-test (few_tickets counts) (λ e. h.1 (some-few counts e) ∙ sym e) (λ e. sym e)

-- the set of 16 counts has the servers with tickets, and no other number
ticket-has : (counts : List ℕ) → length counts ≡ max_servers → (s : ℕ) → member (ticket_set counts) s ≡ ticket_for counts s
unfolding ticket_set
ticket-has counts n s =
    by_cases (dec_lt s max_servers)
    (λ l. member-set_of max_servers (ticket_for counts) s l)
    (λ l. rw (get_or-eq_default counts 0 {n = s} (omega arith))
    (member-set_of-past max_servers (ticket_for counts) s (omega arith)))

ticket-low : (counts : List ℕ) (s : ℕ) → member (ticket_set counts) s ≡ true → s < max_clients
unfolding ticket_set
ticket-low counts s h =
    by_cases (dec_lt s max_servers)
    (λ l. omega arith)
    (λ l. clash h (member-set_of-past max_servers (ticket_for counts) s (omega arith)))

-- A STACK

-- something is seen if used places come first, each number on them passes the test, and none stands twice
seen-some : (p : ℕ → Bool) (q : List ℕ) → ((x : ℕ) → p x ≡ true → x < max_clients)
    → is_some (queue_seen p q 0) ≡ (used_first q && every p (unpad q)) && distinct (unpad q)
unfolding queue_seen
seen-some p q low =
    by-test (used_first q && every p (unpad q))
    (λ e.
    let all = (both_true (used_first q) (every p (unpad q)) e).1 in
    rw (e, seen-distinct (unpad q) (λ x h. low x (every-has p (unpad q) x all h)))
    (by-test (distinct (unpad q)) (λ d. rw d) (λ d. rw d)))
    (λ e. rw e)

module _ (g : Group) (sets : List ℕ) (is : SetsOf g.tickets g.stacks sets) (c : ℕ) (low : c < max_contexts)
    (waits : queued g c ≡ true) (long : length (tickets_of g c) ≡ max_servers) where
  pub stack-fits : stack_fits g.times sets (tickets_of g c) (places_of g c) c ≡ stack_sound g c
  unfolding stack_fits stack_sound
  stack-fits =
      rw (
        seen-some (member (ticket_set (tickets_of g c))) (places_of g c) (ticket-low (tickets_of g c)),
        fun_ext (ticket-has (tickets_of g c) long),
        used-unpad (places_of g c),
        ← committed-in g sets is c low waits,
      )
      (turned (used_first (places_of g c)) (every (has_ticket g c) (calls_of g c)) (distinct (calls_of g c))
      (leb (length (calls_of g c)) 1 || committed g c))
    where
      turned : (u e d o : Bool) → ((u && e) && d) && o ≡ (u && d) && (e && o)
      turned true true d o = refl
      turned true false true o = refl
      turned true false false o = refl
      turned false e d o = refl

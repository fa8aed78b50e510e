-- What holds where an event is accepted.
-- Assumes nothing.
use Prim.Native.Nat.{ℕ, ◌<◌}
use mathlib.Core.Path.{◌≡◌}
use mathlib.Core.Bool.{true, false, not, ◌&&◌, cond}
use mathlib.Core.List.{List}
use native.Mathlib.Omega.{arith}
use lib.Dec.{eqb, leb}
use lib.ListN.{length, get_or}
use borrow.Author.Tests.{eqb-false, ltb-true, leb-false, not-false}
use Rattle.rules.specs.Lists.{has}
use Rattle.rules.specs.Refusals.{accepted}
use Rattle.rules.proofs.Tests.{both_true, passes-by}
use Rattle.group_rules.specs.declared.Group.{Group}
use Rattle.group_rules.specs.Limits.{max_contexts, max_servers, max_depth}
use Rattle.group_rules.specs.Refusals.{no_such, queued_already, many_tickets, no_first_ticket, not_later}
use Rattle.group_rules.specs.Refusals.{not_queued, not_committed, no_ticket, on_stack, stack_full}
use Rattle.group_rules.specs.Groups.{has_ticket, calls_of, queued}
use Rattle.group_rules.specs.Blocking.{committed}
use Rattle.group_rules.specs.Sound.{few_tickets}
use Rattle.group_rules.specs.Events.{is_context, is_server, entry_answer, call_answer, reply_answer}

pub record EntryIn (g : Group) (c time first : ℕ) (tickets : List ℕ) : Type 0 where
  pub low : c < max_contexts
  pub server : first < max_servers
  pub out : queued g c ≡ false
  pub few : few_tickets tickets ≡ true
  pub ticket : 0 < get_or tickets first 0
  pub late : g.entered ≡ true → g.last < time

pub record CallIn (g : Group) (c s : ℕ) : Type 0 where
  pub low : c < max_contexts
  pub can : committed g c ≡ true
  pub ticket : has_ticket g c s ≡ true
  pub new : has s (calls_of g c) ≡ false
  pub room : length (calls_of g c) < max_depth

pub record ReplyIn (g : Group) (c : ℕ) : Type 0 where
  pub low : c < max_contexts
  pub can : committed g c ≡ true

module _ (g : Group) where
  pub entry-in : (c time first : ℕ) (tickets : List ℕ) → entry_answer g c time first tickets ≡ accepted
      → EntryIn g c time first tickets
  unfolding entry_answer
  entry-in c time first tickets e =
      let e4 : ℕ = cond (g.entered && leb time g.last) not_later accepted in
      let e3 : ℕ = cond (eqb (get_or tickets first 0) 0) no_first_ticket e4 in
      let e2 : ℕ = cond (not (few_tickets tickets)) many_tickets e3 in
      let e1 : ℕ = cond (queued g c) queued_already e2 in
      let a = passes-by (not (is_context c && is_server first)) no_such e1 (omega arith) e in
      let b = passes-by (queued g c) queued_already e2 (omega arith) a.1 in
      let d = passes-by (not (few_tickets tickets)) many_tickets e3 (omega arith) b.1 in
      let k = passes-by (eqb (get_or tickets first 0) 0) no_first_ticket e4 (omega arith) d.1 in
      let l = passes-by (g.entered && leb time g.last) not_later accepted (omega arith) k.1 in
      let both = both_true (is_context c) (is_server first) (not-false (is_context c && is_server first) a.0) in
      record {
        low = ltb-true c max_contexts both.0;
        server = ltb-true first max_servers both.1;
        out = b.0;
        few = not-false (few_tickets tickets) d.0;
        ticket = omega (arith, eqb-false (get_or tickets first 0) 0 k.0);
        late = λ y. let n : leb time g.last ≡ false = rw y at l.0 in leb-false time g.last n;
      }

  pub call-in : (c s : ℕ) → call_answer g c s ≡ accepted → CallIn g c s
  unfolding call_answer
  call-in c s e =
      let e5 : ℕ = cond (leb max_depth (length (calls_of g c))) stack_full accepted in
      let e4 : ℕ = cond (has s (calls_of g c)) on_stack e5 in
      let e3 : ℕ = cond (not (has_ticket g c s)) no_ticket e4 in
      let e2 : ℕ = cond (not (committed g c)) not_committed e3 in
      let e1 : ℕ = cond (not (queued g c)) not_queued e2 in
      let a = passes-by (not (is_context c && is_server s)) no_such e1 (omega arith) e in
      let b = passes-by (not (queued g c)) not_queued e2 (omega arith) a.1 in
      let d = passes-by (not (committed g c)) not_committed e3 (omega arith) b.1 in
      let k = passes-by (not (has_ticket g c s)) no_ticket e4 (omega arith) d.1 in
      let l = passes-by (has s (calls_of g c)) on_stack e5 (omega arith) k.1 in
      let m = passes-by (leb max_depth (length (calls_of g c))) stack_full accepted (omega arith) l.1 in
      let both = both_true (is_context c) (is_server s) (not-false (is_context c && is_server s) a.0) in
      record {
        low = ltb-true c max_contexts both.0;
        can = not-false (committed g c) d.0;
        ticket = not-false (has_ticket g c s) k.0;
        new = l.0;
        room = leb-false max_depth (length (calls_of g c)) m.0;
      }

  pub reply-in : (c : ℕ) → reply_answer g c ≡ accepted → ReplyIn g c
  unfolding reply_answer
  reply-in c e =
      let e2 : ℕ = cond (not (committed g c)) not_committed accepted in
      let e1 : ℕ = cond (not (queued g c)) not_queued e2 in
      let a = passes-by (not (is_context c)) no_such e1 (omega arith) e in
      let b = passes-by (not (queued g c)) not_queued e2 (omega arith) a.1 in
      let d = passes-by (not (committed g c)) not_committed accepted (omega arith) b.1 in
      record {
        low = ltb-true c max_contexts (not-false (is_context c) a.0);
        can = not-false (committed g c) d.0;
      }

-- `group_sound::context_sound` meets its contract.
-- Assumes nothing.
use Prim.Native.Nat.{ℕ}
use mathlib.Core.Path.{◌≡◌, refl, sym, ◌∙◌}
use mathlib.Core.Bool.{Bool, true, false, ◌&&◌, cond}
use mathlib.Core.List.{List}
use lib.ListN.{length, get_or}
use borrow.Author.Rules.{rules}
use borrow.Author.Tests.{eq-eqb}
use Rattle.group_rules.specs.Limits.{max_servers, max_depth}
use Rattle.group_rules.specs.Groups.{has_call}
use Rattle.group_rules.specs.Sound.{few_tickets}
use Rattle.group_sound.specs.Answers.{empty_of, time_fits, stack_fits, context_fits}
use Rattle.group_sound.proofs.context_sound.Goals as goal
use Rattle.group_sound.proofs.context_sound.Goals.{then-time_sound, else-time_sound}

-- the counts and the places are so many, and the stack tells the rest
by-stack : (entered : Bool) (last : ℕ) (times sets : List ℕ) (queue : ℕ) (counts places : List ℕ) (c : ℕ) {b : Bool}
    → length counts ≡ max_servers → length places ≡ max_depth → b ≡ has_call places
    → context_fits entered last times sets queue counts places c
    ≡ cond b
    ((time_fits entered last times queue c && few_tickets counts) && stack_fits times sets counts places c)
    (empty_of (get_or times c 0) counts places)
unfolding context_fits
by-stack entered last times sets queue counts places c n m e =
    rw (eq-eqb (length counts) max_servers n, eq-eqb (length places) max_depth m, e)
    (regroup (has_call places) (time_fits entered last times queue c) (few_tickets counts) _ _)
  where
    regroup : (b t f s e : Bool) → cond b (t && (f && s)) e ≡ cond b ((t && f) && s) e
    regroup b true f s e = refl
    regroup b false f s e = refl

pub returns-then-few_tickets : goal.returns-then-few_tickets
returns-then-few_tickets c =
    let a = c.args in
    let n : length a.t.counts ≡ max_servers = search rules in
    let m : length a.s.places ≡ max_depth = search rules in
    let tests : c.if-time_sound.value ≡ time_fits a.g.now.entered a.g.now.last a.g.now.times a.queue a.c && few_tickets a.t.counts =
    elim c.if-time_sound.branch [
      | then-time_sound w ↦ rw (← c.time_sound.ensures, w.if-time_sound.true) (w.value-is ∙ w.few_tickets.ensures)
      | else-time_sound w ↦ rw (← c.time_sound.ensures, w.if-time_sound.false) (w.value-is ∙ w.if-time_sound.false)
    ] in
    sym (by-stack a.g.now.entered a.g.now.last a.g.now.times a.sets.now a.queue a.t.counts a.s.places a.c n m c.is_queued.ensures
    ∙ rw (c.if-is_queued.true, sym tests ∙ c.if-few_tickets.true) (sym c.stack_sound.ensures))

pub returns-else-few_tickets : goal.returns-else-few_tickets
returns-else-few_tickets c =
    let a = c.args in
    let n : length a.t.counts ≡ max_servers = search rules in
    let m : length a.s.places ≡ max_depth = search rules in
    let tests : c.if-time_sound.value ≡ time_fits a.g.now.entered a.g.now.last a.g.now.times a.queue a.c && few_tickets a.t.counts =
    elim c.if-time_sound.branch [
      | then-time_sound w ↦ rw (← c.time_sound.ensures, w.if-time_sound.true) (w.value-is ∙ w.few_tickets.ensures)
      | else-time_sound w ↦ rw (← c.time_sound.ensures, w.if-time_sound.false) (w.value-is ∙ w.if-time_sound.false)
    ] in
    sym (by-stack a.g.now.entered a.g.now.last a.g.now.times a.sets.now a.queue a.t.counts a.s.places a.c n m c.is_queued.ensures
    ∙ rw (c.if-is_queued.true, sym tests ∙ c.if-few_tickets.false) (sym c.if-few_tickets.false))

pub returns-else-is_queued : goal.returns-else-is_queued
returns-else-is_queued c =
    let a = c.args in
    let n : length a.t.counts ≡ max_servers = search rules in
    let m : length a.s.places ≡ max_depth = search rules in
    sym (by-stack a.g.now.entered a.g.now.last a.g.now.times a.sets.now a.queue a.t.counts a.s.places a.c n m c.is_queued.ensures
    ∙ rw (c.if-is_queued.false) (sym c.is_empty.ensures))

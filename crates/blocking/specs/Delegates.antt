-- To whom a context delegates, by timestamps, sets and its stack.
-- Assumes nothing.
use Rattle.std.specs.Prelude.{ℕ, cond, List}
use Rattle.places.specs.Places.{unpad}
use Rattle.group_rules.specs.Groups.{has_call}
use Rattle.group_rules.specs.Blocking as rules
use Rattle.group_rules.specs.Blocking.{nobody, server, context, last_of, to_blocker}
use Rattle.blocking.specs.declared.Delegate as code
use Rattle.blocking.specs.declared.Delegate.TheVariants as case
use Rattle.blocking.specs.Queue.{is_nobody, blocker_in}

-- each case of the code's answer
abbrev pub told_of : code.Delegate → rules.Delegate
told_of case.Nobody = nobody
told_of (case.Server s) = server s.0
told_of (case.Context b) = context b.0

-- a context that nobody blocks to the server on top of its stack, another to who blocks it directly; one that isn't
-- queued to nobody
unfoldable pub delegate_in : List ℕ → List ℕ → List ℕ → ℕ → rules.Delegate
delegate_in times sets places c =
    cond (has_call places)
    (cond (is_nobody (blocker_in times sets c)) (server (last_of (unpad places)))
    (to_blocker (blocker_in times sets c)))
    nobody

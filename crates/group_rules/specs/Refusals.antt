-- The numbers of refusal of a group's events, each once. 0 for accepted and 19 for a state that isn't sound are the
-- gate's too.
-- Assumes nothing.
use Rattle.std.specs.Prelude.{ℕ}

-- no such context or server
abbrev pub no_such : ℕ
no_such = 40

-- OF AN ENTRY

-- already queued
abbrev pub queued_already : ℕ
queued_already = 41

-- over 4 tickets for a server
abbrev pub many_tickets : ℕ
many_tickets = 42

-- no ticket for the first call
abbrev pub no_first_ticket : ℕ
no_first_ticket = 43

-- timestamp not above that of every earlier entry, gone or not
abbrev pub not_later : ℕ
not_later = 44

-- OF A CALL OR A REPLY

-- not queued
abbrev pub not_queued : ℕ
not_queued = 45

-- not committed
abbrev pub not_committed : ℕ
not_committed = 46

-- OF A CALL

-- no ticket
abbrev pub no_ticket : ℕ
no_ticket = 47

-- server on the stack
abbrev pub on_stack : ℕ
on_stack = 48

-- stack full
abbrev pub stack_full : ℕ
stack_full = 49

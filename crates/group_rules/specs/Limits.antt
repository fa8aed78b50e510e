-- The limits of a group, each once.
-- Assumes nothing.
use Rattle.std.specs.Prelude.{ℕ}

-- 8 contexts, one a processor
abbrev pub max_contexts : ℕ
max_contexts = 8

-- 16 servers
abbrev pub max_servers : ℕ
max_servers = 16

-- at most 4 tickets a server in a context
abbrev pub max_tickets : ℕ
max_tickets = 4

-- 8 calls deep
abbrev pub max_depth : ℕ
max_depth = 8

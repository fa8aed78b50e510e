-- The numbers of refusal, each once. Everything else speaks of them by these names.
-- Assumes nothing.
use Rattle.std.specs.Prelude.{ℕ}

-- accepted
abbrev pub accepted : ℕ
accepted = 0

-- OF A SETUP

-- cluster count not 1 to 8
abbrev pub bad_clusters : ℕ
bad_clusters = 1

-- cap is 0
abbrev pub no_cap : ℕ
no_cap = 2

-- more than 64 clients
abbrev pub many_clients : ℕ
many_clients = 3

-- a cluster size not 1 to 8
abbrev pub bad_size : ℕ
bad_size = 4

-- a client's kind not 0 or 1, or its cluster not below K
abbrev pub bad_row : ℕ
bad_row = 5

-- OF AN EVENT

-- no such client
abbrev pub no_client : ℕ
no_client = 10

-- invoke by a client that waits already, spent included
abbrev pub waits_already : ℕ
waits_already = 11

-- run or reply on an idle server, or reply while it tidies
abbrev pub server_idle : ℕ
server_idle = 12

-- run of 0 units
abbrev pub run_of_none : ℕ
run_of_none = 13

-- run would carry units served past L, or units tidied past W
abbrev pub run_past_cap : ℕ
run_past_cap = 14

-- abort of a client that neither waits nor is spent
abbrev pub not_waiting : ℕ
not_waiting = 15

-- abort of a best-effort client
abbrev pub best_effort : ℕ
best_effort = 16

-- abort of a client already spent
abbrev pub spent_already : ℕ
spent_already = 17

-- unknown event code, a reply or ready whose argument isn't 0, an invoke without the form that its setup calls for, or
-- a deadline where there is none
abbrev pub unknown_record : ℕ
unknown_record = 18

-- state not sound, or a run would carry a charge past 33,554,431
abbrev pub unsound : ℕ
unsound = 19

-- ready while the server isn't tidying
abbrev pub not_tidying : ℕ
not_tidying = 26

-- OF A LOG

-- log shorter than 9 bytes
abbrev pub log_short : ℕ
log_short = 20

-- mark wrong
abbrev pub bad_mark : ℕ
bad_mark = 21

-- version not 1, 2 or 3
abbrev pub bad_version : ℕ
bad_version = 22

-- W, the byte of ranks, tables or last record cut
abbrev pub log_cut : ℕ
log_cut = 23

-- log over 65,536 bytes
abbrev pub log_long : ℕ
log_long = 24

-- the buffer has no room for the whole next item, or the log would pass 65,536 bytes
abbrev pub no_room : ℕ
no_room = 25

-- the byte of ranks says neither priorities nor deadlines
abbrev pub bad_ranks : ℕ
bad_ranks = 33

-- OF A TEXT OF COMMA-SEPARATED LINES

-- a line of a wrong form, an unknown version, a missing line or a number too wide
abbrev pub bad_line : ℕ
bad_line = 29

-- OF AN ORDER

-- a form field out of range
abbrev pub field_out : ℕ
field_out = 30

-- quoted budget over the period
abbrev pub over_period : ℕ
over_period = 31

-- over 16 server lines, or any two columns differ in length
abbrev pub bad_lines : ℕ
bad_lines = 32

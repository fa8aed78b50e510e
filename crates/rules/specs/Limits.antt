-- The limits that document 01 sets, each once.
-- Assumes nothing.
use Rattle.std.specs.Prelude.{ℕ}

-- Clusters K: 1 to 8.
abbrev pub max_clusters : ℕ
max_clusters = 8

-- Processors in cluster k, m: 1 to 8.
abbrev pub max_size : ℕ
max_size = 8

-- Clients N: 0 to 64, numbered from 0.
abbrev pub max_clients : ℕ
max_clients = 64

-- Length cap L, in units: 1 to 65,535.
abbrev pub max_cap : ℕ
max_cap = 65535

-- Second cap W, in units: 0 to 65,535.
abbrev pub max_tidy : ℕ
max_tidy = 65535

-- No charge is over 33,554,431.
abbrev pub max_charge : ℕ
max_charge = 33554431

-- A deadline has 32 bits.
abbrev pub max_deadline : ℕ
max_deadline = 4294967295

-- Unused places hold 255.
abbrev pub unused_place : ℕ
unused_place = 255

-- THE QUOTE

-- own work e (1 to 1,000,000,000)
abbrev pub max_work : ℕ
max_work = 1000000000

-- period p (1 to 200,000,000,000)
abbrev pub max_period : ℕ
max_period = 200000000000

-- up to 16 server lines
abbrev pub max_lines : ℕ
max_lines = 16

-- calls N (0 to 1,000)
abbrev pub max_calls : ℕ
max_calls = 1000

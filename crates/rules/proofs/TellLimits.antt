-- Wrong limits and wrong numbers told apart: each limit from both sides, setups by their numbers, orders by their
-- quotes.
-- Assumes nothing.
use Prim.Native.Nat.{ℕ}
use mathlib.Core.Bool.{false}
use mathlib.Core.Path.{◌≡◌, refl}
use mathlib.Core.List.{List, [], ◌∷◌, map}
use lib.IntN.{ℤ, pos, negsuc}
use Rattle.rules.specs.Limits.{max_clusters, max_size, max_clients, max_cap, max_tidy, max_charge, max_deadline}
use Rattle.rules.specs.Limits.{unused_place, max_work, max_period, max_lines, max_calls}
use Rattle.rules.specs.Refusals.{accepted, bad_clusters, no_cap, many_clients, bad_size, bad_row, no_client}
use Rattle.rules.specs.Refusals.{waits_already, server_idle, run_of_none, run_past_cap, not_waiting, best_effort}
use Rattle.rules.specs.Refusals.{spent_already, unknown_record, unsound, not_tidying, log_short, bad_mark}
use Rattle.rules.specs.Refusals.{bad_version, log_cut, log_long, no_room, bad_line, bad_ranks}
use Rattle.rules.specs.Refusals.{field_out, over_period, bad_lines}
use Rattle.rules.specs.Setup.{Setup, setup_answer}
use Rattle.rules.specs.Quote.{Order, order_of, Quote, quote}
use Rattle.rules.proofs.Table.{rt, be, given, Row}

-- NUMBERS

pub limits-are :
    max_clusters ∷ max_size ∷ max_clients ∷ max_cap ∷ max_tidy ∷ max_charge ∷ max_deadline ∷ unused_place ∷ max_work ∷
    max_period ∷ max_lines ∷ max_calls ∷ []
    ≡ 8 ∷ 8 ∷ 64 ∷ 65535 ∷ 65535 ∷ 33554431 ∷ 4294967295 ∷ 255 ∷ 1000000000 ∷ 200000000000 ∷ 16 ∷ 1000 ∷ []
limits-are = refl

pub numbers-are :
    accepted ∷ bad_clusters ∷ no_cap ∷ many_clients ∷ bad_size ∷ bad_row ∷ no_client ∷ waits_already ∷ server_idle ∷
    run_of_none ∷ run_past_cap ∷ not_waiting ∷ best_effort ∷ spent_already ∷ unknown_record ∷ unsound ∷ not_tidying ∷
    log_short ∷ bad_mark ∷ bad_version ∷ log_cut ∷ log_long ∷ no_room ∷ bad_line ∷ bad_ranks ∷ field_out ∷
    over_period ∷ bad_lines ∷ []
    ≡ 0 ∷ 1 ∷ 2 ∷ 3 ∷ 4 ∷ 5 ∷ 10 ∷ 11 ∷ 12 ∷ 13 ∷ 14 ∷ 15 ∷ 16 ∷ 17 ∷ 18 ∷ 19 ∷ 26 ∷ 20 ∷ 21 ∷ 22 ∷ 23 ∷ 24 ∷ 25 ∷
    29 ∷ 33 ∷ 30 ∷ 31 ∷ 32 ∷ []
numbers-are = refl

-- SETUPS

-- K clusters of size m and N clients of one row
abbrev pub alike : ℕ → ℕ → ℕ → ℕ → Row → Setup
alike K N L m r = record {
  clusters = K;
  clients = N;
  cap = L;
  tidy = 0;
  timed = false;
  size = λ (k : ℕ). m;
  kind = λ (c : ℕ). r.kind;
  cluster = λ (c : ℕ). r.cluster;
  priority = λ (c : ℕ). r.priority;
}

-- the row of a client of another kind
abbrev pub odd : Row
odd = record { kind = 2; cluster = 0; priority = 0 }

pub record Given : Type 0 where
  pub setup : Setup
  pub wanted : ℕ

abbrev pub answered : Setup → ℕ → Given
answered u n = record { setup = u; wanted = n }

unfoldable pub setup_cases : List Given
setup_cases =
    -- K from 1 to 8
    answered (alike 0 1 1 1 (rt 0 0)) 1 ∷ answered (alike 1 1 1 1 (rt 0 0)) 0 ∷
    answered (alike 8 1 1 1 (rt 7 0)) 0 ∷ answered (alike 9 1 1 1 (rt 8 0)) 1 ∷
    -- a cap of 0, and the largest
    answered (alike 1 1 0 1 (rt 0 0)) 2 ∷ answered (alike 1 1 65535 1 (rt 0 0)) 0 ∷
    -- N from 0 to 64
    answered (alike 1 0 1 1 (rt 0 0)) 0 ∷ answered (alike 1 64 1 1 (rt 0 0)) 0 ∷ answered (alike 1 65 1 1 (rt 0 0)) 3 ∷
    -- a size from 1 to 8, of any cluster, and not past K
    answered (alike 1 1 1 0 (rt 0 0)) 4 ∷ answered (alike 1 1 1 8 (rt 0 0)) 0 ∷ answered (alike 1 1 1 9 (rt 0 0)) 4 ∷
    answered (given (1 ∷ 1 ∷ 9 ∷ []) [] 1) 4 ∷ answered (given (1 ∷ []) [] 1) 0 ∷
    -- a kind of 0 or 1, and a cluster below K, of any client
    answered (alike 1 1 1 1 (be 0 0)) 0 ∷ answered (alike 1 1 1 1 odd) 5 ∷ answered (alike 3 1 1 1 (rt 3 0)) 5 ∷
    answered (alike 3 1 1 1 (be 3 0)) 5 ∷ answered (given (1 ∷ []) (rt 0 0 ∷ rt 0 0 ∷ rt 1 0 ∷ []) 1) 5 ∷
    -- a row past N is not looked at
    answered (alike 1 0 1 1 odd) 0 ∷
    -- the order 1, 2, 3, 4, 5
    answered (alike 9 65 0 9 odd) 1 ∷ answered (alike 1 65 0 9 odd) 2 ∷ answered (alike 1 65 1 9 odd) 3 ∷
    answered (alike 1 64 1 9 odd) 4 ∷
    []

pub setup_cases-hold : map (λ (t : Given). setup_answer t.setup) setup_cases ≡ map (λ (t : Given). t.wanted) setup_cases
unfolding setup_cases setup_answer
setup_cases-hold = refl

-- ORDERS

-- no server lines
abbrev pub bare : ℕ → ℕ → ℕ → ℕ → Order
bare e p m K = order_of (pos e) (pos p) (pos m) (pos K) [] [] []

-- one server line, and room for what it costs
abbrev pub one_line : ℤ → ℤ → ℤ → Order
one_line n l w = order_of (pos 1) (pos 200000000000) (pos 1) (pos 1) (n ∷ []) (l ∷ []) (w ∷ [])

-- two server lines with m 1 and K 1: N, L and W of each
abbrev pub two_lines : ℕ → ℕ → ℤ → ℤ → ℤ → ℤ → ℤ → ℤ → Order
two_lines e p n l w n' l' w' = order_of (pos e) (pos p) (pos 1) (pos 1) (n ∷ n' ∷ []) (l ∷ l' ∷ []) (w ∷ w' ∷ [])

-- three columns, in an order whose other fields are all in range
abbrev pub columns : List ℤ → List ℤ → List ℤ → Order
columns calls caps tidies = order_of (pos 1) (pos 129) (pos 1) (pos 1) calls caps tidies

-- one and two ones, sixteen, and more
abbrev pub one : List ℤ
one = pos 1 ∷ []

abbrev pub both : List ℤ
both = pos 1 ∷ one

abbrev pub sixteen : List ℤ → List ℤ
sixteen more =
    pos 1 ∷ pos 1 ∷ pos 1 ∷ pos 1 ∷ pos 1 ∷ pos 1 ∷ pos 1 ∷ pos 1 ∷ pos 1 ∷ pos 1 ∷ pos 1 ∷ pos 1 ∷ pos 1 ∷ pos 1 ∷
    pos 1 ∷ pos 1 ∷ more

pub record Asked : Type 0 where
  pub order : Order
  pub wanted : Quote

-- budget, answer and place
abbrev pub quoted : Order → ℕ → ℕ → ℕ → Asked
quoted o b n at = record { order = o; wanted = record { budget = b; answer = n; place = at } }

unfoldable pub quote_cases : List Asked
quote_cases =
    -- e from 1 to 1,000,000,000
    quoted (bare 0 9 1 1) 0 30 0 ∷ quoted (bare 1 9 1 1) 1 0 0 ∷
    quoted (bare 1000000000 200000000000 1 1) 1000000000 0 0 ∷ quoted (bare 1000000001 200000000000 1 1) 0 30 0 ∷
    quoted (order_of (negsuc 0) (pos 9) (pos 1) (pos 1) [] [] []) 0 30 0 ∷
    -- p from 1 to 200,000,000,000
    quoted (bare 1 0 1 1) 0 30 1 ∷ quoted (bare 1 1 1 1) 1 0 0 ∷ quoted (bare 1 200000000000 1 1) 1 0 0 ∷
    quoted (bare 1 200000000001 1 1) 0 30 1 ∷
    -- m and K from 1 to 8
    quoted (bare 1 9 0 1) 0 30 2 ∷ quoted (bare 1 9 8 1) 1 0 0 ∷ quoted (bare 1 9 9 1) 0 30 2 ∷
    quoted (bare 1 9 1 0) 0 30 3 ∷ quoted (bare 1 9 1 8) 1 0 0 ∷ quoted (bare 1 9 1 9) 0 30 3 ∷
    -- N from 0 to 1,000: N = 0 costs nothing
    quoted (one_line (negsuc 0) (pos 10) (pos 0)) 0 30 4 ∷ quoted (one_line (pos 0) (pos 10) (pos 7)) 1 0 0 ∷
    quoted (one_line (pos 1000) (pos 10) (pos 0)) 40001 0 0 ∷ quoted (one_line (pos 1001) (pos 10) (pos 0)) 0 30 4 ∷
    -- L from 1 to 65,535, also where N is 0
    quoted (one_line (pos 0) (pos 0) (pos 0)) 0 30 5 ∷ quoted (one_line (pos 1) (pos 1) (pos 0)) 5 0 0 ∷
    quoted (one_line (pos 1) (pos 65535) (pos 0)) 262141 0 0 ∷ quoted (one_line (pos 1) (pos 65536) (pos 0)) 0 30 5 ∷
    -- W from 0 to 65,535, also where N is 0: 1 + 1(2 + 2)(10 + 0), and 1 + 1(2 + 2)(10 + 65,535)
    quoted (one_line (pos 1) (pos 10) (negsuc 0)) 0 30 6 ∷ quoted (one_line (pos 1) (pos 10) (pos 0)) 41 0 0 ∷
    quoted (one_line (pos 1) (pos 10) (pos 65535)) 262181 0 0 ∷ quoted (one_line (pos 1) (pos 10) (pos 65536)) 0 30 6 ∷
    quoted (one_line (pos 0) (pos 10) (pos 65536)) 0 30 6 ∷
    -- N, then L, then W
    quoted (one_line (pos 1001) (pos 0) (negsuc 0)) 0 30 4 ∷ quoted (one_line (pos 1000) (pos 0) (negsuc 0)) 0 30 5 ∷
    -- two lines, 7 + 2(2 + 2)(3 + 1) + 1(2 + 2)(10 + 5), and the places of the second, behind W of the first
    quoted (two_lines 7 99 (pos 2) (pos 3) (pos 1) (pos 1) (pos 10) (pos 5)) 99 0 0 ∷
    quoted (two_lines 7 99 (pos 2) (pos 3) (negsuc 0) (pos 1001) (pos 0) (negsuc 0)) 0 30 6 ∷
    quoted (two_lines 7 99 (pos 2) (pos 3) (pos 1) (pos 1001) (pos 0) (negsuc 0)) 0 30 7 ∷
    quoted (two_lines 7 99 (pos 2) (pos 3) (pos 1) (pos 1) (pos 0) (negsuc 0)) 0 30 8 ∷
    quoted (two_lines 7 99 (pos 2) (pos 3) (pos 1) (pos 1) (pos 10) (negsuc 0)) 0 30 9 ∷
    -- all of them at their largest: 1,000,000,000 + 1,000(2 + 128)(65,535 + 65,535)
    quoted (order_of (pos 1000000000) (pos 200000000000) (pos 8) (pos 8) (pos 1000 ∷ []) (pos 65535 ∷ [])
    (pos 65535 ∷ [])) 18039100000 0 0 ∷
    -- 64-bit extremes
    quoted (order_of (pos 1) (pos 1) (pos 1) (negsuc 9223372036854775807) [] [] []) 0 30 3 ∷
    quoted (order_of (pos 1) (pos 1) (pos 1) (pos 9223372036854775807) [] [] []) 0 30 3 ∷
    quoted (one_line (pos 1) (pos 10) (negsuc 9223372036854775807)) 0 30 6 ∷
    quoted (one_line (pos 1) (pos 10) (pos 9223372036854775807)) 0 30 6 ∷
    -- m and K in the formula: 1 + 1(2 + 2 * 3 * 5)(2 + 3)
    quoted (order_of (pos 1) (pos 161) (pos 3) (pos 5) one (pos 2 ∷ []) (pos 3 ∷ [])) 161 0 0 ∷
    -- one unit over the period, by W alone
    quoted (order_of (pos 1) (pos 160) (pos 3) (pos 5) one (pos 2 ∷ []) (pos 3 ∷ [])) 0 31 0 ∷
    -- 16 server lines and no more: 1 + 16(2 + 2)(1 + 1)
    quoted (columns (sixteen []) (sixteen []) (sixteen [])) 129 0 0 ∷
    quoted (columns (sixteen one) (sixteen one) (sixteen one)) 0 32 0 ∷
    -- columns that differ: one of them from the other two, each of them, either way; and all three
    quoted (columns [] one one) 0 32 0 ∷ quoted (columns both one one) 0 32 0 ∷
    quoted (columns one [] one) 0 32 0 ∷ quoted (columns one both one) 0 32 0 ∷
    quoted (columns one one []) 0 32 0 ∷ quoted (columns one one both) 0 32 0 ∷
    quoted (columns both one []) 0 32 0 ∷ quoted (columns [] one both) 0 32 0 ∷
    -- 32 before 30, and without a place; e before p; 30 before 31
    quoted (order_of (pos 1) (pos 0) (pos 1) (pos 1) one [] []) 0 32 0 ∷
    quoted (order_of (pos 1) (pos 0) (pos 1) (pos 1) one one []) 0 32 0 ∷
    quoted (bare 0 0 0 0) 0 30 0 ∷ quoted (bare 2 0 0 0) 0 30 1 ∷ quoted (bare 2 1 0 0) 0 30 2 ∷
    quoted (bare 2 1 1 1) 0 31 0 ∷
    []

pub quote_cases-hold : map (λ (t : Asked). quote t.order) quote_cases ≡ map (λ (t : Asked). t.wanted) quote_cases
unfolding quote_cases quote
quote_cases-hold = refl

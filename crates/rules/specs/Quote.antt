-- The quote: a budget, or a refusal of the order.
-- Assumes nothing.
use Rattle.std.specs.Prelude.{ℕ, suc, ◌+◌, ◌*◌, ◌≤◌, ◌≡◌, Bool, true, false, not, ◌&&◌, ◌||◌, cond, List, [], ◌∷◌, eqb, ltb, leb, ℤ, pos, negsuc, nat_abs, length}
use Rattle.rules.specs.Limits.{max_work, max_period, max_size, max_clusters, max_lines, max_calls, max_cap}
use Rattle.rules.specs.Limits.{max_tidy}
use Rattle.rules.specs.Refusals.{accepted, field_out, over_period, bad_lines}
use Rattle.rules.specs.Demands.{worst}

-- Fields are signed: own work e, period p, m and K, and the three columns of the server lines, calls N, cap L and
-- second cap W.
pub record Order : Type 0 where
  pub work : ℤ
  pub period : ℤ
  pub size : ℤ
  pub clusters : ℤ
  pub calls : List ℤ
  pub caps : List ℤ
  pub tidies : List ℤ

-- the seven in that order
abbrev pub order_of : ℤ → ℤ → ℤ → ℤ → List ℤ → List ℤ → List ℤ → Order
order_of e p m K calls caps tidies =
    record { work = e; period = p; size = m; clusters = K; calls = calls; caps = caps; tidies = tidies }

pub record Quote : Type 0 where
  pub budget : ℕ
  pub answer : ℕ
  pub place : ℕ

-- RANGES

-- from low to high; a field is signed
abbrev pub in_range : ℕ → ℕ → ℤ → Bool
in_range low high (pos n) = leb low n && leb n high
in_range low high (negsuc n) = false

-- N (0 to 1,000), L (1 to 65,535) and W (0 to 65,535) of each line
abbrev pub lines_fit : List ℤ → List ℤ → List ℤ → List Bool
lines_fit [] caps tidies = []
lines_fit (n ∷ calls) [] tidies = []
lines_fit (n ∷ calls) (l ∷ caps) [] = []
lines_fit (n ∷ calls) (l ∷ caps) (w ∷ tidies) =
    in_range 0 max_calls n ∷ in_range 1 max_cap l ∷ in_range 0 max_tidy w ∷ lines_fit calls caps tidies

-- The fields in the order e, p, m, K, then N, L and W of each line: whether each is in its range.
abbrev pub fields_fit : Order → List Bool
fields_fit o =
    in_range 1 max_work o.work ∷
    in_range 1 max_period o.period ∷
    in_range 1 max_size o.size ∷
    in_range 1 max_clusters o.clusters ∷
    lines_fit o.calls o.caps o.tidies

-- the place of the first false, the length if there is none: 0 to 3, and 4 + 3i to 6 + 3i for line i from 0
abbrev pub first_false : List Bool → ℕ
first_false [] = 0
first_false (b ∷ bs) = cond b (suc (first_false bs)) 0

-- BUDGET

-- the sum over lines of N(2 + 2mK)(L + W)
abbrev pub burnt : ℕ → ℕ → List ℤ → List ℤ → List ℤ → ℕ
burnt m K [] caps tidies = 0
burnt m K (n ∷ calls) [] tidies = 0
burnt m K (n ∷ calls) (l ∷ caps) [] = 0
burnt m K (n ∷ calls) (l ∷ caps) (w ∷ tidies) =
    nat_abs n * worst m K (nat_abs l + nat_abs w) + burnt m K calls caps tidies

-- Budget = e + the sum over lines of N(2 + 2mK)(L + W).
abbrev pub budget_of : Order → ℕ
budget_of o = nat_abs o.work + burnt (nat_abs o.size) (nat_abs o.clusters) o.calls o.caps o.tidies

-- ANSWER

-- no two of the three columns differ in length
abbrev pub columns_agree : Order → Bool
columns_agree o = eqb (length o.calls) (length o.caps) && eqb (length o.calls) (length o.tidies)

-- 32: over 16 server lines, or any two columns differ in length
abbrev pub lines_wrong : Order → Bool
lines_wrong o = ltb max_lines (length o.calls) || not (columns_agree o)

-- 30: a form field out of range
abbrev pub field_wrong : Order → Bool
field_wrong o = ltb (first_false (fields_fit o)) (length (fields_fit o))

-- 31: quoted budget over the period
abbrev pub budget_over : Order → Bool
budget_over o = ltb (nat_abs o.period) (budget_of o)

-- Refused: budget 0. The place is 0 in every answer but 30.
abbrev pub refused_quote : ℕ → ℕ → Quote
refused_quote n at = record { budget = 0; answer = n; place = at }

abbrev pub accepted_quote : ℕ → Quote
accepted_quote b = record { budget = b; answer = accepted; place = 0 }

-- Check 32, then the fields; 30 also gives the field's place. Then 31. A budget equal to p is accepted.
unfoldable pub quote : Order → Quote
quote o =
    cond (lines_wrong o) (refused_quote bad_lines 0)
    (cond (field_wrong o) (refused_quote field_out (first_false (fields_fit o)))
    (cond (budget_over o) (refused_quote over_period 0)
    (accepted_quote (budget_of o))))

-- WHICH ORDERS ARE ACCEPTED

abbrev pub AllTrue : List Bool → Type 0
AllTrue [] = Unit {0}
AllTrue (b ∷ bs) = (b ≡ true) × AllTrue bs

-- no two of the three columns differ in length
abbrev pub Even : List ℤ → List ℤ → List ℤ → Type 0
Even calls caps tidies = (length calls ≡ length caps) × (length calls ≡ length tidies)

-- None of 32, 30 and 31 applies: at most 16 lines, in columns of one length; every field in its range; a budget within
-- the period.
pub record Fits (o : Order) : Type 0 where
  pub lines : length o.calls ≤ max_lines
  pub columns : Even o.calls o.caps o.tidies
  pub fields : AllTrue (fields_fit o)
  pub period : budget_of o ≤ nat_abs o.period

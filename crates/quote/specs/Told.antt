-- An answer as the rules' quote: each case by its number, with its budget and its place.
-- Assumes nothing.
use Rattle.std.specs.Prelude.{ℕ, Result, Ok, Err}
use Rattle.rules.specs.Refusals.{field_out, over_period, bad_lines}
use Rattle.rules.specs.Quote.{Quote, refused_quote, accepted_quote}
use Rattle.quote.specs.declared.Numbers.{Numbers}
use Rattle.quote.specs.declared.Refusal.{Refusal}
use Rattle.quote.specs.declared.Refusal.TheVariants.{FieldOut, OverPeriod, BadLines}

-- Each case's number, with its budget and its place. Refused: budget 0. The place is 0 in every answer but 30.
abbrev pub told : Result ℕ Refusal → Quote
told (Ok b) = accepted_quote b
told (Err (FieldOut at)) = refused_quote field_out at
told (Err OverPeriod) = refused_quote over_period 0
told (Err BadLines) = refused_quote bad_lines 0

-- the three numbers themselves
abbrev pub numbers_of : Numbers → Quote
numbers_of n = record { budget = n.budget; answer = n.answer; place = n.place }

-- What follows from the definitions. A reader begins with Theorems, then Cases and the tables of wrong readings.
pub mod Theorems
pub mod Cases
pub mod TellOrder
pub mod TellCharge
pub mod TellRefusal
pub mod TellSound
pub mod TellHistory
pub mod TellTidy
pub mod TellDeadline
pub mod TellDated
pub mod TellRanks
pub mod TellLimits
pub mod TellBounds
pub mod TellBudgets
pub mod TellTraces
pub mod Worked
pub mod Table
-- tests, lists and counts
pub mod Tests
pub mod Lists
pub mod Images
pub mod Counts
-- setups and answers
pub mod Setups
pub mod Answers
-- rank and refill
pub mod Highest
pub mod ByNumber
pub mod Refill
-- the order of service, and what a client may still be charged
pub mod Due
pub mod InOrder
pub mod Ahead
pub mod Kept
pub mod Passes
-- the moves that events are made of
pub mod Lines
pub mod Leaving
pub mod Turns
pub mod Goes
pub mod Pick
-- the five events
pub mod Run
pub mod Arriving
pub mod Invoke
pub mod Reply
pub mod Ready
pub mod AbortFront
pub mod Abort
pub mod Placed
pub mod PlacedInvoke
-- every event and every history
pub mod Charge
pub mod Struck
pub mod Waits
pub mod Dated
pub mod SoundStates
pub mod Steps
pub mod Reached
-- any ranks, and the two kinds
pub mod Ranking
pub mod Keeping
pub mod Bounded
pub mod Limit
-- logs
pub mod Replays
pub mod Records
pub mod Said
pub mod FirstVersion
pub mod Traces
-- all waits of a client, and the quote
pub mod Waiting
pub mod Budgets
pub mod Quotes

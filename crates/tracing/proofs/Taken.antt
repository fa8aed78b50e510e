-- A trace after a line, put together from what the code has read of it.
-- Assumes nothing.
use Prim.Native.Nat.{ℕ}
use mathlib.Core.Path.{◌≡◌}
use mathlib.Core.Bool.{true, false}
use mathlib.Core.List.{List}
use lib.Dec.{ltb}
use lib.ListN.{get_or, drop}
use Rattle.rules.specs.Refusals.{bad_ranks}
use Rattle.gate.specs.declared.Setup.{Setup}
use Rattle.layout.specs.Layout.{is_ranks}
use Rattle.gate.specs.declared.Client.{Client}
use Rattle.std.specs.Prelude as code
use Rattle.checking.specs.declared.Verdict.TheVariants.{Refused}
use Rattle.checking.specs.declared.Checker.{Checker}
use Rattle.checking.specs.Checking.{served_in, seen_in, begun, checked}
use Rattle.tracing.specs.declared.Stage.{Stage}
use Rattle.tracing.specs.declared.Stage.TheVariants.{Rows, Entries}
use Rattle.tracing.specs.declared.Trace.{Trace}
use Rattle.tracing.specs.Shapes.{head_setup, ranks_of, answer_at, served_at, charges_at, deadline_in, served_of}
use Rattle.tracing.specs.Tracing.{trace, awaits_sizes, ranked, headed, tabled, entered}

-- R IS KNOWN, OR NOT

module _ (q : ℕ) (k : Checker) where
  pub ranks-known : is_ranks q ≡ true → k ≡ ranked q k
  ranks-known e = rw e

  pub ranks-unknown : is_ranks q ≡ false
      → record { version = k.version; gate = k.gate; entries = k.entries; verdict = Refused bad_ranks } ≡ ranked q k
  ranks-unknown e = rw e

-- BY THE STAGE

module _ (t : Trace) where
  pub headed-is : (vs : List ℕ) {st : Stage} {v q : ℕ} {s : Setup} {k : Checker} → s ≡ head_setup vs
      → v ≡ get_or vs 0 0 → k ≡ begun v s → st ≡ awaits_sizes k.verdict → q ≡ ranks_of vs
      → trace st t.lines 0 q s k ≡ headed t vs
  headed-is vs a b c d q = rw (q, d, c, b, a)

  module _ (r : ℕ) (s : Setup) where
    pub rows_left : ltb r s.clients ≡ true → trace Rows t.lines r t.ranks s t.checker ≡ tabled t r s
    rows_left e = rw e

    pub rows-done : ltb r s.clients ≡ false → {j k : Checker} → j ≡ begun t.checker.version s
        → k ≡ ranked t.ranks j → trace Entries t.lines r t.ranks s k ≡ tabled t r s
    rows-done e q p = rw (e, p, q)

  pub entered-is : (vs : List ℕ) {a b d n : ℕ} (x : code.Option Client) {l : List ℕ} {k : Checker}
      → a ≡ get_or vs 0 0 → b ≡ get_or vs 1 0 → d ≡ deadline_in t.checker.version vs
      → n ≡ get_or vs (answer_at t.checker.version) 0
      → served_in x ≡ served_of (get_or vs (served_at t.checker.version) 0)
      → l ≡ drop (charges_at t.checker.version) vs
      → k ≡ checked t.checker (record { code = a; argument = b; deadline = d }) (seen_in n x l)
      → trace Entries t.lines t.rows t.ranks t.setup k ≡ entered t vs
  entered-is vs who a b d n x l k = rw (k, a, b, d, n, x, l)

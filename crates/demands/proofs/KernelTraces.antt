-- The trace of a kernel: entries that are checked as they come get the verdict of the whole trace, and an accepted one
-- keeps demand 3 for the charges that the kernel itself reported.
-- Assumes nothing.
use Prim.Native.Nat.{ℕ, ◌≤◌, ◌<◌}
use mathlib.Core.Path.{◌≡◌, sym, ◌∙◌}
use mathlib.Core.Bool.{true}
use mathlib.Core.List.{List, [], ◌∷◌, ◌++◌}
use lib.ListN.{length, get_or}
use Rattle.rules.specs.Limits.{max_cap, max_tidy}
use Rattle.rules.specs.Setup.{Accepted, real_time, trimmed}
use Rattle.rules.specs.Demands.{Within}
use Rattle.rules.specs.Traces.{Traced, Part, agrees, differs, traced, trace_verdict, Ruled, FirstDiffers}
use Rattle.rules.proofs.Theorems.{trace-exactly, trace-differs, trace-within}
use Rattle.gate.specs.declared.Setup.{Setup}
use Rattle.gate.specs.Shown.{setup_of}
use Rattle.text.specs.Text.{max_count}
use Rattle.checking.specs.Checking.{verdict_in, begun, fed}
use Rattle.checking.proofs.Exact.{fed-verdict}

-- A trace of version v and its setup, as the code has it: L and W are numbers of 16 bits. (Nobody feeds 2^64 entries.)
module _ (v : ℕ) (s : Setup) (low : s.cap ≤ max_cap) (few : s.tidy ≤ max_tidy) (es : List Traced)
    (fed-all : length es ≤ max_count) where
  -- The checker's verdict is the trace's, be its setup refused, all entries agree, or one differ ..
  pub checker-exact : verdict_in (fed (begun v s) es).verdict ≡ trace_verdict v (setup_of s) es
  checker-exact = fed-verdict v s low few es fed-all

  -- .. so that it agrees exactly where every answer, served client and charge is what the rules give.
  pub agrees-exactly : (verdict_in (fed (begun v s) es).verdict ≡ agrees → Ruled v (setup_of s) es)
      × (Ruled v (setup_of s) es → verdict_in (fed (begun v s) es).verdict ≡ agrees)
  agrees-exactly = (
    λ e. (trace-exactly v (setup_of s) es).0 (sym checker-exact ∙ e),
    λ r. checker-exact ∙ (trace-exactly v (setup_of s) es).1 r,
  )

  -- Otherwise the entry that it names is the first that differs, and the part the first of the three that does.
  pub names-first : (i : ℕ) (p : Part) → verdict_in (fed (begun v s) es).verdict ≡ differs i p
      → FirstDiffers v (setup_of s) es i p
  names-first i p e = trace-differs v (setup_of s) es i p (sym checker-exact ∙ e)

-- Of a trace that agrees, whatever came before an entry and comes behind it: the charge that the kernel reported in it
-- for a real-time client is the sum over the events so far, and within every figure of demand 3.
pub kernel-within : (v : ℕ) (s : Setup) → Accepted (setup_of s) → (past : List Traced) (e : Traced) (rest : List Traced)
    → length (past ++ (e ∷ rest)) ≤ max_count
    → verdict_in (fed (begun v s) (past ++ (e ∷ rest))).verdict ≡ agrees
    → (c : ℕ) → c < s.clients → real_time (trimmed (setup_of s)) c ≡ true
    → Within (trimmed (setup_of s)) (traced v (setup_of s) (past ++ (e ∷ []))) c (get_or e.seen.charges c 0)
kernel-within v s a past e rest all q =
    trace-within v (setup_of s) a past e rest
    (sym (checker-exact v s a.sixteen_bits a.tidy_bits (past ++ (e ∷ rest)) all) ∙ q)

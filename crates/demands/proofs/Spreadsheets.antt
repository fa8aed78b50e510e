-- A log as comma-separated lines, and back: what is answered and left, and that import and export undo each other.
-- Assumes nothing.
use Prim.Native.Nat.{ℕ, ◌+◌, ◌≤◌, ◌<◌}
use mathlib.Core.Path.{◌≡◌, refl, sym, ap, ◌∙◌}
use mathlib.Core.Bool.{true}
use mathlib.Core.List.{List}
use native.Mathlib.Omega.{arith}
use lib.Dec.{ltb}
use Rattle.std.specs.Prelude.{Result, Ok, Err}
use lib.ListN.{length, take, drop}
use lib.Seq.{take_at}
use borrow.Author.Tests.{le-ltb, ltb-false}
use Rattle.rules.specs.Lists.{has}
use Rattle.rules.specs.Refusals.{log_long, no_room, bad_line}
use Rattle.rules.proofs.Tests.{by-test}
use Rattle.rules.proofs.Lists.{has-tail}
use Rattle.text.specs.Text.{written}
use Rattle.layout.specs.Layout.{max_log}
use Rattle.layout.specs.Tables.{version_in, setup_in}
use Rattle.layout.specs.Log.{log_bytes}
use Rattle.logs.specs.declared.Refusal.{Refusal}
use Rattle.logs.specs.declared.Refusal.TheVariants.{Long}
use Rattle.logs.specs.Opening.{told}
use Rattle.logs.specs.Reading.{records_in, whole_of}
use Rattle.logs.proofs.Openings.{opens}
use Rattle.logs.proofs.Held.{long-refused}
use Rattle.logs.proofs.Wholes.{whole-refused, whole_is}
use Rattle.logs.proofs.Again.{log-again}
use Rattle.rewriting.specs.RoundTrip.{AllBytes}
use Rattle.items.specs.declared.Refused.{Refused}
use Rattle.items.specs.Lines.{lines_of}
use Rattle.items.specs.Room.{refused, Left, left, roomed}
use Rattle.exporting.specs.Exporting.{export_from, export_of}
use Rattle.importing.specs.Importing.{Says, log, bad, says_of, verdict_from, verdict_of, imported, log_in, import_of}
use Rattle.undoing.proofs.Exported.{says-again}
use Rattle.undoing.proofs.Imported.{lines-again}
use Rattle.undoing.proofs.Small.{says-small}
use Rattle.demands.specs.Numbers.{of_log, of_export, of_import}
use Rattle.demands.proofs.DemandOne.{log-number}

-- no refusal is an answer that all was written
not-whole : {X : Type 0} (n at k : ℕ) (a b : List ℕ) → left (Err (refused n at)) a ≡ left (Ok k) b → X
not-whole n at k a b e =
    let s : Err (refused n at) ≡ Ok k = ap (λ (t : Left). t.said) e in
    let z : ◌≡◌ {A = ℕ} 0 1 = cc in absurd (omega arith)

not-refused : {X : Type 0} (n at k : ℕ) (a b : List ℕ) → left (Ok k) a ≡ left (Err (refused n at)) b → X
not-refused n at k a b e = not-whole n at k b a (sym e)

-- INTO A LENT BUFFER

-- bytes that were written stand there from the start on
module _ (s out : List ℕ) where
  pub record Stands (n : ℕ) (after : List ℕ) : Type 0 where
    pub fits : length s ≤ length out
    pub bytes : take n after ≡ s

  stands : (n : ℕ) (after : List ℕ) → roomed s out ≡ left (Ok n) after → Stands n after
  stands n after e =
      by-test (ltb (length out) (length s))
      (λ y. not-whole no_room 0 n out after (rw y at e))
      (λ y. let same : left (Ok (length s)) (written out 0 s) ≡ left (Ok n) after = rw y at e in
      let said : Ok (length s) ≡ Ok n = ap (λ (t : Left). t.said) same in
      let count : length s ≡ n = cc in
      let bytes : written out 0 s ≡ after = ap (λ (t : Left). t.bytes) same in
      record {
        fits = ltb-false (length out) (length s) y;
        bytes =
            ap (take n) (sym bytes)
            ∙ take_at s (drop (0 + length s) out) n count;
      })

  -- and if there is room they are
  room : length s ≤ length out → roomed s out ≡ left (Ok (length s)) (written out 0 s)
  room h = rw (le-ltb (length out) (length s) h)

  -- a refusal is 25, and changes no byte
  unroomed : (n at : ℕ) (after : List ℕ) → roomed s out ≡ left (Err (refused n at)) after → (n ≡ no_room) × (after ≡ out)
  unroomed n at after e =
      by-test (ltb (length out) (length s))
      (λ y. let same : left (Err (refused no_room 0)) out ≡ left (Err (refused n at)) after = rw y at e in
      let said : Err (refused no_room 0) ≡ Err (refused n at) = ap (λ (t : Left). t.said) same in
      let both : refused no_room 0 ≡ refused n at = cc in
      let number : no_room ≡ n = ap (λ (r : Refused). r.number) both in
      (sym number, sym (ap (λ (t : Left). t.bytes) same)))
      (λ y. not-refused n at (length s) (written out 0 s) after (rw y at e))

-- A REFUSAL

same_number : (n at m k : ℕ) (a b : List ℕ) → left (Err (refused n at)) a ≡ left (Err (refused m k)) b → (n ≡ m) × (a ≡ b)
same_number n at m k a b e =
    let said : Err (refused n at) ≡ Err (refused m k) = ap (λ (t : Left). t.said) e in
    let both : refused n at ≡ refused m k = cc in
    let number : n ≡ m = ap (λ (r : Refused). r.number) both in (number, ap (λ (t : Left). t.bytes) e)

-- what a refusal leaves, and its number
pub record Refuses (ns out : List ℕ) (n : ℕ) (after : List ℕ) : Type 0 where
  pub same : after ≡ out
  pub number : has n ns ≡ true

export-from : (l out : List ℕ) (o : Result ℕ Refusal) (n at : ℕ) (after : List ℕ)
    → export_from l out o ≡ left (Err (refused n at)) after → Refuses of_export out n after
export-from l out (Err r) n at after e =
    let x = same_number (told r).number (told r).offset n at out after e in
    record {
      same = sym x.1;
      number = ap (λ (k : ℕ). has k of_export) (sym x.0) ∙ has-tail (told r).number no_room of_log (log-number r);
    }
export-from l out (Ok start) n at after e =
    let x = unroomed (lines_of l start) out n at after e in
    record { same = x.1; number = ap (λ (k : ℕ). has k of_export) x.0 }

-- A refused export changes no byte of the buffer, and its number is one of a log's, or 25.
pub export-refuses : (l out : List ℕ) (n at : ℕ) (after : List ℕ) → export_of l out ≡ left (Err (refused n at)) after
    → Refuses of_export out n after
unfolding export_of
export-refuses l out n at after e = export-from l out (whole_of l) n at after e

imported-own : (l out : List ℕ) (o : Result ℕ Refusal) (n at : ℕ) (after : List ℕ)
    → imported (verdict_from l o) l out ≡ left (Err (refused n at)) after → Refuses of_import out n after
imported-own l out (Err r) n at after e =
    let x = same_number (told r).number (told r).offset n at out after e in
    record {
      same = sym x.1;
      number =
          ap (λ (k : ℕ). has k of_import) (sym x.0)
          ∙ has-tail (told r).number bad_line of_export (has-tail (told r).number no_room of_log (log-number r));
    }
imported-own l out (Ok start) n at after e =
    let x = unroomed l out n at after e in
    record { same = x.1; number = ap (λ (k : ℕ). has k of_import) x.0 }

imported-said : (t : Says) (out : List ℕ) (n at : ℕ) (after : List ℕ)
    → imported (verdict_of t) (log_in t) out ≡ left (Err (refused n at)) after → Refuses of_import out n after
unfolding verdict_of
imported-said (log l) out n at after e = imported-own l out (whole_of l) n at after e
imported-said (bad k) out n at after e =
    let x = same_number bad_line k n at out after e in
    record { same = sym x.1; number = ap (λ (m : ℕ). has m of_import) (sym x.0) }

-- A refused import changes no byte of the buffer, and its number is 29, one of a log's, or 25.
pub import-refuses : (s out : List ℕ) (n at : ℕ) (after : List ℕ) → import_of s out ≡ left (Err (refused n at)) after
    → Refuses of_import out n after
unfolding import_of
import-refuses s out n at after e = imported-said (says_of s) out n at after e

-- A log that would pass 65,536 bytes is 24 at 0, whatever room there is.
pub import-too-long : (s l out : List ℕ) → says_of s ≡ log l → max_log < length l
    → import_of s out ≡ left (Err (refused log_long 0)) out
unfolding import_of verdict_of
import-too-long s l out q h =
    ap (λ (t : Says). imported (verdict_of t) (log_in t) out) q
    ∙ ap (λ (o : Result ℕ Refusal). imported (verdict_from l o) l out) (whole-refused l Long (long-refused l h))

-- IMPORT AFTER EXPORT

back_from : (l : List ℕ) → AllBytes l → (o : Result ℕ Refusal) → whole_of l ≡ o → (out : List ℕ) (n : ℕ) (text : List ℕ)
    → export_from l out o ≡ left (Ok n) text → (buffer : List ℕ) → length l ≤ length buffer
    → import_of (take n text) buffer ≡ left (Ok (length l)) (written buffer 0 l)
unfolding import_of verdict_of
back_from l small (Err r) w out n text e buffer h =
    not-whole (told r).number (told r).offset n out text e
back_from l small (Ok start) w out n text e buffer h =
    let x = stands (lines_of l start) out n text e in
    let says : says_of (take n text) ≡ log l = ap says_of x.bytes ∙ says-again l small start w in
    ap (λ (t : Says). imported (verdict_of t) (log_in t) buffer) says
    ∙ ap (λ (o : Result ℕ Refusal). imported (verdict_from l o) l buffer) w
    ∙ room l buffer h

-- The text of a log, imported, is the same log: every log that is accepted, in each version, records answered 18
-- included.
pub import-after-export : (l : List ℕ) → AllBytes l → (out : List ℕ) (n : ℕ) (text : List ℕ)
    → export_of l out ≡ left (Ok n) text → (buffer : List ℕ) → length l ≤ length buffer
    → import_of (take n text) buffer ≡ left (Ok (length l)) (written buffer 0 l)
unfolding export_of
import-after-export l small out n text e buffer h = back_from l small (whole_of l) refl out n text e buffer h

-- WHAT IS IMPORTED

-- a log that is not refused: the bytes of a version, a setup and records, which are those that are read of it
pub record IsLog (l : List ℕ) : Type 0 where
  pub start : ℕ
  pub whole : whole_of l ≡ Ok start
  pub bytes : log_bytes (version_in l) (setup_in l) (records_in l start) ≡ l

is-own : (s l : List ℕ) → says_of s ≡ log l → (o : Result ℕ Refusal) → whole_of l ≡ o → (out : List ℕ) (n : ℕ) (bytes : List ℕ)
    → imported (verdict_from l o) l out ≡ left (Ok n) bytes → IsLog (take n bytes)
is-own s l q (Err r) w out n bytes e = not-whole (told r).number (told r).offset n out bytes e
is-own s l q (Ok start) w out n bytes e =
    let x = whole_is l start w in
    let o = opens l start x.0 in
    rw (stands l out n bytes e).bytes
    (record { start = start; whole = w; bytes = log-again l (says-small s l q) start o x.1 })

is_said : (s : List ℕ) (t : Says) → says_of s ≡ t → (out : List ℕ) (n : ℕ) (bytes : List ℕ)
    → imported (verdict_of t) (log_in t) out ≡ left (Ok n) bytes → IsLog (take n bytes)
unfolding verdict_of
is_said s (log l) q out n bytes e = is-own s l q (whole_of l) refl out n bytes e
is_said s (bad k) q out n bytes e = not-whole bad_line k n out bytes e

-- An accepted import is a log by the one definition of a log's bytes.
pub import-is-log : (s out : List ℕ) (n : ℕ) (bytes : List ℕ) → import_of s out ≡ left (Ok n) bytes
    → IsLog (take n bytes)
unfolding import_of
import-is-log s out n bytes e = is_said s (says_of s) refl out n bytes e

-- EXPORT AFTER IMPORT

again-own : (s l : List ℕ) → says_of s ≡ log l → (o : Result ℕ Refusal) → whole_of l ≡ o → (out : List ℕ) (n : ℕ) (bytes : List ℕ)
    → imported (verdict_from l o) l out ≡ left (Ok n) bytes → (buffer : List ℕ) → length s ≤ length buffer
    → export_of (take n bytes) buffer ≡ left (Ok (length s)) (written buffer 0 s)
unfolding export_of
again-own s l q (Err r) w out n bytes e buffer h =
    not-whole (told r).number (told r).offset n out bytes e
again-own s l q (Ok start) w out n bytes e buffer h =
    let x = stands l out n bytes e in
    ap (λ (k : List ℕ). export_from k buffer (whole_of k)) x.bytes
    ∙ ap (export_from l buffer) w
    ∙ ap (λ (t : List ℕ). roomed t buffer) (lines-again s l start q w)
    ∙ room s buffer h

again-said : (s : List ℕ) (t : Says) → says_of s ≡ t → (out : List ℕ) (n : ℕ) (bytes : List ℕ)
    → imported (verdict_of t) (log_in t) out ≡ left (Ok n) bytes → (buffer : List ℕ) → length s ≤ length buffer
    → export_of (take n bytes) buffer ≡ left (Ok (length s)) (written buffer 0 s)
unfolding verdict_of
again-said s (log l) q out n bytes e buffer h = again-own s l q (whole_of l) refl out n bytes e buffer h
again-said s (bad k) q out n bytes e buffer h = not-whole bad_line k n out bytes e

-- The log of a text, exported, is the same text: every text that is accepted.
pub export-after-import : (s out : List ℕ) (n : ℕ) (bytes : List ℕ) → import_of s out ≡ left (Ok n) bytes
    → (buffer : List ℕ) → length s ≤ length buffer
    → export_of (take n bytes) buffer ≡ left (Ok (length s)) (written buffer 0 s)
unfolding import_of
export-after-import s out n bytes e buffer h = again-said s (says_of s) refl out n bytes e buffer h

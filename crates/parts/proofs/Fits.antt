-- Lists that places can hold, with one client more or less.
-- Assumes nothing.
use Prim.Native.Nat.{◌<◌, ℕ}
use mathlib.Core.Bool.{false}
use mathlib.Core.List.{List, [], ◌++◌, ◌∷◌}
use mathlib.Core.Path.{◌≡◌}
use native.Mathlib.Omega.{arith}
use lib.ListN.{length}
use Rattle.rules.specs.Limits.{max_clients, unused_place}
use Rattle.rules.specs.Lists.{has, remove}
use Rattle.rules.proofs.Lists.{has-head, has-snoc, has-tail, length-remove, length-snoc, remove-has, remove-none}
use Rattle.rules.proofs.Tests.{by-test}
use Rattle.places.proofs.Pads.{no-unused}
use Rattle.parts.specs.Shows.{Fits}

-- 255 is in none of them
pub fits-used : {n : ℕ} {l : List ℕ} → Fits n l → has unused_place l ≡ false
fits-used {l = l} f = no-unused l (λ x e. omega (arith, f.used x e))

pub fits_snoc : {n : ℕ} {l : List ℕ} (d : ℕ) → Fits n l → length l < n → d < max_clients → Fits n (l ++ (d ∷ []))
fits_snoc {l = l} d f h b =
    record {
      short = omega (arith, length-snoc l d);
      used = λ x e. has-snoc x d l e (f.used x) (λ q. rw (← q) b);
    }

pub fits-remove : {n : ℕ} {l : List ℕ} (c : ℕ) → Fits n l → Fits n (remove c l)
fits-remove {l = l} c f =
    record {
      short = by-test (has c l)
          (λ e. omega (arith, length-remove c l e, f.short))
          (λ e. rw (remove-none c l e) f.short);
      used = λ x e. f.used x (remove-has c x l e);
    }

pub fits-tail : {n x : ℕ} {l : List ℕ} → Fits n (x ∷ l) → Fits n l
fits-tail {x = x} {l = l} f =
    record { short = omega (arith, f.short); used = λ y e. f.used y (has-tail y x l e) }

pub fits-first : {n x : ℕ} {l : List ℕ} → Fits n (x ∷ l) → x < max_clients
fits-first {x = x} {l = l} f = f.used x (has-head x l)

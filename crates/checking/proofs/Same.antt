-- What the kernel says beside our own, client in service and charges, as the code compares them.
-- Assumes nothing.
use Prim.Native.Nat.{ℕ}
use mathlib.Core.Path.{◌≡◌, refl, sym, ap}
use mathlib.Core.Bool.{Bool, not, ◌&&◌}
use mathlib.Core.List.{List, [], ◌∷◌}
use mathlib.Core.Option.{some, none}
use lib.Dec.{eqb}
use lib.Pointwise.{pointwise}
use borrow.Author.Tests.{eq-eqb, ne_eqb, eqb-true, eqb-false}
use Rattle.rules.specs.State.{Server, idle, front, best, spent, tidying, is_serving, serves}
use Rattle.rules.specs.Replay.{in_service}
use Rattle.rules.specs.Traces.{same_served, same_charges}
use Rattle.rules.proofs.Tests.{by-test}

-- THE CLIENT IN SERVICE

pub nobody-served : (v : Server) → same_served none (in_service v) ≡ not (is_serving v)
nobody-served idle = refl
nobody-served (front d) = refl
nobody-served (best d) = refl
nobody-served (spent d) = refl
nobody-served tidying = refl

eqb-turned : (c d : ℕ) → eqb c d ≡ eqb d c
eqb-turned c d =
    by-test (eqb d c) (λ y. rw y (eq-eqb c d (sym (eqb-true d c y))))
    (λ n. rw n (ne_eqb c d (λ e. eqb-false d c n (sym e))))

pub client-served : (v : Server) (c : ℕ) → same_served (some c) (in_service v) ≡ serves v c
client-served idle c = refl
client-served (front d) c = eqb-turned c d
client-served (best d) c = eqb-turned c d
client-served (spent d) c = eqb-turned c d
client-served tidying c = refl

-- THE CHARGES

-- the library compares them one by one
pub charges-is : (l m : List ℕ) → pointwise eqb l m ≡ same_charges l m
charges-is [] [] = refl
charges-is [] (y ∷ m) = refl
charges-is (x ∷ l) [] = refl
charges-is (x ∷ l) (y ∷ m) = ap (λ (b : Bool). eqb x y && b) (charges-is l m)

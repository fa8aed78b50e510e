-- Queues in fixed places: the list that places hold, and what the functions of this crate make of any places.
-- Assumes nothing.
use Rattle.std.specs.Prelude.{ℕ, zero, suc, Bool, true, ◌&&◌, ◌||◌, cond, List, [], ◌∷◌, ◌++◌, eqb, set}
use Rattle.rules.specs.Limits.{unused_place}

-- THE LIST THAT PLACES HOLD

-- n places that hold the list: its numbers come first, as many as there are places, and unused places hold 255
unfoldable pub pad : ℕ → List ℕ → List ℕ
pad zero l = []
pad (suc n) [] = unused_place ∷ pad n []
pad (suc n) (x ∷ l) = x ∷ pad n l

-- the list that places hold: the numbers before the first unused place
unfoldable pub unpad : List ℕ → List ℕ
unpad [] = []
unpad (x ∷ q) = cond (eqb x unused_place) [] (x ∷ unpad q)

-- x stands everywhere in the list
unfoldable pub holds_only : ℕ → List ℕ → Bool
holds_only x [] = true
holds_only x (y ∷ q) = eqb y x && holds_only x q

-- no place is used
abbrev pub blank : List ℕ → Bool
blank q = holds_only unused_place q

-- used places come first
unfoldable pub used_first : List ℕ → Bool
used_first [] = true
used_first (x ∷ q) = cond (eqb x unused_place) (blank q) (used_first q)

-- WHAT THE FUNCTIONS ANSWER

-- the first place that holds x, the number of places if none does
unfoldable pub place_of : ℕ → List ℕ → ℕ
place_of x [] = zero
place_of x (y ∷ q) = cond (eqb y x) zero (suc (place_of x q))

-- the first place that holds x or is unused, the number of places if there is none: where x stands, or would join
unfoldable pub place_for : ℕ → List ℕ → ℕ
place_for x [] = zero
place_for x (y ∷ q) = cond (eqb y x || eqb y unused_place) zero (suc (place_for x q))

-- how many places are used: those before the first unused one
abbrev pub used_of : List ℕ → ℕ
used_of q = place_of unused_place q

-- x at the first unused place; the places as they are if there is none
unfoldable pub append_of : ℕ → List ℕ → List ℕ
append_of x q = set q (used_of q) x

-- x at the first place that holds it or is unused; the places as they are if x is there, or if there is no such place
unfoldable pub join_of : ℕ → List ℕ → List ℕ
join_of x q = set q (place_for x q) x

-- without what stands at a place: the places behind it close up, and an unused one ends them;
-- the places as they are if there is no such place
unfoldable pub close_up_of : ℕ → List ℕ → List ℕ
close_up_of at [] = []
close_up_of zero (y ∷ q) = q ++ (unused_place ∷ [])
close_up_of (suc at) (y ∷ q) = y ∷ close_up_of at q

-- without x, at the first place that holds it; the places as they are if none does
unfoldable pub take_out_of : ℕ → List ℕ → List ℕ
take_out_of x q = close_up_of (place_of x q) q

-- Who waits, by the set of those seen in a line and by the waiting rooms; and the clause of the deadlines so.
-- Assumes nothing.
use Prim.Native.Nat.{ℕ, ◌<◌}
use mathlib.Core.Path.{◌≡◌, sym, ap, ◌∙◌}
use mathlib.Core.Bool.{true, ◌&&◌, ◌||◌, cond}
use mathlib.Core.List.{List}
use mathlib.Core.Option.{some, none}
use native.Mathlib.Omega.{arith}
use lib.Dec.{eqb, leb}
use lib.ListN.{length, get_or}
use borrow.Author.Tests.{lt-ltb}
use Rattle.rules.specs.Limits.{max_clusters, max_clients, max_deadline}
use Rattle.rules.specs.Lists.{has}
use Rattle.rules.specs.Setup as rules
use Rattle.rules.specs.Queues.{waits}
use Rattle.rules.proofs.Tests.{by-test, same_test}
use Rattle.sets.specs.Sets.{member}
use Rattle.gate.specs.declared.Gate.{Gate}
use Rattle.gate.specs.Shown.{setup_of, state_of}
use Rattle.parts.specs.Shows.{Fine}
use Rattle.places.specs.Tests.{distinct}
use Rattle.soundness.specs.Tests.{joined, set_in}
use Rattle.soundness.specs.Clauses.{lines_sound, deadlines_sound}
use Rattle.places.proofs.Tests.{all_same}
use Rattle.soundness.proofs.Joined.{joined-has, has-joined}
use Rattle.soundness.proofs.Sets.{set-has}
use Rattle.soundness.proofs.Facts.{lines-facts}
use Rattle.seen.specs.Seen.{seen_from}
use Rattle.standing.specs.Answers.{lines_in}
use Rattle.standing.proofs.Once.{seen-once}
use Rattle.standing.proofs.Standing.{in_lines}
use Rattle.sound_check.specs.Answers.{deadlines_fit}

module _ (g : Gate) (fine : Fine g.setup) (sound : lines_sound (setup_of g.setup) g.lines ≡ true) where
  abbrev u : rules.Setup
  u = setup_of g.setup

  abbrev standing : List ℕ
  standing = joined (lines_in g.lines) 0 max_clusters

  module _ (t : ℕ) (seen : seen_from 0 standing ≡ some t) where
    known : (c : ℕ) → has c standing ≡ true → c < max_clients
    known = in_lines u fine.clients g.lines sound

    all_seen : t ≡ set_in standing
    all_seen =
        let z : some t ≡ cond (distinct standing) (some (set_in standing)) none =
        sym seen ∙ seen-once standing known in
        by-test (distinct standing)
        (λ e. let y : some t ≡ some (set_in standing) = rw e at z in cc)
        (λ e.
        let x : some t ≡ none = rw e at z in
        let y : ◌≡◌ {A = ℕ} 0 1 = cc in absurd (omega arith))

    -- whoever is seen is in its own line
    in-line : (c : ℕ) → member t c ≡ has c (lines_in g.lines (u.cluster c))
    in-line c =
        ap (λ w. member w c) all_seen ∙ set-has standing known c
        ∙ same_test (has c standing) (has c (lines_in g.lines (u.cluster c)))
        (λ h. joined-has (lines_in g.lines) 0 max_clusters c h (λ k a b i.
        rw (((lines-facts u g.lines sound).1 k (omega arith)).own c i).home i))
        (λ h. has-joined (lines_in g.lines) 0 max_clusters (u.cluster c) c (omega arith)
        (omega (arith, fine.homes c)) h)

    waits-is : (c : ℕ) → c < max_clients
        → member t c || member (get_or g.rooms (get_or g.setup.homes c 0) 0) c ≡ waits u (state_of g) c
    unfolding state_of
    waits-is c b = rw (in-line c, lt-ltb c max_clients b)

    pub deadlines-are : deadlines_fit g.setup.homes g.rooms g.setup.timed t g.deadlines
        ≡ deadlines_sound u (state_of g) g.deadlines
    unfolding deadlines_fit deadlines_sound
    deadlines-are =
        ap (λ b. eqb (length g.deadlines) max_clients && b) (all_same max_clients _ _ (λ c b.
        ap (λ w. leb (get_or g.deadlines c 0) max_deadline
        && (eqb (get_or g.deadlines c 0) 0 || (g.setup.timed && w))) (waits-is c b)))

-- What the verdict on a trace says, and what an accepted trace keeps.
-- Assumes nothing.
use Prim.Native.Nat.{ℕ, zero, suc, ◌-◌, ◌≤◌, ◌<◌}
use mathlib.Core.Path.{◌≡◌, refl, sym, ap, ap₂, ◌∙◌}
use mathlib.Core.Bool.{Bool, true, false, not, cond}
use mathlib.Core.List.{List, [], ◌∷◌, ◌++◌, map, map-append}
use mathlib.Core.Option.{Option, some, none}
use native.Mathlib.Omega.{arith}
use lib.Dec.{eqb, ltb}
use lib.ListN.{length, get_or, take, drop, length-append, length-map, get_or-append}
use borrow.Author.Tests.{eqb-true, eq-eqb, ltb-true, ltb-false}
use Rattle.rules.specs.Refusals.{accepted}
use Rattle.rules.specs.Setup.{Setup, setup_answer, trimmed}
use Rattle.rules.specs.State.{State, fresh}
use Rattle.rules.specs.Records.{Heard, is_version, heard_of, step_of}
use Rattle.rules.specs.Replay.{charges_below, replay_from}
use Rattle.rules.specs.Step.{own_ranks}
use Rattle.rules.specs.History.{owed}
use Rattle.rules.specs.Traces.{Seen, Traced, none_seen, seen_after, seen_from, same_served, same_charges, Part}
use Rattle.rules.specs.Traces.{the_answer, the_served, the_charges, difference, Verdict, refused, agrees, differs}
use Rattle.rules.specs.Traces.{compared, heards, reported, ruled, traced, trace_verdict, Ruled, FirstDiffers}
use Rattle.rules.proofs.Tests.{by-test, both_true}
use Rattle.rules.proofs.Charge.{charge-is-owed}
use Rattle.rules.proofs.Replays.{replay_snoc, replay-said}

-- WHERE NOTHING DIFFERS

same-served : (a b : Option ℕ) → same_served a b ≡ true → a ≡ b
same-served none none e = refl
same-served none (some d) e = let z : ◌≡◌ {A = Bool} true false = sym e in cc
same-served (some c) none e = let z : ◌≡◌ {A = Bool} true false = sym e in cc
same-served (some c) (some d) e = ap some (eqb-true c d e)

same-charges : (l m : List ℕ) → same_charges l m ≡ true → l ≡ m
same-charges [] [] e = refl
same-charges [] (y ∷ m) e = let z : ◌≡◌ {A = Bool} true false = sym e in cc
same-charges (x ∷ l) [] e = let z : ◌≡◌ {A = Bool} true false = sym e in cc
same-charges (x ∷ l) (y ∷ m) e =
    let b = both_true (eqb x y) (same_charges l m) e in
    ap₂ (λ (n : ℕ) (k : List ℕ). n ∷ k) (eqb-true x y b.0) (same-charges l m b.1)

served-same : (a : Option ℕ) → same_served a a ≡ true
served-same none = refl
served-same (some c) = eq-eqb c c refl

charges-same : (l : List ℕ) → same_charges l l ≡ true
charges-same [] = refl
charges-same (x ∷ l) = rw (eq-eqb x x refl, charges-same l)

abbrev seen-of : ℕ → Option ℕ → List ℕ → Seen
seen-of n o l = record { answer = n; served = o; charges = l }

same_seen : {n m : ℕ} {o q : Option ℕ} {l k : List ℕ} → n ≡ m → o ≡ q → l ≡ k → seen-of n o l ≡ seen-of m q k
same_seen a b c = rw (a, b, c)

-- the three tests, one after the other
none-differs : (x y z : Bool) → cond (not x) (some the_answer) (cond (not y) (some the_served)
    (cond (not z) (some the_charges) none)) ≡ none → (x ≡ true) × (y ≡ true) × (z ≡ true)
none-differs true true true e = (refl, refl, refl)
none-differs true true false e = let z : ◌≡◌ {A = ℕ} 0 1 = cc in absurd (omega arith)
none-differs true false z e = let z : ◌≡◌ {A = ℕ} 0 1 = cc in absurd (omega arith)
none-differs false y z e = let z : ◌≡◌ {A = ℕ} 0 1 = cc in absurd (omega arith)

-- Nothing differs exactly if all three are the same.
pub nothing-differs : (a b : Seen) → difference a b ≡ none → a ≡ b
nothing-differs a b e =
    let t = none-differs (eqb a.answer b.answer) (same_served a.served b.served)
    (same_charges a.charges b.charges) e in
    same_seen (eqb-true a.answer b.answer t.0) (same-served a.served b.served t.1)
    (same-charges a.charges b.charges t.2)

pub same-agrees : (a : Seen) → difference a a ≡ none
same-agrees a = rw (eq-eqb a.answer a.answer refl, served-same a.served, charges-same a.charges)

-- ENTRY BY ENTRY

judged-cases {ℓ} : {X : Type ℓ} (o : Option Part) → (o ≡ none → X) → ((p : Part) → o ≡ some p → X) → X
judged-cases none f g = f refl
judged-cases (some p) f g = g p refl

agreed : (i : ℕ) (ks rs : List Seen) → length ks ≡ length rs → compared i ks rs ≡ agrees → ks ≡ rs
unfolding compared
agreed i [] [] n e = refl
agreed i [] (r ∷ rs) n e = absurd (omega arith)
agreed i (k ∷ ks) [] n e = absurd (omega arith)
agreed i (k ∷ ks) (r ∷ rs) n e =
    judged-cases (difference k r)
    (λ q. ap₂ (λ (x : Seen) (l : List Seen). x ∷ l) (nothing-differs k r q)
    (agreed (suc i) ks rs (omega arith) (rw q at e)))
    (λ p q. let z = rw q at e in let y : ◌≡◌ {A = ℕ} 0 1 = cc in absurd (omega arith))

pub all-agree : (i : ℕ) (ks : List Seen) → compared i ks ks ≡ agrees
unfolding compared
all-agree i [] = refl
all-agree i (k ∷ ks) = rw (same-agrees k) (all-agree (suc i) ks)

-- the first that differs, of the entries from i on
record First (i : ℕ) (ks rs : List Seen) (n : ℕ) (p : Part) : Type 0 where
  from : i ≤ n
  there : n - i < length ks
  before : take (n - i) ks ≡ take (n - i) rs
  here : difference (get_or ks (n - i) none_seen) (get_or rs (n - i) none_seen) ≡ some p

one_more : {i n : ℕ} → suc i ≤ n → n - i ≡ suc (n - suc i)
one_more h = omega arith

first : (i : ℕ) (ks rs : List Seen) (n : ℕ) (p : Part) → compared i ks rs ≡ differs n p → First i ks rs n p
unfolding compared
first i [] rs n p e = let z : ◌≡◌ {A = ℕ} 0 1 = cc in absurd (omega arith)
first i (k ∷ ks) [] n p e = let z : ◌≡◌ {A = ℕ} 0 1 = cc in absurd (omega arith)
first i (k ∷ ks) (r ∷ rs) n p e =
    judged-cases (difference k r)
    (λ q. let t = first (suc i) ks rs n p (rw q at e) in
    let m : n - i ≡ suc (n - suc i) = one_more t.from in
    record {
      from = omega (arith, t.from);
      there = omega (arith, t.there);
      before = rw m (ap₂ (λ (x : Seen) (l : List Seen). x ∷ l) (nothing-differs k r q) t.before);
      here = ap (λ (j : ℕ). difference (get_or (k ∷ ks) j none_seen) (get_or (r ∷ rs) j none_seen)) m ∙ t.here;
    })
    (λ d q. let z : differs i d ≡ differs n p = rw q at e in
    let m : i ≡ n = cc in
    let o : n - i ≡ 0 = omega arith in
    record {
      from = omega arith;
      there = omega arith;
      before = rw o;
      here = rw o (q ∙ (cc));
    })

-- THE WHOLE TRACE

length_seen : (u : Setup) (s : State) (xs : List Heard) → length (seen_from u s xs) ≡ length xs
unfolding seen_from
length_seen u s [] = refl
length_seen u s (x ∷ xs) = ap suc (length_seen u (step_of u s x) xs)

-- a verdict behind two refusals
unrefused : (a b : Bool) (n m : ℕ) (w x : Verdict) → ((k : ℕ) → x ≡ refused k → ⊥)
    → cond (not a) (refused n) (cond (not b) (refused m) w) ≡ x → (a ≡ true) × (b ≡ true) × (w ≡ x)
unrefused true true n m w x other e = (refl, refl, e)
unrefused true false n m w x other e = absurd (other m (sym e))
unrefused false b n m w x other e = absurd (other n (sym e))

module _ (v : ℕ) (u : Setup) (es : List Traced) where
  as_many : length (reported v u es) ≡ length (ruled v u es)
  as_many =
      length-map es (λ (e : Traced). e.seen)
      ∙ sym (length_seen (trimmed u) fresh (heards v u.timed es)
      ∙ length-map es (λ (e : Traced). heard_of v u.timed e.event))

  told : (x : Verdict) → ((k : ℕ) → x ≡ refused k → ⊥) → trace_verdict v u es ≡ x
      → (is_version v ≡ true) × (eqb (setup_answer u) accepted ≡ true) × (compared 0 (reported v u es) (ruled v u es) ≡ x)
  unfolding trace_verdict
  told x other e =
      unrefused (is_version v) (eqb (setup_answer u) accepted) _ _ (compared 0 (reported v u es) (ruled v u es)) x other e

  pub accepted-ruled : trace_verdict v u es ≡ agrees → Ruled v u es
  accepted-ruled e =
      let t = told agrees (λ k q. let z : ◌≡◌ {A = ℕ} 0 1 = cc in absurd (omega arith)) e in
      record {
        version = t.0;
        setup = eqb-true (setup_answer u) accepted t.1;
        entries = agreed 0 (reported v u es) (ruled v u es) as_many t.2;
      }

  pub ruled-accepted : Ruled v u es → trace_verdict v u es ≡ agrees
  unfolding trace_verdict
  ruled-accepted r =
      rw (r.version, eq-eqb (setup_answer u) accepted r.setup, r.entries) (all-agree 0 (ruled v u es))

  pub differs-first : (i : ℕ) (p : Part) → trace_verdict v u es ≡ differs i p → FirstDiffers v u es i p
  differs-first i p e =
      let t = told (differs i p) (λ k q. let z : ◌≡◌ {A = ℕ} 0 1 = cc in absurd (omega arith)) e in
      let f = first 0 (reported v u es) (ruled v u es) i p t.2 in
      let o : i - 0 ≡ i = omega arith in
      record {
        there = omega (arith, f.there, length-map es (λ (d : Traced). d.seen));
        before = rw o at f.before;
        here = rw o at f.here;
      }

-- WHAT THE KERNEL REPORTED

charge-below : (f : ℕ → ℕ) (n c : ℕ) → c < n → get_or (charges_below f n) c 0 ≡ f c
charge-below f zero c h = absurd (omega arith)
charge-below f (suc n) c h =
    let long = length-below f n in
    by-test (ltb c n)
    (λ y. let k = ltb-true c n y in
    get_or-append (charges_below f n) (f n ∷ []) 0 c (omega arith) ∙ charge-below f n c k)
    (λ y. let k : c ≡ n = omega (arith, ltb-false c n y) in
    rw k (last-at (charges_below f n) n (f n) long))
  where
    length-below : (f : ℕ → ℕ) (n : ℕ) → length (charges_below f n) ≡ n
    length-below f zero = refl
    length-below f (suc n) =
        omega (arith, length-append (charges_below f n) (f n ∷ []), length-below f n)

    last-at : (l : List ℕ) (n x : ℕ) → length l ≡ n → get_or (l ++ (x ∷ [])) n 0 ≡ x
    last-at [] zero x e = refl
    last-at [] (suc n) x e = absurd (omega arith)
    last-at (y ∷ l) zero x e = absurd (omega arith)
    last-at (y ∷ l) (suc n) x e = last-at l n x (omega arith)

module _ (v : ℕ) (timed : Bool) (u : Setup) where
  -- an entry of a trace that is what the rules give is what they give after the entries before it
  seen-there : (s : State) (past : List Traced) (e : Traced) (rest : List Traced)
      → map (λ (d : Traced). d.seen) (past ++ (e ∷ rest)) ≡ seen_from u s (heards v timed (past ++ (e ∷ rest)))
      → e.seen ≡ seen_after u (replay_from u s (heards v timed past)) (heard_of v timed e.event)
  unfolding seen_from replay_from
  seen-there s [] e rest q = ap (λ (l : List Seen). get_or l 0 none_seen) q
  seen-there s (d ∷ past) e rest q =
      seen-there (step_of u s (heard_of v timed d.event)) past e rest (ap (drop 1) q)

-- so the charges that it reports are sums over the events so far
pub charge-there : (v : ℕ) (u : Setup) (past : List Traced) (e : Traced) (rest : List Traced)
    → Ruled v u (past ++ (e ∷ rest)) → (c : ℕ) → c < u.clients
    → get_or e.seen.charges c 0 ≡ owed (trimmed u) c (traced v u (past ++ (e ∷ [])))
charge-there v u past e rest r c b =
    let t = trimmed u in
    let x = heard_of v u.timed e.event in
    let s = replay_from t fresh (heards v u.timed past) in
    ap (λ (y : Seen). get_or y.charges c 0) (seen-there v u.timed t fresh past e rest r.entries)
    ∙ charge-below (step_of t s x).charge u.clients c b
    ∙ ap (λ (y : State). y.charge c) (sym (replay_snoc t fresh (heards v u.timed past) x))
    ∙ ap (λ (xs : List Heard). (replay_from t fresh xs).charge c)
    (sym (map-append (λ (d : Traced). heard_of v u.timed d.event) past (e ∷ [])))
    ∙ ap (λ (y : State). y.charge c) (replay-said t (heards v u.timed (past ++ (e ∷ []))) [])
    ∙ charge-is-owed t (own_ranks t) c (traced v u (past ++ (e ∷ [])))

-- No second answer fits: the promises of the check of a setup, of the fresh gate and of a record each leave one result.
-- Assumes nothing.
use mathlib.Core.Bool.{cond}
use mathlib.Core.Path.{◌∙◌, ◌≡◌, ap, ap₂, refl, sym}
use mathlib.Core.Option.{some, none}
use lib.Dec.{eqb}
use Rattle.std.proofs.Common.{Result, Ok, Err}
use Rattle.rules.specs.Events as rules
use Rattle.rules.specs.Records as records
use Rattle.rules.specs.Records.{known, reply_ready, unknown}
use Rattle.rules.specs.Refusals.{accepted, bad_clusters, bad_size, many_clients, no_cap}
use Rattle.gate.specs.Heard.{heard_in}
use Rattle.gate.specs.Made.{Made, Told, made_of, told}
use Rattle.gate.specs.Shown.{client}
use Rattle.gate.specs.declared.Event.TheVariants.{Abort, Invoke, InvokeBy, Ready, Reply, Run}
use Rattle.gate.specs.declared.Fresh.{Fresh}
use Rattle.gate.specs.declared.Gate.{Gate}
use Rattle.gate.specs.declared.Heard.{Heard}
use Rattle.gate.specs.declared.Heard.TheVariants.{Known, ReplyReady, Unknown}
use Rattle.gate.specs.declared.Refusal.{Refusal}
use Rattle.gate.specs.declared.Refusal.TheVariants.{BadClusters, BadRow, BadSize, ManyClients, NoCap}

-- the case of what is told; of a number that no case has, any
verdict_for : Told → Result (Unit {0}) Refusal
verdict_for t =
    cond (eqb t.number accepted) (Ok tt)
    (cond (eqb t.number bad_clusters) (Err BadClusters)
    (cond (eqb t.number no_cap) (Err NoCap)
    (cond (eqb t.number many_clients) (Err ManyClients)
    (cond (eqb t.number bad_size) (Err (BadSize t.which))
    (Err (BadRow t.which))))))

verdict-back : (v : Result (Unit {0}) Refusal) → verdict_for (told v) ≡ v
unfolding verdict_for
verdict-back (Ok tt) = refl
verdict-back (Err BadClusters) = refl
verdict-back (Err NoCap) = refl
verdict-back (Err ManyClients) = refl
verdict-back (Err (BadSize k)) = refl
verdict-back (Err (BadRow c)) = refl

pub one-verdict : (a b : Result (Unit {0}) Refusal) → told a ≡ told b → a ≡ b
one-verdict a b e = sym (verdict-back a) ∙ ap verdict_for e ∙ verdict-back b

pub one-fresh : (a b : Fresh) → made_of a ≡ made_of b → a ≡ b
one-fresh a b e =
    ap₂ (λ (v : Result (Unit {0}) Refusal) (g : Gate). record { verdict = v; gate = g })
    (one-verdict a.verdict b.verdict (ap (λ (m : Made). m.told) e)) (ap (λ (m : Made). m.gate) e)

-- the record that says it
pub heard_for : records.Heard → Heard
heard_for unknown = Unknown
heard_for reply_ready = ReplyReady
heard_for (known (rules.invoke c none)) = Known (Invoke (client c))
heard_for (known (rules.invoke c (some d))) = Known (InvokeBy (client c) d)
heard_for (known (rules.run n)) = Known (Run n)
heard_for (known rules.reply) = Known Reply
heard_for (known (rules.abort c)) = Known (Abort (client c))
heard_for (known rules.ready) = Known Ready

pub heard-back : (h : Heard) → heard_for (heard_in h) ≡ h
unfolding heard_for
heard-back Unknown = refl
heard-back ReplyReady = refl
heard-back (Known (Invoke c)) = refl
heard-back (Known (InvokeBy c d)) = refl
heard-back (Known (Run n)) = refl
heard-back (Known Reply) = refl
heard-back (Known (Abort c)) = refl
heard-back (Known Ready) = refl

pub one-heard : (a b : Heard) → heard_in a ≡ heard_in b → a ≡ b
one-heard a b e = sym (heard-back a) ∙ ap heard_for e ∙ heard-back b

-- One thing more that passes a gate, counted.
use Rattle.std.proofs.Common.{◌≡◌, ◌∙◌, ℕ, List, [], ◌∷◌, ◌++◌, Option, Some, None, refl, ap, append-nil}
use Rattle.sctp_bundling.specs.Watching.{Sent}
use Rattle.sctp_gate.specs.Watching.{Sight, Rose, CameIn, Dropped, Fell, Failed, WentOut}
use Rattle.served_link.specs.Counting.{NodeCounters, DatagramWent, counted_datagram}
use Rattle.sctp_links.specs.Counting.{counted_by, counted_setback, counted_sent, counted_sight, counted_sights}
use Rattle.sctp_links.specs.Setbacks.{failed_by}
use Rattle.served_link.specs.declared.setback.Setback.{Setback}

sights-more : (link : ℕ) (seen : List Sight) (sight : Sight) (c : NodeCounters) →
    counted_sights link (seen ++ sight ∷ []) c ≡ counted_sight link sight (counted_sights link seen c)
sights-more link [] sight c = refl
sights-more link (first ∷ seen) sight c = sights-more link seen sight (counted_sight link first c)

sent-more : (sent : List Sent) (one : Sent) (c : NodeCounters) →
    counted_sent (sent ++ one ∷ []) c ≡ counted_datagram DatagramWent (counted_sent sent c)
sent-more [] one c = refl
sent-more (first ∷ sent) one c = sent-more sent one (counted_datagram DatagramWent c)

joined-setback : (link : ℕ) (setback : Option Setback) (c d : NodeCounters) →
    counted_setback link setback (record { links = c.links; datagrams = d.datagrams; messages = c.messages })
    ≡ record { links = (counted_setback link setback c).links; datagrams = d.datagrams; messages = (counted_setback link setback c).messages }
joined-setback link None c d = refl
joined-setback link (Some setback) c d = refl

-- a sight changes nothing of datagrams, and nothing by them
joined : (link : ℕ) (sight : Sight) (c d : NodeCounters) →
    counted_sight link sight (record { links = c.links; datagrams = d.datagrams; messages = c.messages })
    ≡ record { links = (counted_sight link sight c).links; datagrams = d.datagrams; messages = (counted_sight link sight c).messages }
joined link Rose c d = refl
joined link (CameIn frame outcome) c d = refl
joined link (Dropped message) c d = refl
joined link (Fell why) c d = refl
joined link (Failed why) c d = joined-setback link (failed_by why) c d
joined link (WentOut frame) c d = refl

-- one datagram more
pub sent-counted : (link : ℕ) (sent : List Sent) (seen : List Sight) (one : Sent) (began before after : NodeCounters) →
    before ≡ counted_by link sent seen began → after ≡ counted_datagram DatagramWent before →
    after ≡ counted_by link (sent ++ one ∷ []) (seen ++ []) began
sent-counted link sent seen one began before after h e =
    e ∙ ap (λ (c : NodeCounters). counted_datagram DatagramWent c) h
    ∙ rw (sent-more sent one began, append-nil seen) refl

-- one sight more
pub seen-counted : (link : ℕ) (sent : List Sent) (seen : List Sight) (sight : Sight) (began before after : NodeCounters) →
    before ≡ counted_by link sent seen began → after ≡ counted_sight link sight before →
    after ≡ counted_by link (sent ++ []) (seen ++ sight ∷ []) began
seen-counted link sent seen sight began before after h e =
    e ∙ ap (λ (c : NodeCounters). counted_sight link sight c) h
    ∙ joined link sight (counted_sights link seen began) (counted_sent sent began)
    ∙ rw (sights-more link seen sight began, append-nil sent) refl

-- How a try begins, once its tag was drawn.
use Rattle.std.specs.Prelude.{ℕ, ◌+◌, true, ◌&&◌, List, [], ◌∷◌, Option, Some, None, if◌then◌else◌}
use Rattle.sctp_codec.specs.Packets.{ChunkValue, InitValue, InitChunk}
use Rattle.sctp_codec.specs.Parameters.{listing}
use Rattle.sctp_rules.specs.declared.phase.Phase.TheVariants.{CookieWait, CookieEchoed}
use Rattle.sctp_rules.specs.Settings.{Settings, Address}
use Rattle.sctp_rules.specs.State.{Try, State, Done, silent, no_association, with_association}
use Rattle.sctp_rules.specs.Opening.{init_of, peer_of, trying_with, tried_again}
use Rattle.sctp_rules.specs.Opening.{is_usable, fits_echo, echoed, refused}
use Rattle.sctp_sending.specs.RoundTrips.{first_round_trips}

-- COOKIE-WAIT, with this tag and a first TSN that is the same
abbrev pub in_try : Settings → Address → (tag : ℕ) → State → State
in_try c address tag s = record s {
  is_wanted = true;
  association = record (no_association c) { phase = CookieWait; own_tag = tag; own_first = tag; address = address };
}

abbrev pub begun_by : Settings → (now failures : ℕ) → Address → (tag : ℕ) → State → Done
begun_by c now failures address tag s =
    trying_with c now failures (InitChunk (init_of (record { tag = tag; first = tag }) (listing c.addresses)) ∷ [])
    (in_try c address tag s)

-- these chunks go out until they are answered
abbrev pub with_try : (now failures : ℕ) → List ChunkValue → State → State
with_try now failures chunks s =
    with_association s (record s.association {
      trying = Some (record {
        chunks = chunks;
        failures = failures;
        t1 = now + s.association.sender.round_trips.timeout;
      });
    })

-- a try goes out again, or ends
abbrev pub again : Option Try → Settings → (now : ℕ) → State → Done
again None c now s = silent s
again (Some t) c now s = tried_again c now t s

-- its chunks go out again
abbrev pub trying_on : Option Try → Settings → (now failures : ℕ) → State → Done
trying_on None c now failures s = silent s
trying_on (Some t) c now failures s = trying_with c now failures t.chunks s

-- INIT ACK with a cookie
abbrev pub echoed_or_refused : Settings → (now failures : ℕ) → InitValue → List ℕ → State → Done
echoed_or_refused c now failures init cookie s =
    if is_usable init && fits_echo cookie then echoed c now failures init cookie s else refused c init s

-- COOKIE-ECHOED: what INIT ACK says of the peer
abbrev pub with_peer : Settings → InitValue → State → State
with_peer c init s =
    let a = s.association in
    with_association s (record a {
      phase = CookieEchoed;
      far_tag = init.tag;
      peer = peer_of init;
      sender = record a.sender { round_trips = first_round_trips c.bounds };
    })

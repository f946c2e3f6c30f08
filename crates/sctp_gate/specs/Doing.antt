-- What is done at an endpoint, by its rules.
use Rattle.std.specs.Prelude.{ℕ}
use Rattle.sctp_codec.specs.Reading.{read_packet}
use Rattle.sctp_rules.specs.State.{Done}
use Rattle.sctp_rules.specs.Ending.{abort}
use Rattle.sctp_rules.specs.Opening.{opening}
use Rattle.sctp_rules.specs.Sending.{flush}
use Rattle.sctp_rules.specs.Timers.{ticked}
use Rattle.sctp_endpoint.specs.Dispatching.{heard_datagram}
use Rattle.sctp_endpoint.specs.Endpoints.{Endpoint, secrets_of}
use Rattle.sctp_bundling.specs.Settings.{address_of}
use Rattle.sctp_gate.specs.declared.doing.Doing.{Doing}
use Rattle.sctp_gate.specs.declared.doing.Doing.TheVariants.{Hear, Tick, Open, Abort, Flush}

abbrev pub done_by : Doing → (now : ℕ) → Endpoint → Done
done_by (Hear octets source) now e =
    heard_datagram (read_packet octets.now) e.settings (secrets_of e) now (address_of source) e.state
done_by Tick now e = ticked e.settings (secrets_of e) now e.state
done_by (Open is_active) now e = opening e.settings (secrets_of e) now is_active e.state
done_by Abort now e = abort e.settings e.state
done_by Flush now e = flush e.settings now e.state

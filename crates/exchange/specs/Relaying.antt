-- Where the links of an exchange lead, and the answer to an order about translation rows.
use Rattle.std.specs.Prelude.{ℕ, Bool, is_some, Result, Ok, Err}
use Rattle.std.specs.Option.{option_and_then}
use Rattle.signalling_types.specs.declared.cause.Cause.{Cause}
use Rattle.signalling_types.specs.declared.outcome.Outcome.{Outcome}
use Rattle.signalling_types.specs.declared.outcome.Outcome.TheVariants.{Handled, Refused}
use Rattle.node_links.specs.NodeLinks.{Network, facts_of}
use Rattle.routes.specs.Routes.{chosen_link}
use Rattle.settings.specs.Readings.{destination_place}
use Rattle.settings.specs.Configuration.{Configuration}
use Rattle.sccp_relay.specs.Points.{OwnValue}
use Rattle.exchange.specs.declared.exchange.relaying.LinkWays.{LinkWays}

-- whether the flow of a point and a link selection has a link
abbrev pub leads_in : Configuration → Network → (point sls : ℕ) → Bool
leads_in c network point sls =
    is_some (option_and_then (λ place. chosen_link (facts_of network) place sls) (destination_place c point))

abbrev pub leads_by : LinkWays → (point sls : ℕ) → Bool
leads_by ways = leads_in ways.settings.now ways.links.now

-- the point that a node with these links is
abbrev pub own_in : Configuration → Network → OwnValue
own_in c network = record {
  point = c.own;
  subsystems = c.subsystems;
  extended = c.extended_unitdata;
  answers_tests = c.subsystem_tests;
  hears_statuses = is_some c.timers.sst;
  leads = leads_in c network;
}

-- the table did it, or refused it
abbrev pub handled_or_refused : {T : Type 0} → Result T Cause → Outcome
handled_or_refused (Ok done) = Handled
handled_or_refused (Err cause) = Refused cause

-- The settings of the code, and what it draws and signs under its keys.
use Rattle.sctp_rules.specs.Settings as rules
use Rattle.sctp_bundling.specs.declared.address.Address.{Address}
use Rattle.sctp_bundling.specs.Addresses.{listed}
use Rattle.sctp_bundling.specs.declared.settings.Settings.{Settings}

abbrev pub address_of : Address → rules.Address
address_of a = record { host = a.host; port = a.port }

abbrev pub settings_of : Settings → rules.Settings
settings_of c = record {
  own_port = c.own_port;
  far_port = c.far_port;
  address = address_of c.address;
  addresses = listed c.addresses;
  bounds = c.bounds;
  init_retransmissions = c.init_retransmissions;
  retransmissions = c.retransmissions;
  heartbeat = c.heartbeat;
  cookie_life = c.cookie_life;
}

-- A message on its way, as a cell keeps it.
use Rattle.std.specs.Prelude.{◌≡◌, ◌≤◌, length, take}
use Rattle.sctp_sending.specs.declared.cell.Cell.TheInside.{Inside}
use Rattle.sctp_sending.specs.Outgoing.{Outgoing}

abbrev pub outgoing_in : Inside → Outgoing
outgoing_in c = record {
  message = record { stream = c.stream; protocol = c.protocol; octets = take c.len c.octets };
  sequence = c.sequence;
  again = c.again;
  missing = c.missing;
  named = c.named;
  lost = c.lost;
}

pub record IsInPlace (c : Inside) : Type 0 where
  pub row : length c.octets ≡ 290
  pub fits : c.len ≤ 290
  pub missing : c.missing ≤ 3

-- When the log has a line for what was refused of a link.
use Rattle.std.specs.Prelude.{ℕ, ◌+◌, ◌-◌, ◌^◌, min, Bool, ◌&&◌, nat_lt, nat_le}
use Rattle.std.specs.declared.net.socket_addr.SocketAddr.{SocketAddr}
use Rattle.served_link.specs.declared.setback.Setback.{Setback}
use Rattle.served_link.specs.declared.setback.Setback.TheVariants.{Unwanted}
use Rattle.sctp_links.specs.declared.refusals.Refusals.{Refusals}
use Rattle.sctp_links.specs.declared.refusals.TheConstants.{LINE_MS}

abbrev pub first_refusals : SocketAddr → Refusals
first_refusals address = record { count = 0; source = address; why = Unwanted; next = 0 }

-- one more: the line will name the last
abbrev pub with_refusal : (source : SocketAddr) → (why : Setback) → Refusals → Refusals
with_refusal source why r = record {
  count = min (r.count + 1) (2 ^ 64 - 1);
  source = source;
  why = why;
  next = r.next;
}

-- there are some, and there was no line for a second
abbrev pub is_due : (now : ℕ) → Refusals → Bool
is_due now r = nat_lt 0 r.count && nat_le r.next now

-- their line is written
abbrev pub after_line : (now : ℕ) → Refusals → Refusals
after_line now r = record r { count = 0; next = min (now + LINE_MS) (2 ^ 64 - 1) }

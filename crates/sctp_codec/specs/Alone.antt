-- The item that items are by themselves.
use Rattle.std.specs.Prelude.{◌≡◌, [], Option, unwrap_or}
use Rattle.std.specs.Option.{option_map}
use Rattle.sctp_codec.specs.declared.item.Item.{Item}
use Rattle.sctp_codec.specs.declared.items.Items.{Items}
use Rattle.sctp_codec.specs.Items.{read_items}
use Rattle.sctp_codec.specs.Packets.{lone}

-- this is the only one of the items, and there is none if they are several, or none
abbrev pub IsAlone : Option Item → Items → Type 0
IsAlone alone items =
    lone (unwrap_or (read_items items.octets.now) [])
    ≡ option_map (λ (item : Item). record { kind = item.kind; value = item.value.now }) alone

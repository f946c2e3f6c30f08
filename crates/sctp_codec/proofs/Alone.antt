-- The one chunk of a packet that has no other.
use Rattle.std.proofs.Common.{◌≡◌, List, [], ◌∷◌, map, Option, Some, None, refl}
use Rattle.std.specs.Option.{option_map}
use Rattle.sctp_codec.specs.declared.item.Item.{Item}
use Rattle.sctp_codec.specs.Items.{ItemValue}
use Rattle.sctp_codec.specs.Packets.{lone}
use Rattle.sctp_codec.specs.Reading.{type_of, flags_of, data_in, chunk_of, chunk_in}
use Rattle.sctp_codec.specs.Values.{item_of, Gives}

pub given-is : (o : Option Item) (read : Option ItemValue) → Gives item_of o read → read ≡ option_map item_of o
given-is (Some item) read e = e
given-is None read e = e

-- ---- of the chunks there is one alone where there is of the items

pub lone-map : (items : List ItemValue) → lone (map chunk_in items) ≡ option_map chunk_in (lone items)
lone-map [] = refl
lone-map (item ∷ []) = refl
lone-map (item ∷ next ∷ items) = refl

pub of_data : (item : ItemValue) → type_of item ≡ 0 → chunk_in item ≡ data_in (flags_of item) item.value
unfolding chunk_of
of_data item e = rw e refl

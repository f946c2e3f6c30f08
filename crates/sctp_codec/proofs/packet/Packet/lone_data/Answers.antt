use Rattle.std.proofs.Common.{rules, ◌≡◌, ℕ, List, Option, Some, sym, ap, subst, ◌∙◌}
use Rattle.std.specs.Prelude.{slice_index}
use Rattle.std.specs.Option.{option_map}
use Rattle.sctp_codec.specs.Packets.{DataValue, lone, data_alone}
use Rattle.sctp_codec.specs.Reading.{type_of, data_in, chunk_in}
use Rattle.sctp_codec.specs.Values.{item_of, items_of, data_of, chunk_value, Gives}
use Rattle.sctp_codec.proofs.Alone.{lone-map, of_data}
use Rattle.sctp_codec.proofs.packet.Packet.lone_data.Goals as goal

pub returns : goal.returns
returns c =
    let item = item_of c.in_ok-item.item in
    let items = items_of c.args.self.now.body.items in
    let alone : lone items ≡ Some item = search rules in
    let kind : type_of item ≡ 0 = search rules in
    let flags = ap (λ (octets : List ℕ). data_in (slice_index octets 1) item.value) c.to_be_bytes.ensures in
    let said : chunk_value c.read_data.result ≡ chunk_in item = c.read_data.ensures ∙ flags ∙ sym (of_data item kind) in
    let same = ap data_alone (ap Some said ∙ sym (lone-map items ∙ ap (option_map chunk_in) alone)) in
    subst (λ (read : Option DataValue). Gives data_of c.as_data.result read) same c.as_data.ensures

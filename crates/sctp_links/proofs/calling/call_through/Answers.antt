use Rattle.std.proofs.Common.{◌∙◌, [], sym}
use Rattle.sctp_links.proofs.calling.call_through.Goals as goal

pub returns : goal.returns
returns g c =
    let h = c.make_call.ensures.gives.more [] [] (
      c.requires.link,
      c.requires.observers_name,
      c.requires.datagrams_name,
      c.requires.sink_name,
      c.requires.user_name,
      λ began from. sym (c.requires.is_from began from),
    ) in
    record {
      same_observers = h.1 ∙ sym c.requires.observers_name;
      same_datagrams = h.2 ∙ sym c.requires.datagrams_name;
      same_sink = h.3 ∙ sym c.requires.sink_name;
      same_user = h.4 ∙ sym c.requires.user_name;
      gate = c.make_call.ensures.gate_is;
      exchange = c.make_call.ensures.exchange_is;
      counters = rw (c.requires.link) (h.5 _ c.requires.began);
    }

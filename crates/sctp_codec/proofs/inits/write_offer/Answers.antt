use Rattle.std.proofs.Common.{take}
use Rattle.std.specs.Int.{w16, w32, to_be_bytes}
use Rattle.sctp_codec.proofs.Joined.{joined5}
use Rattle.sctp_codec.proofs.inits.write_offer.Goals as goal

pub returns-clause-text : goal.returns-clause-text
returns-clause-text c =
    let o = c.args.offer.now in
    rw (c.write_at.ensures.text, c.write_at-at-4.ensures.text, c.write_at-at-3.ensures.text, c.write_at-at-2.ensures.text, c.write_at-at.ensures.text, c.to_be_bytes.ensures, c.to_be_bytes-2.ensures, c.to_be_bytes-3.ensures, c.to_be_bytes-4.ensures, c.to_be_bytes-5.ensures)
    (joined5 (take c.args.at c.args.out.now) (to_be_bytes w32 o.tag) (to_be_bytes w32 o.window) (to_be_bytes w16 o.outgoing) (to_be_bytes w16 o.incoming) (to_be_bytes w32 o.first_tsn))

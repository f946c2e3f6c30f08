use Rattle.sctp_cookie.proofs.Drawing.{drawn-next, end-next}
use Rattle.sctp_cookie.proofs.tags.Tags.draw.Goals as goal

pub returns-clause-drawn : goal.returns-clause-drawn
returns-clause-drawn c = rw (c.next_tag.ensures.tag, c.next_tag.ensures.drawing) (drawn-next c.args.self.now)

pub returns-clause-end : goal.returns-clause-end
returns-clause-end c = rw (c.next_tag.ensures.tag, c.next_tag.ensures.drawing) (end-next c.args.self.now c.next_tag.ensures.bound)

use Rattle.sctp_cookie.specs.Cookies.{cookie_in}
use Rattle.sctp_cookie.proofs.signing.read.Goals as goal

pub returns : goal.returns
unfolding cookie_in
returns c =
    rw (
      c.number64.ensures,
      c.number64-2.ensures,
      c.number32.ensures,
      c.number32-2.ensures,
      c.number32-3.ensures,
      c.number32-4.ensures,
      c.number32-5.ensures,
      c.number16.ensures,
      c.number16-2.ensures,
      c.number32-6.ensures,
      c.number32-7.ensures,
      c.number32-8.ensures,
      c.number16-3.ensures,
    )

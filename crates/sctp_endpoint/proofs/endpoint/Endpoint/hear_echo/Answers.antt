use Rattle.std.proofs.Common.{sym, ◌∙◌}
use Rattle.sctp_codec.specs.Values.{chunks_of}
use Rattle.sctp_bundling.specs.Settings.{address_of}
use Rattle.sctp_endpoint.proofs.Dispatching.{echo-goes}
use Rattle.sctp_endpoint.proofs.endpoint.Endpoint.hear_echo.Goals as goal

pub returns-then-hear_cookie_echo : goal.returns-then-hear_cookie_echo
returns-then-hear_cookie_echo g c =
    echo-goes g.W.Watch.has c.args.watch.now c.hear_cookie_echo.new.watch c.hear_by_tag.new.watch c.args.self.now c.hear_cookie_echo.new.self c.hear_by_tag.new.self c.args.now (address_of c.args.source.now) c.args.tag c.args.cookie.now (chunks_of c.args.more) c.hear_cookie_echo.ensures.does (sym c.hear_cookie_echo.ensures.goes_on ∙ c.if-hear_cookie_echo.true) c.hear_by_tag.ensures

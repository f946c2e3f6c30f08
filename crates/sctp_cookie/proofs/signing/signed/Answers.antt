use Rattle.std.proofs.Common.{◌≡◌, sym, ◌∙◌, arith}
use Rattle.std.proofs.lemmas.List.{take_all}
use Rattle.sctp_cookie.specs.Hmac.{hmac}
use Rattle.sctp_cookie.specs.Cookies.{body_of}
use Rattle.sctp_cookie.proofs.CookieTexts.{grown}
use Rattle.sctp_cookie.proofs.signing.signed.Goals as goal

pub returns-clause-octets : goal.returns-clause-octets
returns-clause-octets c =
    let body = body_of c.args.cookie in
    let mac : c.hmac_sha256-mac.result ≡ hmac c.args.key.now body = rw (← c.body-body.ensures) c.hmac_sha256-mac.ensures in
    let front = c.write_at-at.ensures.text ∙ mac in
    let whole = grown _ _ _ _ body _ _ c.write_at.ensures.text front c.body-body.ensures in
    let end : c.write_at.result ≡ 88 = omega arith in
    sym (take_all c.write_at.result c.write_at.new.out (omega (arith, end))) ∙ whole

use Rattle.std.proofs.Common.{sym, ap, ◌∙◌, length, Some}
use Rattle.std.proofs.lemmas.Bool.{false≢true}
use Rattle.sctp_cookie.specs.Cookies.{signed, cookie_in}
use Rattle.sctp_cookie.proofs.CookieTexts.{length-signed, only_read, opened-other, opened-same}
use Rattle.sctp_cookie.proofs.cookie.Cookie.open.Goals as goal

pub returns-in_err-octets-clause-only : goal.returns-in_err-octets-clause-only
returns-in_err-octets-clause-only c = λ cookie h.
    absurd (c.in_err-octets.ensures.cases (ap length h.octets_are ∙ length-signed c.args.key.now cookie))

pub returns-then-is_same-clause-only : goal.returns-then-is_same-clause-only
returns-then-is_same-clause-only c = λ cookie h.
    ap Some (only_read c.args.key.now c.args.octets.now c.in_ok-octets.octets.now cookie c.read-cookie.result h c.in_ok-octets.ensures.cases.same c.read-cookie.ensures)

pub returns-else-is_same-clause-only : goal.returns-else-is_same-clause-only
returns-else-is_same-clause-only c = λ cookie h.
    let array = c.in_ok-octets.ensures.cases.same in
    let found = only_read c.args.key.now c.args.octets.now c.in_ok-octets.octets.now cookie c.read-cookie.result h array c.read-cookie.ensures in
    let again = c.signed.ensures.octets ∙ ap (signed c.args.key.now) found in
    absurd (false≢true (sym c.if-is_same.false ∙ c.is_same.ensures.1 (array ∙ h.octets_are ∙ sym again)))

pub returns-in_err-octets-clause-exact : goal.returns-in_err-octets-clause-exact
returns-in_err-octets-clause-exact c =
    c.from_residual.ensures ∙ opened-other c.args.key.now c.args.octets.now (λ same. c.in_err-octets.ensures.cases (ap length same ∙ length-signed c.args.key.now (cookie_in c.args.octets.now)))

pub returns-then-is_same-clause-exact : goal.returns-then-is_same-clause-exact
returns-then-is_same-clause-exact c =
    let array = c.in_ok-octets.ensures.cases.same in
    let read = c.read-cookie.ensures ∙ ap cookie_in array in
    opened-same c.args.key.now c.args.octets.now c.read-cookie.result read (sym array ∙ c.is_same.ensures.0 c.if-is_same.true ∙ c.signed.ensures.octets ∙ ap (signed c.args.key.now) read)

pub returns-else-is_same-clause-exact : goal.returns-else-is_same-clause-exact
returns-else-is_same-clause-exact c =
    let array = c.in_ok-octets.ensures.cases.same in
    let read = c.read-cookie.ensures ∙ ap cookie_in array in
    opened-other c.args.key.now c.args.octets.now (λ same. false≢true (sym c.if-is_same.false ∙ c.is_same.ensures.1 (array ∙ same ∙ sym (c.signed.ensures.octets ∙ ap (signed c.args.key.now) read))))

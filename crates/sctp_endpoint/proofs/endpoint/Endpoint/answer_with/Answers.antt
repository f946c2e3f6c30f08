use Rattle.std.proofs.Common.{ap, subst, ◌∙◌, refl}
use Rattle.sctp_codec.specs.Values.{init_of, items_of}
use Rattle.sctp_codec.specs.declared.chunk.Offer.{Offer}
use Rattle.sctp_cookie.specs.declared.cookie.Cookie.{Cookie}
use Rattle.sctp_rules.specs.Opening.{cookie_for}
use Rattle.sctp_cookie.specs.Cookies.{Fits, signed}
use Rattle.sctp_ends.specs.Keyed.{signed_under}
use Rattle.sctp_endpoint.proofs.Keyed.{signed-kept}
use Rattle.sctp_endpoint.specs.Endpoints.{Endpoint}
use Rattle.sctp_bundling.specs.Settings.{address_of}
use Rattle.sctp_bundling.specs.Addresses.{listed}
use Rattle.sctp_bundling.specs.Ways.{way_of}
use Rattle.sctp_endpoint.specs.Flushing.{way_to}
use Rattle.sctp_endpoint.proofs.Answering.{answer-put}
use Rattle.sctp_bundling.proofs.Giving.{given-put}
use Rattle.sctp_endpoint.proofs.endpoint.Endpoint.answer_with.Goals as goal

pub returns : goal.returns
returns g c =
    let key = c.self.inside.cookie_key in
    let e = c.args.self.now in
    let made : Cookie = cookie_for e.settings c.args.now e.state (record { tag = c.args.tag; first = c.args.first_tsn }) (init_of c.args.init.now) in
    let cookie = c.sign-cookie.ensures.signed.octets_are ∙ ap (signed key) c.cookie_for.ensures ∙ ap (λ (x : Endpoint). signed x.cookie_key made) c.self.view_is ∙ signed-kept e.cookie_key made (subst Fits c.cookie_for.ensures c.sign-cookie.ensures.signed.fits) in
    let offered : Offer = record { tag = c.args.tag; window = 65536; outgoing = 2; incoming = 2; first_tsn = c.args.first_tsn } in
    given-put g.W.Watch.has c.args.watch.now c.put_init_answer.new.watch _ refl
    (answer-put g.W.Watch.has c.args.watch.now c.put_init_answer.new.watch (way_of c.way-way.result) (way_to e.settings (address_of c.args.source.now) c.args.init.now.offer.tag) c.offer-offer.result offered
    (listed c.self.inside.settings.addresses) e.settings.addresses c.sign-cookie.result (signed_under e.cookie_key made) (items_of c.args.init.now.parameters) c.way-way.ensures c.offer-offer.ensures
    (ap (λ (x : Endpoint). x.settings.addresses) c.self.view_is) cookie c.put_init_answer.ensures)

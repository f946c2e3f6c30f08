use Rattle.std.proofs.Common.{◌≡◌, [], ◌∷◌, sym, ◌∙◌, refl, arith}
use Rattle.std.specs.Int.{w16, w32, w64, to_be_bytes}
use Rattle.std.proofs.lemmas.List.{take_all}
use Rattle.sctp_cookie.specs.Cookies.{body_of}
use Rattle.sctp_cookie.proofs.CookieTexts.{grown}
use Rattle.sctp_cookie.proofs.signing.body.Goals as goal

pub returns : goal.returns
unfolding body_of
returns c =
    let k = c.args.cookie in
    let made = c.write_at-at.ensures.text ∙ c.to_be_bytes.ensures in
    let generation = grown _ _ _ _ (to_be_bytes w64 k.generation) _ _ c.write_at-at-2.ensures.text made c.to_be_bytes-2.ensures in
    let own_tag = grown _ _ _ _ (to_be_bytes w32 k.own_tag) _ _ c.write_at-at-3.ensures.text generation c.to_be_bytes-3.ensures in
    let peer_tag = grown _ _ _ _ (to_be_bytes w32 k.peer_tag) _ _ c.write_at-at-4.ensures.text own_tag c.to_be_bytes-4.ensures in
    let own_first_tsn = grown _ _ _ _ (to_be_bytes w32 k.own_first_tsn) _ _ c.write_at-at-5.ensures.text peer_tag c.to_be_bytes-5.ensures in
    let peer_first_tsn = grown _ _ _ _ (to_be_bytes w32 k.peer_first_tsn) _ _ c.write_at-at-6.ensures.text own_first_tsn c.to_be_bytes-6.ensures in
    let peer_window = grown _ _ _ _ (to_be_bytes w32 k.peer_window) _ _ c.write_at-at-7.ensures.text peer_first_tsn c.to_be_bytes-7.ensures in
    let peer_outgoing_streams = grown _ _ _ _ (to_be_bytes w16 k.peer_outgoing_streams) _ _ c.write_at-at-8.ensures.text peer_window c.to_be_bytes-8.ensures in
    let peer_incoming_streams = grown _ _ _ _ (to_be_bytes w16 k.peer_incoming_streams) _ _ c.write_at-at-9.ensures.text peer_outgoing_streams c.to_be_bytes-9.ensures in
    let tie_own_tag = grown _ _ _ _ (to_be_bytes w32 k.tie_own_tag) _ _ c.write_at-at-10.ensures.text peer_incoming_streams c.to_be_bytes-10.ensures in
    let tie_peer_tag = grown _ _ _ _ (to_be_bytes w32 k.tie_peer_tag) _ _ c.write_at-at-11.ensures.text tie_own_tag c.to_be_bytes-11.ensures in
    let life = grown _ _ _ _ (to_be_bytes w32 k.life) _ _ c.write_at-at-12.ensures.text tie_peer_tag c.to_be_bytes-12.ensures in
    let peer_port = grown _ _ _ _ (to_be_bytes w16 k.peer_port) _ _ c.write_at-at-13.ensures.text life c.to_be_bytes-13.ensures in
    let whole = grown _ _ _ _ (0 ∷ 0 ∷ []) _ _ c.write_at.ensures.text peer_port refl in
    let end : c.write_at.result ≡ 56 = omega arith in
    sym (take_all c.write_at.result c.write_at.new.out (omega (arith, end))) ∙ whole

use Rattle.std.proofs.Common.{ap, ◌∙◌, sym, refl, true, false, reverse}
use Rattle.sctp_sending.specs.Cells.{given_as}
use Rattle.sctp_rules.specs.Endpoint.{Sends}
use Rattle.sctp_ends.specs.Told.{with_last, text_given}
use Rattle.sctp_world.specs.Kept.{KeptSite, kept_happened}
use Rattle.sctp_world.proofs.Sites.{sent-so, keeps-so, keeps-all}
use Rattle.sctp_world.proofs.site.Site.send.Goals as goal

pub returns-then-not-send-clause-left : goal.returns-then-not-send-clause-left
returns-then-not-send-clause-left c =
    let inside : KeptSite = record { endpoint = c.self.inside.endpoint; log = c.self.inside.log; given = reverse c.self.inside.given.items } in
    let left : KeptSite = record inside { endpoint = c.send.new.self } in
    keeps-so c.args.self.now left left (kept_happened (Sends (given_as c.args.message)) c.args.self.now) left (keeps-all left)
    (sent-so false (given_as c.args.message) inside c.send.new.self inside.given (sym c.send.ensures.taken ∙ c.if-not-send.true) c.send.ensures.left refl
    ∙ ap (λ (k : KeptSite). kept_happened (Sends (given_as c.args.message)) k) c.self.view_is) (ap (λ (k : KeptSite). k.log.is_whole) c.self.view_is)

pub returns-clause-left : goal.returns-clause-left
returns-clause-left c =
    let inside : KeptSite = record { endpoint = c.self.inside.endpoint; log = c.self.inside.log; given = reverse c.self.inside.given.items } in
    let left : KeptSite = record inside { endpoint = c.send.new.self } in
    keeps-so c.args.self.now left (record left { given = with_last (text_given (given_as c.args.message)) left.given })
    (kept_happened (Sends (given_as c.args.message)) c.args.self.now) c.note.new.self c.note.ensures
    (sent-so true (given_as c.args.message) inside c.send.new.self _ (sym c.send.ensures.taken ∙ c.if-not-send.false) c.send.ensures.left refl
    ∙ ap (λ (k : KeptSite). kept_happened (Sends (given_as c.args.message)) k) c.self.view_is) (ap (λ (k : KeptSite). k.log.is_whole) c.self.view_is)

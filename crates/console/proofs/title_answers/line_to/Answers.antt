-- How the row's own point stands, and the refusal, are those of the row as it was read.
use Rattle.std.proofs.Common.{◌≡◌, ◌∙◌, ℕ, ap}
use Rattle.std.specs.Prelude.{Option}
use Rattle.settings.specs.declared.title_row.TitleRoute.{TitleRoute}
use Rattle.signalling_types.specs.declared.cause.Cause.{Cause}
use Rattle.exchange.specs.Relaying.{leads_by}
use Rattle.sccp_relay.specs.Values.{own_value}
use Rattle.console.specs.TitleAnswers.{led_line, refusal_at, standing_of}
use Rattle.console.specs.declared.title_answers.Standing.{Standing}
use Rattle.console.proofs.title_answers.line_to.Goals as goal

pub returns : goal.returns
returns c =
    let own = own_value leads_by c.args.own.now in
    let row = c.args.row.now in
    let first : c.stands-first.result ≡ standing_of own c.args.titles.now.prohibited row.route row.point =
    c.stands-first.ensures
    ∙ ap (λ (to : TitleRoute). standing_of own c.args.titles.now.prohibited to c.point.result) c.route.ensures
    ∙ ap (λ (point : ℕ). standing_of own c.args.titles.now.prohibited row.route point) c.point.ensures
    in
    let refusal : c.refusal_at-refusal.result ≡ refusal_at own c.args.settings.now row.route c.args.point =
    c.refusal_at-refusal.ensures
    ∙ ap (λ (to : TitleRoute). refusal_at own c.args.settings.now to c.args.point) c.route-2.ensures
    in
    c.led_line.ensures
    ∙ ap (λ (stands : Standing). led_line c.args.points stands c.point-2.result c.args.point c.refusal_at-refusal.result) first
    ∙ ap (λ (point : ℕ). led_line c.args.points (standing_of own c.args.titles.now.prohibited row.route row.point) point c.args.point c.refusal_at-refusal.result) c.point-2.ensures
    ∙ ap (λ (why : Option Cause). led_line c.args.points (standing_of own c.args.titles.now.prohibited row.route row.point) row.point c.args.point why) refusal

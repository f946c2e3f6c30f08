-- A notice has a line, or there is none.
use Rattle.std.proofs.Common.{refl}
use Rattle.std.proofs.lemmas.List.{append-nil}
use Rattle.status_page.specs.States.{notice_tokens}
use Rattle.status_page.proofs.Shown.{line_shown, line_missing}
use Rattle.status_page.proofs.state.notices.put_notice.Goals as goal

pub returns-then-show_notices : goal.returns-then-show_notices
unfolding notice_tokens
returns-then-show_notices c =
    rw (line_shown _ _ _ _ c.show_notices.ensures.kept_line c.if-show_notices.true, ← c.notice_number-number.ensures, ← c.time_ms.ensures, ← c.as_str.ensures.value)
    c.put_shown_notice.ensures

pub returns : goal.returns
unfolding notice_tokens
returns c =
    rw (line_missing _ _ _ _ c.show_notices.ensures.kept_line c.if-show_notices.false, append-nil c.args.out.now.tokens) (refl, refl)

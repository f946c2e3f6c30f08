-- The next notice is seen.
use Rattle.std.proofs.Common.{◌∙◌, ap, sym}
use Rattle.std.proofs.Math.Numerals.{add-one}
use Rattle.std.specs.Option.{option_copied}
use Rattle.status_page.proofs.Seeing.{seen_next, seen_past}
use Rattle.status_page.proofs.noticed.NoticeLog.see_from.Goals.{in-Some, in_default}
use Rattle.status_page.proofs.noticed.NoticeLog.see_from.Goals as goal

pub loop-k-preserved : goal.loop-k-preserved
loop-k-preserved c = elim c.match-get.branch [
  | in-Some w ↦ rw (w.self-is, w.see.ensures, add-one c.loop-k.k)
      (seen_next c.args.now_ms c.args.notices.now.items c.loop-k.k w.in-Some.notice.now c.loop-k.self (sym c.get.ensures ∙ ap option_copied w.in-Some.is)
      ∙ c.loop-k.invariant)
  | in_default w ↦ rw w.self-is
      (seen_past c.args.now_ms c.args.notices.now.items c.loop-k.k c.loop-k.self (sym c.get.ensures ∙ ap option_copied w.in_default.is)
      ∙ c.loop-k.invariant)
]

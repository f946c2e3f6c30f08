-- With the remaining notices, it gives what all of them give.
use Rattle.std.proofs.Common.{◌≡◌, drop}
use Rattle.status_page.specs.Noticed.{seen_all}
use Rattle.status_page.proofs.noticed.NoticeLog.see_from.Given as goal

abbrev pub invariant-loop-k : goal.invariant-loop-k
invariant-loop-k l =
    seen_all l.fn.now_ms (drop l.k l.notices.items) l.self
    ≡ seen_all l.fn.now_ms (drop l.fn.first l.notices.items) l.fn.self

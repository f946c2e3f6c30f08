-- Notices that are seen one after another.
use Rattle.std.proofs.Common.{◌≡◌, ◌∙◌, ℕ, suc, ◌+◌, ◌≤◌, inl, inr, List, drop, length, Some, None, ap, arith, refl, sym, slice_get}
use Rattle.std.proofs.Math.ListN.{drop_of_length-le}
use Rattle.std.proofs.Math.Seq.{drop-cons}
use Rattle.std.proofs.lemmas.Option.{none-some, slice_get_cases, slice_get_within, get_or_from_slice_get}
use Rattle.signalling_types.specs.declared.notice.Notice.{Notice}
use Rattle.status_page.specs.declared.noticed.NoticeLog.{NoticeLog}
use Rattle.status_page.specs.Noticed.{seen_all, seen_one}

-- the one at an index, and then those after it
pub seen_next : (now : ℕ) (ns : List Notice) (k : ℕ) (n : Notice) (log : NoticeLog) → slice_get ns k ≡ Some n
    → seen_all now (drop (suc k) ns) (seen_one now n log) ≡ seen_all now (drop k ns) log
seen_next now ns k n log e =
    sym (ap (λ (xs : List Notice). seen_all now xs log) (drop-cons ns k n (slice_get_within ns k n e))
    ∙ ap (λ (x : Notice). seen_all now (drop (suc k) ns) (seen_one now x log)) (get_or_from_slice_get ns k n n e))

-- after the last there is none
pub none_is_past : (ns : List Notice) (k : ℕ) → slice_get ns k ≡ None → length ns ≤ k
none_is_past ns k e = elim (slice_get_cases ns k).1 [ inl p ↦ absurd (none-some p.0 (sym e ∙ p.2)) | inr q ↦ q.0 ]

pub seen_past : (now : ℕ) (ns : List Notice) (k : ℕ) (log : NoticeLog) → slice_get ns k ≡ None
    → seen_all now (drop (k + 1) ns) log ≡ seen_all now (drop k ns) log
seen_past now ns k log e =
    let l = none_is_past ns k e in
    rw (drop_of_length-le ns {i = k + 1} (omega (arith, l)), drop_of_length-le ns {i = k} l) refl

-- Rows of changeovers and of failures, by computation.
use Rattle.std.proofs.Common.{refl}
use Rattle.served_link.specs.Rows as rows

pub changeover_counts_as_it_ends : rows.changeover_counts_as_it_ends
changeover_counts_as_it_ends = refl

pub short_changeover_counts_once : rows.short_changeover_counts_once
short_changeover_counts_once = refl

pub link_that_never_served_has_none : rows.link_that_never_served_has_none
link_that_never_served_has_none = refl

pub greatest_count_stays : rows.greatest_count_stays
greatest_count_stays = refl

pub peer_that_does_not_align : rows.peer_that_does_not_align
peer_that_does_not_align = refl

pub peer_that_does_not_prove : rows.peer_that_does_not_prove
peer_that_does_not_prove = refl

pub peer_that_is_not_ready : rows.peer_that_is_not_ready
peer_that_is_not_ready = refl

pub peer_that_stays_busy : rows.peer_that_stays_busy
peer_that_stays_busy = refl

pub processor_that_stays_out : rows.processor_that_stays_out
processor_that_stays_out = refl

pub peer_that_confirms_nothing : rows.peer_that_confirms_nothing
peer_that_confirms_nothing = refl

pub link_under_test : rows.link_under_test
link_under_test = refl

pub tests_that_are_not_answered : rows.tests_that_are_not_answered
tests_that_are_not_answered = refl

pub association_that_is_lost : rows.association_that_is_lost
association_that_is_lost = refl

pub link_that_never_failed : rows.link_that_never_failed
link_that_never_failed = refl

pub failure_lasts : rows.failure_lasts
failure_lasts = refl

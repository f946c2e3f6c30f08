-- The pieces come one after the other.
use Rattle.status_page.proofs.Adding.{behind}
use Rattle.status_page.proofs.state.put_counts.Goals as goal

pub returns : goal.returns
returns c =
    rw (← c.kept_messages.ensures, ← c.held_users.ensures, ← c.times_lost.ensures.kept_times, ← c.times_late.ensures.kept_times, ← c.messages_lost.ensures.kept_messages, ← c.times_broken.ensures.kept_times, ← c.times_rerouted.ensures.kept_times, ← c.notice_count.ensures.kept_count)
    (behind c.put_number-8.result c.args.out.now c.put_number.new.out c.put_number-8.new.out _ _ c.in_ok-put_number.ensures
    (behind c.put_number-8.result c.put_number.new.out c.put_number-2.new.out c.put_number-8.new.out _ _ c.in_ok-put_number-2.ensures
    (behind c.put_number-8.result c.put_number-2.new.out c.put_number-3.new.out c.put_number-8.new.out _ _ c.in_ok-put_number-3.ensures
    (behind c.put_number-8.result c.put_number-3.new.out c.put_number-4.new.out c.put_number-8.new.out _ _ c.in_ok-put_number-4.ensures
    (behind c.put_number-8.result c.put_number-4.new.out c.put_number-5.new.out c.put_number-8.new.out _ _ c.in_ok-put_number-5.ensures
    (behind c.put_number-8.result c.put_number-5.new.out c.put_number-6.new.out c.put_number-8.new.out _ _ c.in_ok-put_number-6.ensures
    (behind c.put_number-8.result c.put_number-6.new.out c.put_number-7.new.out c.put_number-8.new.out _ _ c.in_ok-put_number-7.ensures
    (c.put_number-8.ensures))))))))

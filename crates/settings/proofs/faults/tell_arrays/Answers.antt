use Rattle.settings.proofs.Basics.{inl, inr, ◌∙◌, ◌≡◌, length, entries_checks, sets_checks, links_checks, destinations_checks, titles_checks, unreached_checks, reached_checks, arrays_checks, [], nat_tests, arith}
use Rattle.settings.proofs.Telling.{Pieces, told_behind, not_told_behind}
use Rattle.settings.proofs.faults.tell_arrays.Goals as goal
use Rattle.settings.proofs.faults.tell_arrays.Goals.{else-after_sets-first-via-then-after_sets-first+else-after_destinations-after_links, else-after_sets-first-via-else-after_sets-first}

pub returns-in_ok-tell_unreached : goal.returns-in_ok-tell_unreached
unfolding arrays_checks unreached_checks
returns-in_ok-tell_unreached c =
    let d = c.args.draft.now in
    let own = c.args.own in
    let pieces : Pieces c.args.told.now.items (sets_checks own d.sets.items) (links_checks d.sets.items d.links.items) (destinations_checks own d.sets.items d.destinations.items) (titles_checks d.titles.items) c.tell_sets.new.told.items c.tell_links.new.told.items c.tell_destinations.new.told.items c.tell_titles.new.told.items = record {
      a_told = rw c.deref.ensures.value at c.in_ok-tell_sets.ensures;
      between_told = rw (c.deref-2.ensures.value, c.deref-3.ensures.value) at c.in_ok-tell_links.ensures;
      b_told = rw (c.deref-4.ensures.value, c.deref-5.ensures.value) at c.in_ok-tell_destinations.ensures;
      behind_told = rw c.deref-6.ensures.value at c.in_ok-tell_titles.ensures;
    } in
    let same_sets : length c.tell_sets.new.told.items ≡ length c.args.told.now.items = grind (arith, nat_tests, c.len-first.ensures, c.len-after_sets.ensures, c.if-after_sets-first.true) in
    let same_destinations : length c.tell_destinations.new.told.items ≡ length c.tell_links.new.told.items = grind (arith, nat_tests, c.len-after_links.ensures, c.len-after_destinations.ensures, c.if-after_destinations-after_links.true) in
    rw (c.deref-then-after_destinations-after_links.ensures.value, c.deref-then-after_destinations-after_links-2.ensures.value) at c.in_ok-tell_unreached.ensures
    ∙ told_behind _ _ _ _ _ (entries_checks (reached_checks d.destinations.items) [] d.sets.items) _ _ _ _ pieces same_sets same_destinations

pub returns-else-after_sets-first : goal.returns-else-after_sets-first
unfolding arrays_checks unreached_checks
returns-else-after_sets-first c =
    let d = c.args.draft.now in
    let own = c.args.own in
    let pieces : Pieces c.args.told.now.items (sets_checks own d.sets.items) (links_checks d.sets.items d.links.items) (destinations_checks own d.sets.items d.destinations.items) (titles_checks d.titles.items) c.tell_sets.new.told.items c.tell_links.new.told.items c.tell_destinations.new.told.items c.tell_titles.new.told.items = record {
      a_told = rw c.deref.ensures.value at c.in_ok-tell_sets.ensures;
      between_told = rw (c.deref-2.ensures.value, c.deref-3.ensures.value) at c.in_ok-tell_links.ensures;
      b_told = rw (c.deref-4.ensures.value, c.deref-5.ensures.value) at c.in_ok-tell_destinations.ensures;
      behind_told = rw c.deref-6.ensures.value at c.in_ok-tell_titles.ensures;
    } in
    not_told_behind _ _ _ _ _ (entries_checks (reached_checks d.destinations.items) [] d.sets.items) _ _ _ _ pieces (elim c.else-after_sets-first.branch [
      | else-after_sets-first-via-then-after_sets-first+else-after_destinations-after_links w ↦ inr (λ e. grind (arith, nat_tests, e, c.len-after_links.ensures, c.len-after_destinations.ensures, w.if-after_destinations-after_links.false))
      | else-after_sets-first-via-else-after_sets-first w ↦ inl (λ e. grind (arith, nat_tests, e, c.len-first.ensures, c.len-after_sets.ensures, w.if-after_sets-first.false))
    ])

-- One more destination is looked at.
use Rattle.changeback.proofs.Basics.{ap, ◌∙◌, Bool, List, ℕ, arith, replicate, length, false, subst, sym, LINKS, Facts, with_link, facts_of, changes, gives_up, IsSeen}
use Rattle.changeback.proofs.Changes.{all_marks_begin, all_marks_go_on}
use Rattle.changeback.proofs.Sets.{none_seen}
use Rattle.changeback.proofs.returning.losing_by.Goals as goal

pub loop-destination-init : goal.loop-destination-init
loop-destination-init c = record {
  seen = subst (λ (seen : List Bool). IsSeen c.args.links.now c.args.link seen (replicate LINKS false)) (sym c.new-seen.ensures)
      (none_seen c.args.links.now c.args.link (replicate LINKS false));
  losing = all_marks_begin LINKS c.args.links.now c.args.link;
}

pub loop-destination-preserved : goal.loop-destination-preserved
loop-destination-preserved c = record {
  seen = c.look_at.ensures.seen;
  losing = all_marks_go_on c.loop-destination.losing c.look_at.new.losing c.args.links.now c.args.link c.loop-destination.destination
      c.loop-destination.invariant.losing c.look_at.ensures.losing;
}

pub returns : goal.returns
returns c =
    λ other. c.loop-destination.invariant.losing other
    ∙ ap (λ (count : ℕ). gives_up (changes c.args.link (with_link c.args.link false (facts_of c.args.links.now)) (facts_of c.args.links.now) count) other)
    (omega (arith, c.loop-destination-test.false, c.loop-destination.auto.destination-end, c.destinations-destination-end.ensures, ap (λ (f : Facts). length f.routes) c.requires.before))

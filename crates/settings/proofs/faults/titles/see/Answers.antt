use Rattle.settings.proofs.Seen.{of_more}
use Rattle.settings.proofs.faults.titles.see.Goals as goal

pub returns-clause-seen : goal.returns-clause-seen
returns-clause-seen c = rw (c.in_ok-is_new.ensures.keys, c.title_key.ensures) (of_more c.args.seen.now.keys c.args.earlier.now c.args.title.now c.requires)

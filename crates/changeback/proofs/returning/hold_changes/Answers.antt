use Rattle.node_links.proofs.Chosen.{facts_before}
use Rattle.changeback.proofs.returning.hold_changes.Goals as goal

pub hold_changes_by-requires-clause-before : goal.hold_changes_by-requires-clause-before
hold_changes_by-requires-clause-before c =
    facts_before c.args.links.now c.args.link c.in_service_without-in_service.result.items c.deref.result.now c.facts_by.result c.facts_by.ensures c.deref.ensures.0 c.in_service_without-in_service.ensures

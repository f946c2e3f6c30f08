-- The line of the destination, if its state changed, and that of its alarm, if it is raised or cleared.
use Rattle.std.proofs.Common.{Bool, [], subst}
use Rattle.std.specs.declared.time.Duration.{Duration}
use Rattle.served_link.specs.DestinationStates.{is_closed}
use Rattle.served_link.specs.Times.{millis_of}
use Rattle.served_link.specs.declared.alarm.Alarm.TheVariants as alarm
use Rattle.served_node.specs.NodeChanges.{TellsEach, alarm_change, alarm_texts, destination_texts_by}
use Rattle.served_node.specs.contracts.node_watch.NodeWatch.{the_view}
use Rattle.served_node.proofs.node_watch.NodeWatch.note_destination.Goals as goal

pub returns-clause-told : goal.returns-clause-told
returns-clause-told g c = rw (← c.self.view_is)
    (subst (λ (is_changed : Bool). TellsEach c.args.log.now.now
    (destination_texts_by is_changed (the_view c.self.inside).points c.args.settings.now c.args.number c.args.found
    (alarm_texts (the_view c.self.inside).points c.args.settings.now (alarm.Destination c.args.number)
    (alarm_change (alarm.Destination c.args.number) (is_closed c.args.found.access) (the_view c.self.inside))
    (millis_of c.args.log.now.now) []))
    (g.W.Sink.output c.args.log.now.sink.now) (g.W.Sink.output c.note_alarm.new.log.sink.now)) c.note-is_changed.ensures.changed
    (c.tell_destination.ensures.told _ (g.W.Sink.output c.note_alarm.new.log.sink.now)
    (subst (λ (is_on : Bool). TellsEach c.args.log.now.now
    (alarm_texts (the_view c.self.inside).points c.args.settings.now (alarm.Destination c.args.number)
    (alarm_change (alarm.Destination c.args.number) is_on (the_view c.self.inside)) (millis_of c.args.log.now.now) [])
    (g.W.Sink.output c.tell_destination.new.log.sink.now) (g.W.Sink.output c.note_alarm.new.log.sink.now)) c.has_no_way-is_closed.ensures
    (subst (λ (now : Duration). TellsEach now
    (alarm_texts (the_view c.self.inside).points c.args.settings.now (alarm.Destination c.args.number)
    (alarm_change (alarm.Destination c.args.number) c.has_no_way-is_closed.result (the_view c.self.inside)) (millis_of now) [])
    (g.W.Sink.output c.tell_destination.new.log.sink.now) (g.W.Sink.output c.note_alarm.new.log.sink.now)) c.tell_destination.ensures.time
    c.note_alarm.ensures.told))))

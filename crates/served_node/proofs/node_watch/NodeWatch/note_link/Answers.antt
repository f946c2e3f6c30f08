-- The line of the link, if its state changed, and that of its alarm, if it is raised or cleared.
use Rattle.std.proofs.Common.{Bool, not, [], Option, subst}
use Rattle.std.specs.declared.time.Duration.{Duration}
use Rattle.served_link.specs.ServiceStates.{is_available}
use Rattle.served_link.specs.Times.{millis_of}
use Rattle.served_link.specs.declared.alarm.Alarm.TheVariants as alarm
use Rattle.served_link.specs.declared.service_states.StateChange.{StateChange}
use Rattle.served_node.specs.NodeChanges.{TellsEach, alarm_change, alarm_texts, link_texts_by}
use Rattle.served_node.specs.contracts.node_watch.NodeWatch.{the_view}
use Rattle.served_node.proofs.node_watch.NodeWatch.note_link.Goals as goal

pub returns-clause-told : goal.returns-clause-told
returns-clause-told g c = rw (← c.self.view_is)
    (subst (λ (o : Option StateChange). TellsEach c.args.log.now.now
    (link_texts_by o c.args.settings.now c.args.link c.args.waiting (millis_of c.args.log.now.now)
    (alarm_texts (the_view c.self.inside).points c.args.settings.now (alarm.Link c.args.link)
    (alarm_change (alarm.Link c.args.link) (not (is_available c.args.found)) (the_view c.self.inside))
    (millis_of c.args.log.now.now) []))
    (g.W.Sink.output c.args.log.now.sink.now) (g.W.Sink.output c.note_alarm.new.log.sink.now)) c.note-change.ensures.change
    (c.tell_link.ensures.told _ (g.W.Sink.output c.note_alarm.new.log.sink.now)
    (subst (λ (is_available : Bool). TellsEach c.args.log.now.now
    (alarm_texts (the_view c.self.inside).points c.args.settings.now (alarm.Link c.args.link)
    (alarm_change (alarm.Link c.args.link) (not is_available) (the_view c.self.inside)) (millis_of c.args.log.now.now) [])
    (g.W.Sink.output c.tell_link.new.log.sink.now) (g.W.Sink.output c.note_alarm.new.log.sink.now)) c.is_available.ensures
    (subst (λ (now : Duration). TellsEach now
    (alarm_texts (the_view c.self.inside).points c.args.settings.now (alarm.Link c.args.link)
    (alarm_change (alarm.Link c.args.link) (not c.is_available.result) (the_view c.self.inside)) (millis_of now) [])
    (g.W.Sink.output c.tell_link.new.log.sink.now) (g.W.Sink.output c.note_alarm.new.log.sink.now)) c.tell_link.ensures.time
    c.note_alarm.ensures.told))))

-- What an event may do, and what it does by this alone: a relation that holds of each rule, given what that event may
-- do, and of each change of timers, holds between the node before it and the node after.
use Rattle.exchange_rules.proofs.Basics.{◌≡◌, ◌⊎◌, inl, inr, refl, ◌∙◌, Ok, ℕ, zero, suc, true, ap, subst}
use Rattle.exchange_rules.proofs.Definitions.{Configuration, LinkStatus, StatusFrame, TimerName, Running, is_due, ticked, after_due, due_name, due_count, due-left, no_tick_left, Node, with_timers, run_next, run_times, tick, Happening, CameUp, Released, Ticked, WholeQueues, whole, apply, Abstract, run_all, subsystems_ticked}
use Rattle.exchange_rules.specs.LawsOfCauses.{EndsByWord, EndsByTimer, EndsByRecovery, MayFail}
use Rattle.exchange_rules.specs.LawsOfUserParts.{brings_lacking}
use Rattle.exchange_rules.specs.LawsOfSubsystems.{changes_titles}
use Rattle.m2pa_codec.specs.declared.status.LinkStatus.TheVariants.{ProcessorRecovered}
use Rattle.exchange_rules.proofs.Asked.{any}
use Rattle.exchange_rules.proofs.Outages.{recovery-is, recovers-says, recovery-out}
use Rattle.exchange_rules.proofs.DueTimers.{next-dues}
use Rattle.exchange_rules.proofs.Steps.{Deed, LinkOpens, LinkFails, HoldsEnd, Lacking, IsOfDeeds, TitlesChange, SetReturns, WaitEnds}
use Rattle.exchange_rules.proofs.SteppingEvents.{AllowsTimer, AllowsEvent, run_due-deeds, apply-deeds}
use Rattle.exchange_rules.specs.LawsOfWaits.{AnswerComes}
use Rattle.exchange_rules.specs.Aligning.{RunsOut}
use Rattle.timers.specs.declared.name.TimerName.TheVariants.{T2}

-- what may end the wait for the answer about a link; what T2 and the operator need besides is looked at where they do
abbrev pub MayEndWait : (link : ℕ) → Happening → Abstract → Type 0
MayEndWait link what a = AnswerComes link what a ⊎ (RunsOut (T2 link) what a.node.parts.timers ⊎ (what ≡ Released link))

abbrev pub Cause : Happening → Abstract → Deed → Type 0
Cause what a (LinkOpens link) = what ≡ CameUp link
Cause what a (SetReturns set) = Unit {0}
Cause what a (LinkFails link why) = MayFail why link what a
Cause what a Lacking = brings_lacking what a ≡ true
Cause what a TitlesChange = changes_titles what a ≡ true
Cause what a (WaitEnds link) = MayEndWait link what a
Cause what a (HoldsEnd procedure) = EndsByWord procedure what a ⊎ (EndsByTimer procedure what a ⊎ EndsByRecovery procedure what a)

allows-event : (what : Happening) (a : Abstract) → AllowsEvent a.settings (Cause what a) what a.node a.reroutings
allows-event what a = record {
  opens = λ link e. e;
  lost = λ link e. e;
  ordered = λ link e. e;
  released = λ link e. inr (inr e);
  frame = λ link text e. record {
    wrong = λ f. (text, e, f);
    length = λ f. (text, e, f);
    returns = tt;
    status = λ bsn fsn status f. record {
      fails = λ none g. (status, record { text = text; bsn = bsn; fsn = fsn; came = e; reads = f }, none, g);
      recovers = λ g.
          let is : status ≡ ProcessorRecovered = recovery-is status (recovers-says link status a.node.parts g) in
          inr (inr (record {
            link = link;
            says = record { text = text; bsn = bsn; fsn = fsn; came = e; reads = f ∙ ap (λ (x : LinkStatus). Ok (StatusFrame bsn fsn x)) is };
            out = recovery-out link status a.node.parts g;
            ends = refl;
          }));
    };
  };
  words = λ word e. record { ends = λ procedure f. inl (record { word = word; heard = e; ends = f }); fails = λ link f. (word, e, f); answers = λ link f. inl (record { word = word; heard = e; answers = f }) };
  lacking = λ e. e;
  titles = λ e. e;
}

allows-timer : (what : Happening) (a : Abstract) → what ≡ Ticked → (timer : TimerName) → is_due (ticked a.node.parts.timers) timer ≡ true
    → AllowsTimer (Cause what a) timer
allows-timer what a is timer due = record {
  ends = λ procedure e. inr (inl (record { timer = timer; runs_out = (is, due); ends = e }));
  fails = λ link its e f. (its, f, (is, subst (λ (x : TimerName). is_due (ticked a.node.parts.timers) x ≡ true) e due));
  tests = λ link e. (is, subst (λ (x : TimerName). is_due (ticked a.node.parts.timers) x ≡ true) e due);
  waits = λ link e. inr (inl (is, subst (λ (x : TimerName). is_due (ticked a.node.parts.timers) x ≡ true) e due));
}

module _ {c : Configuration} {May : Deed → Type 0} {R : Node WholeQueues → Node WholeQueues → Type 0} (s : IsOfDeeds c any any May R)
    (timers : (r : Running) (n : Node WholeQueues) → R n (with_timers n r)) where
  -- of a tick that began with these timers due: none becomes due in the midst of it
  pub times-deeds : (r : Running) (many : ℕ) (n : Node WholeQueues) → ((its : TimerName) → is_due n.parts.timers its ≡ true → is_due r its ≡ true)
      → ((its : TimerName) → is_due r its ≡ true → AllowsTimer May its) → R n (run_times whole c many n)
  times-deeds r zero n dues may = s.sends.none n
  times-deeds r (suc more) n dues may =
      s.sends.both _ _ _
      (s.sends.both _ _ _ (timers (after_due n.parts.timers) n)
      (run_due-deeds s (due_name n.parts.timers) (with_timers n (after_due n.parts.timers)) (λ link its e. tt)
      (λ its e. may its (dues its (ap no_tick_left (due-left its n.parts.timers e))))))
      (times-deeds r more (run_next whole c n) (λ its e. dues its (next-dues c n its e)) may)

  tick-deeds : (n : Node WholeQueues) → ((its : TimerName) → is_due (ticked n.parts.timers) its ≡ true → AllowsTimer May its) → May TitlesChange → R n (tick whole c n).left
  tick-deeds n may changes =
      let ran : Node WholeQueues = run_all whole c (with_timers n (ticked n.parts.timers)) in
      s.sends.both _ _ _
      (s.sends.both _ _ _ (timers (ticked n.parts.timers) n)
      (times-deeds (ticked n.parts.timers) (due_count (ticked n.parts.timers)) (with_timers n (ticked n.parts.timers)) (λ its e. e) may))
      (s.titled (subsystems_ticked c ran.parts).titles ran changes)

pub event-deeds : (what : Happening) (a : Abstract) (R : Node WholeQueues → Node WholeQueues → Type 0)
    → IsOfDeeds a.settings any any (Cause what a) R → ((r : Running) (m : Node WholeQueues) → R m (with_timers m r)) → R a.node (apply whole a.settings what a.node).left
event-deeds what a R s timers =
    apply-deeds s what a.node (λ link own. tt) (λ link own. tt) (allows-event what a) (λ is. tick-deeds s timers a.node (allows-timer what a is) (ap (λ (w : Happening). changes_titles w a) is))

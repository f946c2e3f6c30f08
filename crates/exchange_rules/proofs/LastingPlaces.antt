-- A node keeps an index for everything that its settings name.
use Rattle.exchange_rules.proofs.Basics.{◌≡◌, ℕ, Bool, List, length, refl, ap, ◌∙◌, false, slice_set, length-set, length-replicate, length-map}
use Rattle.exchange_rules.proofs.Definitions.{period_of, Message, FailureReason, Configuration, opening, Queue, first_queue, appended, emptied, down_link, after_failure, with_code, HoldSet, NodeCounts, Running, ticked, after_due, counts-after, Route, first_routes, ToldTable, shape_of, first_shape, Link, Standing, no_changeover, Node, Noted, with_parts, link_at, links_with, note, flagged, flagged_late, without_timers, with_changeover, fail_link, declaration, test_answer, carries, WholeQueues, queue_at, whole, with_titles, HasTimersFor, HasAllPlaces, places_at_first, places_stay, TitlesValue, link_test, with_order, changeover_of}
use Rattle.signalling_types.specs.declared.notice.Notice.TheVariants as notices
use Rattle.link.specs.Queue as queue
use Rattle.exchange_rules.proofs.Places.{with_code-fits, no_codes-fits, no_holds-fits}
use Rattle.exchange_rules.proofs.LinkTimers.{without_timers-for, timed-for, timed_sending-for, timed_confirming-for, timed_busy-for, timed_busy_ended-for}
use Rattle.exchange_rules.proofs.Steps.{AreHeld, IsOfSteps}
use Rattle.exchange_rules.proofs.Asked.{any, IsOfAll, all-of, asked-all}

-- from one node to another the places stay
pub record Keeps (c : Configuration) (n m : Node WholeQueues) : Type 0 where
  pub stay : HasAllPlaces c n → HasAllPlaces c m

module _ (c : Configuration) where
  both-keep : (n m o : Node WholeQueues) → Keeps c n m → Keeps c m o → Keeps c n o
  both-keep n m o e f = record { stay = λ h. f.stay (e.stay h) }

  -- as many names
  timers-fit : (r s : Running) → r.counts ≡ s.counts → HasTimersFor c s → HasTimersFor c r
  timers-fit r s e h = record {
    links = ap (λ (n : NodeCounts). n.links) e ∙ h.links;
    sets = ap (λ (n : NodeCounts). n.sets) e ∙ h.sets;
    destinations = ap (λ (n : NodeCounts). n.destinations) e ∙ h.destinations;
  }

  -- as many queues
  queues-keep : (qs : WholeQueues) (n : Node WholeQueues) → length qs.links ≡ length n.queues.links → Keeps c n (record n { queues = qs })
  queues-keep qs n e = record { stay = λ h. record { parts = h.parts; queues = e ∙ h.queues; timers = h.timers } }

  queue-keeps : (held : List Message) (link : ℕ) (q : Queue) (n : Node WholeQueues) → Keeps c n (record n { queues = record { held = held; links = slice_set n.queues.links link q } })
  queue-keeps held link q n = queues-keep (record { held = held; links = slice_set n.queues.links link q }) n (length-set n.queues.links link q)

  -- notices and flags are no places
  pub notices-keep : (notices : Noted) (lost late : ℕ) (n : Node WholeQueues)
      → Keeps c n (with_parts n (record n.parts { notices = notices; times_lost = lost; times_late = late }))
  notices-keep notices lost late n = record {
    stay = λ h. record {
      parts = record {
        few_links = h.parts.few_links;
        links = h.parts.links;
        changeovers = h.parts.changeovers;
        routes = h.parts.routes;
        told = h.parts.told;
        codes = h.parts.codes;
        holds = h.parts.holds;
        unequipped = h.parts.unequipped;
      };
      queues = h.queues;
      timers = h.timers;
    };
  }

  pub counts-keep : (messages broken : ℕ) (n : Node WholeQueues) → Keeps c n (with_parts n (record n.parts { messages_lost = messages; times_broken = broken }))
  counts-keep messages broken n = record {
    stay = λ h. record {
      parts = record {
        few_links = h.parts.few_links;
        links = h.parts.links;
        changeovers = h.parts.changeovers;
        routes = h.parts.routes;
        told = h.parts.told;
        codes = h.parts.codes;
        holds = h.parts.holds;
        unequipped = h.parts.unequipped;
      };
      queues = h.queues;
      timers = h.timers;
    };
  }

  -- nor are translation rows
  titles-keep : (titles : TitlesValue) (n : Node WholeQueues) → Keeps c n (with_parts n (with_titles titles n.parts))
  titles-keep titles n = record {
    stay = λ h. record {
      parts = record {
        few_links = h.parts.few_links;
        links = h.parts.links;
        changeovers = h.parts.changeovers;
        routes = h.parts.routes;
        told = h.parts.told;
        codes = h.parts.codes;
        holds = h.parts.holds;
        unequipped = h.parts.unequipped;
      };
      queues = h.queues;
      timers = h.timers;
    };
  }

  -- nor are counts, if there are as many
  unequipped-keeps : (counts : List ℕ) (n : Node WholeQueues) → length counts ≡ length n.parts.unequipped → Keeps c n (with_parts n (record n.parts { unequipped = counts }))
  unequipped-keeps counts n e = record {
    stay = λ h. record {
      parts = record {
        few_links = h.parts.few_links;
        links = h.parts.links;
        changeovers = h.parts.changeovers;
        routes = h.parts.routes;
        told = h.parts.told;
        codes = h.parts.codes;
        holds = h.parts.holds;
        unequipped = e ∙ h.parts.unequipped;
      };
      queues = h.queues;
      timers = h.timers;
    };
  }

  -- a link changes, and timers with it
  link-keeps : (link : ℕ) (x : Link) (r : Running) (n : Node WholeQueues) → r.counts ≡ n.parts.timers.counts
      → Keeps c n (with_parts n (record n.parts { links = links_with n.parts link x; timers = r }))
  link-keeps link x r n e = record {
    stay = λ h. record {
      parts = record {
        few_links = h.parts.few_links;
        links = length-set n.parts.links link x ∙ h.parts.links;
        changeovers = h.parts.changeovers;
        routes = h.parts.routes;
        told = h.parts.told;
        codes = h.parts.codes;
        holds = h.parts.holds;
        unequipped = h.parts.unequipped;
      };
      queues = h.queues;
      timers = timers-fit r n.parts.timers e h.timers;
    };
  }

  pub timers-keep : (r : Running) (n : Node WholeQueues) → r.counts ≡ n.parts.timers.counts → Keeps c n (with_parts n (record n.parts { timers = r }))
  timers-keep r n e = record {
    stay = λ h. record {
      parts = record {
        few_links = h.parts.few_links;
        links = h.parts.links;
        changeovers = h.parts.changeovers;
        routes = h.parts.routes;
        told = h.parts.told;
        codes = h.parts.codes;
        holds = h.parts.holds;
        unequipped = h.parts.unequipped;
      };
      queues = h.queues;
      timers = timers-fit r n.parts.timers e h.timers;
    };
  }

  changeover-keeps : (link : ℕ) (s : Standing) (n : Node WholeQueues) → Keeps c n (with_parts n (with_changeover link s n.parts))
  changeover-keeps link s n = record {
    stay = λ h. record {
      parts = record {
        few_links = h.parts.few_links;
        links = h.parts.links;
        changeovers = length-set n.parts.changeovers link s ∙ h.parts.changeovers;
        routes = h.parts.routes;
        told = h.parts.told;
        codes = h.parts.codes;
        holds = h.parts.holds;
        unequipped = h.parts.unequipped;
      };
      queues = h.queues;
      timers = h.timers;
    };
  }

  holds-keep : (t : HoldSet) (n : Node WholeQueues) → AreHeld c n.parts.holds t → Keeps c n (with_parts n (record n.parts { holds = t }))
  holds-keep t n e = record {
    stay = λ h. record {
      parts = record {
        few_links = h.parts.few_links;
        links = h.parts.links;
        changeovers = h.parts.changeovers;
        routes = h.parts.routes;
        told = h.parts.told;
        codes = h.parts.codes;
        holds = e.fits h.parts.holds;
        unequipped = h.parts.unequipped;
      };
      queues = h.queues;
      timers = h.timers;
    };
  }

  codes-keep : (set code : ℕ) (awaited : Bool) (n : Node WholeQueues) → Keeps c n (with_parts n (record n.parts { codes = with_code n.parts.codes set code awaited }))
  codes-keep set code awaited n = record {
    stay = λ h. record {
      parts = record {
        few_links = h.parts.few_links;
        links = h.parts.links;
        changeovers = h.parts.changeovers;
        routes = h.parts.routes;
        told = h.parts.told;
        codes = with_code-fits (length c.sets) n.parts.codes set code awaited h.parts.codes;
        holds = h.parts.holds;
        unequipped = h.parts.unequipped;
      };
      queues = h.queues;
      timers = h.timers;
    };
  }

  routes-keep : (routes : List (List Route)) (t : ToldTable) (n : Node WholeQueues) → length routes ≡ length n.parts.routes → shape_of t ≡ shape_of n.parts.told
      → Keeps c n (with_parts n (record n.parts { routes = routes; told = t }))
  routes-keep routes t n e f = record {
    stay = λ h. record {
      parts = record {
        few_links = h.parts.few_links;
        links = h.parts.links;
        changeovers = h.parts.changeovers;
        routes = e ∙ h.parts.routes;
        told = f ∙ h.parts.told;
        codes = h.parts.codes;
        holds = h.parts.holds;
        unequipped = h.parts.unequipped;
      };
      queues = h.queues;
      timers = h.timers;
    };
  }

  fallen-keeps : (link : ℕ) (why : FailureReason) (n : Node WholeQueues) → Keeps c n (with_parts n (fail_link link why n.parts))
  fallen-keeps link why n =
      both-keep _ _ _ (link-keeps link (after_failure (link_at n.parts link)) (without_timers link n.parts.timers) n (without_timers-for link n.parts.timers).counts)
      (notices-keep (note (notices.Failed link why) n.parts).notices n.parts.times_lost n.parts.times_late _)

pub places-steps : (c : Configuration) → IsOfSteps c any any (Keeps c)
places-steps c = record {
  none = λ n. record { stay = λ h. h };
  both = both-keep c;
  routed = λ link m n e. queue-keeps c n.queues.held link (appended (queue_at n.queues link) m) n;
  declared = λ link other code n e f. queue-keeps c n.queues.held other (appended (queue_at n.queues other) (declaration c link code)) n;
  tested = λ link point test n e f. queue-keeps c n.queues.held link (appended (queue_at n.queues link) (test_answer c point test)) n;
  probed = λ link n e. queue-keeps c n.queues.held link (appended (queue_at n.queues link) (link_test c link)) n;
  held = λ m n e. queues-keep c (whole.holding n.queues m) n refl;
  taken_out = λ n. queues-keep c (whole.without_held n.queues) n refl;
  noted = λ notice n e. notices-keep c (note notice n.parts).notices n.parts.times_lost n.parts.times_late n;
  lost = λ n. notices-keep c n.parts.notices (flagged n.parts).times_lost n.parts.times_late n;
  counted = counts-keep c;
  asked = λ link n e. changeover-keeps c link (with_order (changeover_of n.parts link)) n;
  late = λ n. notices-keep c n.parts.notices n.parts.times_lost (flagged_late n.parts).times_late n;
  timed = λ r n e. timers-keep c r n e.counts;
  holding = λ h n e. holds-keep c h n e;
  coded = codes-keep c;
  rerouted = λ routes n e. routes-keep c routes n.parts.told n e.size refl;
  told = λ t n e. routes-keep c n.parts.routes t n refl e.shape;
  titled = titles-keep c;
  unequipped = unequipped-keeps c;
  failed = λ link why st n e f. both-keep c _ _ _ (fallen-keeps c link why n) (changeover-keeps c link st (with_parts n (fail_link link why n.parts)));
  dropped = λ link why n e. fallen-keeps c link why n;
  completed = λ link number st n e f.
      both-keep c _ _ _ (queue-keeps c (whole.completed n.queues link number).held link (emptied (queue_at n.queues link)) n) (changeover-keeps c link st _);
  answered = λ link st n e f w. changeover-keeps c link st n;
  linked = λ link x n e o. link-keeps c link x n.parts.timers n refl;
  parted = λ link n e. link-keeps c link (record (link_at n.parts link) { association = false }) n.parts.timers n refl;
  opened = λ link n own e f g.
      both-keep c _ _ _ (queue-keeps c n.queues.held link first_queue n) (link-keeps c link _ _ _ (timed-for link c (opening (period_of c link n.parts)) n.parts.timers).counts);
  stepped = λ link input step n own e. link-keeps c link _ _ n (timed-for link c step n.parts.timers).counts;
  passed = λ link n e. link-keeps c link _ n.parts.timers n refl;
  busied = λ link n own e f. link-keeps c link _ _ n (timed_busy-for link c n.parts.timers).counts;
  resumed = λ link n own e f. link-keeps c link _ _ n (timed_busy_ended-for link c (whole.outstanding n.queues link) n.parts.timers).counts;
  accepted = λ link d confirmed n own e f.
      let qs : WholeQueues = whole.accepted n.queues link d.fsn d.bsn (carries d) in
      both-keep c _ _ _ (queues-keep c qs n (length-set n.queues.links link (queue.accepted (queue_at n.queues link) d.fsn d.bsn (carries d))))
      (timers-keep c _ _ (timed_confirming-for link c (link_at n.parts link).peer_busy confirmed (whole.outstanding qs link) n.parts.timers).counts);
  sent = λ link next n own e.
      both-keep c _ _ _ (queue-keeps c n.queues.held link (queue.sent_one (queue_at n.queues link) c.window) n)
      (link-keeps c link _ _ _ (timed_sending-for link c n.parts.timers).counts);
}

places-all : (c : Configuration) → IsOfAll c (Keeps c)
places-all c =
    all-of (places-steps c) (λ n. timers-keep c (ticked n.parts.timers) n refl) (λ n. timers-keep c (after_due n.parts.timers) n (counts-after n.parts.timers))

pub places-stay : places_stay
places-stay asked a = (asked-all (places-all a.settings) asked a refl).stay

pub places-first : places_at_first
places-first c few = record {
  parts = record {
    few_links = few;
    links = length-replicate (length c.links) down_link;
    changeovers = length-replicate (length c.links) no_changeover;
    routes = length-map c.destinations first_routes;
    told = first_shape c.sets c.destinations;
    codes = no_codes-fits (length c.sets);
    holds = no_holds-fits c;
    unequipped = length-replicate (length c.destinations) 0;
  };
  queues = length-replicate (length c.links) first_queue;
  timers = record { links = refl; sets = refl; destinations = refl };
}

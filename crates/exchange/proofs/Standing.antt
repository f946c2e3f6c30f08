-- An exchange that stands for an abstract state still does after each event and each frame that goes out.
use Rattle.exchange.proofs.Basics.{◌≡◌, ℕ, suc, List, [], refl, ap, ◌∙◌, length, ◌≤◌, replicate, Configuration, TitlesValue, Message, WINDOW, Notice, IsQueue, first_queue, unconfirmed, Counts, counts_of, kept_first, sound-first, Running, none_running, Network, first_network_of, Node, Done, keep, whole, KeptQueues, kept, Happening, apply, outcome_of, after, frame_to_take, taken, wants_of, Abstract, AreQueues, IsSound, Kept, StandsFor, kept_of, kept_queues_of, counts_in, first_state, Keeps, apply-kept, frame_taken-kept, after_take-kept, Standing, no_changeover, Codes, no_codes, ToldTable, first_told, HoldSet, no_holds, first_titles, take-waits, done-waits, done-told, take-told, first-told, facts, with_node, each-replicate, map-replicate}
use Rattle.std.specs.Prelude.{Option}
use Rattle.exchange_rules.specs.Exchange.{leaving}
use Rattle.exchange_rules.specs.Reroutings.{first_reroutings}
use Rattle.exchange_rules.proofs.Reroutings.{counted-again, take-rerouting, first-rerouting}
use Rattle.exchange.proofs.KeptQueues.{keeps_whole}

applied : (what : Happening) (a : Abstract) → IsSound a →
    Keeps kept_queues_of (AreQueues a.settings.window) (apply kept a.settings what (keep kept_queues_of a.node)) (apply whole a.settings what a.node)
applied what a s = apply-kept whole kept kept_queues_of (AreQueues a.settings.window) a.settings (keeps_whole a.settings.window) what a.node s.queues

-- ---- each event, and each frame

pub stands-outcome : (what : Happening) (k : Kept) (a : Abstract) → StandsFor k a → outcome_of kept what k ≡ outcome_of whole what a
stands-outcome what k a s =
    ap (λ (x : Kept). outcome_of kept what x) s.kept ∙ ap (λ (d : Done KeptQueues). d.outcome) (applied what a s.sound).same

pub stands-after : (what : Happening) (k : Kept) (a : Abstract) → StandsFor k a → StandsFor (after kept what k) (after whole what a)
stands-after what k a s = record {
  sound = record {
    queues = (applied what a s.sound).fit;
    waiting = done-waits what a;
    telling = done-told what a;
    rerouting = counted-again a.settings (facts a.settings (apply whole a.settings what a.node).left.parts) a.reroutings;
  };
  kept = ap (λ (x : Kept). after kept what x) s.kept ∙ ap (λ (d : Done KeptQueues). leaving (kept_of a) d.left) (applied what a s.sound).same;
}

pub stands-frame : (l : ℕ) (k : Kept) (a : Abstract) → StandsFor k a → frame_to_take kept k l ≡ frame_to_take whole a l
stands-frame l k a s =
    ap (λ (x : Kept). frame_to_take kept x l) s.kept
    ∙ frame_taken-kept whole kept kept_queues_of (AreQueues a.settings.window) a.settings (keeps_whole a.settings.window) l a.node s.sound.queues

pub stands-taken : (l : ℕ) (k : Kept) (a : Abstract) → StandsFor k a → StandsFor (taken kept k l) (taken whole a l)
stands-taken l k a s =
    let t = after_take-kept whole kept kept_queues_of (AreQueues a.settings.window) a.settings (keeps_whole a.settings.window) l a.node s.sound.queues in
    record {
      sound = record {
        queues = t.fit;
        waiting = take-waits a.settings l a.node s.sound.waiting;
        telling = take-told a.settings l a.node s.sound.telling;
        rerouting = take-rerouting a.settings l a.node a.reroutings s.sound.rerouting;
      };
      kept = ap (λ (x : Kept). taken kept x l) s.kept ∙ ap (λ (n : Node KeptQueues). with_node (kept_of a) n) t.same;
    }

-- what a link wants is said by the parts, which are kept as they are
pub stands-wants : (l : ℕ) (k : Kept) (a : Abstract) → StandsFor k a → wants_of k l ≡ wants_of a l
stands-wants l k a s = ap (λ (x : Kept). wants_of x l) s.kept

-- what boot gives stands for the first state
pub stands-first : (c : Configuration) (k : Kept) → c.window ≤ WINDOW → k ≡ kept_of (first_state c) → StandsFor k (first_state c)
stands-first c k h e = record {
  sound = record {
    queues = record { each = λ l. each-replicate (IsQueue c.window) (length c.links) l first_queue (sound-first c.window h) };
    waiting = refl;
    telling = first-told c;
    rerouting = first-rerouting c;
  };
  kept = e;
}

-- the parts that boot makes
pub first-kept : (c : Configuration) (n : ℕ) (lanes : List (List Message)) (counts : List Counts) (network : Network) (told : ToldTable) (changeovers : List Standing) (codes : Codes) (holds : HoldSet)
    (titles : TitlesValue) (unequipped : List ℕ) (timers : Running) (notices : List Notice) (flow_sets : List (List (Option ℕ)))
    → n ≡ length c.links → lanes ≡ replicate (suc n) [] → counts ≡ replicate n kept_first → network ≡ first_network_of c → told ≡ first_told c.sets c.destinations → changeovers ≡ replicate n no_changeover
    → codes ≡ no_codes (length c.sets) → holds ≡ no_holds n (length c.sets) (length c.destinations) → titles ≡ first_titles c.titles → unequipped ≡ replicate (length c.destinations) 0 → timers ≡ none_running (counts_in c) → notices ≡ [] → flow_sets ≡ (first_reroutings c).last_sets
    → record {
      settings = c;
      node = record {
        queues = record { lanes = lanes; counts = counts };
        parts = record {
          links = network.links;
          routes = network.routes;
          told = told;
          changeovers = changeovers;
          codes = codes;
          holds = holds;
          titles = titles;
          unequipped = unequipped;
          timers = timers;
          notices = record { last = notices; count = 0 };
          times_lost = 0;
          messages_lost = 0;
          times_broken = 0;
          times_late = 0;
        };
      };
      reroutings = record { last_sets = flow_sets; times = 0 };
    } ≡ kept_of (first_state c)
first-kept c n lanes counts network told changeovers codes holds titles unequipped timers notices flow_sets e l k d w x b y r u t o f =
    rw (l, k, d, w, x, b, y, r, u, t, o, f, e, map-replicate unconfirmed (length c.links) first_queue, map-replicate counts_of (length c.links) first_queue)

-- Tests of subsystems, submitted one after the other: an exchange that stands for an abstract state still does.
use Rattle.exchange.proofs.Basics.{◌≡◌, ◌+◌, ◌<◌, ℕ, List, [], ◌∷◌, length, map, drop, get_or, sym, ap, subst, ◌∙◌, Configuration, Message, kept, whole, after, Abstract, Kept, StandsFor}
use Rattle.std.proofs.lemmas.List.{drop_more}
use Rattle.node_links.specs.NodeLinks.{Network}
use Rattle.sccp_relay.specs.Points.{OwnValue}
use Rattle.sccp_relay.specs.Statuses.{TitlesValue}
use Rattle.sccp_relay.specs.SubsystemTests.{ticked}
use Rattle.sccp_relay.specs.declared.subsystem.Subsystem.{Subsystem}
use Rattle.exchange_rules.specs.Exchange.{after_submitting, after_tests, count_subsystems}
use Rattle.exchange_rules.specs.Messages.{own_of, sst_ticks, test_of, tests_due}
use Rattle.exchange_rules.specs.Routing.{sets_in}
use Rattle.exchange_rules.specs.State.{Submitted, with_node}
use Rattle.exchange.specs.Relaying.{own_in}
use Rattle.exchange.proofs.Relaying.{titled}
use Rattle.exchange.proofs.Standing.{stands-after}

stands-submitting : (ms : List Message) (k : Kept) (a : Abstract) → StandsFor k a → StandsFor (after_submitting kept ms k) (after_submitting whole ms a)
stands-submitting [] k a s = s
stands-submitting (m ∷ ms) k a s = stands-submitting ms (after kept (Submitted m) k) (after whole (Submitted m) a) (stands-after (Submitted m) k a s)

pub stands-tests : (k : Kept) (a : Abstract) → StandsFor k a → StandsFor (after_tests kept k) (after_tests whole a)
stands-tests k a s =
    subst (λ (ms : List Message). StandsFor (after_submitting kept ms k) (after_tests whole a)) (sym (ap (λ (x : Kept). tests_due x.settings x.node.parts) s.kept))
    (stands-submitting (tests_due a.settings a.node.parts) k a s)

-- ---- a tick

-- where the links of a node lead, by their sets in the settings
pub own-here : (c : Configuration) (n : Network) → n.sets ≡ sets_in c → own_in c n ≡ own_in c (record { links = n.links; sets = sets_in c; routes = n.routes })
own-here c n e = ap (λ (sets : List (List ℕ)). own_in c (record { links = n.links; sets = sets; routes = n.routes })) e

pub ticked-left : (s : Kept) (own : OwnValue) (sst : ℕ) (new : TitlesValue) → own ≡ own_of s.settings s.node.parts → sst ≡ sst_ticks s.settings → new ≡ ticked own sst s.node.parts.titles
    → titled s new ≡ with_node s (count_subsystems s.settings s.node)
ticked-left s own sst new e f h =
    ap (λ (t : TitlesValue). titled s t)
    (h ∙ ap (λ (o : OwnValue). ticked o sst s.node.parts.titles) e ∙ ap (λ (t : ℕ). ticked (own_of s.settings s.node.parts) t s.node.parts.titles) f)

-- ---- one after the other

-- what is left to submit from here leads where all does from the first
pub record LeadsOn (c : Configuration) (due : List Subsystem) (at : ℕ) (first now : Kept) : Type 0 where
  pub settings : now.settings ≡ c
  pub rest : after_submitting kept (map (test_of c) (drop at due)) now ≡ after_submitting kept (map (test_of c) due) first

pub one-tested : (c : Configuration) (due : List Subsystem) (at : ℕ) (subsystem : Subsystem) (first now next : Kept) → at < length due → subsystem ≡ get_or due at subsystem
    → LeadsOn c due at first now → next ≡ after kept (Submitted (test_of now.settings subsystem)) now → LeadsOn c due (at + 1) first next
one-tested c due at subsystem first now next within is l e =
    let its : next ≡ after kept (Submitted (test_of c subsystem)) now = e ∙ ap (λ (x : Configuration). after kept (Submitted (test_of x subsystem)) now) l.settings in
    let more : drop at due ≡ subsystem ∷ drop (at + 1) due = drop_more due at subsystem within ∙ ap (λ (x : Subsystem). x ∷ drop (at + 1) due) (sym is) in
    record {
      settings = ap (λ (k : Kept). k.settings) its ∙ l.settings;
      rest =
          ap (λ (k : Kept). after_submitting kept (map (test_of c) (drop (at + 1) due)) k) its
          ∙ sym (ap (λ (xs : List Subsystem). after_submitting kept (map (test_of c) xs) now) more) ∙ l.rest;
    }

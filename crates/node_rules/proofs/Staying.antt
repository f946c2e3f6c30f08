-- A link that may open stays so, whatever happens, until its association comes up.
use Rattle.link.specs.declared.period.Period.{Period}
use Rattle.exchange_rules.proofs.Basics.{◌≡◌, ◌≢◌, ℕ, zero, suc, Bool, true, false, ◌&&◌, and_parts, not, List, [], ◌∷◌, refl, ap, sym, ◌∙◌, subst, get_or, set}
use Rattle.settings.specs.Configuration.{Configuration}
use Rattle.link.specs.Table.{action_at}
use Rattle.link.specs.declared.action.Transition.{Transition}
use Rattle.link.specs.declared.action.Input.{Input}
use Rattle.link.specs.declared.action.Action.TheVariants.{Go, Ignored}
use Rattle.link.specs.declared.alignment.Alignment.{Alignment}
use Rattle.link.specs.declared.alignment.Alignment.TheVariants.{Down, NotAligned, Aligned, Proving, AlignedReady, InService}
use Rattle.node_links.specs.NodeLinks.{Link, down_link, is_down, is_in_service}
use Rattle.changeover.specs.Changeover.{Standing, no_changeover, may_restart}
use Rattle.timers.specs.Timers.{ticked, after_due}
use Rattle.exchange_rules.specs.State.{Happening, CameUp, WentDown, FrameCame, Ticked, Submitted, Activated, Deactivated, Released, TitleAdded, TitleSet, TitleRemoved, Parts, Node, link_at, down}
use Rattle.exchange_rules.specs.ChangingOver.{changeover_of}
use Rattle.exchange_rules.specs.Exchange.{apply, with_timers, tick}
use Rattle.exchange_rules.specs.Sending.{after_take}
use Rattle.exchange_rules.specs.Queues.{WholeQueues, whole}
use Rattle.exchange_rules.proofs.Steps.{IsOfSteps, IsOfRules}
use Rattle.exchange_rules.proofs.Rules.{rules-of}
use Rattle.exchange_rules.proofs.Asked.{any}
use Rattle.exchange_rules.proofs.SteppingEvents.{IsOf, apply-steps, tick-steps, run_next-steps, take-steps}
use Rattle.node_rules.specs.Worlds.{IsOwn}
use Rattle.exchange_rules.proofs.Definitions.{with_order}

-- it is down, its changeover is complete, and no answer is awaited
pub record MayOpen (l : ℕ) (p : Parts) : Type 0 where
  pub down : down p l ≡ true
  pub restarts : may_restart (changeover_of p l) ≡ true

pub record StaysOpen (l : ℕ) (n m : Node WholeQueues) : Type 0 where
  pub stay : MayOpen l n.parts → MayOpen l m.parts

-- ---- lists of which one element is replaced

set-at : {A : Type 0} (P : A → Type 0) (xs : List A) (k l : ℕ) (x d : A) → (k ≡ l → P x) → P (get_or xs l d) → P (get_or (set xs k x) l d)
set-at P [] k l x d f h = h
set-at P (y ∷ ys) zero zero x d f h = f refl
set-at P (y ∷ ys) zero (suc l) x d f h = h
set-at P (y ∷ ys) (suc k) zero x d f h = h
set-at P (y ∷ ys) (suc k) (suc l) x d f h = set-at P ys k l x d (λ e. f (ap suc e)) h

abbrev IsDown : Link → Type 0
IsDown x = is_down x.alignment ≡ true

abbrev Restarts : Standing → Type 0
Restarts s = may_restart s ≡ true

-- ---- states of a link

not-both : (a : Alignment) → is_in_service a ≡ true → is_down a ≡ true → ⊥
not-both Down e f = absurd cc
not-both NotAligned e f = absurd cc
not-both Aligned e f = absurd cc
not-both (Proving ready) e f = absurd cc
not-both AlignedReady e f = absurd cc
not-both InService e f = absurd cc

down-is : (a : Alignment) → is_down a ≡ true → a ≡ Down
down-is Down e = refl
down-is NotAligned e = absurd cc
down-is Aligned e = absurd cc
down-is (Proving ready) e = absurd cc
down-is AlignedReady e = absurd cc
down-is InService e = absurd cc

complete : (s : Standing) → may_restart s ≡ true → s.incomplete ≡ true → ⊥
complete s e f = by s.incomplete s.awaited e f where
  by : (incomplete awaited : Bool) → (not incomplete && not awaited) ≡ true → incomplete ≡ true → ⊥
  by true awaited e f = absurd cc
  by false awaited e f = absurd cc

unawaited : (s : Standing) → may_restart s ≡ true → s.awaited ≡ true → ⊥
unawaited s e f = by s.incomplete s.awaited e f where
  by : (incomplete awaited : Bool) → (not incomplete && not awaited) ≡ true → awaited ≡ true → ⊥
  by true awaited e f = absurd cc
  by false true e f = absurd cc
  by false false e f = absurd cc

restarts-so : (s : Standing) → s.incomplete ≡ false → (s.awaited ≡ true → ⊥) → may_restart s ≡ true
restarts-so s e f = by s.incomplete s.awaited e f where
  by : (incomplete awaited : Bool) → incomplete ≡ false → (awaited ≡ true → ⊥) → (not incomplete && not awaited) ≡ true
  by true awaited e f = absurd cc
  by false true e f = absurd (f refl)
  by false false e f = refl

-- a link that is down goes nowhere by what comes, nor by a timer
nowhere : (period : Period) (input : Input) (step : Transition) → action_at period Down input ≡ Go step → ⊥
nowhere period input step e = let no : Ignored ≡ Go step = e in absurd cc

-- ---- each step

module _ (c : Configuration) (l : ℕ) where
  alike : (n m : Node WholeQueues) → m.parts.links ≡ n.parts.links → m.parts.changeovers ≡ n.parts.changeovers → StaysOpen l n m
  alike n m e f = record {
    stay = λ h. record {
      down = subst (λ (xs : List Link). IsDown (get_or xs l down_link)) (sym e) h.down;
      restarts = subst (λ (xs : List Standing). Restarts (get_or xs l no_changeover)) (sym f) h.restarts;
    };
  }

  -- a link changes
  linked : (k : ℕ) (x : Link) (n m : Node WholeQueues) → m.parts.links ≡ set n.parts.links k x → m.parts.changeovers ≡ n.parts.changeovers
      → (k ≡ l → MayOpen l n.parts → IsDown x) → StaysOpen l n m
  linked k x n m e f g = record {
    stay = λ h. record {
      down = subst (λ (xs : List Link). IsDown (get_or xs l down_link)) (sym e) (set-at IsDown n.parts.links k l x down_link (λ q. g q h) h.down);
      restarts = subst (λ (xs : List Standing). Restarts (get_or xs l no_changeover)) (sym f) h.restarts;
    };
  }

  -- a changeover does
  changed : (k : ℕ) (s : Standing) (n m : Node WholeQueues) → m.parts.links ≡ n.parts.links → m.parts.changeovers ≡ set n.parts.changeovers k s
      → (k ≡ l → MayOpen l n.parts → Restarts s) → StaysOpen l n m
  changed k s n m e f g = record {
    stay = λ h. record {
      down = subst (λ (xs : List Link). IsDown (get_or xs l down_link)) (sym e) h.down;
      restarts = subst (λ (xs : List Standing). Restarts (get_or xs l no_changeover)) (sym f)
          (set-at Restarts n.parts.changeovers k l s no_changeover (λ q. g q h) h.restarts);
    };
  }

  at : (P : ℕ → Type 0) (k : ℕ) → k ≡ l → P l → P k
  at P k q h = subst P (sym q) h

  same-down : (k : ℕ) (x : Link) (n : Node WholeQueues) → x.alignment ≡ (link_at n.parts k).alignment → k ≡ l → MayOpen l n.parts → IsDown x
  same-down k x n e q h = ap is_down e ∙ at (λ (j : ℕ). down n.parts j ≡ true) k q h.down

  serving : (k : ℕ) (n : Node WholeQueues) → is_in_service (link_at n.parts k).alignment ≡ true → k ≡ l → MayOpen l n.parts → ⊥
  serving k n e q h = not-both (link_at n.parts k).alignment e (at (λ (j : ℕ). down n.parts j ≡ true) k q h.down)

  goes-nowhere : (k : ℕ) (input : Input) (period : Period) (a : Alignment) → is_down a ≡ true → (step : Transition) → action_at period a input ≡ Go step → ⊥
  goes-nowhere k input period a d step e = nowhere period input step (subst (λ (b : Alignment). action_at period b input ≡ Go step) (down-is a d) e)

  pub open-steps : IsOfSteps c any (λ k. k ≢ l) (StaysOpen l)
  open-steps = record {
    none = λ n. alike n n refl refl;
    both = λ n m o e f. record { stay = λ h. f.stay (e.stay h) };
    routed = λ link m n e. alike n _ refl refl;
    declared = λ link other code n e f. alike n _ refl refl;
    tested = λ link point test n e f. alike n _ refl refl;
    probed = λ link n e. alike n _ refl refl;
    held = λ m n e. alike n _ refl refl;
    taken_out = λ n. alike n _ refl refl;
    noted = λ notice n e. alike n _ refl refl;
    lost = λ n. alike n _ refl refl;
    counted = λ messages broken n. alike n _ refl refl;
    late = λ n. alike n _ refl refl;
    timed = λ r n e. alike n _ refl refl;
    holding = λ h n e. alike n _ refl refl;
    coded = λ set code awaited n. alike n _ refl refl;
    rerouted = λ routes n e. alike n _ refl refl;
    told = λ t n e. alike n _ refl refl;
    titled = λ rows n. alike n _ refl refl;
    unequipped = λ counts n e. alike n _ refl refl;
    failed = λ link why s n e f. record {
      stay = λ h. record {
        down = set-at IsDown n.parts.links link l _ down_link (λ q. absurd (serving link n e q h)) h.down;
        restarts = set-at Restarts n.parts.changeovers link l s no_changeover (λ q. absurd (serving link n e q h)) h.restarts;
      };
    };
    dropped = λ link why n e. linked link _ n _ refl refl (λ q h. refl);
    completed = λ link number s n e f. changed link s n _ refl refl
        (λ q h. absurd (complete (changeover_of n.parts link) (at (λ (j : ℕ). Restarts (changeover_of n.parts j)) link q h.restarts) e));
    answered = λ link s n e f w. changed link s n _ refl refl
        (λ q h. restarts-so s f (λ a. unawaited (changeover_of n.parts link) (at (λ (j : ℕ). Restarts (changeover_of n.parts j)) link q h.restarts) (w a)));
    asked = λ link n e. changed link (with_order (changeover_of n.parts link)) n _ refl refl
        (λ q h. absurd (complete (changeover_of n.parts link) (at (λ (j : ℕ). Restarts (changeover_of n.parts j)) link q h.restarts)
        (and_parts (changeover_of n.parts link).incomplete (not (changeover_of n.parts link).awaited) e).0));
    linked = λ link x n e o. linked link x n _ refl refl (same-down link x n e.alignment);
    parted = λ link n e. let x : Link = record (link_at n.parts link) { association = false } in
        linked link x n _ refl refl (same-down link x n refl);
    opened = λ link n own there e f. linked link _ n _ refl refl (λ q h. absurd (own q));
    stepped = λ link input step n own e. linked link _ n _ refl refl
        (λ q h. absurd (goes-nowhere link input (link_at n.parts link).period (link_at n.parts link).alignment (at (λ (j : ℕ). down n.parts j ≡ true) link q h.down) step e));
    passed = λ link n e. let x : Link = record (link_at n.parts link) { test_failed = false; untested = false } in
        linked link x n _ refl refl (same-down link x n refl);
    busied = λ link n own e f. let x : Link = record (link_at n.parts link) { peer_busy = true } in
        linked link x n _ refl refl (same-down link x n refl);
    resumed = λ link n own e f. let x : Link = record (link_at n.parts link) { peer_busy = false } in
        linked link x n _ refl refl (same-down link x n refl);
    accepted = λ link d confirmed n own e f. alike n _ refl refl;
    sent = λ link next n own e. let x : Link = record (link_at n.parts link) { acknowledgement_owed = false } in
        linked link x n _ refl refl (same-down link x n refl);
  }

  abbrev rules : IsOfRules c any (λ k. k ≢ l) (StaysOpen l)
  rules = rules-of open-steps

  ticks : (n : Node WholeQueues) → StaysOpen l n (tick whole c n).left
  ticks n =
      tick-steps rules n (alike n (with_timers n (ticked n.parts.timers)) refl refl)
      (λ m. run_next-steps rules m (alike m (with_timers m (after_due m.parts.timers)) refl refl) (λ link. tt))

  pub events-stay : (what : Happening) (n : Node WholeQueues) → ((link : ℕ) → IsOf what link → link ≢ l) → StaysOpen l n (apply whole c what n).left
  events-stay what n others = apply-steps rules what n (λ link of. tt) others (λ e. ticks n)

  pub takes-stay : (link : ℕ) (n : Node WholeQueues) → StaysOpen l n (after_take whole c link n)
  takes-stay link n = take-steps rules link n tt

-- what isn't of links is of no link
pub own-of : (what : Happening) (l : ℕ) → IsOwn what → (link : ℕ) → IsOf what link → link ≢ l
own-of Ticked l own link of e = of
own-of (Submitted message) l own link of e = of
own-of (Activated its emergency) l own link of e = of
own-of (Deactivated its) l own link of e = of
own-of (Released its) l own link of e = of
own-of (TitleAdded row is_memory_refused) l own link of e = of
own-of (TitleSet row is_memory_refused) l own link of e = of
own-of (TitleRemoved key digits) l own link of e = of
own-of (CameUp its) l own link of e = own
own-of (WentDown its) l own link of e = own
own-of (FrameCame its text) l own link of e = own

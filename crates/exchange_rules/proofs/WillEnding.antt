-- What ends holds and completes changeovers, as single parts change.
use Rattle.exchange_rules.proofs.Basics.{◌≡◌, ◌≢◌, ◌⊎◌, inl, inr, ◌<◌, ◌≤◌, ℕ, Bool, true, false, List, [], ◌∷◌, length, refl, ap, sym, ◌∙◌, subst, arith, ⊎_elim, cases_lt, cases_eq, get_or_past, get_or-set_same, get_or-set_other, length-set, is_some, and_parts, not, if◌then◌else◌}
use Rattle.exchange_rules.proofs.Definitions.{Message, Configuration, Procedure, Changeover, Code, Time, Reroute, HoldSet, holds, lifted, Standing, no_changeover, failed, TimerName, Running, is_running, has_name, set_timer, key_of, left-set, left-set_other, left-clear_other, Parts, Found, changeover_of, with_changeover, timed_changeover, lose_each, lifted_parts, concluded, judged, without_tests, link_at, in_outage, broken_if, asking, with_order, clear_timer}
use Rattle.exchange_rules.specs.ChangingOver.{with_losses}
use Rattle.flow_hold.specs.Holds.{is_same}
use Rattle.flow_hold.proofs.Pairing.{contains-lifted, ends_its_own}
use Rattle.timers.specs.declared.name.TimerName.TheVariants as name
use Rattle.timers.specs.declared.name.RouteTimer.TheVariants as of_set
use Rattle.std.specs.FinSet.{contains}
use Rattle.exchange_rules.specs.LastingHolds.{WillEnd, WillComplete, WillPass, AllWillEnd}
use Rattle.exchange_rules.proofs.Steps.{ends_holds}
use Rattle.exchange_rules.proofs.SteppingTimers.{clear_set-endings}
pub use Rattle.exchange_rules.proofs.OutLinks.{no-way, LinkAs, link-same, link-both, links-same, link-set, still-out, idle-set, failed-passes, none-passes, fails-passes}

-- ---- timers

-- the timers that end holds have as many ticks left as before, but for those that this leaves out
abbrev pub SameBut : (TimerName → Type 0) → (r s : Running) → Type 0
SameBut Out r s = (timer : TimerName) → ends_holds timer ≡ true → (Out timer → ⊥) → s.left timer ≡ r.left timer

-- T1 and T2 of a link
abbrev pub Its : (link : ℕ) → TimerName → Type 0
Its link timer = (timer ≡ name.T1 link) ⊎ (timer ≡ name.T2 link)

pub runs-as : (timer : TimerName) (r s : Running) → s.left timer ≡ r.left timer → is_running timer r ≡ true → is_running timer s ≡ true
runs-as timer r s e f = ap is_some e ∙ f

-- a timer that is set runs, where there is one of its name
pub set-runs : (timer : TimerName) (ticks : ℕ) (r : Running) → has_name r.counts timer ≡ true → is_running timer (set_timer timer ticks r) ≡ true
set-runs timer ticks r there = ap is_some (left-set timer ticks r there)

pub its-own : (link other : ℕ) → other ≢ link → Its link (name.T1 other) → ⊥
its-own link other apart out = ⊎_elim (λ (e : name.T1 other ≡ name.T1 link). apart (ap (λ (x : TimerName). (key_of x).row) e)) (λ (e : name.T1 other ≡ name.T2 link). cc) out

pub its-wait : (link other : ℕ) → other ≢ link → Its link (name.T2 other) → ⊥
its-wait link other apart out = ⊎_elim (λ (e : name.T2 other ≡ name.T1 link). cc) (λ (e : name.T2 other ≡ name.T2 link). apart (ap (λ (x : TimerName). (key_of x).row) e)) out

-- ---- parts that are alike in this

pub record Alike (p q : Parts) : Type 0 where
  pub links : (link : ℕ) → LinkAs (link_at p link) (link_at q link)
  pub holds : q.holds ≡ p.holds
  pub changeovers : q.changeovers ≡ p.changeovers
  pub timers : (timer : TimerName) → ends_holds timer ≡ true → q.timers.left timer ≡ p.timers.left timer

pub alike-both : (p q r : Parts) → Alike p q → Alike q r → Alike p r
alike-both p q r e f = record {
  links = λ link. link-both (link_at p link) (link_at q link) (link_at r link) (e.links link) (f.links link);
  holds = f.holds ∙ e.holds;
  changeovers = f.changeovers ∙ e.changeovers;
  timers = λ timer h. f.timers timer h ∙ e.timers timer h;
}

pub alike-same : (p : Parts) → Alike p p
alike-same p = record { links = λ link. link-same (link_at p link); holds = refl; changeovers = refl; timers = λ timer h. refl }

pub losses-alike : (ms : List Message) (p : Parts) → Alike p (lose_each ms p)
losses-alike [] p = alike-same p
losses-alike (m ∷ ms) p = (let rest = losses-alike ms _ in record { links = rest.links; holds = rest.holds; changeovers = rest.changeovers; timers = rest.timers })

pub judged-alike : (reasonable : Bool) (p : Parts) → Alike p (judged reasonable p)
judged-alike true p = alike-same p
judged-alike false p = record { links = λ link. link-same (link_at p link); holds = refl; changeovers = refl; timers = λ timer h. refl }

pub broken-alike : (breaks : Bool) (p : Parts) → Alike p (broken_if breaks p)
broken-alike breaks p = record { links = λ link. link-same (link_at p link); holds = refl; changeovers = refl; timers = λ timer h. refl }

pub untested-alike : (others : Bool) (set : ℕ) (p : Parts) → Alike p (if others then p else without_tests set p)
untested-alike true set p = alike-same p
untested-alike false set p = record { links = λ link. link-same (link_at p link); holds = refl; changeovers = refl; timers = clear_set-endings of_set.T10 set p.timers }

-- ---- all but the changeover of one link

pub record But (link : ℕ) (p : Parts) : Type 0 where
  pub holds : (procedure : Procedure) (destination sls : ℕ) → procedure ≢ Changeover link → holds p.holds procedure destination sls ≡ true → WillEnd procedure p
  pub changeovers : (other : ℕ) → other ≢ link → WillComplete (changeover_of p other) (is_running (name.T1 other) p.timers) (is_running (name.T2 other) p.timers)
  pub outages : (other : ℕ) → other ≢ link → WillPass (link_at p other)

pub but-of : (link : ℕ) (p : Parts) → AllWillEnd p → But link p
but-of link p h = record { holds = λ procedure destination sls apart e. h.holds procedure destination sls e; changeovers = λ other apart. h.changeovers other; outages = λ other apart. h.outages other }

pub still-completes : (s t : Standing) (one two one' two' : Bool) → t ≡ s → (one ≡ true → one' ≡ true) → (two ≡ true → two' ≡ true) → WillComplete s one two → WillComplete t one' two'
still-completes s t one two one' two' same first second h = record {
  incomplete = λ e. ⊎_elim (λ (r : one ≡ true). inl (first r)) (λ (r : s.awaited ≡ true). inr (ap (λ (x : Standing). x.awaited) same ∙ r)) (h.incomplete (sym (ap (λ (x : Standing). x.incomplete) same) ∙ e));
  awaited = λ e. second (h.awaited (sym (ap (λ (x : Standing). x.awaited) same) ∙ e));
}

-- the changeover of that link, its holds and its timers change, and nothing else does that ends a hold
pub but-moved : (link : ℕ) (p q : Parts)
    → ((procedure : Procedure) (destination sls : ℕ) → procedure ≢ Changeover link → holds q.holds procedure destination sls ≡ true → holds p.holds procedure destination sls ≡ true)
    → ((other : ℕ) → other ≢ link → changeover_of q other ≡ changeover_of p other) → SameBut (Its link) p.timers q.timers
    → ((other : ℕ) → other ≢ link → LinkAs (link_at p other) (link_at q other)) → But link p → But link q
but-moved link p q fewer standings timers links h = record {
  outages = λ other apart. (links other apart).passes (h.outages other apart);
  holds = λ procedure destination sls apart e. ended procedure apart (h.holds procedure destination sls apart (fewer procedure destination sls apart e));
  changeovers = λ other apart. still-completes (changeover_of p other) (changeover_of q other) _ _ _ _ (standings other apart)
      (runs-as (name.T1 other) p.timers q.timers (timers (name.T1 other) refl (its-own link other apart)))
      (runs-as (name.T2 other) p.timers q.timers (timers (name.T2 other) refl (its-wait link other apart))) (h.changeovers other apart);
}
  where
    ended : (procedure : Procedure) → procedure ≢ Changeover link → WillEnd procedure p → WillEnd procedure q
    ended (Changeover other) apart e =
        let d : other ≢ link = λ same. apart (ap (λ (l : ℕ). Changeover l) same) in
        ⊎_elim (λ (i : (changeover_of p other).incomplete ≡ true). inl (ap (λ (s : Standing). s.incomplete) (standings other d) ∙ i))
        (λ (o : in_outage p other ≡ true). inr (still-out p q other (links other d) (h.outages other d) o)) e
    ended (Code set code) apart e = runs-as (name.T4 set code) p.timers q.timers (timers (name.T4 set code) refl (λ out. ⊎_elim (λ x. cc) (λ x. cc) out)) e
    ended (Time other) apart e = runs-as (name.T3 other) p.timers q.timers (timers (name.T3 other) refl (λ out. ⊎_elim (λ x. cc) (λ x. cc) out)) e
    ended (Reroute destination) apart e = runs-as (name.T6 destination) p.timers q.timers (timers (name.T6 destination) refl (λ out. ⊎_elim (λ x. cc) (λ x. cc) out)) e

-- and then that link's too
pub closed : (link : ℕ) (q : Parts) → But link q
    → ((destination sls : ℕ) → holds q.holds (Changeover link) destination sls ≡ true → WillEnd (Changeover link) q)
    → WillComplete (changeover_of q link) (is_running (name.T1 link) q.timers) (is_running (name.T2 link) q.timers) → WillPass (link_at q link) → AllWillEnd q
closed link q h own completes passes = record {
  holds = each;
  outages = λ other. ⊎_elim (λ (e : other ≡ link). subst (λ (l : ℕ). WillPass (link_at q l)) (sym e) passes) (λ (d : other ≢ link). h.outages other d) (cases_eq other link);
  changeovers = λ other. ⊎_elim
      (λ (e : other ≡ link). subst (λ (l : ℕ). WillComplete (changeover_of q l) (is_running (name.T1 l) q.timers) (is_running (name.T2 l) q.timers)) (sym e) completes)
      (λ (d : other ≢ link). h.changeovers other d) (cases_eq other link);
}
  where
    each : (procedure : Procedure) (destination sls : ℕ) → holds q.holds procedure destination sls ≡ true → WillEnd procedure q
    each (Changeover other) destination sls e =
        ⊎_elim
        (λ (same : other ≡ link). subst (λ (l : ℕ). WillEnd (Changeover l) q) (sym same) (own destination sls (subst (λ (l : ℕ). holds q.holds (Changeover l) destination sls ≡ true) same e)))
        (λ (d : other ≢ link). h.holds (Changeover other) destination sls (λ same. d (link-of other same)) e) (cases_eq other link)
      where
        link-of : (l : ℕ) → Changeover l ≡ Changeover link → l ≡ link
        link-of l same = cc
    each (Code set code) destination sls e = h.holds (Code set code) destination sls (λ same. cc) e
    each (Time other) destination sls e = h.holds (Time other) destination sls (λ same. cc) e
    each (Reroute rerouted) destination sls e = h.holds (Reroute rerouted) destination sls (λ same. cc) e

-- ---- nothing changes, or fewer flows are held

pub will-stay : (p q : Parts) → ((procedure : Procedure) (destination sls : ℕ) → holds q.holds procedure destination sls ≡ true → holds p.holds procedure destination sls ≡ true)
    → q.changeovers ≡ p.changeovers → ((timer : TimerName) → ends_holds timer ≡ true → is_running timer p.timers ≡ true → is_running timer q.timers ≡ true)
    → ((link : ℕ) → LinkAs (link_at p link) (link_at q link)) → AllWillEnd p → AllWillEnd q
will-stay p q fewer standings timers links h = record {
  outages = λ link. (links link).passes (h.outages link);
  holds = λ procedure destination sls e. ended procedure (h.holds procedure destination sls (fewer procedure destination sls e));
  changeovers = λ other. still-completes (changeover_of p other) (changeover_of q other) _ _ _ _ (standing other)
      (timers (name.T1 other) refl) (timers (name.T2 other) refl) (h.changeovers other);
}
  where
    standing : (other : ℕ) → changeover_of q other ≡ changeover_of p other
    standing other = ap (λ (all : List Standing). changeover_of (record p { changeovers = all }) other) standings

    ended : (procedure : Procedure) → WillEnd procedure p → WillEnd procedure q
    ended (Changeover other) e =
        ⊎_elim (λ (i : (changeover_of p other).incomplete ≡ true). inl (ap (λ (s : Standing). s.incomplete) (standing other) ∙ i))
        (λ (o : in_outage p other ≡ true). inr (still-out p q other (links other) (h.outages other) o)) e
    ended (Code set code) e = timers (name.T4 set code) refl e
    ended (Time other) e = timers (name.T3 other) refl e
    ended (Reroute destination) e = timers (name.T6 destination) refl e

pub alike-stay : (p q : Parts) → Alike p q → AllWillEnd p → AllWillEnd q
alike-stay p q e h = will-stay p q (λ procedure destination sls held. sym (ap (λ (x : HoldSet). holds x procedure destination sls) e.holds) ∙ held) e.changeovers (λ timer ends. runs-as timer p.timers q.timers (e.timers timer ends)) e.links h

pub lifted-fewer : (h : HoldSet) (procedure other : Procedure) (destination sls : ℕ) → holds (lifted h procedure) other destination sls ≡ true → holds h other destination sls ≡ true
lifted-fewer h procedure other destination sls e =
    (and_parts (contains h.pairs (record { procedure = other; destination = destination; sls = sls })) (not (is_same other procedure))
    (sym (contains-lifted h procedure (record { procedure = other; destination = destination; sls = sls })) ∙ e)).0

-- ---- the changeover of a link

pub other-standing : (all : List Standing) (link other : ℕ) (s : Standing) (p : Parts) → other ≢ link → changeover_of (with_changeover link s p) other ≡ changeover_of p other
other-standing all link other s p apart = get_or-set_other p.changeovers link other s no_changeover apart

-- it is as it is written, or there is none
pub its-standing : (link : ℕ) (s : Standing) (p : Parts) → (changeover_of (with_changeover link s p) link ≡ s) ⊎ (changeover_of (with_changeover link s p) link ≡ no_changeover)
its-standing link s p =
    ⊎_elim (λ (there : link < length p.changeovers). inl (get_or-set_same p.changeovers link s no_changeover there))
    (λ (past : length p.changeovers ≤ link). inr (get_or_past _ link no_changeover (omega (arith, past, length-set p.changeovers link s))))
    (cases_lt link (length p.changeovers))

complete-now : (s t : Standing) (one two : Bool) → (t ≡ s) ⊎ (t ≡ no_changeover) → s.incomplete ≡ false → (s.awaited ≡ true → two ≡ true) → WillComplete t one two
complete-now s t one two (inl same) done waits = record {
  incomplete = λ e. no-way s.incomplete done (sym (ap (λ (x : Standing). x.incomplete) same) ∙ e);
  awaited = λ e. waits (sym (ap (λ (x : Standing). x.awaited) same) ∙ e);
}
complete-now s t one two (inr none) done waits = record {
  incomplete = λ e. (let no : false ≡ true = sym (ap (λ (x : Standing). x.incomplete) none) ∙ e in absurd cc);
  awaited = λ e. (let no : false ≡ true = sym (ap (λ (x : Standing). x.awaited) none) ∙ e in absurd cc);
}

-- it is completed: its hold is lifted, and T1 stops
pub completes : (link : ℕ) (found : Found) (s : Standing) (p : Parts) → But link p → s.incomplete ≡ false → (s.awaited ≡ true → is_running (name.T2 link) p.timers ≡ true)
    → WillPass (link_at p link) → AllWillEnd (concluded link found (with_changeover link s p))
completes link found s p h done waits passes =
    closed link q
    (but-moved link p q
    (λ procedure destination sls apart e.
    sym (ap (λ (x : HoldSet). holds x procedure destination sls) same.holds) ∙ lifted-fewer b.holds (Changeover link) procedure destination sls e)
    (λ other apart. ap (λ (all : List Standing). changeover_of (record p { changeovers = all }) other) same.changeovers ∙ other-standing p.changeovers link other s p apart)
    (λ timer ends out. left-clear_other (name.T1 link) timer b.timers (λ e. out (inl (sym e))) ∙ same.timers timer ends) (λ other apart. same.links other) h)
    (λ destination sls e. no-way (holds q.holds (Changeover link) destination sls) (ends_its_own b.holds (Changeover link) destination sls) e)
    (complete-now s (changeover_of q link) _ _
    (⊎_elim (λ (e : changeover_of a link ≡ s). inl (standing ∙ e)) (λ (e : changeover_of a link ≡ no_changeover). inr (standing ∙ e)) (its-standing link s p)) done
    (λ e. runs-as (name.T2 link) p.timers q.timers (left-clear_other (name.T1 link) (name.T2 link) b.timers (λ x. cc) ∙ same.timers (name.T2 link) refl) (waits e)))
    ((same.links link).passes passes)
  where
    a : Parts
    a = with_changeover link s p

    b : Parts
    b = with_losses found a

    q : Parts
    q = lifted_parts link b

    same : Alike a b
    same =
        (let lost : Parts = lose_each found.lost a in
        let judges : Parts = judged found.is_reasonable lost in
        alike-both a judges b (alike-both a lost judges (losses-alike found.lost a) (judged-alike found.is_reasonable lost)) (broken-alike found.is_wrong judges))

    standing : changeover_of q link ≡ changeover_of a link
    standing = ap (λ (all : List Standing). changeover_of (record p { changeovers = all }) link) same.changeovers

-- it was complete
pub is-complete : (link : ℕ) (s : Standing) (p : Parts) → But link p → s.incomplete ≡ false → (s.awaited ≡ true → is_running (name.T2 link) p.timers ≡ true)
    → ((destination sls : ℕ) → holds p.holds (Changeover link) destination sls ≡ true → in_outage p link ≡ true) → WillPass (link_at p link) → AllWillEnd (with_changeover link s p)
is-complete link s p h done waits unheld passes =
    closed link (with_changeover link s p)
    (but-moved link p (with_changeover link s p) (λ procedure destination sls apart e. e) (λ other apart. other-standing p.changeovers link other s p apart) (λ timer ends out. refl)
    (λ other apart. link-same (link_at p other)) h)
    (λ destination sls e. inr (unheld destination sls e))
    (complete-now s (changeover_of (with_changeover link s p) link) _ _ (its-standing link s p) done waits) passes

-- it begins: the flows that fail are held, and T2 or T1 starts
pub begins : (c : Configuration) (ordered : Bool) (link : ℕ) (p q : Parts) → But link q → has_name q.timers.counts (name.T1 link) ≡ true → has_name q.timers.counts (name.T2 link) ≡ true
    → link < length q.changeovers → WillPass (link_at q link) → AllWillEnd (record q { changeovers = (with_changeover link (failed ordered (changeover_of q link)) q).changeovers; timers = timed_changeover c ordered link q.timers })
begins c ordered link p q h first second there passes = by ordered
  where
    r : Bool → Parts
    r b = record q { changeovers = (with_changeover link (failed b (changeover_of q link)) q).changeovers; timers = timed_changeover c b link q.timers }

    others : (b : Bool) → SameBut (Its link) q.timers (timed_changeover c b link q.timers)
    others true timer ends out = left-set_other (name.T2 link) timer c.timers.t2 q.timers (λ e. out (inr (sym e)))
    others false timer ends out = left-set_other (name.T1 link) timer c.timers.t1 q.timers (λ e. out (inl (sym e)))

    is : (b : Bool) → changeover_of (r b) link ≡ failed b (changeover_of q link)
    is b = get_or-set_same q.changeovers link (failed b (changeover_of q link)) no_changeover there

    timed : (b : Bool) → WillComplete (failed b (changeover_of q link)) (is_running (name.T1 link) (r b).timers) (is_running (name.T2 link) (r b).timers)
    timed true = record { incomplete = λ e. inr refl; awaited = λ e. set-runs (name.T2 link) c.timers.t2 q.timers second }
    timed false = record { incomplete = λ e. inl (set-runs (name.T1 link) c.timers.t1 q.timers first); awaited = λ e. absurd cc }

    by : (b : Bool) → AllWillEnd (r b)
    by b =
        closed link (r b)
        (but-moved link q (r b) (λ procedure destination sls apart e. e) (λ other apart. other-standing q.changeovers link other (failed b (changeover_of q link)) q apart) (others b)
        (λ other apart. link-same (link_at q other)) h)
        (λ destination sls e. inl (ap (λ (s : Standing). s.incomplete) (is b)))
        (still-completes (failed b (changeover_of q link)) (changeover_of (r b) link) _ _ _ _ (is b) (λ e. e) (λ e. e) (timed b)) passes

-- its order goes out late: T1 stops, and T2 starts
pub asks-late : (c : Configuration) (link : ℕ) (p : Parts) → But link p → (link < length p.changeovers → has_name (clear_timer (name.T1 link) p.timers).counts (name.T2 link) ≡ true)
    → (changeover_of p link).incomplete ≡ true → WillPass (link_at p link) → AllWillEnd (asking c link p)
asks-late c link p h named e passes = by (cases_lt link (length p.changeovers))
  where
    its : Standing
    its = with_order (changeover_of p link)

    q : Parts
    q = asking c link p

    others : SameBut (Its link) p.timers q.timers
    others timer ends out =
        left-set_other (name.T2 link) timer c.timers.t2 (clear_timer (name.T1 link) p.timers) (λ f. out (inr (sym f)))
        ∙ left-clear_other (name.T1 link) timer p.timers (λ f. out (inl (sym f)))

    by : (link < length p.changeovers) ⊎ (length p.changeovers ≤ link) → AllWillEnd q
    by (inl there) =
        let is : changeover_of q link ≡ its = get_or-set_same p.changeovers link its no_changeover there in
        closed link q
        (but-moved link p q (λ procedure destination sls apart f. f) (λ other apart. other-standing p.changeovers link other its p apart) others (λ other apart. link-same (link_at p other)) h)
        (λ destination sls f. inl (ap (λ (s : Standing). s.incomplete) is ∙ e))
        (still-completes its (changeover_of q link) _ _ _ _ is (λ f. f) (λ f. f)
        (record { incomplete = λ f. inr refl; awaited = λ f. set-runs (name.T2 link) c.timers.t2 (clear_timer (name.T1 link) p.timers) (named there) })) passes
    by (inr past) = (let no : false ≡ true = sym (ap (λ (s : Standing). s.incomplete) (get_or_past p.changeovers link no_changeover past)) ∙ e in absurd cc)

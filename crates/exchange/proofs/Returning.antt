-- A link that returns: declarations go out one by one and change no link, and it takes its flows back once it carries
-- traffic.
use Rattle.exchange.proofs.Basics.{◌⊎◌, inl, inr, begin_test, test_if, add-one, ◌≡◌, ◌<◌, ◌≤◌, ℕ, zero, suc, ◌+◌, arith, replicate, Bool, true, false, ◌&&◌, not, List, length, Option, Some, None, refl, ap, sym, ◌∙◌, if◌then◌else◌, slice_set, ⊎_elim, cases_lt, get_or-set_same, get_or_past, length-set, LINKS, Configuration, Action, Transition, Facts, with_link, Link, is_in_service, stepped, down_link, Procedure, returned, gives_up, held_by, alike_before, QueueKind, Parts, Node, State, with_node, with_parts, KeptQueues, kept, link_at, in_service, with_holds, facts, code_for, declare_by, change_back, HasPlacesFor, holder, declare, declare_each, holders, set_of, has_other, begun_anew_if, act_by, step_on, stepped_by, is_first_in, entered, taken_back_if, known_before, known_links}
use Rattle.link.specs.declared.action.Action.TheVariants as act
use Rattle.exchange_rules.specs.Frames.{enters, enters_traffic, take_step}
use Rattle.exchange_rules.specs.Entering.{begin_traffic}
use Rattle.exchange_rules.specs.LinkTests.{test_passed, pass_test}
use Rattle.exchange_rules.specs.State.{in_traffic}
use Rattle.exchange_rules.proofs.Entering.{relinked}
use Rattle.timers.specs.Timers.{Running}
use Rattle.node_links.specs.NodeLinks.{carries_traffic}
use Rattle.exchange.specs.Entering.{taken_back as taken_back_now}
use Rattle.exchange.proofs.TakingOver.{taken_over}

-- ---- one more link declares

module _ {Q : Type 0} (q : QueueKind Q) (c : Configuration) (link : ℕ) (loses : ℕ → Bool) where
  pub none_declared : (node : Node Q) → node ≡ declare_each q c link loses 0 node
  unfolding declare_each
  none_declared node = refl

  pub more_declared : (other : ℕ) (node : Node Q) → declare q c link loses other (declare_each q c link loses other node) ≡ declare_each q c link loses (other + 1) node
  unfolding declare_each
  more_declared other node = ap (λ (n : ℕ). declare_each q c link loses n node) (sym (add-one other))

  pub no_holders : (node : Node Q) → replicate LINKS None ≡ holders q c link loses 0 node
  unfolding holders
  no_holders node = refl

  pub more_holders : (other : ℕ) (node : Node Q)
      → slice_set (holders q c link loses other node) other (holder q c link loses other (declare_each q c link loses other node)) ≡ holders q c link loses (other + 1) node
  unfolding holders
  more_holders other node = ap (λ (n : ℕ). holders q c link loses n node) (sym (add-one other))

-- ---- a link takes its flows back

-- declarations change neither links nor routes
record KeepsLinks {Q : Type 0} (n m : Node Q) : Type 0 where
  pub links : n.parts.links ≡ m.parts.links
  pub routes : n.parts.routes ≡ m.parts.routes

module _ {Q : Type 0} (q : QueueKind Q) (c : Configuration) where
  declare_by-links : (code : Option ℕ) (link other : ℕ) (n m : Node Q) → KeepsLinks n m → KeepsLinks (declare_by q c code link other n) m
  declare_by-links (Some code) link other n m a = record { links = a.links; routes = a.routes }
  declare_by-links None link other n m a = record { links = a.links; routes = a.routes }

  either-links : (b : Bool) (n o m : Node Q) → KeepsLinks n m → KeepsLinks o m → KeepsLinks (if b then n else o) m
  either-links true n o m e f = e
  either-links false n o m e f = f

  declare_each-links : (link : ℕ) (loses : ℕ → Bool) (many : ℕ) (n : Node Q) → KeepsLinks (declare_each q c link loses many n) n
  unfolding declare_each
  declare_each-links link loses zero n = record { links = refl; routes = refl }
  declare_each-links link loses (suc other) n =
      let one : Node Q = declare_each q c link loses other n in
      let e : KeepsLinks one n = declare_each-links link loses other n in
      either-links (loses other) (declare_by q c (code_for q c link other one) link other one) one n
      (declare_by-links (code_for q c link other one) link other one n e) e

facts-alike : (c : Configuration) (n m : Node KeptQueues) → KeepsLinks n m → facts c n.parts ≡ facts c m.parts
facts-alike c n m a = rw (a.links, a.routes) refl

abbrev known : State KeptQueues → Facts
known s = facts s.settings s.node.parts

-- the flows that a link takes over, by what is known of routes, are held
abbrev held_back : ℕ → List (Option Procedure) → Facts → State KeptQueues → State KeptQueues
held_back link hs f s = with_holds s (held_by hs (returned link (with_link link false f) f) s.node.parts.holds)

abbrev declared_in : ℕ → (ℕ → Bool) → State KeptQueues → State KeptQueues
declared_in link loses s = with_node s (declare_each kept s.settings link loses (length s.settings.links) s.node)

abbrev holders_in : ℕ → (ℕ → Bool) → State KeptQueues → List (Option Procedure)
holders_in link loses s = holders kept s.settings link loses (length s.settings.links) s.node

pub taken_back : (s0 s1 s2 : State KeptQueues) (link : ℕ) (loses : ℕ → Bool) (hs : List (Option Procedure))
    → HasPlacesFor s0.settings s0.node.parts
    → ((other : ℕ) → loses other ≡ gives_up (returned link (with_link link false (known s0)) (known s0)) other)
    → hs ≡ holders_in link loses s0 → s1 ≡ declared_in link loses s0 → s2 ≡ held_back link hs (known s1) s1
    → s2 ≡ with_node s0 (change_back kept s0.settings link (with_link link false (known s0)) s0.node)
taken_back s0 s1 s2 link loses hs fits l h d t =
    let same : (loses ≡ gives_up (returned link (with_link link false (known s0)) (known s0))) = λ i. λ other. l other i in
    let before : known s1 ≡ known s0 =
    ap known d
    ∙ facts-alike s0.settings (declare_each kept s0.settings link loses (length s0.settings.links) s0.node) s0.node
    (declare_each-links kept s0.settings link loses (length s0.settings.links) s0.node) in
    t
    ∙ ap (λ (f : Facts). held_back link hs f s1) before
    ∙ ap (λ (x : List (Option Procedure)). held_back link x (known s0) s1) h
    ∙ ap (λ (s : State KeptQueues). held_back link (holders_in link loses s0) (known s0) s) d
    ∙ ap (λ (f : ℕ → Bool). held_back link (holders_in link f s0) (known s0) (declared_in link f s0)) same
    ∙ ap (λ (n : Node KeptQueues). with_node s0 n) (taken_over kept s0.settings link (with_link link false (known s0)) s0.node fits)

-- ---- a link begins to carry traffic

not_first : (b : Bool) → not b ≡ true → b ≡ false
not_first true e = absurd cc
not_first false e = refl

-- it takes its flows back by what is known without it
begun : (s : State KeptQueues) (link : ℕ) (x : Link) (r : Running) → in_traffic s.node.parts link ≡ false
    → taken_back_now kept s.settings link (with_parts s.node (relinked link x r s.node.parts)) ≡ begin_traffic kept s.settings true link (relinked link x r s.node.parts) s.node
begun s link x r b =
    let c : Configuration = s.settings in
    let p : Parts = s.node.parts in
    let first : Bool = not (has_other c link p) in
    let anew : Bool → Parts = λ y. begun_anew_if y c link (relinked link x r p) in
    let known_then : Facts = with_link link false (facts c (anew first)) in
    ap (λ (k : Facts). change_back kept c link (with_link link false (facts c (anew (is_first_in k (set_of c link))))) (with_parts s.node (anew (is_first_in k (set_of c link)))))
    (known_before c link x r p b)
    ∙ alike_before kept c known_then (facts c p) (facts c (anew first)) link (known_links c link x r p first b (not_first (has_other c link p)))
    (length c.links) (with_parts s.node (anew first))

begun_if : (begins : Bool) (s : State KeptQueues) (link : ℕ) (x : Link) (r : Running) → in_traffic s.node.parts link ≡ false
    → taken_back_if kept s.settings begins link (with_parts s.node (relinked link x r s.node.parts)) ≡ begin_traffic kept s.settings begins link (relinked link x r s.node.parts) s.node
begun_if true s link x r b = begun s link x r b
begun_if false s link x r b = refl

-- a link that is in service is there
serves_there : (p : Parts) (link : ℕ) → in_service p link ≡ true → link < length p.links
serves_there p link e =
    ⊎_elim
    (λ (h : link < length p.links). h)
    (λ (h : length p.links ≤ link). (let no : false ≡ true = sym (ap (λ (l : Link). is_in_service l.alignment) (get_or_past p.links link down_link h)) ∙ e in absurd cc))
    (cases_lt link (length p.links))

stepped_there : (c : Configuration) (link : ℕ) (step : Transition) (p : Parts) → in_service (step_on c link step p) link ≡ true → link < length p.links
stepped_there c link step p e =
    omega (arith, serves_there (step_on c link step p) link e, length-set p.links link (stepped step (link_at p link)))

enters_so : (b d : Bool) → b ≡ true → d ≡ false → (b && not d) ≡ true
enters_so true false e f = refl
enters_so true true e f = sym f
enters_so false d e f = e

carries_so : (after before untested : Bool) → after ≡ true → before ≡ false → (after && not untested) ≡ ((after && not before) && not untested)
carries_so true false untested e f = refl
carries_so true true untested e f = absurd cc
carries_so false before untested e f = absurd cc

without_traffic : (serves untested : Bool) → serves ≡ false → (serves && not untested) ≡ false
without_traffic false untested e = refl
without_traffic true untested e = absurd cc

absurd_state : false ≡ true → (u s : State KeptQueues) → u ≡ s
absurd_state e u s = absurd cc

-- it entered service
pub entered_service : (a : Action) (s t u : State KeptQueues) (link : ℕ) → t ≡ with_node s (stepped_by s.settings a link s.node)
    → in_service s.node.parts link ≡ false → in_service t.node.parts link ≡ true
    → u ≡ with_node t (entered kept t.settings link t.node)
    → u ≡ with_node s (act_by kept s.settings a link s.node)
entered_service act.Ignored s t u link e b i f =
    absurd_state (sym b ∙ sym (ap (λ (x : State KeptQueues). in_service x.node.parts link) e) ∙ i) u s
entered_service act.Fail s t u link e b i f =
    absurd_state (sym b ∙ sym (ap (λ (x : State KeptQueues). in_service x.node.parts link) e) ∙ i) u s
entered_service (act.Go step) s t u link e b i f =
    let c : Configuration = s.settings in
    let p : Parts = s.node.parts in
    let l : Link = link_at p link in
    let moves : Parts = step_on c link step p in
    let serves : in_service moves link ≡ true = sym (ap (λ (x : State KeptQueues). in_service x.node.parts link) e) ∙ i in
    let there : link < length p.links = stepped_there c link step p serves in
    let is : link_at moves link ≡ stepped step l = get_or-set_same p.links link (stepped step l) down_link there in
    let led : is_in_service step.state ≡ true = sym (ap (λ (x : Link). is_in_service x.alignment) is) ∙ serves in
    let carries : in_traffic moves link ≡ enters_traffic link step p = ap carries_traffic is ∙ carries_so (is_in_service step.state) (in_service p link) l.untested led b in
    f
    ∙ ap (λ (x : State KeptQueues). with_node x (entered kept x.settings link x.node)) e
    ∙ ap (λ (x : Bool). with_node s (begin_test kept c link (taken_back_if kept c x link (with_parts s.node moves)))) carries
    ∙ ap (λ (n : Node KeptQueues). with_node s (begin_test kept c link n))
    (begun_if (enters_traffic link step p) s link (stepped step l) moves.timers (without_traffic (in_service p link) l.untested b))
    ∙ ap (λ (x : Bool). with_node s (test_if kept c x link (take_step kept c link step s.node)))
    (sym (enters_so (is_in_service step.state) (in_service p link) led b))

-- it passed its first test
first_so : (serves untested : Bool) → (serves && not untested) ≡ false → (serves && true) ≡ true → (serves && untested) ≡ true
first_so true true e f = refl
first_so true false e f = absurd cc
first_so false untested e f = absurd cc

later_so : (serves untested : Bool) → ((serves && not untested) ≡ true) ⊎ ((serves && true) ≡ false) → (serves && untested) ≡ false
later_so true true (inl e) = absurd cc
later_so true false (inl e) = refl
later_so false untested (inl e) = absurd cc
later_so true untested (inr e) = absurd cc
later_so false untested (inr e) = refl

-- whether it carries traffic once it passed
passed_carries : (c : Configuration) (p : Parts) (link : ℕ) → link < length p.links → in_traffic (test_passed c link p) link ≡ (in_service p link && true)
passed_carries c p link there = ap carries_traffic (get_or-set_same p.links link (record (link_at p link) { test_failed = false; untested = false }) down_link there)

pub passed_first : (s t u : State KeptQueues) (link : ℕ) → link < length s.node.parts.links → t ≡ with_node s (with_parts s.node (test_passed s.settings link s.node.parts))
    → in_traffic s.node.parts link ≡ false → in_traffic t.node.parts link ≡ true → u ≡ with_node t (taken_back_now kept t.settings link t.node)
    → u ≡ with_node s (pass_test kept s.settings link s.node)
passed_first s t u link there e b i f =
    let c : Configuration = s.settings in
    let p : Parts = s.node.parts in
    let l : Link = link_at p link in
    let now : (in_service p link && true) ≡ true =
    sym (passed_carries c p link there) ∙ sym (ap (λ (x : State KeptQueues). in_traffic x.node.parts link) e) ∙ i in
    f
    ∙ ap (λ (x : State KeptQueues). with_node x (taken_back_now kept x.settings link x.node)) e
    ∙ ap (λ (n : Node KeptQueues). with_node s n) (begun s link (record l { test_failed = false; untested = false }) (test_passed c link p).timers b)
    ∙ ap (λ (x : Bool). with_node s (begin_traffic kept c x link (test_passed c link p) s.node)) (sym (first_so (in_service p link) l.untested b now))

pub passed_later : (s t : State KeptQueues) (link : ℕ) → link < length s.node.parts.links → t ≡ with_node s (with_parts s.node (test_passed s.settings link s.node.parts))
    → (in_traffic s.node.parts link ≡ true) ⊎ (in_traffic t.node.parts link ≡ false)
    → t ≡ with_node s (pass_test kept s.settings link s.node)
passed_later s t link there e how =
    let c : Configuration = s.settings in
    let p : Parts = s.node.parts in
    let l : Link = link_at p link in
    e
    ∙ ap (λ (x : Bool). with_node s (begin_traffic kept c x link (test_passed c link p) s.node))
    (sym (later_so (in_service p link) l.untested
    (⊎_elim (λ h. inl h)
    (λ (h : in_traffic t.node.parts link ≡ false). inr (sym (passed_carries c p link there) ∙ sym (ap (λ (x : State KeptQueues). in_traffic x.node.parts link) e) ∙ h)) how)))

-- a link that was in service, or isn't after a step, didn't enter it
not_led : (c : Configuration) (link : ℕ) (step : Transition) (p : Parts) → link < length p.links → in_service (step_on c link step p) link ≡ false → is_in_service step.state ≡ false
not_led c link step p h e =
    sym (ap (λ (l : Link). is_in_service l.alignment) (get_or-set_same p.links link (stepped step (link_at p link)) down_link h)) ∙ e

unless_led : (b d : Bool) → b ≡ false → (b && not d) ≡ false
unless_led true d e = absurd cc
unless_led false d e = refl

already_so : (b d : Bool) → d ≡ true → (b && not d) ≡ false
already_so true true e = refl
already_so false true e = refl
already_so b false e = absurd cc

-- so it does no more than the step
step_alone : (s : State KeptQueues) (step : Transition) (link : ℕ) → enters link step s.node.parts ≡ false
    → with_node s (stepped_by s.settings (act.Go step) link s.node) ≡ with_node s (act_by kept s.settings (act.Go step) link s.node)
step_alone s step link e =
    let c : Configuration = s.settings in
    let p : Parts = s.node.parts in
    ap (λ (x : Bool). with_node s (test_if kept c x link (begin_traffic kept c (x && not (link_at p link).untested) link (step_on c link step p) s.node))) (sym e)

pub stayed_out : (a : Action) (s t : State KeptQueues) (link : ℕ) → link < length s.node.parts.links → t ≡ with_node s (stepped_by s.settings a link s.node)
    → (in_service s.node.parts link ≡ true) ⊎ (in_service t.node.parts link ≡ false)
    → t ≡ with_node s (act_by kept s.settings a link s.node)
stayed_out act.Ignored s t link h e out = e
stayed_out act.Fail s t link h e out = e
stayed_out (act.Go step) s t link h e out =
    e ∙ step_alone s step link
    (⊎_elim
    (λ (served : in_service s.node.parts link ≡ true). already_so (is_in_service step.state) (in_service s.node.parts link) served)
    (λ (down : in_service t.node.parts link ≡ false).
    unless_led (is_in_service step.state) (in_service s.node.parts link)
    (not_led s.settings link step s.node.parts h (sym (ap (λ (x : State KeptQueues). in_service x.node.parts link) e) ∙ down)))
    out)

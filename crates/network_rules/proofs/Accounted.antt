-- After every list of steps from a quiet network on that loses nothing, each message is accounted for.
use Rattle.pair_rules.proofs.Basics.{◌≡◌, ◌≢◌, ◌<◌, ℕ, ◌+◌, zero, suc, Bool, true, false, not, List, [], ◌∷◌, ◌++◌, length, refl, ap, sym, subst, ◌∙◌, arith, drop, append-nil, filter, Option, ⊎_elim, cases_eq, if◌then◌else◌}
use Rattle.exchange_rules.proofs.Basics.{append_assoc, sum_by, sum_by-cons}
use Rattle.pair_rules.proofs.Definitions.{Message, Configuration, queue_at, each-replicate}
use Rattle.exchange_rules.specs.Conserving.{users_that}
use Rattle.exchange_rules.specs.State.{is_raised}
use Rattle.exchange_rules.proofs.Tallies.{append}
use Rattle.neighbour_rules.proofs.Anew.{first-may}
use Rattle.pair_moves.specs.Laws.{sum_to}
use Rattle.pair_moves.specs.Order.{join_to}
use Rattle.pair_moves.proofs.Counts.{sum-alike}
use Rattle.network_rules.specs.Networks.{NetworkNode, NetworkState, Place, Step, after_step, after_steps, first_network, goes_onward}
use Rattle.network_rules.specs.Anew.{HaveLostNothingSince, IsQuietNode, begun_anew, networks_begin_anew, networks_begin_quietly}
use Rattle.network_rules.specs.Totals.{HaveLostNothing, IsJoined, each_message_is_accounted_for, is_listed, received_at, received_there, total, waiting_at, waiting_on}
use Rattle.network_rules.proofs.Ahead.{drop-none}
use Rattle.network_rules.proofs.AtState.{there_of}
use Rattle.network_rules.proofs.Booked.{IsBooked, books-as, onward_of, texts_of, turn-booked}
use Rattle.network_rules.proofs.AllRuns.{did-keeps}
use Rattle.network_rules.proofs.Joined.{ends-are}
use Rattle.network_rules.proofs.OneStep.{one-step}
use Rattle.network_rules.proofs.Facts.{may-empty}
use Rattle.network_rules.proofs.Reached.{Begins, IsSteadyNode, Kept, begun, begun-kept, begun-steady, kept-before, reached, settings-kept}
use Rattle.network_rules.proofs.Staying.{all_waits, waits_at}
use Rattle.network_rules.proofs.Sums.{sum-agree}
use Rattle.network_rules.proofs.Turns.{SameBooks, Turn, others-of, turn-of}

-- ---- lists of steps

after-both : (steps more : List Step) (w : NetworkState) → after_steps (steps ++ more) w ≡ after_steps more (after_steps steps w)
after-both [] more w = refl
after-both (step ∷ steps) more w = after-both steps more (after_step step w)

-- ---- sums

sum-plus : (f g : ℕ → ℕ) (points : List ℕ) → sum_by (λ y. f y + g y) points ≡ sum_by f points + sum_by g points
sum-plus f g [] = refl
sum-plus f g (p ∷ points) =
    four (sum_by (λ y. f y + g y) (p ∷ points)) (sum_by f (p ∷ points)) (sum_by g (p ∷ points)) (f p) (g p) (sum_by (λ y. f y + g y) points) (sum_by f points) (sum_by g points)
    (sum_by-cons (λ y. f y + g y) p points) (sum_by-cons f p points) (sum_by-cons g p points) (sum-plus f g points)
  where
    four : (s a b f g t u v : ℕ) → s ≡ f + g + t → a ≡ f + u → b ≡ g + v → t ≡ u + v → s ≡ a + b
    four s a b f g t u v e h i j = omega (arith, e, h, i, j)

pub sum-zero : (f : ℕ → ℕ) (ps : List ℕ) → ((y : ℕ) → f y ≡ 0) → sum_by f ps ≡ 0
sum-zero f [] e = refl
sum-zero f (p ∷ ps) e = two-none (sum_by f (p ∷ ps)) (f p) (sum_by f ps) (sum_by-cons f p ps) (e p) (sum-zero f ps e)
  where
    two-none : (s k l : ℕ) → s ≡ k + l → k ≡ 0 → l ≡ 0 → s ≡ 0
    two-none s k l e f g = omega (arith, e, f, g)

join-sum : (of : Message → Bool) (f : ℕ → List Message) (n : ℕ) → users_that of (join_to f n) ≡ sum_to (λ k. users_that of (f k)) n
join-sum of f zero = refl
join-sum of f (suc n) = append of (join_to f n) (f n) ∙ ap (λ (k : ℕ). k + users_that of (f n)) (join-sum of f n)

-- those that pass a test, and the others
split-sum : (of : Message → Bool) (test : Message → Bool) (ms : List Message) → users_that of ms ≡ users_that of (filter (λ m. not (test m)) ms) + users_that of (filter test ms)
split-sum of test [] = refl
split-sum of test (m ∷ ms) = by (test m) refl (split-sum of test ms)
  where
    here : (a b c s : ℕ) → s ≡ b + c → a + s ≡ b + (a + c)
    here a b c s e = omega (arith, e)

    there : (a b c s : ℕ) → s ≡ b + c → a + s ≡ a + b + c
    there a b c s e = omega (arith, e)

    by : (t : Bool) → test m ≡ t → users_that of ms ≡ users_that of (filter (λ k. not (test k)) ms) + users_that of (filter test ms)
        → users_that of (m ∷ ms) ≡ users_that of (filter (λ k. not (test k)) (m ∷ ms)) + users_that of (filter test (m ∷ ms))
    by true e rest =
        append of (m ∷ []) ms
        ∙ here (users_that of (m ∷ [])) (users_that of (filter (λ k. not (test k)) ms)) (users_that of (filter test ms)) (users_that of ms) rest
        ∙ ap (λ (k : ℕ). users_that of (filter (λ k. not (test k)) ms) + k) (sym (append of (m ∷ []) (filter test ms)))
        ∙ ap (λ (b : Bool). users_that of (if not b then m ∷ filter (λ k. not (test k)) ms else filter (λ k. not (test k)) ms) + users_that of (if b then m ∷ filter test ms else filter test ms)) (sym e)
    by false e rest =
        append of (m ∷ []) ms
        ∙ there (users_that of (m ∷ [])) (users_that of (filter (λ k. not (test k)) ms)) (users_that of (filter test ms)) (users_that of ms) rest
        ∙ ap (λ (k : ℕ). k + users_that of (filter test ms)) (sym (append of (m ∷ []) (filter (λ k. not (test k)) ms)))
        ∙ ap (λ (b : Bool). users_that of (if not b then m ∷ filter (λ k. not (test k)) ms else filter (λ k. not (test k)) ms) + users_that of (if b then m ∷ filter test ms else filter test ms)) (sym e)

module _ (of : Message → Bool) (settings : (point : ℕ) → Configuration) (points : List ℕ) (h : IsJoined settings points) (start : Begins settings points) where
  abbrev state : List Step → NetworkState
  state done = reached settings points h start done

  -- ---- what was accepted, came and waits

  abbrev waits : (done : List Step) → Kept settings points h start (state done) → ℕ → ℕ
  waits done kept y = all_waits of (there_of settings points h start done kept y) (length (settings y).links) ((state done).node y).exchange.node.queues

  abbrev Adds : (done : List Step) → Kept settings points h start (state done) → Type 0
  Adds done kept =
      sum_by (λ y. users_that of ((state done).node y).accepted) points ≡ sum_by (λ y. users_that of (texts_of ((state done).node y).arrived)) points + sum_by (waits done kept) points

  record AlwaysAdds (done : List Step) : Type 0 where
    pub adds : (kept : Kept settings points h start (state done)) → Adds done kept

  next-is : (done : List Step) (step : Step) → state (done ++ step ∷ []) ≡ after_step step (state done)
  next-is done step = after-both done (step ∷ []) (begun_anew (begun settings points h start))

  next-adds : (done : List Step) (step : Step) → AlwaysAdds done → AlwaysAdds (done ++ step ∷ [])
  next-adds done step e = record {
    adds = λ kept.
        let turn : Turn (state done) (state (done ++ step ∷ [])) step.point = subst (λ (v : NetworkState). Turn (state done) v step.point) (sym (next-is done step)) (turn-of step.point (state done) step.what) in
        let others : (y : ℕ) → y ≢ step.point → SameBooks ((state done).node y) ((state (done ++ step ∷ [])).node y) =
        λ y far. subst (λ (v : NetworkState). SameBooks ((state done).node y) (v.node y)) (sym (next-is done step)) (others-of step.point (state done) y far step.what) in
        let was : Kept settings points h start (state done) = kept-before settings points h start done step (subst (Kept settings points h start) (next-is done step) kept) in
        one-step of settings points h start done step was kept others turn (e.adds was);
  }

  all-add : (more done : List Step) → AlwaysAdds done → AlwaysAdds (done ++ more)
  all-add [] done e = subst AlwaysAdds (sym (append-nil done)) e
  all-add (step ∷ more) done e = subst AlwaysAdds (append_assoc done (step ∷ []) more) (all-add more (done ++ step ∷ []) (next-adds done step e))

  -- ---- at first

  none-to : (f : ℕ → ℕ) (n : ℕ) → ((link : ℕ) → link < n → f link ≡ 0) → sum_to f n ≡ 0
  none-to f zero e = refl
  none-to f (suc n) e = two-none (sum_to f n) (f n) (none-to f n (λ link less. e link (omega (arith, less)))) (e n (omega arith))
    where
      two-none : (s k : ℕ) → s ≡ 0 → k ≡ 0 → s + k ≡ 0
      two-none s k e f = omega (arith, e, f)

  -- nothing waits at a quiet node
  first-waits : (kept : Kept settings points h start (state [])) (y : ℕ) → is_listed points y ≡ true → waits [] kept y ≡ 0
  first-waits kept y listed =
      let x : NetworkNode = (begun settings points h start).node y in
      let quiet : IsQuietNode x = start.quiet y listed in
      let steady : IsSteadyNode x.exchange = begun-steady settings points h start y listed in
      let there : ℕ → ℕ = there_of settings points h start [] kept y in
      two-none (users_that of x.exchange.node.queues.held) (sum_to (waits_at of there x.exchange.node.queues) (length (settings y).links)) (ap (users_that of) quiet.held)
      (none-to (waits_at of there x.exchange.node.queues) (length (settings y).links)
      (λ link less.
      ap (λ (ms : List Message). users_that of (drop (there link) ms))
      (may-empty x.exchange.settings.window x.exchange link steady.steady (quiet.links link (subst (λ (c : Configuration). link < length c.links) (sym (begun-kept settings points h start y)) less)).0)
      ∙ ap (users_that of) (drop-none (there link))))
    where
      two-none : (s k : ℕ) → s ≡ 0 → k ≡ 0 → s + k ≡ 0
      two-none s k e f = omega (arith, e, f)

  first-adds : AlwaysAdds []
  first-adds = record {
    adds = λ kept.
        all-zero (sum_by (λ y. users_that of ((state []).node y).accepted) points) (sum_by (λ y. users_that of (texts_of ((state []).node y).arrived)) points) (sum_by (waits [] kept) points)
        (sum-zero (λ y. users_that of ((state []).node y).accepted) points (λ y. refl)) (sum-zero (λ y. users_that of (texts_of ((state []).node y).arrived)) points (λ y. refl))
        (sum-agree (waits [] kept) (λ y. 0) points (first-waits kept) ∙ sum-zero (λ y. 0) points (λ y. refl));
  }
    where
      all-zero : (a b c : ℕ) → a ≡ 0 → b ≡ 0 → c ≡ 0 → a ≡ b + c
      all-zero a b c e f g = omega (arith, e, f, g)

  -- ---- books

  next-booked : (step : Step) (w : NetworkState) (y : ℕ) → IsBooked of (w.node y) → IsBooked of ((after_step step w).node y)
  next-booked step w y b =
      ⊎_elim
      (λ (same : y ≡ step.point).
      subst (λ (n : ℕ). IsBooked of (w.node n) → IsBooked of ((after_step step w).node n)) (sym same)
      (turn-booked of w (after_step step w) step.point (turn-of step.point w step.what) (did-keeps step.what step.point w step.point)) b)
      (λ (far : y ≢ step.point). books-as of (w.node y) ((after_step step w).node y) (others-of step.point w y far step.what) (did-keeps step.what step.point w y) b)
      (cases_eq y step.point)

  all-booked : (steps : List Step) (w : NetworkState) (y : ℕ) → IsBooked of (w.node y) → IsBooked of ((after_steps steps w).node y)
  all-booked [] w y b = b
  all-booked (step ∷ steps) w y b = all-booked steps (after_step step w) y (next-booked step w y b)

  -- ---- from end to end

  module _ (done : List Step) (kept : Kept settings points h start (state done)) where
    abbrev w : NetworkState
    w = state done

    waiting-is : (y : ℕ) → users_that of (waiting_at w y) ≡ waits done kept y
    waiting-is y =
        append of (join_to (waiting_on w y) (length (w.node y).exchange.settings.links)) (w.node y).exchange.node.queues.held
        ∙ ap (λ (k : ℕ). k + users_that of (w.node y).exchange.node.queues.held)
        (join-sum of (waiting_on w y) (length (w.node y).exchange.settings.links)
        ∙ ap (λ (c : Configuration). sum_to (λ k. users_that of (waiting_on w y k)) (length c.links)) (settings-kept settings points h start done y)
        ∙ sum-alike (waits_at of (there_of settings points h start done kept y) (w.node y).exchange.node.queues) (λ k. users_that of (waiting_on w y k)) (length (settings y).links)
        (λ k less. ap (λ (p : Option Place). users_that of (drop (received_there w p) (queue_at (w.node y).exchange.node.queues k).all)) (ends-are settings w (settings-kept settings points h start done) y k)))
        ∙ turn (sum_to (waits_at of (there_of settings points h start done kept y) (w.node y).exchange.node.queues) (length (settings y).links)) (users_that of (w.node y).exchange.node.queues.held)
      where
        turn : (a b : ℕ) → a + b ≡ b + a
        turn a b = omega arith

    last-sum : (acc ref ent onw arr rec wait : ℕ) → acc + ref ≡ ent + onw → arr ≡ rec + onw → acc ≡ arr + wait → ent ≡ rec + wait + ref
    last-sum acc ref ent onw arr rec wait e f g = omega (arith, e, f, g)

    abbrev each : (NetworkNode → List Message) → ℕ
    each list = sum_by (λ y. users_that of (list (w.node y))) points

    pub accounted : total of points (λ y. (w.node y).entered) ≡ total of points (received_at w) + total of points (waiting_at w) + total of points (λ y. (w.node y).refused)
    accounted =
        last-sum (each (λ x. x.accepted)) (each (λ x. x.refused)) (each (λ x. x.entered)) (each (λ x. onward_of x.exchange.settings (texts_of x.arrived))) (each (λ x. texts_of x.arrived))
        (total of points (received_at w)) (total of points (waiting_at w))
        (sym (sum-plus (λ y. users_that of (w.node y).accepted) (λ y. users_that of (w.node y).refused) points)
        ∙ sum-agree (λ y. users_that of (w.node y).accepted + users_that of (w.node y).refused)
        (λ y. users_that of (w.node y).entered + users_that of (onward_of (w.node y).exchange.settings (texts_of (w.node y).arrived))) points (λ y its. all-booked done (begun_anew (begun settings points h start)) y refl)
        ∙ sum-plus (λ y. users_that of (w.node y).entered) (λ y. users_that of (onward_of (w.node y).exchange.settings (texts_of (w.node y).arrived))) points)
        (sum-agree (λ y. users_that of (texts_of (w.node y).arrived)) (λ y. users_that of (received_at w y) + users_that of (onward_of (w.node y).exchange.settings (texts_of (w.node y).arrived))) points
        (λ y its. split-sum of (goes_onward (w.node y).exchange.settings) (texts_of (w.node y).arrived))
        ∙ sum-plus (λ y. users_that of (received_at w y)) (λ y. users_that of (onward_of (w.node y).exchange.settings (texts_of (w.node y).arrived))) points)
        ((all-add done [] first-adds).adds kept
        ∙ ap (λ (k : ℕ). each (λ x. texts_of x.arrived) + k) (sum-agree (waits done kept) (λ y. users_that of (waiting_at w y)) points (λ y its. sym (waiting-is y))))

pub accounts-anew : networks_begin_anew
accounts-anew settings points changes joined quiet steps kept of = accounted of settings points joined (record { changes = changes; quiet = quiet }) steps kept

-- ---- from newly booted exchanges on

pub quiet-first : networks_begin_quietly
quiet-first settings points point listed = record {
  links = λ link less. (first-may (settings point) (settings point) link, each-replicate (λ (b : Bool). b ≡ false) (length (settings point).links) link false refl);
  held = refl;
}

-- while no flag is raised, nothing was lost since
pub since-first : (settings : (point : ℕ) → Configuration) (points : List ℕ) (w : NetworkState) → HaveLostNothing points w → HaveLostNothingSince points (first_network settings) w
since-first settings points w kept point listed = record { countable = omega arith; same = none (w.node point).exchange.node.parts.times_lost (kept point listed) }
  where
    none : (n : ℕ) → is_raised n ≡ false → n ≡ 0
    none zero e = refl
    none (suc n) e = absurd cc

pub accounts : each_message_is_accounted_for
accounts settings points steps joined kept =
    accounts-anew settings points [] joined (quiet-first settings points) steps (since-first settings points (after_steps steps (first_network settings)) kept)

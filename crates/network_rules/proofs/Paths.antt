-- A path of which each hop keeps a flow in order does so, and the last hop keeps one for its point.
use Rattle.pair_rules.proofs.Basics.{◌≡◌, ◌&&◌, ℕ, ◌+◌, zero, suc, Bool, true, false, not, List, [], ◌∷◌, ◌++◌, length, map, Option, Some, None, refl, ap, sym, subst, ◌∙◌, arith, append-nil, if◌then◌else◌, count_by, nat_eq, drop}
use Rattle.std.proofs.lemmas.List.Elements.{filter-append}
use Rattle.pair_rules.proofs.Definitions.{Message, Flow, flow_of, dpc_of, is_management, Configuration, PairState, queue_of}
use Rattle.changeover.specs.Changeover.{users_of}
use Rattle.pair_moves.specs.Order.{join_to}
use Rattle.pair_moves.proofs.Counts.{count-append}
use Rattle.pair_moves.proofs.Joins.{join-alike}
use Rattle.pair_rules.specs.Promises.{is_of_flow, of_flow}
use Rattle.neighbour_rules.specs.Neighbours.{far_end, users_to}
use Rattle.neighbour_rules.specs.Promises.{InOrder, accepted_there, waiting, waiting_by, waiting_on}
use Rattle.network_rules.specs.Networks.{NetworkNode, NetworkState, first_network, goes_onward}
use Rattle.network_rules.specs.Outside.{after_moves}
use Rattle.network_rules.specs.Pairs.{came_from, pair_of}
use Rattle.network_rules.specs.Totals.{received_at}
use Rattle.network_rules.specs.Paths.{AreMerged, ComesInOrder, EachHopInOrder, EachOnlyPasses, KeepsInOrder, OnlyPasses, PassesInOrder, came_last, came_over, last_hops_begin_anew, last_hops_keep_flows_in_order, left_on, onward_at, paths_keep_the_order_of_their_hops, waits_on, waits_over}
use Rattle.network_rules.specs.Anew.{after_all, begun_anew}
use Rattle.network_rules.proofs.Anew.{neighbours-anew}
use Rattle.network_rules.proofs.Merged.{AreLeft, merged-alone, merged-append, merged-count, merged-filter, merged-one, merged-other, merged-split, merged-through}
use Rattle.network_rules.proofs.PassedOn.{all-pass}
use Rattle.network_rules.proofs.Outside.{moves-keep}
use Rattle.network_rules.proofs.Promised.{order}
use Rattle.network_rules.proofs.Reached.{changes-keep}

-- ---- at a point between

module _ (flow : Flow) where
  -- the messages of a flow are user messages
  of-users : (ms : List Message) → of_flow flow (users_of ms) ≡ of_flow flow ms
  of-users [] = refl
  of-users (m ∷ ms) = by (is_management m) refl (of-users ms)
    where
      by : (b : Bool) → is_management m ≡ b → of_flow flow (users_of ms) ≡ of_flow flow ms → of_flow flow (if not b then m ∷ users_of ms else users_of ms) ≡ of_flow flow (m ∷ ms)
      by false e rest = ap (λ (xs : List Message). if is_of_flow flow m then m ∷ xs else xs) rest
      by true e rest =
          rest
          ∙ sym (ap (λ (b : Bool). if not b && (nat_eq (flow_of m).point flow.point && nat_eq (flow_of m).sls flow.sls) then m ∷ of_flow flow ms else of_flow flow ms) e)

  module _ (w : NetworkState) (passes : (point : ℕ) → PassesInOrder (w.node point)) where
    abbrev accepted_at : ℕ → List Message
    accepted_at point = of_flow flow (w.node point).accepted

    abbrev refused_at : ℕ → List Message
    refused_at point = of_flow flow (w.node point).refused

    abbrev ended_at : ℕ → List Message
    ended_at point = of_flow flow (received_at w point)

    -- what came is made up of what was accepted, and of what was refused or ended there
    between : (from point : ℕ) → OnlyPasses flow w from point → AreLeft (accepted_at point) (refused_at point) (ended_at point) (came_over flow w from point)
    between from point o =
        let x : NetworkNode = w.node point in
        let p : PassesInOrder x = passes point in
        let test : Message → Bool = is_of_flow flow in
        let texts : List Message = map (λ a. a.message) x.arrived in
        let same : of_flow flow p.passed ≡ accepted_at point =
        merged-alone (of_flow flow p.passed) (of_flow flow (users_of x.entered)) (of_flow flow (users_of x.accepted))
        (merged-filter test p.passed (users_of x.entered) (users_of x.accepted) p.accepted) (of-users x.entered ∙ o.enters)
        ∙ of-users x.accepted in
        let onward : AreMerged (of_flow flow p.passed) (refused_at point) (of_flow flow (onward_at x)) =
        subst (AreMerged (of_flow flow p.passed) (refused_at point)) (of-users (onward_at x)) (merged-filter test p.passed x.refused (users_of (onward_at x)) p.came) in
        let split : AreMerged (of_flow flow (onward_at x)) (ended_at point) (of_flow flow texts) =
        merged-filter test (onward_at x) (received_at w point) texts (merged-split (goes_onward x.exchange.settings) texts) in
        let its : AreLeft (of_flow flow p.passed) (refused_at point) (ended_at point) (of_flow flow texts) =
        merged-through (of_flow flow (onward_at x)) (ended_at point) (of_flow flow texts) (of_flow flow p.passed) (refused_at point) split onward in
        record {
          left = its.left;
          order =
              subst (λ (ms : List Message). AreMerged ms its.left (came_over flow w from point)) same
              (subst (AreMerged (of_flow flow p.passed) its.left) o.comes its.order);
          parts = its.parts;
        }

    -- ---- over a path

    five : (l c2 c1 lo w r e n c : ℕ) → l ≡ c2 + w → c2 ≡ lo + c1 → c1 ≡ r + e → lo ≡ n → l ≡ w + r + e + n
    five l c2 c1 lo w r e n c f g h i = omega (arith, f, g, h, i)

    pub over : (first : ℕ) (rest : List ℕ) → EachHopInOrder flow w first rest → EachOnlyPasses flow w first rest → ComesInOrder flow w first rest
    over first [] hops only = record { left = []; order = merged-one (accepted_at first); counted = λ test. refl }
    over first (last ∷ []) hops only =
        let came : List Message = came_over flow w first last in
        let waits : List Message = waits_over flow w first last in
        record {
          left = waits;
          order =
              subst (AreMerged came waits) (sym hops.0)
              (subst (λ (ms : List Message). AreMerged ms waits (came ++ waits)) (append-nil came)
              (merged-append came [] came [] waits waits (merged-one came) (merged-other waits)));
          counted = λ test. refl;
        }
    over first (next ∷ another ∷ rest) hops only =
        let came : List Message = came_over flow w first next in
        let waits : List Message = waits_over flow w first next in
        let last : List Message = came_last flow w (accepted_at next) next (another ∷ rest) in
        let later : ComesInOrder flow w next (another ∷ rest) = over next (another ∷ rest) hops.1 only.1 in
        let here : AreLeft (accepted_at next) (refused_at next) (ended_at next) came = between first next only.0 in
        let both : AreLeft last later.left here.left came = merged-through (accepted_at next) here.left came last later.left here.order later.order in
        record {
          left = both.left ++ waits;
          order =
              subst (AreMerged last (both.left ++ waits)) (sym hops.0)
              (subst (λ (ms : List Message). AreMerged ms (both.left ++ waits) (came ++ waits)) (append-nil last)
              (merged-append last both.left came [] waits waits both.order (merged-other waits)));
          counted = λ test.
              five (count_by test (both.left ++ waits)) (count_by test both.left) (count_by test here.left) (count_by test later.left) (count_by test waits) (count_by test (refused_at next))
              (count_by test (ended_at next)) (left_on test flow w next (another ∷ rest)) 0
              (count-append test both.left waits) (merged-count test later.left here.left both.left both.parts) (merged-count test (refused_at next) (ended_at next) here.left here.parts)
              (later.counted test);
        }

pub paths : paths_keep_the_order_of_their_hops
paths w changes flow first rest hops only = over flow _ (all-pass w changes) first rest hops only

-- ---- the last hop

module _ (point sls : ℕ) where
  abbrev its : Flow
  its = record { point = point; sls = sls }

  -- they are user messages for the point
  pub to-point : (ms : List Message) → of_flow its (users_to point ms) ≡ of_flow its ms
  to-point [] = refl
  to-point (m ∷ ms) = by (is_management m) (nat_eq (dpc_of m) point) refl refl (to-point ms)
    where
      never : (t : Bool) → (not (is_management m) && (nat_eq (dpc_of m) point && t)) ≡ false → (if not (is_management m) && (nat_eq (dpc_of m) point && t) then m ∷ of_flow its ms else of_flow its ms) ≡ of_flow its ms
      never t e = ap (λ (b : Bool). if b then m ∷ of_flow its ms else of_flow its ms) e

      by : (b d : Bool) → is_management m ≡ b → nat_eq (dpc_of m) point ≡ d → of_flow its (users_to point ms) ≡ of_flow its ms
          → of_flow its (if not b && d then m ∷ users_to point ms else users_to point ms) ≡ of_flow its (m ∷ ms)
      by false true e f rest = ap (λ (xs : List Message). if is_of_flow its m then m ∷ xs else xs) rest
      by true d e f rest = rest ∙ sym (never (nat_eq (flow_of m).sls sls) (ap (λ (b : Bool). not b && (nat_eq (dpc_of m) point && nat_eq (flow_of m).sls sls)) e))
      by false false e f rest =
          rest
          ∙ sym (never (nat_eq (flow_of m).sls sls)
          (ap (λ (b : Bool). not (is_management m) && (b && nat_eq (flow_of m).sls sls)) f ∙ ap (λ (b : Bool). not b && false) e))

  joined : (f : ℕ → List Message) (n : ℕ) → of_flow its (join_to f n) ≡ join_to (λ k. of_flow its (f k)) n
  joined f zero = refl
  joined f (suc n) = filter-append (is_of_flow its) (join_to f n) (f n) ∙ ap (λ (ms : List Message). ms ++ of_flow its (f n)) (joined f n)

  module _ (p : PairState) (own : p.far.exchange.settings.own ≡ point) where
    abbrev waits_at : ℕ → List Message
    waits_at link = waits_on p link (far_end p link)

    on-link : (link : ℕ) (other : Option ℕ) → of_flow its (waiting_by p link other) ≡ of_flow its (waits_on p link other)
    on-link link None = refl
    on-link link (Some other) =
        ap (λ (k : ℕ). of_flow its (users_to k (drop (accepted_there p link other) (queue_of p.near link).all))) own
        ∙ to-point (drop (accepted_there p link other) (queue_of p.near link).all)

    -- what waits of it
    waits-same : (held : List Message) (n : ℕ) → of_flow its (join_to (waiting_on p) n ++ users_to p.far.exchange.settings.own held) ≡ of_flow its (join_to waits_at n ++ held)
    waits-same held n =
        filter-append (is_of_flow its) (join_to (waiting_on p) n) (users_to p.far.exchange.settings.own held)
        ∙ ap (λ (ms : List Message). ms ++ of_flow its (users_to p.far.exchange.settings.own held))
        (joined (waiting_on p) n ∙ join-alike (λ k. of_flow its (waits_at k)) (λ k. of_flow its (waiting_on p k)) n (λ k less. on-link k (far_end p k)) ∙ sym (joined waits_at n))
        ∙ ap (λ (ms : List Message). of_flow its (join_to waits_at n) ++ ms) (ap (λ (k : ℕ). of_flow its (users_to k held)) own ∙ to-point held)
        ∙ sym (filter-append (is_of_flow its) (join_to waits_at n) held)

module _ (w : NetworkState) (near far sls : ℕ) (own : (w.node far).exchange.settings.own ≡ far) where
  abbrev p : PairState
  p = pair_of w near far

  abbrev flow : Flow
  flow = its far sls

  abbrev came : List Message
  came = came_from (w.node far).exchange.settings (w.node near).exchange.settings (w.node far).arrived

  pub hop : InOrder p → KeepsInOrder flow w near far
  hop in_order =
      sym (ap (λ (k : ℕ). of_flow flow (users_to k (w.node near).accepted)) own ∙ to-point far sls (w.node near).accepted)
      ∙ in_order flow
      ∙ ap (λ (ms : List Message). ms ++ of_flow flow (waiting p)) (ap (λ (k : ℕ). of_flow flow (users_to k came)) own ∙ to-point far sls came)
      ∙ ap (λ (ms : List Message). of_flow flow came ++ ms) (waits-same far sls p own (w.node near).exchange.node.queues.held (length (w.node near).exchange.settings.links))

pub last-hop : last_hops_keep_flows_in_order
last-hop settings moves near far sls points well sharing kept punctual =
    hop (after_moves moves (first_network settings)) near far sls (ap (λ (c : Configuration). c.own) (moves-keep moves (first_network settings) far) ∙ points far)
    ((order settings moves near far points well sharing kept).there punctual)

pub last-anew : last_hops_begin_anew
last-anew settings changes near far points well sharing quiet later sls apart since stays =
    let w : NetworkState = after_all changes (first_network settings) in
    hop (after_all later (begun_anew w)) near far sls
    (ap (λ (c : Configuration). c.own) (changes-keep later (begun_anew w) far ∙ changes-keep changes (first_network settings) far) ∙ points far)
    ((neighbours-anew settings changes near far points well sharing quiet later apart since).there.order stays)

-- Each list of changes is a list of moves, from whatever network shows the state before it. It breaks no node that it
-- spares, unless that counted it.
use Rattle.node_moves.proofs.Basics.{◌≡◌, ◌≢◌, ℕ, suc, Bool, true, false, not, ◌&&◌, ◌≤◌, ◌<◌, List, [], ◌∷◌, ◌++◌, length, Ok, Err, Result, nat_lt, refl, ap, sym, subst, ◌∙◌, arith, nat_tests, append-nil, if◌then◌else◌, ⊎_elim, cases_eq, cases_lt}
use Rattle.node_moves.proofs.Machine as machine
use Rattle.node_moves.proofs.Machine.{Frame, Line, Network, Shape, line_at, one_if, saying, Move, Moves, last_of}
use Rattle.node_moves.proofs.Definitions.{Configuration, Node, WholeQueues, peer_of}
use Rattle.node_moves.proofs.Grown.{Grown, IsUnraised, same-grown, both-grown, unraised-first, unraised-then}
use Rattle.node_moves.proofs.Reading.{IsShape, KnowsOutside, says_of}
use Rattle.node_moves.proofs.Shown.{Shows}
use Rattle.node_moves.proofs.Going.{IsAt, last-append, moves-append}
use Rattle.node_moves.proofs.Flights.{IsSameFlight, changed-here, changed-other, updated-here, updated-other}
use Rattle.node_moves.proofs.World.{IsFlown, AreData, AreStatuses, IsData, IsStatus, Shown, rests, place_at}
use Rattle.node_moves.proofs.Steps.{StepGoes, Reaches}
use Rattle.node_moves.proofs.Running.{all-steps}
use Rattle.node_moves.proofs.Malformed.{malformed-step}
use Rattle.node_moves.proofs.FromOutside.{Comes_so, data-more, statuses-more, speaks-own, outside_of, outside-move, outside-broken, outside-shown}
use Rattle.node_moves.proofs.StartedAgain.{after, restart-shown, restart-move, restart-broken}
use Rattle.node_moves.proofs.GivenUp as given
use Rattle.node_moves.specs.Anew.{Change, Does, Restarts, GivesUp, OpensOutside, ComesOutside, restarted, given_up, after_change, after_changes}
use Rattle.node_moves.specs.Outside.{ArePlaced, leads_out, may_come, put_in}
use Rattle.node_moves.specs.Networks.{NetworkNode, NetworkState, IsNode, be_led, is_node, changed, updated}
use Rattle.m2pa_codec.specs.Frames.{FrameValue, EmptyFrame, MessageFrame, StatusFrame, read_frame}
use Rattle.signalling_types.specs.declared.notice.FrameFault.{FrameFault}
use Rattle.network_moves.proofs.Lasting.{lasts-after}
use Rattle.network_moves.specs.Networks.{frames_by, spoofs}

-- changes by which none of these nodes starts again, or gives up following
abbrev pub Spares : (kept : ℕ → Bool) → Change → Type 0
Spares kept (Does step) = Unit {0}
Spares kept (Restarts point) = kept point ≡ false
Spares kept (GivesUp point link) = kept point ≡ false
Spares kept (OpensOutside point link) = Unit {0}
Spares kept (ComesOutside point link text) = Unit {0}

abbrev pub SpareAll : (kept : ℕ → Bool) → List Change → Type 0
SpareAll kept [] = Unit {0}
SpareAll kept (change ∷ changes) = Spares kept change × SpareAll kept changes

abbrev pub nobody : ℕ → Bool
nobody point = false

pub spares-nobody : (changes : List Change) → SpareAll nobody changes
spares-nobody [] = tt
spares-nobody (Does step ∷ changes) = (tt, spares-nobody changes)
spares-nobody (Restarts point ∷ changes) = (refl, spares-nobody changes)
spares-nobody (GivesUp point link ∷ changes) = (refl, spares-nobody changes)
spares-nobody (OpensOutside point link ∷ changes) = (tt, spares-nobody changes)
spares-nobody (ComesOutside point link text ∷ changes) = (tt, spares-nobody changes)

module _ (settings : (point : ℕ) → Configuration) (t : ArePlaced settings) (shape : Shape) (o : IsShape shape) where
  abbrev pub AreAt : Network → Type 0
  AreAt p = (point : ℕ) → IsNode settings point → IsAt shape (settings point) p

  pub at-after : (p : Network) (networks : List Network) → Moves shape says_of p networks → AreAt p → AreAt (last_of p networks)
  at-after p networks ms h = λ x fx. record { lasts = lasts-after shape says_of p networks ms (h x fx).lasts; led = (h x fx).led }

  module _ (kept : ℕ → Bool) (are_nodes : (point : ℕ) → kept point ≡ true → IsNode settings point) where
    pub record Comes (w : NetworkState) (p : Network) (v : NetworkState) : Type 0 where
      pub networks : List Network
      pub moves : Moves shape says_of p networks
      pub broken : (point : ℕ) → kept point ≡ true → (IsNode settings point → IsUnraised (w.node point).node.parts.times_broken (v.node point).node.parts.times_broken)
          → (last_of p networks).broken point ≡ p.broken point
      pub shown : Shown settings t v (last_of p networks)

    pub record ChangeGoes (w v : NetworkState) : Type 0 where
      pub grown : (point : ℕ) → kept point ≡ true → IsNode settings point → Grown (w.node point).node.parts.times_broken (v.node point).node.parts.times_broken
      pub goes : (p : Network) → AreAt p → Shown settings t w p → Comes w p v

    -- a node that is spared is another than one that isn't
    spared-apart : (x : ℕ) → kept x ≡ false → (point : ℕ) → kept point ≡ true → point ≢ x
    spared-apart x out point e same = (let no : true ≡ false = sym e ∙ ap kept same ∙ out in absurd cc)

    no-change : (w : NetworkState) → ChangeGoes w w
    no-change w = record {
      grown = λ point e f. same-grown refl;
      goes = λ p h s. record { networks = []; moves = tt; broken = λ point e none. refl; shown = s };
    }

    by-step : (w v : NetworkState) → StepGoes settings t shape o w v → ChangeGoes w v
    by-step w v g = record {
      grown = λ point e f. g.grown point f;
      goes = λ p h s.
          (let r : Reaches settings t shape o w p v = g.goes p h s in record { networks = r.networks; moves = r.moves; broken = λ point e none. r.broken point none; shown = r.shown });
    }

    -- a point without a node shows nothing
    unseen : (w : NetworkState) (p : Network) (x : ℕ) (f : NetworkNode → NetworkNode) → is_node settings x ≡ false → Shown settings t w p → Shown settings t (changed x f w) p
    unseen w p x f none s =
        let apart : (y : ℕ) → IsNode settings y → y ≢ x = λ y fy same. (let no : true ≡ false = sym fy ∙ ap (is_node settings) same ∙ none in absurd cc) in
        record {
          nodes = λ y fy. subst (λ (e : NetworkNode). Shows (settings y) p (rests settings t e)) (sym (changed-other x f w y (apart y fy))) (s.nodes y fy);
          flown = λ y l fy k. subst (λ (e : NetworkNode). IsFlown e l (line_at p (place_at settings t y l))) (sym (changed-other x f w y (apart y fy))) (s.flown y l fy k);
          idle = s.idle;
        }

    -- a node that isn't spared becomes another
    by-other : (w : NetworkState) (x : ℕ) (f : NetworkNode → NetworkNode) → kept x ≡ false → ((p : Network) → Shown settings t w p → Comes w p (changed x f w)) → ChangeGoes w (changed x f w)
    by-other w x f out goes = record {
      grown = λ point e fp. same-grown (ap (λ (y : NetworkNode). y.node.parts.times_broken) (changed-other x f w point (spared-apart x out point e)));
      goes = λ p h s. goes p s;
    }

    by-restart : (w : NetworkState) (x : ℕ) → kept x ≡ false → ChangeGoes w (changed x (restarted (settings x)) w)
    by-restart w x out = by-other w x (restarted (settings x)) out (by (is_node settings x) refl)
      where
        by : (b : Bool) → is_node settings x ≡ b → (p : Network) → Shown settings t w p → Comes w p (changed x (restarted (settings x)) w)
        by true fx p s = record {
          networks = after settings t shape o w p s x fx ∷ [];
          moves = (restart-move settings t shape o w p s x fx, tt);
          broken = λ point e none. restart-broken settings t shape o w p s x fx point (spared-apart x out point e);
          shown = restart-shown settings t shape o w p s x fx;
        }
        by false none p s = record { networks = []; moves = tt; broken = λ point e same. refl; shown = unseen w p x (restarted (settings x)) none s }

    by-giving-up : (w : NetworkState) (x link : ℕ) → kept x ≡ false → ChangeGoes w (changed x (given_up link) w)
    by-giving-up w x link out = by-other w x (given_up link) out (by (is_node settings x) refl)
      where
        by : (b : Bool) → is_node settings x ≡ b → (p : Network) → Shown settings t w p → Comes w p (changed x (given_up link) w)
        by true fx p s =
            ⊎_elim
            (λ (inside : link < length (settings x).links). record {
              networks = given.after settings t w x link shape o p s fx inside ∷ [];
              moves = (given.given-up-move settings t w x link shape o p s fx inside, tt);
              broken = λ point e none. given.given-up-broken settings t w x link shape o p s fx inside point (spared-apart x out point e);
              shown = given.given-up-shown settings t w x link shape o p s fx inside;
            })
            (λ (past : length (settings x).links ≤ link). record { networks = []; moves = tt; broken = λ point e same. refl; shown = given.unheeded settings t w x link p s past })
            (cases_lt link (length (settings x).links))
        by false none p s = record { networks = []; moves = tt; broken = λ point e same. refl; shown = unseen w p x (given_up link) none s }

    -- ---- from outside

    -- what comes so changes no node but in what is in flight to it
    by-outside : (w : NetworkState) (x link : ℕ) (f : NetworkNode → NetworkNode) (fx : IsNode settings x) (inside : link < length (settings x).links) (out : is_node settings (peer_of (settings x) link) ≡ false)
        → (f (w.node x)).node ≡ (w.node x).node → ((p : Network) (s : Shown settings t w p) → Comes_so settings t shape o w p s x link fx inside out f) → ChangeGoes w (changed x f w)
    by-outside w x link f fx inside out same comes = record {
      grown = λ point e fp.
          ⊎_elim
          (λ (is : point ≡ x).
          subst (λ (i : ℕ). Grown (w.node i).node.parts.times_broken ((changed x f w).node i).node.parts.times_broken) (sym is)
          (same-grown (ap (λ (y : NetworkNode). y.node.parts.times_broken) (changed-here x f w) ∙ ap (λ (n : Node WholeQueues). n.parts.times_broken) same)))
          (λ (d : point ≢ x). same-grown (ap (λ (y : NetworkNode). y.node.parts.times_broken) (changed-other x f w point d)))
          (cases_eq point x);
      goes = λ p h s. record {
        networks = outside_of settings t shape o w p s x link fx inside out f (comes p s) ∷ [];
        moves = (outside-move settings t shape o w p s x link fx inside out f (comes p s), tt);
        broken = λ point e none. outside-broken settings t shape o w p s x link fx inside out f (comes p s) point (are_nodes point e);
        shown = outside-shown settings t shape o w p s x link fx inside out f (comes p s);
      };
    }

    same-flights : (w : NetworkState) (x link : ℕ) → (l : ℕ) → IsSameFlight (w.node x) (w.node x) l
    same-flights w x link l = record { user_data = refl; statuses = refl; follows = refl; came = refl }

    opens-outside : (w : NetworkState) (x link : ℕ) → IsNode settings x → link < length (settings x).links → is_node settings (peer_of (settings x) link) ≡ false → ChangeGoes w (changed x (be_led link) w)
    opens-outside w x link fx inside out = by-outside w x link (be_led link) fx inside out refl (λ p s. record {
      left = [];
      fewer = λ test. omega arith;
      new = [];
      own = refl;
      told = 0;
      follows = true;
      user_data = subst (λ (texts : List (List ℕ)). AreData texts []) (sym (updated-here (w.node x).user_data link [])) tt;
      statuses = subst (λ (texts : List (List ℕ)). AreStatuses texts 0) (sym (updated-here (w.node x).statuses link [])) tt;
      may_follow = updated-here (w.node x).follows link true;
      came = refl;
      others = λ l d. record {
        user_data = updated-other (w.node x).user_data link [] l d;
        statuses = updated-other (w.node x).statuses link [] l d;
        follows = updated-other (w.node x).follows link true l d;
        came = refl;
      };
      rests_same = refl;
    })

    -- User Data
    data-outside : (w : NetworkState) (x link : ℕ) (text : List ℕ) (frame : Frame) → IsNode settings x → link < length (settings x).links → is_node settings (peer_of (settings x) link) ≡ false → IsData text frame
        → frames_by (saying says_of (spoofs shape (place_at settings t x link).link)) (frame ∷ []) ≡ 0
        → ChangeGoes w (changed x (λ e. record e { user_data = updated e.user_data link (e.user_data link ++ text ∷ []) }) w)
    data-outside w x link text frame fx inside out is own = by-outside w x link (λ e. record e { user_data = updated e.user_data link (e.user_data link ++ text ∷ []) }) fx inside out refl (λ p s.
        let y : Line = line_at p (place_at settings t x link) in
        let g : IsFlown (w.node x) link y = s.flown x link fx inside in
        record {
          left = y.to_near;
          fewer = λ test. omega arith;
          new = frame ∷ [];
          own = own;
          told = y.told_near;
          follows = y.near_may_follow;
          user_data =
              subst (λ (texts : List (List ℕ)). AreData texts (y.to_near ++ frame ∷ [])) (sym (updated-here (w.node x).user_data link ((w.node x).user_data link ++ text ∷ [])))
              (data-more ((w.node x).user_data link) y.to_near text frame g.user_data is);
          statuses = g.statuses;
          may_follow = g.follows;
          came = refl;
          others = λ l d. record { user_data = updated-other (w.node x).user_data link ((w.node x).user_data link ++ text ∷ []) l d; statuses = refl; follows = refl; came = refl };
          rests_same = refl;
        })

    -- a link status
    status-outside : (w : NetworkState) (x link : ℕ) (text : List ℕ) → IsNode settings x → link < length (settings x).links → is_node settings (peer_of (settings x) link) ≡ false → IsStatus text
        → ChangeGoes w (changed x (λ e. record e { statuses = updated e.statuses link (e.statuses link ++ text ∷ []) }) w)
    status-outside w x link text fx inside out is = by-outside w x link (λ e. record e { statuses = updated e.statuses link (e.statuses link ++ text ∷ []) }) fx inside out refl (λ p s.
        let y : Line = line_at p (place_at settings t x link) in
        let g : IsFlown (w.node x) link y = s.flown x link fx inside in
        record {
          left = y.to_near;
          fewer = λ test. omega arith;
          new = [];
          own = refl;
          told = suc y.told_near;
          follows = y.near_may_follow;
          user_data = subst (AreData ((w.node x).user_data link)) (sym (append-nil y.to_near)) g.user_data;
          statuses =
              subst (λ (texts : List (List ℕ)). AreStatuses texts (suc y.told_near)) (sym (updated-here (w.node x).statuses link ((w.node x).statuses link ++ text ∷ [])))
              (statuses-more ((w.node x).statuses link) y.told_near text g.statuses is);
          may_follow = g.follows;
          came = refl;
          others = λ l d. record { user_data = refl; statuses = updated-other (w.node x).statuses link ((w.node x).statuses link ++ text ∷ []) l d; follows = refl; came = refl };
          rests_same = refl;
        })

    unmoved : (w : NetworkState) (x : ℕ) → ChangeGoes w (changed x (λ e. e) w)
    unmoved w x = record {
      grown = λ point e fp. same-grown (ap (λ (y : NetworkNode). y.node.parts.times_broken) (itself point));
      goes = λ p h s. record {
        networks = [];
        moves = tt;
        broken = λ point e none. refl;
        shown = record {
          nodes = λ y fy. subst (λ (e : NetworkNode). Shows (settings y) p (rests settings t e)) (sym (itself y)) (s.nodes y fy);
          flown = λ y l fy k. subst (λ (e : NetworkNode). IsFlown e l (line_at p (place_at settings t y l))) (sym (itself y)) (s.flown y l fy k);
          idle = s.idle;
        };
      };
    }
      where
        itself : (y : ℕ) → (changed x (λ e. e) w).node y ≡ w.node y
        itself y =
            ⊎_elim
            (λ (is : y ≡ x). subst (λ (i : ℕ). (changed x (λ e. e) w).node i ≡ w.node i) (sym is) (changed-here x (λ e. e) w))
            (λ (d : y ≢ x). changed-other x (λ e. e) w y d)
            (cases_eq y x)

    text-outside : KnowsOutside settings shape → (w : NetworkState) (x link : ℕ) (text : List ℕ) (r : Result FrameValue FrameFault) → read_frame text ≡ r → IsNode settings x → link < length (settings x).links
        → is_node settings (peer_of (settings x) link) ≡ false → ChangeGoes w (changed x (put_in settings x link text r) w)
    text-outside known w x link text (Ok (StatusFrame bsn fsn status)) e fx inside out = status-outside w x link text fx inside out (record { value = StatusFrame bsn fsn status; reads = e; status = refl })
    text-outside known w x link text (Ok (EmptyFrame bsn fsn)) e fx inside out =
        data-outside w x link text (machine.EmptyFrame fsn bsn) fx inside out (record { value = EmptyFrame bsn fsn; reads = e; carries = refl }) refl
    text-outside known w x link text (Ok (MessageFrame bsn fsn sio sif)) e fx inside out = by (may_come settings (record { sio = sio; sif = sif })) refl
      where
        by : (b : Bool) → may_come settings (record { sio = sio; sif = sif }) ≡ b
            → ChangeGoes w (changed x (λ q. if b then record q { user_data = updated q.user_data link (q.user_data link ++ text ∷ []) } else q) w)
        by true may =
            data-outside w x link text (machine.MessageFrame fsn bsn (record { sio = sio; sif = sif })) fx inside out (record { value = MessageFrame bsn fsn sio sif; reads = e; carries = refl })
            (let own : one_if (saying says_of (spoofs shape (place_at settings t x link).link) (record { sio = sio; sif = sif })) ≡ 0 = speaks-own settings shape o known (place_at settings t x link).link (record { sio = sio; sif = sif }) may in omega (arith, own))
        by false may = unmoved w x
    text-outside known w x link text (Err fault) e fx inside out = by-step w _ (malformed-step settings t shape o w x link fx inside text fault e)

    -- where a link leads out
    if-out : (w : NetworkState) (x link : ℕ) (v : NetworkState) → (IsNode settings x → link < length (settings x).links → is_node settings (peer_of (settings x) link) ≡ false → ChangeGoes w v)
        → ChangeGoes w (if leads_out settings x link then v else w)
    if-out w x link v g = by (is_node settings x) (nat_lt link (length (settings x).links)) (is_node settings (peer_of (settings x) link)) refl refl refl
      where
        by : (a b d : Bool) → is_node settings x ≡ a → nat_lt link (length (settings x).links) ≡ b → is_node settings (peer_of (settings x) link) ≡ d → ChangeGoes w (if a && (b && not d) then v else w)
        by true true false e f k = g e (grind (arith, nat_tests, f)) k
        by true true true e f k = no-change w
        by true false d e f k = no-change w
        by false b d e f k = no-change w

    both-changes : (w v u : NetworkState) → ChangeGoes w v → ChangeGoes v u → ChangeGoes w u
    both-changes w v u f g = record {
      grown = λ point e fp. both-grown (f.grown point e fp) (g.grown point e fp);
      goes = λ p h s.
          let a : Comes w p v = f.goes p h s in
          let b : Comes v (last_of p a.networks) u = g.goes (last_of p a.networks) (at-after p a.networks a.moves h) a.shown in
          record {
            networks = a.networks ++ b.networks;
            moves = moves-append shape p a.networks b.networks a.moves b.moves;
            broken = λ point e none.
                ap (λ (q : Network). q.broken point) (last-append shape p a.networks b.networks)
                ∙ b.broken point e (λ fp. unraised-then (f.grown point e fp) (g.grown point e fp) (none fp))
                ∙ a.broken point e (λ fp. unraised-first (f.grown point e fp) (g.grown point e fp) (none fp));
            shown = subst (Shown settings t u) (sym (last-append shape p a.networks b.networks)) b.shown;
          };
    }

    one-change : KnowsOutside settings shape → (change : Change) → Spares kept change → (w : NetworkState) → ChangeGoes w (after_change settings change w)
    one-change known (Does step) spared w = by-step w (after_change settings (Does step) w) (all-steps settings t shape o (step ∷ []) w)
    one-change known (Restarts point) spared w = by-restart w point spared
    one-change known (GivesUp point link) spared w = by-giving-up w point link spared
    one-change known (OpensOutside point link) spared w = if-out w point link (changed point (be_led link) w) (opens-outside w point link)
    one-change known (ComesOutside point link text) spared w =
        if-out w point link (changed point (put_in settings point link text (read_frame text)) w) (text-outside known w point link text (read_frame text) refl)

    pub all-changes : KnowsOutside settings shape → (changes : List Change) → SpareAll kept changes → (w : NetworkState) → ChangeGoes w (after_changes settings changes w)
    all-changes known [] spared w = no-change w
    all-changes known (change ∷ changes) spared w =
        both-changes w (after_change settings change w) (after_changes settings changes (after_change settings change w)) (one-change known change spared.0 w) (all-changes known changes spared.1 (after_change settings change w))

-- A link takes its flows back from one other link after another: which pairs are added, and what stays.
use Rattle.exchange_rules.proofs.Basics.{◌≡◌, ◌≢◌, ◌<◌, ◌⊎◌, ℕ, zero, suc, Bool, true, false, ◌&&◌, not, length, nat_eq, Option, Some, None, refl, ap, sym, ◌∙◌, arith, inl, inr, if◌then◌else◌, ⊎_elim, cases_eq}
use Rattle.exchange_rules.proofs.Definitions.{Configuration, Facts, chosen_link, Procedure, HoldSet, holds, is_held, may_hold, any_flow, with_flows, may-alike, IsSameNode, flows-same_node, codes_of, QueueKind, Node, with_parts, goes_by, set_of, is_taken_back, loses_flows, procedure_by, code_for, declare_by, hold_flows, take_back, take_back_each}
use Rattle.flow_hold.proofs.FlowPairs.{IsAddedPair, flows_has, flows_keep, flows_was, flows_keep_held}
use Rattle.exchange_rules.proofs.Places.{length-codes}

module _ {Q : Type 0} (q : QueueKind Q) (c : Configuration) where
  -- ---- what stays

  -- a node with as many codes of each set as another, and with its links and routes, whose holds are of the same node
  pub record IsAlike (n m : Node Q) : Type 0 where
    pub places : IsSameNode n.parts.holds m.parts.holds
    pub links : n.parts.links ≡ m.parts.links
    pub routes : n.parts.routes ≡ m.parts.routes
    pub codes : (set : ℕ) → length (codes_of n.parts.codes set) ≡ length (codes_of m.parts.codes set)

  itself-alike : (n : Node Q) → IsAlike n n
  itself-alike n = record { places = record { links = refl; sets = refl; destinations = refl }; links = refl; routes = refl; codes = λ set. refl }

  declare_by-alike : (code : Option ℕ) (link other : ℕ) (n m : Node Q) → IsAlike n m → IsAlike (declare_by q c code link other n) m
  declare_by-alike (Some code) link other n m a = record {
    places = a.places;
    links = a.links;
    routes = a.routes;
    codes = λ set. length-codes n.parts.codes (set_of c link) code set true ∙ a.codes set;
  }
  declare_by-alike None link other n m a = record { places = a.places; links = a.links; routes = a.routes; codes = a.codes }

  held-alike : (test : ℕ → ℕ → Bool) (procedure : Procedure) (n m : Node Q) → IsAlike n m → IsAlike (with_parts n (record n.parts { holds = with_flows n.parts.holds procedure test })) m
  held-alike test procedure n m a =
      let same : IsSameNode (with_flows n.parts.holds procedure test) n.parts.holds = flows-same_node n.parts.holds procedure test in
      record {
        places = record { links = same.links ∙ a.places.links; sets = same.sets ∙ a.places.sets; destinations = same.destinations ∙ a.places.destinations };
        links = a.links;
        routes = a.routes;
        codes = a.codes;
      }

  either-alike : (b : Bool) (n o m : Node Q) → IsAlike n m → IsAlike o m → IsAlike (if b then n else o) m
  either-alike true n o m e f = e
  either-alike false n o m e f = f

  -- a declaration touches no hold
  declare_by-holds : (code : Option ℕ) (link other : ℕ) (n : Node Q) → (declare_by q c code link other n).parts.holds ≡ n.parts.holds
  declare_by-holds (Some code) link other n = refl
  declare_by-holds None link other n = refl

  module _ (before after : Facts) (link : ℕ) where
    pub take_back_each-alike : (many : ℕ) (n : Node Q) → IsAlike (take_back_each q c before after link many n) n
    unfolding take_back_each
    take_back_each-alike zero n = itself-alike n
    take_back_each-alike (suc other) n =
        let one : Node Q = take_back_each q c before after link other n in
        let code : Option ℕ = code_for q c link other one in
        let e : IsAlike one n = take_back_each-alike other n in
        either-alike (loses_flows c before after other link) (hold_flows q c before after code link other one) one n
        (held-alike (is_taken_back before after other link) (procedure_by c link code) (declare_by q c code link other one) n (declare_by-alike code link other one n e)) e

    -- what holds the flows that come from another link
    abbrev pub holder_of : (other : ℕ) → Node Q → Procedure
    holder_of other n = procedure_by c link (code_for q c link other (take_back_each q c before after link other n))

    -- a pair is added: that of a flow which one of the first n links loses, with what holds those
    pub record IsTakenFrom (many : ℕ) (n : Node Q) (procedure : Procedure) (destination sls : ℕ) : Type 0 where
      pub other : ℕ
      pub below : other < many
      pub loses : loses_flows c before after other link ≡ true
      pub taken : is_taken_back before after other link destination sls ≡ true
      pub by : holder_of other n ≡ procedure
      pub may : may_hold n.parts.holds procedure destination sls ≡ true

    -- ---- one link more

    step-keeps : (b : Bool) (other : ℕ) (one : Node Q) (procedure : Procedure) (destination sls : ℕ) → holds one.parts.holds procedure destination sls ≡ true
        → holds (if b then hold_flows q c before after (code_for q c link other one) link other one else one).parts.holds procedure destination sls ≡ true
    step-keeps true other one procedure destination sls e =
        let code : Option ℕ = code_for q c link other one in
        flows_keep (declare_by q c code link other one).parts.holds (procedure_by c link code) procedure (is_taken_back before after other link) destination sls
        (ap (λ (h : HoldSet). holds h procedure destination sls) (declare_by-holds code link other one) ∙ e)
    step-keeps false other one procedure destination sls e = e

    step-keeps_held : (b : Bool) (other : ℕ) (one : Node Q) (destination sls : ℕ) → is_held one.parts.holds destination sls ≡ true
        → is_held (if b then hold_flows q c before after (code_for q c link other one) link other one else one).parts.holds destination sls ≡ true
    step-keeps_held true other one destination sls e =
        let code : Option ℕ = code_for q c link other one in
        flows_keep_held (declare_by q c code link other one).parts.holds (procedure_by c link code) (is_taken_back before after other link) destination sls
        (ap (λ (h : HoldSet). is_held h destination sls) (declare_by-holds code link other one) ∙ e)
    step-keeps_held false other one destination sls e = e

    step-has : (b : Bool) (other : ℕ) (one : Node Q) (destination sls : ℕ) → b ≡ true → is_taken_back before after other link destination sls ≡ true
        → may_hold one.parts.holds (procedure_by c link (code_for q c link other one)) destination sls ≡ true
        → holds (if b then hold_flows q c before after (code_for q c link other one) link other one else one).parts.holds (procedure_by c link (code_for q c link other one)) destination sls ≡ true
    step-has true other one destination sls e taken may =
        let code : Option ℕ = code_for q c link other one in
        flows_has (declare_by q c code link other one).parts.holds (procedure_by c link code) (is_taken_back before after other link) destination sls
        (ap (λ (h : HoldSet). may_hold h (procedure_by c link code) destination sls) (declare_by-holds code link other one) ∙ may) taken
    step-has false other one destination sls e taken may = absurd cc

    step-was : (b : Bool) (other : ℕ) (n : Node Q) (procedure : Procedure) (destination sls : ℕ) → loses_flows c before after other link ≡ b
        → (holds (take_back_each q c before after link other n).parts.holds procedure destination sls ≡ true → IsTakenFrom (suc other) n procedure destination sls ⊎ (holds n.parts.holds procedure destination sls ≡ true))
        → holds (if b then hold_flows q c before after (code_for q c link other (take_back_each q c before after link other n)) link other (take_back_each q c before after link other n) else take_back_each q c before after link other n).parts.holds procedure destination sls ≡ true
        → IsTakenFrom (suc other) n procedure destination sls ⊎ (holds n.parts.holds procedure destination sls ≡ true)
    step-was true other n procedure destination sls b rest e =
        let one : Node Q = take_back_each q c before after link other n in
        let code : Option ℕ = code_for q c link other one in
        let test : (ℕ → ℕ → Bool) = is_taken_back before after other link in
        ⊎_elim
        (λ (a : IsAddedPair (declare_by q c code link other one).parts.holds (procedure_by c link code) test procedure destination sls).
        inl (record {
          other = other;
          below = omega arith;
          loses = b;
          taken = a.passing;
          by = sym a.by;
          may = sym (may-alike n.parts.holds one.parts.holds procedure destination sls (take_back_each-alike other n).places.links (take_back_each-alike other n).places.sets (take_back_each-alike other n).places.destinations)
              ∙ ap (λ (x : HoldSet). may_hold x procedure destination sls) (sym (declare_by-holds code link other one))
              ∙ ap (λ (p : Procedure). may_hold (declare_by q c code link other one).parts.holds p destination sls) a.by
              ∙ a.may;
        }))
        (λ (h : holds (declare_by q c code link other one).parts.holds procedure destination sls ≡ true).
        rest (ap (λ (x : HoldSet). holds x procedure destination sls) (sym (declare_by-holds code link other one)) ∙ h))
        (flows_was (declare_by q c code link other one).parts.holds (procedure_by c link code) procedure test destination sls e)
    step-was false other n procedure destination sls b rest e = rest e

    taken-more : (many : ℕ) (n : Node Q) (procedure : Procedure) (destination sls : ℕ) → IsTakenFrom many n procedure destination sls → IsTakenFrom (suc many) n procedure destination sls
    taken-more many n procedure destination sls t = record { other = t.other; below = omega (arith, t.below); loses = t.loses; taken = t.taken; by = t.by; may = t.may }

    -- ---- all of them

    -- what was held stays held, by whatever held it
    pub pairs_stay : (many : ℕ) (n : Node Q) (procedure : Procedure) (destination sls : ℕ) → holds n.parts.holds procedure destination sls ≡ true
        → holds (take_back_each q c before after link many n).parts.holds procedure destination sls ≡ true
    unfolding take_back_each
    pairs_stay zero n procedure destination sls e = e
    pairs_stay (suc other) n procedure destination sls e =
        step-keeps (loses_flows c before after other link) other (take_back_each q c before after link other n) procedure destination sls (pairs_stay other n procedure destination sls e)

    pub flows_stay_held : (many : ℕ) (n : Node Q) (destination sls : ℕ) → is_held n.parts.holds destination sls ≡ true
        → is_held (take_back_each q c before after link many n).parts.holds destination sls ≡ true
    unfolding take_back_each
    flows_stay_held zero n destination sls e = e
    flows_stay_held (suc other) n destination sls e =
        step-keeps_held (loses_flows c before after other link) other (take_back_each q c before after link other n) destination sls (flows_stay_held other n destination sls e)

    -- a pair that is there was added, or was there
    pub pair_was : (many : ℕ) (n : Node Q) (procedure : Procedure) (destination sls : ℕ)
        → holds (take_back_each q c before after link many n).parts.holds procedure destination sls ≡ true
        → IsTakenFrom many n procedure destination sls ⊎ (holds n.parts.holds procedure destination sls ≡ true)
    unfolding take_back_each
    pair_was zero n procedure destination sls e = inr e
    pair_was (suc other) n procedure destination sls e =
        step-was (loses_flows c before after other link) other n procedure destination sls refl
        (λ f. ⊎_elim
        (λ (t : IsTakenFrom other n procedure destination sls). inl (taken-more other n procedure destination sls t))
        (λ (h : holds n.parts.holds procedure destination sls ≡ true). inr h)
        (pair_was other n procedure destination sls f)) e

    -- and each is there
    pub pair_added : (many : ℕ) (n : Node Q) (procedure : Procedure) (destination sls : ℕ)
        → IsTakenFrom many n procedure destination sls
        → holds (take_back_each q c before after link many n).parts.holds procedure destination sls ≡ true
    unfolding take_back_each
    pair_added zero n procedure destination sls t = absurd (omega (arith, t.below))
    pair_added (suc last) n procedure destination sls t =
        let one : Node Q = take_back_each q c before after link last n in
        let same : IsSameNode one.parts.holds n.parts.holds = (take_back_each-alike last n).places in
        ⊎_elim
        (λ (e : t.other ≡ last).
        let by : holder_of last n ≡ procedure = ap (λ (o : ℕ). holder_of o n) (sym e) ∙ t.by in
        ap (λ (p : Procedure). holds (take_back q c before after link last one).parts.holds p destination sls) (sym by)
        ∙ step-has (loses_flows c before after last link) last one destination sls
        (ap (λ (o : ℕ). loses_flows c before after o link) (sym e) ∙ t.loses) (ap (λ (o : ℕ). is_taken_back before after o link destination sls) (sym e) ∙ t.taken)
        (may-alike n.parts.holds one.parts.holds (holder_of last n) destination sls same.links same.sets same.destinations
        ∙ ap (λ (p : Procedure). may_hold n.parts.holds p destination sls) by ∙ t.may))
        (λ (d : t.other ≢ last).
        step-keeps (loses_flows c before after last link) last one procedure destination sls
        (pair_added last n procedure destination sls (record { other = t.other; below = omega (arith, t.below, d); loses = t.loses; taken = t.taken; by = t.by; may = t.may })))
        (cases_eq t.other last)

-- ---- what was known before

-- what counts of it is the link that each flow took
pub alike_before : {Q : Type 0} (q : QueueKind Q) (c : Configuration) (f g after : Facts) (link : ℕ) → ((destination sls : ℕ) → chosen_link f destination sls ≡ chosen_link g destination sls)
    → (many : ℕ) (n : Node Q) → take_back_each q c f after link many n ≡ take_back_each q c g after link many n
unfolding take_back_each
alike_before q c f g after link same zero n = refl
alike_before {Q} q c f g after link same (suc other) n =
    let one : Node Q = take_back_each q c g after link other n in
    let code : Option ℕ = code_for q c link other one in
    let begun : Node Q = declare_by q c code link other one in
    let tests : (is_taken_back f after other link ≡ is_taken_back g after other link) = λ i. λ destination sls. goes_by (same destination sls i) other && goes_by (chosen_link after destination sls) link in
    ap (λ (m : Node Q). take_back q c f after link other m) (alike_before q c f g after link same other n)
    ∙ ap (λ (test : ℕ → ℕ → Bool). if not (nat_eq other link) && any_flow (length c.destinations) test
    then with_parts begun (record begun.parts { holds = with_flows begun.parts.holds (procedure_by c link code) test }) else one) tests

-- As flows are held and lifted, and codes used, each link, set and destination keeps its index.
use Rattle.exchange_rules.proofs.Basics.{◌≡◌, ◌≢◌, ◌<◌, ◌≤◌, ℕ, Bool, true, false, List, [], ◌∷◌, length, replicate, refl, ap, sym, ◌∙◌, subst, arith, slice_set, if◌then◌else◌, ⊎_elim, cases_lt, cases_eq, get_or_past, get_or-set_same, get_or-set_other, get_or-replicate, length-set, length-replicate}
use Rattle.exchange_rules.proofs.Definitions.{CHANGEBACK_CODES, Configuration, Procedure, Code, Reroute, HoldSet, no_holds, with_hold, lifted, with_flows, IsSameNode, flows-same_node, flows_of_node, first_of_node, lifted_of_node, hold_of_node, Codes, codes_of, with_code, no_codes, HasHoldsFor, HasCodes}
use Rattle.changeback.specs.Rerouting.{held_for}

-- ---- codes

pub length-codes : (t : Codes) (set code other : ℕ) (b : Bool) → length (codes_of (with_code t set code b) other) ≡ length (codes_of t other)
length-codes t set code other b =
    let changed : List Bool = slice_set (codes_of t set) code b in
    ⊎_elim
    (λ (e : other ≡ set). subst (λ (s : ℕ). length (codes_of (with_code t set code b) s) ≡ length (codes_of t s)) (sym e)
    (⊎_elim
    (λ (h : set < length t). ap length (get_or-set_same t set changed [] h) ∙ length-set (codes_of t set) code b)
    (λ (h : length t ≤ set).
    ap length (get_or_past (slice_set t set changed) set [] (omega (arith, h, length-set t set changed))) ∙ sym (ap length (get_or_past t set [] h)))
    (cases_lt set (length t))))
    (λ (d : other ≢ set). ap length (get_or-set_other t set other changed [] d))
    (cases_eq other set)

pub no_codes-fits : (sets : ℕ) → HasCodes sets (no_codes sets)
no_codes-fits sets = record {
  rows = length-replicate sets (replicate CHANGEBACK_CODES false);
  each = λ set l. ap length (get_or-replicate sets set (replicate CHANGEBACK_CODES false) [] l) ∙ length-replicate CHANGEBACK_CODES false;
}

pub with_code-fits : (sets : ℕ) (t : Codes) (set code : ℕ) (b : Bool) → HasCodes sets t → HasCodes sets (with_code t set code b)
with_code-fits sets t set code b h = record {
  rows = length-set t set (slice_set (codes_of t set) code b) ∙ h.rows;
  each = λ other l. length-codes t set code other b ∙ h.each other l;
}

-- ---- the holds of an exchange

pub with_hold-fits : (c : Configuration) (h : HoldSet) (procedure : Procedure) (destination sls : ℕ) → HasHoldsFor c h
    → HasHoldsFor c (with_hold h procedure destination sls)
with_hold-fits c h procedure destination sls fits = record {
  links = fits.links;
  sets = fits.sets;
  destinations = fits.destinations;
  pairs = hold_of_node h procedure destination sls fits.pairs;
}

pub with_flows-fits : (c : Configuration) (h : HoldSet) (procedure : Procedure) (test : ℕ → ℕ → Bool) → HasHoldsFor c h → HasHoldsFor c (with_flows h procedure test)
with_flows-fits c h procedure test fits =
    let same : IsSameNode (with_flows h procedure test) h = flows-same_node h procedure test in
    record {
      links = same.links ∙ fits.links;
      sets = same.sets ∙ fits.sets;
      destinations = same.destinations ∙ fits.destinations;
      pairs = flows_of_node h procedure test fits.pairs;
    }

pub lifted-fits : (c : Configuration) (h : HoldSet) (procedure : Procedure) → HasHoldsFor c h → HasHoldsFor c (lifted h procedure)
lifted-fits c h procedure fits = record {
  links = fits.links;
  sets = fits.sets;
  destinations = fits.destinations;
  pairs = lifted_of_node h procedure fits.pairs;
}

pub held_for-fits : (c : Configuration) (t : HoldSet) (destination : ℕ) (selections : List ℕ) → HasHoldsFor c t
    → HasHoldsFor c (held_for destination selections t)
held_for-fits c t destination [] h = h
held_for-fits c t destination (sls ∷ others) h =
    held_for-fits c (with_hold t (Reroute destination) destination sls) destination others (with_hold-fits c t (Reroute destination) destination sls h)

pub no_holds-fits : (c : Configuration) → HasHoldsFor c (no_holds (length c.links) (length c.sets) (length c.destinations))
no_holds-fits c = record {
  links = refl;
  sets = refl;
  destinations = refl;
  pairs = first_of_node (length c.links) (length c.sets) (length c.destinations);
}

-- ---- an answer that was awaited, or wasn't

pub freed_codes-fits : (sets : ℕ) (t : Codes) (set code : ℕ) (b : Bool) → HasCodes sets t → HasCodes sets (if b then with_code t set code false else t)
freed_codes-fits sets t set code true h = with_code-fits sets t set code false h
freed_codes-fits sets t set code false h = h

pub freed_holds-fits : (c : Configuration) (t : HoldSet) (set code : ℕ) (b : Bool) → HasHoldsFor c t → HasHoldsFor c (if b then lifted t (Code set code) else t)
freed_holds-fits c t set code true h = lifted-fits c t (Code set code) h
freed_holds-fits c t set code false h = h

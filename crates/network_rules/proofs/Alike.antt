-- Ends that are alike stay so: as the same changes on a link between the two, and as anything changes on one that leads
-- elsewhere.
use Rattle.pair_rules.proofs.Basics.{◌≡◌, ◌≢◌, ◌<◌, ◌≤◌, ℕ, Bool, true, false, List, [], ◌∷◌, ◌++◌, length, refl, ap, sym, subst, ◌∙◌, slice_index_or, slice_set, slice_get, drop, take, ⊎_elim, cases_eq, cases_lt, get_or_past, get_or-set_other, get_or-set_same, length-set}
use Rattle.pair_rules.proofs.Definitions.{Configuration, FrameValue, EmptyFrame, MessageFrame, StatusFrame, spelled, Streams}
use Rattle.pair_rules.specs.Pairs.{emptied, launched, with_status_twice, without_data, without_status}
use Rattle.neighbour_rules.specs.Neighbours.{leads_elsewhere_by}
use Rattle.network_rules.specs.Pairs.{CarryAlike}

-- ---- two lists of which an element is replaced

-- by the same, where one looks
pub set-alike : {A : Type 0} (xs ys : List A) (i j : ℕ) (a b d : A) → length ys ≡ length xs → slice_index_or ys j d ≡ slice_index_or xs j d → (j ≡ i → b ≡ a)
    → slice_index_or (slice_set ys i b) j d ≡ slice_index_or (slice_set xs i a) j d
set-alike xs ys i j a b d sizes same here =
    ⊎_elim
    (λ (e : j ≡ i).
    subst (λ (k : ℕ). slice_index_or (slice_set ys i b) k d ≡ slice_index_or (slice_set xs i a) k d) (sym e)
    (⊎_elim
    (λ (l : i < length xs). get_or-set_same ys i b d (subst (λ (k : ℕ). i < k) (sym sizes) l) ∙ here e ∙ sym (get_or-set_same xs i a d l))
    (λ (l : length xs ≤ i).
    get_or_past (slice_set ys i b) i d (subst (λ (k : ℕ). k ≤ i) (sym (length-set ys i b ∙ sizes)) l)
    ∙ sym (get_or_past (slice_set xs i a) i d (subst (λ (k : ℕ). k ≤ i) (sym (length-set xs i a)) l)))
    (cases_lt i (length xs))))
    (λ (n : j ≢ i). get_or-set_other ys i j b d n ∙ same ∙ sym (get_or-set_other xs i j a d n))
    (cases_eq j i)

pub set-sizes : {A : Type 0} (xs ys : List A) (i : ℕ) (a b : A) → length ys ≡ length xs → length (slice_set ys i b) ≡ length (slice_set xs i a)
set-sizes xs ys i a b e = length-set ys i b ∙ e ∙ sym (length-set xs i a)

module _ (c z : Configuration) where
  -- whether a link leads elsewhere
  abbrev pub away : (link : ℕ) → Bool
  away link = leads_elsewhere_by c z (slice_get c.links link)

  pub not-here : (i j : ℕ) → away i ≡ true → away j ≡ false → j ≢ i
  not-here i j e f = λ g. (let no : true ≡ false = sym e ∙ sym (ap away g) ∙ f in absurd cc)

  -- ---- the same changes on one link

  pub data-alike : (one other : Streams) (i : ℕ) (a b : List (List ℕ)) → CarryAlike c z one other → (away i ≡ false → b ≡ a)
      → CarryAlike c z (record one { user_data = slice_set one.user_data i a }) (record other { user_data = slice_set other.user_data i b })
  data-alike one other i a b h same = record {
    statuses = h.statuses;
    user_data = λ j f. set-alike one.user_data other.user_data i j a b [] h.data_links (h.user_data j f) (λ e. same (sym (ap away e) ∙ f));
    status_links = h.status_links;
    data_links = set-sizes one.user_data other.user_data i a b h.data_links;
  }

  pub statuses-alike : (one other : Streams) (i : ℕ) (a b : List (List ℕ)) → CarryAlike c z one other → (away i ≡ false → b ≡ a)
      → CarryAlike c z (record one { statuses = slice_set one.statuses i a }) (record other { statuses = slice_set other.statuses i b })
  statuses-alike one other i a b h same = record {
    statuses = λ j f. set-alike one.statuses other.statuses i j a b [] h.status_links (h.statuses j f) (λ e. same (sym (ap away e) ∙ f));
    user_data = h.user_data;
    status_links = set-sizes one.statuses other.statuses i a b h.status_links;
    data_links = h.data_links;
  }

  pub launched-alike : (one other : Streams) (frame : FrameValue) (link : ℕ) → CarryAlike c z one other → CarryAlike c z (launched frame link one) (launched frame link other)
  launched-alike one other (StatusFrame bsn fsn status) link h =
      statuses-alike one other link _ _ h (λ f. ap (λ (ts : List (List ℕ)). ts ++ spelled (StatusFrame bsn fsn status) ∷ []) (h.statuses link f))
  launched-alike one other (EmptyFrame bsn fsn) link h =
      data-alike one other link _ _ h (λ f. ap (λ (ts : List (List ℕ)). ts ++ spelled (EmptyFrame bsn fsn) ∷ []) (h.user_data link f))
  launched-alike one other (MessageFrame bsn fsn sio sif) link h =
      data-alike one other link _ _ h (λ f. ap (λ (ts : List (List ℕ)). ts ++ spelled (MessageFrame bsn fsn sio sif) ∷ []) (h.user_data link f))

  pub without_data-alike : (one other : Streams) (link : ℕ) → CarryAlike c z one other → CarryAlike c z (without_data link one) (without_data link other)
  without_data-alike one other link h = data-alike one other link _ _ h (λ f. ap (drop 1) (h.user_data link f))

  pub without_status-alike : (one other : Streams) (link : ℕ) → CarryAlike c z one other → CarryAlike c z (without_status link one) (without_status link other)
  without_status-alike one other link h = statuses-alike one other link _ _ h (λ f. ap (drop 1) (h.statuses link f))

  pub twice-alike : (one other : Streams) (link : ℕ) → CarryAlike c z one other → CarryAlike c z (with_status_twice link one) (with_status_twice link other)
  twice-alike one other link h = statuses-alike one other link _ _ h (λ f. ap (λ (ts : List (List ℕ)). take 1 ts ++ ts) (h.statuses link f))

  pub emptied-alike : (one other : Streams) (link : ℕ) → CarryAlike c z one other → CarryAlike c z (emptied link one) (emptied link other)
  emptied-alike one other link h =
      statuses-alike (record one { user_data = slice_set one.user_data link [] }) (record other { user_data = slice_set other.user_data link [] }) link [] []
      (data-alike one other link [] [] h (λ f. refl)) (λ f. refl)

  -- ---- anything changes on a link that leads elsewhere

  pub data-away : (one other : Streams) (i : ℕ) (a : List (List ℕ)) → away i ≡ true → CarryAlike c z one other → CarryAlike c z (record one { user_data = slice_set one.user_data i a }) other
  data-away one other i a e h = record {
    statuses = h.statuses;
    user_data = λ j f. h.user_data j f ∙ sym (get_or-set_other one.user_data i j a [] (not-here i j e f));
    status_links = h.status_links;
    data_links = h.data_links ∙ sym (length-set one.user_data i a);
  }

  pub statuses-away : (one other : Streams) (i : ℕ) (a : List (List ℕ)) → away i ≡ true → CarryAlike c z one other → CarryAlike c z (record one { statuses = slice_set one.statuses i a }) other
  statuses-away one other i a e h = record {
    statuses = λ j f. h.statuses j f ∙ sym (get_or-set_other one.statuses i j a [] (not-here i j e f));
    user_data = h.user_data;
    status_links = h.status_links ∙ sym (length-set one.statuses i a);
    data_links = h.data_links;
  }

  pub launched-away : (one other : Streams) (frame : FrameValue) (link : ℕ) → away link ≡ true → CarryAlike c z one other → CarryAlike c z (launched frame link one) other
  launched-away one other (StatusFrame bsn fsn status) link e h = statuses-away one other link _ e h
  launched-away one other (EmptyFrame bsn fsn) link e h = data-away one other link _ e h
  launched-away one other (MessageFrame bsn fsn sio sif) link e h = data-away one other link _ e h

  pub emptied-away : (one other : Streams) (link : ℕ) → away link ≡ true → CarryAlike c z one other → CarryAlike c z (emptied link one) other
  emptied-away one other link e h =
      statuses-away (record one { user_data = slice_set one.user_data link [] }) other link [] e (data-away one other link [] e h)

  -- ---- whether the end may follow

  pub flags-alike : (one other : List Bool) (i : ℕ) (b : Bool) → ((link : ℕ) → away link ≡ false → slice_index_or other link false ≡ slice_index_or one link false) → length other ≡ length one
      → (link : ℕ) → away link ≡ false → slice_index_or (slice_set other i b) link false ≡ slice_index_or (slice_set one i b) link false
  flags-alike one other i b h sizes link f = set-alike one other i link b b false sizes (h link f) (λ e. refl)

  pub flags-away : (one other : List Bool) (i : ℕ) (b : Bool) → away i ≡ true → ((link : ℕ) → away link ≡ false → slice_index_or other link false ≡ slice_index_or one link false)
      → (link : ℕ) → away link ≡ false → slice_index_or other link false ≡ slice_index_or (slice_set one i b) link false
  flags-away one other i b e h link f = h link f ∙ sym (get_or-set_other one i link b false (not-here i link e f))

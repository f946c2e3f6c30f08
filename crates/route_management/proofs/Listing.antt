-- What is listed as owed is all that is owed.
use Rattle.route_management.proofs.Basics.{and_parts, or_right, ◌≡◌, ◌≤◌, ◌<◌, ◌+◌, ℕ, zero, suc, Bool, true, false, ◌&&◌, ◌||◌, List, [], ◌∷◌, ◌++◌, length, refl, ap, sym, ◌∙◌, inl, inr, arith, Option, Some, None, nat_eq, slice_set, if◌then◌else◌, All, AllByRecursion, range_with_len, filter_map, flat_map, list_any, cons_option, option_map, eqb-true, eq-eqb, eqb_tells, length-set, All-nil, All-cons, list_any-append, RouteStatus, Facts, ToldTable, row_of, with_told, Owed, status_to_advertise, owed_at, owed_about, owed_to, owed, all_told, listed_is_owed, told_all_owes_nothing}
use Rattle.route_management.proofs.Rows.{rows_as_long}
use Rattle.route_management.proofs.Owing.{once, other_points, other_destinations}

-- ---- only what is owed is listed

abbrev pub IsOwed : Facts → ToldTable → Owed → Type 0
IsOwed f t o = owed_at f t o.set o.destination ≡ Some o.status

all_of_point : (f : Facts) (t : ToldTable) (set : ℕ) (ds : List ℕ) → AllByRecursion (IsOwed f t) (filter_map (owed_about f t set) ds)
all_of_point f t set [] = tt
all_of_point f t set (d ∷ ds) =
    let rest = all_of_point f t set ds in
    elim (owed_at f t set d) as (λ o. owed_at f t set d ≡ o
    → AllByRecursion (IsOwed f t) (cons_option (option_map (λ status. record { set = set; destination = d; status = status }) o) (filter_map (owed_about f t set) ds))) [
      | None ↦ λ e. rest
      | Some status ↦ λ e. (e, rest)
    ] refl

all_append : (P : Owed → Type 0) (xs ys : List Owed) → AllByRecursion P xs → AllByRecursion P ys → AllByRecursion P (xs ++ ys)
all_append P [] ys h k = k
all_append P (x ∷ xs) ys h k = (h.0, all_append P xs ys h.1 k)

all_of_points : (f : Facts) (t : ToldTable) (sets : List ℕ) → AllByRecursion (IsOwed f t) (flat_map (owed_to f t) sets)
all_of_points f t [] = tt
all_of_points f t (s ∷ sets) =
    all_append (IsOwed f t) (owed_to f t s) (flat_map (owed_to f t) sets) (all_of_point f t s (range_with_len 0 (length (row_of t s)))) (all_of_points f t sets)

each_owed : (f : Facts) (t : ToldTable) → AllByRecursion (IsOwed f t) (owed f t)
each_owed f t = all_of_points f t (range_with_len 0 (length t.rows))

as_all : (P : Owed → Type 0) (os : List Owed) → AllByRecursion P os → All P os
as_all P [] h = All-nil P
as_all P (o ∷ os) h = All-cons P o os h.0 (as_all P os h.1)

pub all_owed : listed_is_owed
all_owed f t = as_all (IsOwed f t) (owed f t) (each_owed f t)

-- ---- what is told stays told

abbrev pub IsDue : Facts → Owed → Type 0
IsDue f o = o.status ≡ status_to_advertise f o.set o.destination

due_by : (b : Bool) (s status : RouteStatus) → (if b then Some s else None) ≡ Some status → status ≡ s
due_by true s status e = cc
due_by false s status e = absurd cc

all_due : (f : Facts) (t : ToldTable) (os : List Owed) → AllByRecursion (IsOwed f t) os → AllByRecursion (IsDue f) os
all_due f t [] h = tt
all_due f t (o ∷ os) h = (due_by _ (status_to_advertise f o.set o.destination) o.status h.0, all_due f t os h.1)

hit : (f : Facts) (t : ToldTable) (o : Owed) (s d : ℕ) → IsDue f o → o.set ≡ s → o.destination ≡ d
    → owed_at f (with_told o.set o.destination o.status t) s d ≡ None
hit f t o s d due e k =
    ap (λ (x : ℕ). owed_at f (with_told o.set o.destination o.status t) x d) (sym e)
    ∙ ap (λ (y : ℕ). owed_at f (with_told o.set o.destination o.status t) o.set y) (sym k)
    ∙ ap (λ (z : RouteStatus). owed_at f (with_told o.set o.destination z t) o.set o.destination) due
    ∙ once f t o.set o.destination

pub still : (f : Facts) (t : ToldTable) (o : Owed) (s d : ℕ) → IsDue f o → owed_at f t s d ≡ None
    → owed_at f (with_told o.set o.destination o.status t) s d ≡ None
still f t o s d due e =
    elim (eqb_tells o.set s) [
      | inr h ↦ other_points f t o.set s o.destination d o.status h.1 ∙ e
      | inl h ↦
          elim (eqb_tells o.destination d) [
            | inr k ↦ other_destinations f t o.set s o.destination d o.status k.1 ∙ e
            | inl k ↦ hit f t o s d due h.1 k.1
          ]
    ]

none_stays : (f : Facts) (t : ToldTable) (os : List Owed) (s d : ℕ) → AllByRecursion (IsDue f) os → owed_at f t s d ≡ None
    → owed_at f (all_told os t) s d ≡ None
none_stays f t [] s d h e = e
none_stays f t (o ∷ os) s d h e = none_stays f (with_told o.set o.destination o.status t) os s d h.1 (still f t o s d h.0 e)

abbrev pub is_about : ℕ → ℕ → Owed → Bool
is_about s d o = nat_eq o.set s && nat_eq o.destination d

told_after : (f : Facts) (t : ToldTable) (os : List Owed) (s d : ℕ) → AllByRecursion (IsDue f) os → list_any (is_about s d) os ≡ true
    → owed_at f (all_told os t) s d ≡ None
told_after f t [] s d h e = absurd cc
told_after f t (o ∷ os) s d h e =
    let told : ToldTable = with_told o.set o.destination o.status t in
    elim (is_about s d o) as (λ b. is_about s d o ≡ b → (b || list_any (is_about s d) os) ≡ true → owed_at f (all_told os told) s d ≡ None) [
      | true ↦ λ same any.
          none_stays f told os s d h.1
          (hit f t o s d h.0 (eqb-true o.set s (and_parts (nat_eq o.set s) _ same).0) (eqb-true o.destination d (and_parts (nat_eq o.set s) _ same).1))
      | false ↦ λ apart any. told_after f told os s d h.1 any
    ] refl e

-- ---- all that is owed is listed

abbrev pub has : ℕ → List ℕ → Bool
has n ns = list_any (λ m. nat_eq m n) ns

here : (a b c : Bool) → a ≡ true → b ≡ true → ((a && b) || c) ≡ true
here true true c e k = refl
here true false c e k = absurd cc
here false b c e k = absurd cc

behind : (p : Owed → Bool) (o : Option Owed) (os : List Owed) → list_any p os ≡ true → list_any p (cons_option o os) ≡ true
behind p None os e = e
behind p (Some x) os e = or_right (p x) _ e

pub listed_of_point : (f : Facts) (t : ToldTable) (set d : ℕ) (status : RouteStatus) (ds : List ℕ) → owed_at f t set d ≡ Some status
    → has d ds ≡ true → list_any (is_about set d) (filter_map (owed_about f t set) ds) ≡ true
listed_of_point f t set d status [] e m = absurd cc
listed_of_point f t set d status (x ∷ xs) e m =
    elim (nat_eq x d) as (λ b. nat_eq x d ≡ b → (b || has d xs) ≡ true → list_any (is_about set d) (filter_map (owed_about f t set) (x ∷ xs)) ≡ true) [
      | true ↦ λ same k.
          ap (λ (o : Option RouteStatus). list_any (is_about set d)
          (cons_option (option_map (λ status. record { set = set; destination = x; status = status }) o) (filter_map (owed_about f t set) xs)))
          (ap (λ (n : ℕ). owed_at f t set n) (eqb-true x d same) ∙ e)
          ∙ here (nat_eq set set) (nat_eq x d) _ (eq-eqb set set refl) same
      | false ↦ λ apart k. behind (is_about set d) (owed_about f t set x) _ (listed_of_point f t set d status xs e k)
    ] refl m

pub listed_of_points : (f : Facts) (t : ToldTable) (set d : ℕ) (sets : List ℕ) → has set sets ≡ true
    → list_any (is_about set d) (owed_to f t set) ≡ true → list_any (is_about set d) (flat_map (owed_to f t) sets) ≡ true
listed_of_points f t set d [] m e = absurd cc
listed_of_points f t set d (x ∷ xs) m e =
    list_any-append (is_about set d) (owed_to f t x) (flat_map (owed_to f t) xs)
    ∙ (elim (nat_eq x set) as (λ b. nat_eq x set ≡ b → (b || has set xs) ≡ true
    → (list_any (is_about set d) (owed_to f t x) || list_any (is_about set d) (flat_map (owed_to f t) xs)) ≡ true) [
      | true ↦ λ same k.
          ap (λ (b : Bool). b || list_any (is_about set d) (flat_map (owed_to f t) xs))
          (ap (λ (n : ℕ). list_any (is_about set d) (owed_to f t n)) (eqb-true x set same) ∙ e)
      | false ↦ λ apart k. or_right (list_any (is_about set d) (owed_to f t x)) _ (listed_of_points f t set d xs k e)
    ] refl m)

pub in_range : (a n i : ℕ) → a ≤ i → i < a + n → has i (range_with_len a n) ≡ true
in_range a zero i l u = absurd (omega (arith, l, u))
in_range a (suc n) i l u =
    elim (eqb_tells a i) [
      | inl h ↦ ap (λ (b : Bool). b || has i (range_with_len (a + 1) n)) h.0
      | inr h ↦ or_right (nat_eq a i) _ (in_range (a + 1) n i (omega (arith, l, h.1)) (omega (arith, u)))
    ]

-- ---- nothing is left

pub none_of_point : (f : Facts) (t : ToldTable) (set a n : ℕ) → ((d : ℕ) → a ≤ d → d < a + n → owed_at f t set d ≡ None)
    → filter_map (owed_about f t set) (range_with_len a n) ≡ []
none_of_point f t set a zero h = refl
none_of_point f t set a (suc n) h =
    ap (λ (o : Option RouteStatus). cons_option (option_map (λ status. record { set = set; destination = a; status = status }) o)
    (filter_map (owed_about f t set) (range_with_len (a + 1) n)))
    (h a (omega arith) (omega arith))
    ∙ none_of_point f t set (a + 1) n (λ d l u. h d (omega (arith, l)) (omega (arith, u)))

pub none_of_points : (f : Facts) (t : ToldTable) (a n : ℕ) → ((s : ℕ) → a ≤ s → s < a + n → owed_to f t s ≡ [])
    → flat_map (owed_to f t) (range_with_len a n) ≡ []
none_of_points f t a zero h = refl
none_of_points f t a (suc n) h =
    ap (λ (os : List Owed). os ++ flat_map (owed_to f t) (range_with_len (a + 1) n)) (h a (omega arith) (omega arith))
    ∙ none_of_points f t (a + 1) n (λ s l u. h s (omega (arith, l)) (omega (arith, u)))

pub as_many : (os : List Owed) (t : ToldTable) → length (all_told os t).rows ≡ length t.rows
as_many [] t = refl
as_many (o ∷ os) t = as_many os (with_told o.set o.destination o.status t) ∙ length-set t.rows o.set (slice_set (row_of t o.set) o.destination o.status)

pub as_long : (os : List Owed) (t : ToldTable) (s : ℕ) → length (row_of (all_told os t) s) ≡ length (row_of t s)
as_long [] t s = refl
as_long (o ∷ os) t s = as_long os (with_told o.set o.destination o.status t) s ∙ rows_as_long t.rows o.set s o.destination o.status

-- one place, once all is told
left_at : (f : Facts) (t : ToldTable) (s d : ℕ) → s < length t.rows → d < length (row_of t s) → owed_at f (all_told (owed f t) t) s d ≡ None
left_at f t s d l k =
    let due : AllByRecursion (IsDue f) (owed f t) = all_due f t (owed f t) (each_owed f t) in
    elim (owed_at f t s d) as (λ o. owed_at f t s d ≡ o → owed_at f (all_told (owed f t) t) s d ≡ None) [
      | None ↦ λ e. none_stays f t (owed f t) s d due e
      | Some status ↦ λ e.
          told_after f t (owed f t) s d due
          (listed_of_points f t s d (range_with_len 0 (length t.rows)) (in_range 0 (length t.rows) s (omega arith) (omega (arith, l)))
          (listed_of_point f t s d status (range_with_len 0 (length (row_of t s))) e (in_range 0 (length (row_of t s)) d (omega arith) (omega (arith, k)))))
    ] refl

left_to : (f : Facts) (t : ToldTable) (s : ℕ) → s < length t.rows → owed_to f (all_told (owed f t) t) s ≡ []
left_to f t s l =
    ap (λ (n : ℕ). filter_map (owed_about f (all_told (owed f t) t) s) (range_with_len 0 n)) (as_long (owed f t) t s)
    ∙ none_of_point f (all_told (owed f t) t) s 0 (length (row_of t s)) (λ d m k. left_at f t s d l (omega (arith, k)))

pub nothing_owed : told_all_owes_nothing
nothing_owed f t =
    ap (λ (n : ℕ). flat_map (owed_to f (all_told (owed f t) t)) (range_with_len 0 n)) (as_many (owed f t) t)
    ∙ none_of_points f (all_told (owed f t) t) 0 (length t.rows) (λ s m l. left_to f t s (omega (arith, l)))

-- What is known of each prohibited subsystem: what changes that, and what is tested.
use Rattle.exchange_rules.proofs.Basics.{◌≡◌, ℕ, Bool, true, false, ◌&&◌, ◌||◌, not, nat_eq, List, [], ◌∷◌, ◌++◌, Option, refl, ap, sym, ◌∙◌, ⊎_elim, arith, nat_tests, if◌then◌else◌, map, filter, filter-append, append-nil}
use Rattle.std.specs.Prelude.{is_some}
use Rattle.std.specs.List.{list_any}
use Rattle.settings.specs.Configuration.{Configuration, TitleEntry}
use Rattle.signalling_types.specs.Message.{Message}
use Rattle.sccp_relay.specs.Points.{OwnValue}
use Rattle.sccp_relay.specs.Statuses.{TitlesValue, allow, counted, first_prohibited, is_due, is_full, is_prohibited, is_same, leads_to}
use Rattle.sccp_relay.specs.SubsystemTests.{is_test_led, stays}
use Rattle.sccp_relay.specs.declared.subsystem.ProhibitedSubsystem.{ProhibitedSubsystem}
use Rattle.sccp_relay.specs.declared.subsystem.Subsystem.{Subsystem}
use Rattle.exchange_rules.specs.LawsOfSubsystems.{known_of}
use Rattle.exchange_rules.specs.LawsOfCountdowns.{each_is_tested_as_due, news_change_one, none_is_prohibited_at_first, takes_leave_titles, unled_ones_go_as_due}
use Rattle.exchange_rules.specs.Messages.{test_of}
use Rattle.exchange_rules.proofs.KeptTitles.{alters-deeds}
use Rattle.exchange_rules.proofs.SteppingEvents.{take-steps}
use Rattle.exchange_rules.proofs.SubsystemTests.{same-point}
use Rattle.exchange_rules.proofs.Steps.{Deed}

-- ---- an SSP and an SSA

known-more : (s : Subsystem) (xs ys : List ProhibitedSubsystem) → known_of s (xs ++ ys) ≡ known_of s xs ++ known_of s ys
known-more s xs ys = filter-append (λ other. is_same s other.subsystem) xs ys

-- one more that is another
known-pushed : (s : Subsystem) (x : ProhibitedSubsystem) (xs : List ProhibitedSubsystem) → is_same s x.subsystem ≡ false → known_of s (xs ++ x ∷ []) ≡ known_of s xs
known-pushed s x xs e =
    known-more s xs (x ∷ []) ∙ ap (λ (b : Bool). known_of s xs ++ (if b then x ∷ [] else [])) e ∙ append-nil (known_of s xs)

-- those that are gone are the same as the one that is allowed
abbrev kept : Subsystem → List ProhibitedSubsystem → List ProhibitedSubsystem
kept x xs = filter (λ other. not (is_same x other.subsystem)) xs

same-back : (s x y : Subsystem) → is_same x y ≡ true → is_same s y ≡ true → is_same s x ≡ true
same-back s x y q r = ap (λ (z : Subsystem). is_same s z) (sym (same-point x y q)) ∙ r

kept-by : (s x : Subsystem) (y : ProhibitedSubsystem) (ys : List ProhibitedSubsystem) (gone same : Bool) → is_same x y.subsystem ≡ gone → is_same s y.subsystem ≡ same
    → is_same s x ≡ false → known_of s (kept x ys) ≡ known_of s ys
    → known_of s (if not gone then y ∷ kept x ys else kept x ys) ≡ (if same then y ∷ known_of s ys else known_of s ys)
kept-by s x y ys true true q r e rest = (let no : true ≡ false = sym (same-back s x y.subsystem q r) ∙ e in absurd cc)
kept-by s x y ys true false q r e rest = rest
kept-by s x y ys false same q r e rest =
    ap (λ (b : Bool). if b then y ∷ known_of s (kept x ys) else known_of s (kept x ys)) r
    ∙ ap (λ (zs : List ProhibitedSubsystem). if same then y ∷ zs else zs) rest

known-kept : (s x : Subsystem) (xs : List ProhibitedSubsystem) → is_same s x ≡ false → known_of s (kept x xs) ≡ known_of s xs
known-kept s x [] e = refl
known-kept s x (y ∷ ys) e = kept-by s x y ys (is_same x y.subsystem) (is_same s y.subsystem) refl refl e (known-kept s x ys e)

others-known : (s : Subsystem) (a told p l : Bool) (titles more fewer : TitlesValue)
    → known_of s more.prohibited ≡ known_of s titles.prohibited → known_of s fewer.prohibited ≡ known_of s titles.prohibited
    → known_of s (if not a then titles else if told then (if p then titles else if l then more else titles) else fewer).prohibited ≡ known_of s titles.prohibited
others-known s false told p l titles more fewer e f = refl
others-known s true true true l titles more fewer e f = refl
others-known s true true false true titles more fewer e f = e
others-known s true true false false titles more fewer e f = refl
others-known s true false p l titles more fewer e f = f

again-known : (a told p full l : Bool) (titles more fewer : TitlesValue) → told ≡ true → p ≡ true
    → (if not a then titles else if told then (if p || full then titles else if l then more else titles) else fewer) ≡ titles
again-known false told p full l titles more fewer e f = refl
again-known true true true full l titles more fewer e f = refl
again-known true false p full l titles more fewer e f = absurd cc
again-known true true false full l titles more fewer e f = absurd cc

none-by : (x : ProhibitedSubsystem) (same rest : Bool) (ys : List ProhibitedSubsystem) → (same || rest) ≡ false → (rest ≡ false → ys ≡ []) → (if same then x ∷ ys else ys) ≡ []
none-by x true rest ys e f = absurd cc
none-by x false rest ys e f = f e

none-known : (s : Subsystem) (xs : List ProhibitedSubsystem) → is_prohibited xs s ≡ false → known_of s xs ≡ []
none-known s [] e = refl
none-known s (x ∷ xs) e = none-by x (is_same s x.subsystem) (is_prohibited xs s) (known_of s xs) e (none-known s xs)

one-known : (s : Subsystem) (a told p l : Bool) (one : List ProhibitedSubsystem) (titles more fewer : TitlesValue) → told ≡ true
    → is_prohibited titles.prohibited s ≡ false → known_of s more.prohibited ≡ one
    → is_prohibited (if not a then titles else if told then (if p then titles else if l then more else titles) else fewer).prohibited s ≡ true
    → known_of s (if not a then titles else if told then (if p then titles else if l then more else titles) else fewer).prohibited ≡ one
one-known s true true false true one titles more fewer e f g h = g
one-known s false told p l one titles more fewer e f g h = (let no : true ≡ false = sym h ∙ f in absurd cc)
one-known s true true true l one titles more fewer e f g h = (let no : true ≡ false = sym h ∙ f in absurd cc)
one-known s true true false false one titles more fewer e f g h = (let no : true ≡ false = sym h ∙ f in absurd cc)
one-known s true false p l one titles more fewer e f g h = absurd cc

same-one : (s : Subsystem) → is_same s s ≡ true
same-one s = by s.point s.ssn
  where
    same-number : (n : ℕ) → nat_eq n n ≡ true
    same-number n = grind (arith, nat_tests)

    by : (m n : ℕ) → (nat_eq m m && nat_eq n n) ≡ true
    by m n = ap (λ (b : Bool). b && nat_eq n n) (same-number m) ∙ same-number n

pub changes-one : news_change_one
changes-one sst news titles =
    let x : Subsystem = news.subsystem in
    let a : Bool = nat_eq news.sender x.point in
    let p : Bool = is_prohibited titles.prohibited x in
    let full : Bool = is_full titles.prohibited in
    let l : Bool = list_any (leads_to x) titles.rows in
    let one : ProhibitedSubsystem = first_prohibited sst x in
    let more : TitlesValue = record titles { prohibited = titles.prohibited ++ one ∷ [] } in
    record {
      others = λ s e. others-known s a news.is_prohibited (p || full) l titles more (allow x titles) (known-pushed s one titles.prohibited e) (known-kept s x titles.prohibited e);
      again = λ told is. again-known a news.is_prohibited p full l titles more (allow x titles) told is;
      first = λ told none is. one-known x a news.is_prohibited (p || full) l (one ∷ []) titles more (allow x titles) told none
          (known-more x titles.prohibited (one ∷ [])
          ∙ ap (λ (zs : List ProhibitedSubsystem). zs ++ (if is_same x x then one ∷ [] else [])) (none-known x titles.prohibited none)
          ∙ ap (λ (b : Bool). if b then one ∷ [] else []) (same-one x))
          is;
    }

-- ---- what else changes it

pub none-at-first : none_is_prohibited_at_first
none-at-first c = refl

-- a subsystem to which no row leads stays until its test is due
stays-unled : (reached led due : Bool) → reached ≡ true → led ≡ false → (reached && (not due || led)) ≡ not due
stays-unled true false true e f = refl
stays-unled true false false e f = refl
stays-unled true true due e f = absurd cc
stays-unled false led due e f = absurd cc

module _ (own : OwnValue) (sst : ℕ) (rows : List TitleEntry) (s : Subsystem) (reached : is_test_led own s.point ≡ true) (unled : list_any (leads_to s) rows ≡ false) where
  abbrev left : List ProhibitedSubsystem → List ProhibitedSubsystem
  left xs = filter (stays own rows) (map (counted sst) xs)

  abbrev undue : List ProhibitedSubsystem → List ProhibitedSubsystem
  undue xs = filter (λ other. not (is_due other)) (map (counted sst) xs)

  its-stay : (x : ProhibitedSubsystem) → is_same s x.subsystem ≡ true → stays own rows x ≡ not (is_due x)
  its-stay x e =
      stays-unled (is_test_led own x.subsystem.point) (list_any (leads_to x.subsystem) rows) (is_due x)
      (ap (λ (y : Subsystem). is_test_led own y.point) (same-point s x.subsystem e) ∙ reached)
      (ap (λ (y : Subsystem). list_any (leads_to y) rows) (same-point s x.subsystem e) ∙ unled)

  one-left : (x : ProhibitedSubsystem) (xs : List ProhibitedSubsystem) (same stay : Bool) → is_same s x.subsystem ≡ same → stays own rows (counted sst x) ≡ stay
      → (same ≡ true → stay ≡ not (is_due (counted sst x))) → known_of s (left xs) ≡ undue (known_of s xs)
      → known_of s (if stay then counted sst x ∷ left xs else left xs) ≡ undue (if same then x ∷ known_of s xs else known_of s xs)
  one-left x xs true true e f h rest =
      ap (λ (b : Bool). if b then counted sst x ∷ known_of s (left xs) else known_of s (left xs)) e
      ∙ ap (λ (ys : List ProhibitedSubsystem). counted sst x ∷ ys) rest
      ∙ ap (λ (b : Bool). if b then counted sst x ∷ undue (known_of s xs) else undue (known_of s xs)) (h refl)
  one-left x xs true false e f h rest =
      rest ∙ ap (λ (b : Bool). if b then counted sst x ∷ undue (known_of s xs) else undue (known_of s xs)) (h refl)
  one-left x xs false true e f h rest = ap (λ (b : Bool). if b then counted sst x ∷ known_of s (left xs) else known_of s (left xs)) e ∙ rest
  one-left x xs false false e f h rest = rest

  all-left : (xs : List ProhibitedSubsystem) → known_of s (left xs) ≡ undue (known_of s xs)
  all-left [] = refl
  all-left (x ∷ xs) =
      one-left x xs (is_same s x.subsystem) (stays own rows (counted sst x)) refl refl (λ e. its-stay (counted sst x) e) (all-left xs)

pub unled-go : unled_ones_go_as_due
unled-go own sst titles s reached unled = all-left own sst titles.rows s reached unled titles.prohibited

-- a take changes no row and no subsystem
abbrev Nothing : Deed → Type 0
Nothing deed = ⊥

pub takes-leave : takes_leave_titles
takes-leave a link =
    ⊎_elim (λ (no : ⊥). absurd no) (λ e. e) (take-steps (alters-deeds a.settings Nothing) link a.node tt).is

-- ---- what is tested

due-by : (c : Configuration) (on due : Bool) (one : ProhibitedSubsystem) (rest : List ProhibitedSubsystem) → on ≡ true → due ≡ true
    → (if on then map (test_of c) (map (λ prohibited. prohibited.subsystem) (if due then one ∷ rest else rest)) else [])
    ≡ test_of c one.subsystem ∷ (if on then map (test_of c) (map (λ prohibited. prohibited.subsystem) rest) else [])
due-by c true true one rest e f = refl
due-by c false due one rest e f = absurd cc
due-by c true false one rest e f = absurd cc

later-by : (c : Configuration) (on due : Bool) (one : ProhibitedSubsystem) (rest : List ProhibitedSubsystem) → due ≡ false
    → (if on then map (test_of c) (map (λ prohibited. prohibited.subsystem) (if due then one ∷ rest else rest)) else [])
    ≡ (if on then map (test_of c) (map (λ prohibited. prohibited.subsystem) rest) else [])
later-by c on false one rest f = refl
later-by c on true one rest f = absurd cc

empty-by : (on : Bool) (none : List Message) → none ≡ [] → (if on then none else []) ≡ []
empty-by true none e = e
empty-by false none e = refl

pub tested-as-due : each_is_tested_as_due
tested-as-due c p one others =
    let on : Bool = is_some c.timers.sst in
    let rest : List ProhibitedSubsystem = filter is_due others in
    record {
      none = empty-by on [] refl;
      due = λ heard e. due-by c on (is_due one) one rest heard (ap (λ (n : ℕ). nat_eq n 0) e);
      later = λ e. later-by c on (is_due one) one rest (grind (arith, nat_tests, e));
      unheard = λ e. ap (λ (sst : Option ℕ). if is_some sst then map (test_of c) (map (λ prohibited. prohibited.subsystem) (filter is_due (one ∷ others))) else []) e;
    }
